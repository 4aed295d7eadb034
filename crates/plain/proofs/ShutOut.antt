-- Each of the simpler ways breaks the relation at a named place.
use Rattle.std.proofs.Common.{◌≡◌, ℕ, ◌≢◌, List, [], ◌∷◌, ℤ, pos, nat_abs, Some, sym, refl, ap, ◌∙◌, subst, arith, lit≤, rules}
use borrow.Author.Differences.{ints}
use Rattle.std.specs.List.{AllByRecursion}
use Rattle.faults.specs.declared.Fault.{Fault}
use Rattle.rules.specs.National.{national_tables}
use Rattle.sources.specs.Readings.{reading}
use Rattle.sources.specs.declared.reading.Reading.{Reading}
use Rattle.plain.specs.declared.answers.Answer.{Answer}
use Rattle.plain.specs.declared.answers.Answer.TheVariants.{Declined, Part, Total, Book}
use Rattle.plain.specs.declared.answers.InvesteeTotal.{InvesteeTotal}
use Rattle.plain.specs.Answered.{Answered}
use Rattle.plain.specs.Branches.{Branch, branches}
use Rattle.plain.specs.EveryRun.{KeepsEveryKilogram}
use Rattle.plain.specs.Exposures.{emissions}
use Rattle.plain.specs.Kilograms.{PartsMakeTheTotal}
use Rattle.plain.specs.Lists.{first_of, change_first}
use Rattle.plain.specs.Parts.{Apportionment, exposures, exposure_at, exposure_before, share}
use Rattle.plain.specs.PlainBook.{PlainInvestee, PlainBook, investee_of}
use Rattle.plain.specs.Rounding.{rounded, PartNearShare}
use Rattle.plain.specs.ShutOut.{thirds, unequal, four_months, lent_to, HasToPart, Way, all_to_the_first, nothing_to_anybody, rounded_by_itself, capped_by_itself, over_months_posted, Loses, GainsOrLoses, DeclinesEverything, thirds_of_999, OpenedWith1000, SimplerAnswersShutOut}
use Rattle.plain.specs.Runs.{answer_to, ReachedByARun}
use Rattle.plain.specs.Steps.{Query, for_part, for_total, for_book_total, Step, enter, post}
use Rattle.plain.specs.Sums.{sum_over, down_from}
use Rattle.plain.specs.Worked.{accounts, company, reads, posts, kilograms, totalled}
use Rattle.plain.proofs.Somebody.{parted-by-some, answers-of-999}
use Rattle.plain.proofs.Sums.{sum-branches}

first-branch : Branch 1
first-branch = (lit≤ tt, lit≤ tt)

-- ---- the books

-- the call that opens the investee, and then others
abbrev opening-and : List Step → List Step
opening-and calls = enter (company 5 (accounts 10000 0)) (reads (pos 1000)) ∷ calls

reached_by_runs : AllByRecursion (ReachedByARun national_tables) (thirds ∷ unequal ∷ four_months ∷ [])
reached_by_runs = (
  (opening-and (posts 1 (40000 ∷ 40000 ∷ 40000 ∷ [])), search rules, refl),
  (
    (opening-and (posts 1 (120000 ∷ 60000 ∷ [])), search rules, refl),
    ((opening-and (post 1 7 1 10000 ∷ post 1 7 2 10000 ∷ post 1 7 3 10000 ∷ post 1 7 4 10000 ∷ []), search rules, refl), tt),
  ),
)

of_thirds : HasToPart thirds (40000 ∷ 40000 ∷ 40000 ∷ [])
unfolding exposures first_of change_first
of_thirds = refl

of_unequal : HasToPart unequal (120000 ∷ 60000 ∷ [])
unfolding exposures first_of change_first
of_unequal = refl

of_four_months : HasToPart four_months (40000 ∷ [])
unfolding exposures first_of change_first
of_four_months = refl

-- no parts found in this way make a total
abbrev NoTotal : Apportionment → Way → Type 0
NoTotal a way = (f : ℕ → ℤ) (n : ℤ) → ((b : ℕ) → Branch b → f b ≡ way a b) → PartsMakeTheTotal a f n → ⊥

-- of the one investee
of-investee-7 : (p : PlainBook) (es : List ℕ) → HasToPart p es → (ask : Query → Answer) (answers : Answered p ask) → KeepsEveryKilogram national_tables p emissions ask answers
    → PartsMakeTheTotal (lent_to es) (λ b. (answers.part_of 7 b).emissions) (answers.total_of 7).kilograms.emissions
of-investee-7 p es is ask answers keeps =
    (subst (AllByRecursion (λ a. PartsMakeTheTotal a (λ b. (answers.part_of a.id b).emissions) (answers.total_of a.id).kilograms.emissions)) is keeps.no_kilogram_gained_or_lost.of_each_investee).0

for-its-book : (p : PlainBook) (es : List ℕ) (way : Way) → HasToPart p es → NoTotal (lent_to es) way → GainsOrLoses p way
for-its-book p es way is none ask answers parted keeps =
    none (λ b. (answers.part_of 7 b).emissions) (answers.total_of 7).kilograms.emissions
    (subst (AllByRecursion (λ a. (b : ℕ) → Branch b → (answers.part_of a.id b).emissions ≡ way a b)) is parted).0
    (of-investee-7 p es is ask answers keeps)

-- ---- the ways

near-first : (a : Apportionment) (way : Way) (f : ℕ → ℤ) (n : ℤ) → ((b : ℕ) → Branch b → f b ≡ way a b) → PartsMakeTheTotal a f n → PartNearShare (way a 1) (share a 1)
near-first a way f n same one = subst (λ k. PartNearShare k (share a 1)) (same 1 first-branch) (one.part_near_exact_share 1 first-branch)

-- the first of three thirds takes 1,000 or nothing, where its share is 333⅓
all-to-first : NoTotal (lent_to (40000 ∷ 40000 ∷ 40000 ∷ [])) all_to_the_first
unfolding exposures exposure_at
all-to-first f n same one = omega (arith, near-first _ all_to_the_first f n same one)

nothing : NoTotal (lent_to (40000 ∷ 40000 ∷ 40000 ∷ [])) nothing_to_anybody
unfolding exposures exposure_at
nothing f n same one = omega (arith, near-first _ nothing_to_anybody f n same one)

not-zero : pos 1000 ≢ pos 0
not-zero e = omega (arith, ints)

-- three thirds, each rounded by itself, come to 999, and not to 1,000
sum-alone : sum_over branches (rounded_by_itself (lent_to (40000 ∷ 40000 ∷ 40000 ∷ []))) ≡ pos 999
unfolding rounded exposures exposure_at sum_over down_from
sum-alone = refl

rounded-alone : NoTotal (lent_to (40000 ∷ 40000 ∷ 40000 ∷ [])) rounded_by_itself
unfolding exposures exposure_at
rounded-alone f n same one =
    let e : pos 999 ≡ pos 1000 = sym sum-alone ∙ sym (sum-branches f _ same) ∙ one.parts_add_up_to_total ∙ (one.total_is_figure_iff_exposures_reach refl not-zero).1 (lit≤ tt) in
    omega (arith, ints)

-- each capped by itself they come to 1,500
sum-capped : sum_over branches (capped_by_itself (lent_to (120000 ∷ 60000 ∷ []))) ≡ pos 1500
unfolding rounded exposures exposure_at sum_over down_from
sum-capped = refl

capped-alone : NoTotal (lent_to (120000 ∷ 60000 ∷ [])) capped_by_itself
capped-alone f n same one =
    let e : pos 1500 ≡ n = sym sum-capped ∙ sym (sum-branches f _ same) ∙ one.parts_add_up_to_total in
    omega (arith, ints, one.total_within_figure, ap nat_abs e)

-- over four months the one branch takes the whole figure, where a third falls to it
over-four : over_months_posted 40000 (lent_to (40000 ∷ [])) 1 ≡ pos 1000
unfolding rounded exposures exposure_at
over-four = refl

months-posted : NoTotal (lent_to (40000 ∷ [])) (over_months_posted 40000)
unfolding exposures exposure_at
months-posted f n same one =
    let near = subst (λ n. PartNearShare n (share (lent_to (40000 ∷ [])) 1)) over-four (near-first _ (over_months_posted 40000) f n same one) in
    omega (arith, near)

-- ---- refusals, and figures that no source has read

everything-declined : (p : PlainBook) (ask : Query → Answer) → DeclinesEverything ask → Answered p ask → ⊥
everything-declined p ask declines answers =
    let e : Declined (declines for_book_total).0 ≡ Book answers.book_total = sym (declines for_book_total).1 ∙ answers.book_total_answered in
    absurd cc

one-part-declined : (ask : Query → Answer) (f : Fault) → ask (for_part 7 2) ≡ Declined f → Answered thirds ask → ⊥
unfolding first_of change_first exposures
one-part-declined ask f declined answers =
    let e : Declined f ≡ Part (answers.part_of 7 2) = sym declined ∙ answers.parts_answered 7 2 refl (lit≤ tt, lit≤ tt) in
    absurd cc

another-total : (ask : Query → Answer) (answers : Answered thirds ask) → (answers.total_of 7).kilograms.emissions ≢ pos 1000 → Loses thirds ask answers
unfolding exposures
another-total ask answers other keeps =
    other (((of-investee-7 thirds (40000 ∷ 40000 ∷ 40000 ∷ []) of_thirds ask answers keeps).total_is_figure_iff_exposures_reach refl not-zero).1 (lit≤ tt))

told-999 : answer_to national_tables thirds_of_999 (for_total 7) ≡ totalled (pos 999) 0
unfolding rounded exposures exposure_at exposure_before sum_over down_from first_of change_first
told-999 = refl

not-999 : pos 999 ≢ pos 1000
not-999 e = omega (arith, ints)

emissions-in : (k : InvesteeTotal) (n : ℤ) → Total k ≡ totalled n 0 → k.kilograms.emissions ≡ n
emissions-in k n e = let same : k ≡ record { kilograms = kilograms n (pos 0); reason = 0; grade = 1 } = cc e in ap (λ (k : InvesteeTotal). k.kilograms.emissions) same

total-of-999 : (answers : Answered thirds (answer_to national_tables thirds_of_999)) → (answers.total_of 7).kilograms.emissions ≡ pos 999
unfolding first_of change_first exposures
total-of-999 answers =
    emissions-in (answers.total_of 7) (pos 999) (sym (answers.totals_answered 7 refl) ∙ told-999)

of-999 : (answers : Answered thirds (answer_to national_tables thirds_of_999)) → Loses thirds (answer_to national_tables thirds_of_999) answers
of-999 answers = another-total (answer_to national_tables thirds_of_999) answers (λ e. not-999 (sym (total-of-999 answers) ∙ e))

opened-otherwise : (q : PlainBook) (x : PlainInvestee) → investee_of 7 q ≡ Some x → x.kilograms ≢ pos 1000 → OpenedWith1000 q → ⊥
opened-otherwise q x found other opened =
    let one = opened.investee in
    let same : x ≡ one.1 = let e : Some x ≡ Some one.1 = sym found ∙ one.3 in cc e in
    let as-read : one.0.kilograms ≡ pos 1000 = let e : one.0 ≡ reading (pos 1000) 1 = cc one.2 in ap (λ (r : Reading). r.kilograms) e in
    other (ap (λ (y : PlainInvestee). y.kilograms) same ∙ one.4.kilograms ∙ as-read)

pub shut_out : SimplerAnswersShutOut
shut_out = record {
  reached_by_runs = reached_by_runs;
  of_thirds = of_thirds;
  of_unequal = of_unequal;
  of_four_months = of_four_months;
  all_to_the_first_branch = for-its-book thirds (40000 ∷ 40000 ∷ 40000 ∷ []) all_to_the_first of_thirds all-to-first;
  every_part_zero = for-its-book thirds (40000 ∷ 40000 ∷ 40000 ∷ []) nothing_to_anybody of_thirds nothing;
  each_branch_rounded_by_itself = for-its-book thirds (40000 ∷ 40000 ∷ 40000 ∷ []) rounded_by_itself of_thirds rounded-alone;
  cap_taken_by_each_branch = for-its-book unequal (120000 ∷ 60000 ∷ []) capped_by_itself of_unequal capped-alone;
  divided_by_months_posted = for-its-book four_months (40000 ∷ []) (over_months_posted 40000) of_four_months months-posted;
  each_way_has_answers = λ way. (
    parted-by-some way thirds (40000 ∷ 40000 ∷ 40000 ∷ []) of_thirds,
    (
      parted-by-some way unequal (120000 ∷ 60000 ∷ []) of_unequal,
      (parted-by-some way four_months (40000 ∷ []) of_four_months, tt),
    ),
  );
  everything_declined = everything-declined;
  one_part_declined = one-part-declined;
  another_total = another-total;
  a_book_with_another_figure_answers = answers-of-999;
  answers_of_a_book_with_another_figure = of-999;
  a_book_with_another_figure = opened-otherwise;
}
