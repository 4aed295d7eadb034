-- Every run keeps every kilogram.
use Rattle.std.proofs.Common.{◌≡◌, ℕ, ◌*◌, ◌≤◌, Bool, true, false, cond, not, eqb, ◌≢◌, ◌↔◌, ◌&&◌, List, [], ◌∷◌, ◌++◌, map, take, ℤ, pos, ◌+ℤ◌, is_some, Some, None, Option, filter, sum_by, sym, refl, ap, ◌∙◌, subst, ap₂, arith}
use mathlib.Core.Path.{fun_ext}
use Rattle.std.specs.List.{AllByRecursion}
use Rattle.grading.proofs.EachElement.{All-weaker, All-map, All-take, All-append, all_kept_by, kept_by_passes}
use Rattle.std.proofs.lemmas.List.Sums.{sum_by-cons}
use Rattle.std.proofs.lemmas.Bool.Decides.{nat_tests}
use Rattle.std.proofs.lemmas.Bool.{cond_both, eqb-true, eq-eqb, ne_eqb}
use Rattle.rules.specs.Kinds.{kind_number, kind_numbered}
use Rattle.rules.specs.Tables.{Tables, Lawful}
use Rattle.rules.specs.declared.kinds.Kind.{Kind}
use Rattle.rules.specs.declared.kinds.Kind.TheVariants.{Project, PropertyDevelopment, PropertyPurchase, Vehicle, GeneralLoan, Bond}
use Rattle.plain.specs.Answered.{Answered}
use Rattle.plain.specs.Branches.{Branch, branches}
use Rattle.plain.specs.EveryRun.{measured, GroupAddsUp, KeepsEveryKilogram, TellsWhy, HoldsAt, HoldsWhole, AtEachPoint, HoldsThroughout, EveryRunKeepsEveryKilogram}
use Rattle.plain.specs.declared.answers.Answer.TheVariants.{Declined, Part, Total, Sheet}
use Rattle.plain.specs.declared.answers.InvesteeTotal.{InvesteeTotal}
use Rattle.plain.specs.declared.answers.Kilograms.{Kilograms}
use Rattle.plain.specs.Covers.{IsShare, is_of_kind, told_counted, positions_on_those, CoversOf, CoversAreShares, MeanGradeIsNearest}
use Rattle.plain.specs.Exposures.{exposure_to, positions_on, lent_by, lent_to, is_counted, reason_of, Measure, emissions, reductions, apportionment, apportionments}
use Rattle.plain.specs.Kept.{InvesteeInRange, KeptByEveryRun, KeptUnderRule}
use Rattle.plain.specs.Limits.{most_exposure}
use Rattle.plain.specs.Lists.{Pairwise}
use Rattle.plain.specs.Parts.{part, total, sheet, book_total, OncePerBranch, Orderly}
use Rattle.plain.specs.PlainBook.{PlainInvestee, PlainPosition, PlainBook, empty, id_of, investee_of, is_open}
use Rattle.plain.specs.Readings.{both, of_investee, part_of, total_of, sheet_of, positions_on_all, covers, hundredths, project_kind, is_project, subtotal_of, book_total_of}
use Rattle.plain.specs.Refused.{if_open, branch_out_of_range}
use Rattle.plain.specs.Runs.{unless, after, answer_to, run, ReachedByARun}
use Rattle.plain.specs.Steps.{for_part, for_total, for_sheet, Step, WithinSourceLimits}
use Rattle.plain.proofs.Again.{numbered}
use Rattle.plain.proofs.Asked.{reason-in-range}
use Rattle.plain.proofs.Kept.{kept-at-first, kept-by-a-call}
use Rattle.plain.proofs.Covers.{hundredths-share, nearest-mean}
use Rattle.plain.proofs.OnOne.{positions-on-those, each-on-one}
use Rattle.plain.proofs.Kilograms.{AnsweredAsDefined, book-near, kilograms-kept}
use Rattle.plain.proofs.Lists.{all_both, found-by-key}
use Rattle.plain.proofs.Parts.{part-uncounted}
use Rattle.plain.proofs.Positions.{Differ}
use Rattle.plain.proofs.Runs.{reached-more}
use Rattle.plain.proofs.Sums.{sum-all, sum-map, sum-split, sum-zero, sum-branches}
use Rattle.plain.proofs.UnderRule.{above_zero, ruled-at-first, ruled-by-a-call}

-- ---- the positions on one investee

module _ (kind : Kind) (id : ℕ) where
  others-lent : (b : ℕ) (qs : List PlainPosition) → AllByRecursion (λ q. q.id ≡ id → q.branch ≢ b) qs → AllByRecursion (λ l. l.branch ≢ b) (map (lent_by kind) (positions_on id qs))
  others-lent b qs h =
      All-map _ (lent_by kind) (positions_on id qs)
      (All-weaker _ _ (λ q g. g.0 (eqb-true q.id id g.1)) (positions_on id qs)
      (all_both _ _ (positions_on id qs) (all_kept_by (λ q. eqb q.id id) (λ q. q.id ≡ id → q.branch ≢ b) qs h) (kept_by_passes (λ q. eqb q.id id) qs)))

  pub lent-differ : (qs : List PlainPosition) → Pairwise Differ qs → Pairwise (λ l m. m.branch ≢ l.branch) (map (lent_by kind) (positions_on id qs))
  unfolding Pairwise
  lent-differ [] ok = tt
  lent-differ (q ∷ qs) ok =
      cond_both (eqb q.id id) _ _ (λ rs. Pairwise (λ l m. m.branch ≢ l.branch) (map (lent_by kind) rs))
      (λ e. (others-lent q.branch qs (All-weaker _ _ (λ r h same. h (same ∙ sym (eqb-true q.id id e))) qs ok.0), lent-differ qs ok.1)) (λ e. lent-differ qs ok.1)

pub once_per_branch : (p : PlainBook) → KeptByEveryRun p → (x : PlainInvestee) → OncePerBranch (lent_to x p.positions)
once_per_branch p ok x = record {
  branches_in_range =
      All-map (λ l. Branch l.branch) (lent_by x.profile.kind) (positions_on (id_of x) p.positions)
      (all_kept_by (λ q. eqb q.id (id_of x)) (λ q. Branch q.branch) p.positions (All-weaker _ _ (λ q h. h.branch_in_range) p.positions ok.positions_in_range));
  branches_differ = lent-differ x.profile.kind (id_of x) p.positions ok.positions_differ;
}

orderly-each : (t : Tables) → Lawful t → (p : PlainBook) (m : Measure) → KeptByEveryRun p → AllByRecursion (λ x. Orderly (apportionment t p m x)) p.investees
orderly-each t lawful p m ok =
    All-weaker _ _ (λ x h. record {
      once_per_branch = once_per_branch p ok x;
      above_zero = above_zero (t.bases x.profile.kind x.profile.figures) (lawful.bases_in_range x.profile.kind x.profile.figures h.profile_in_range.figures_to);
    }) p.investees ok.investees_in_range

orderly : (t : Tables) → Lawful t → (p : PlainBook) (m : Measure) → KeptByEveryRun p → AllByRecursion Orderly (apportionments t p m)
orderly t lawful p m ok = All-map Orderly (apportionment t p m) p.investees (orderly-each t lawful p m ok)

-- ---- the answers

measured-both : (m : Measure) (f : Measure → ℤ) → measured m (both f) ≡ f m
measured-both emissions f = refl
measured-both reductions f = refl

in_range : (b : ℕ) → Branch b → branch_out_of_range b ≡ false
in_range b h = grind (arith, nat_tests)

-- the figures of the investee of an id, where there is one
abbrev told_part : Tables → PlainBook → ℕ → Option PlainInvestee → Kilograms
told_part t p b None = both (λ m. pos 0)
told_part t p b (Some x) = part_of t p b x

abbrev told_total : Tables → PlainBook → Option PlainInvestee → InvesteeTotal
told_total t p None = record { kilograms = both (λ m. pos 0); reason = 0; grade = 0 }
told_total t p (Some x) = total_of t p x

part-told : (t : Tables) (p : PlainBook) (id b : ℕ) → is_open id p ≡ true → Branch b → answer_to t p (for_part id b) ≡ Part (told_part t p b (investee_of id p))
part-told t p id b is-there branch = rw (in_range b branch) (by (investee_of id p) is-there)
  where
    by : (o : Option PlainInvestee) → is_some o ≡ true → unless (if_open o (λ x. None)) (of_investee o (λ x. Part (part_of t p b x))) Declined ≡ Part (told_part t p b o)
    by None e = absurd cc
    by (Some x) e = refl

total-told : (t : Tables) (p : PlainBook) (id : ℕ) → is_open id p ≡ true → answer_to t p (for_total id) ≡ Total (told_total t p (investee_of id p))
total-told t p id is-there = by (investee_of id p) is-there
  where
    by : (o : Option PlainInvestee) → is_some o ≡ true → unless (if_open o (λ x. None)) (of_investee o (λ x. Total (total_of t p x))) Declined ≡ Total (told_total t p o)
    by None e = absurd cc
    by (Some x) e = refl

sheet-told : (t : Tables) (p : PlainBook) (b : ℕ) → Branch b → answer_to t p (for_sheet b) ≡ Sheet (sheet_of t p b)
sheet-told t p b branch = rw (in_range b branch) refl

abbrev all-answered : (t : Tables) (p : PlainBook) → Answered p (answer_to t p)
all-answered t p = record {
  part_of = λ id b. told_part t p b (investee_of id p);
  total_of = λ id. told_total t p (investee_of id p);
  sheet_of = sheet_of t p;
  book_total = book_total_of t p;
  parts_answered = part-told t p;
  totals_answered = total-told t p;
  sheets_answered = sheet-told t p;
  book_total_answered = refl;
}

-- a book answers whatever it has to
pub own-answers : (t : Tables) (p : PlainBook) → Answered p (answer_to t p)
own-answers t p = all-answered t p

-- ---- kilograms

-- the kind of projects has its number alone
kind-numbers : (k : Kind) → project_kind k ≡ eqb (kind_number k) (kind_number Project)
kind-numbers Project = refl
kind-numbers PropertyDevelopment = refl
kind-numbers PropertyPurchase = refl
kind-numbers Vehicle = refl
kind-numbers GeneralLoan = refl
kind-numbers Bond = refl

projects-by-number : is_project ≡ is_of_kind Project
projects-by-number = fun_ext (λ x. kind-numbers x.profile.kind)

module _ (t : Tables) (p : PlainBook) (m : Measure) where
  part-answered : (x : PlainInvestee) → investee_of (id_of x) p ≡ Some x → (b : ℕ) → measured m ((all-answered t p).part_of (id_of x) b) ≡ part (apportionment t p m x) b
  part-answered x found b = rw found (measured-both m (λ m. part (apportionment t p m x) b))

  total-answered : (x : PlainInvestee) → investee_of (id_of x) p ≡ Some x → measured m ((all-answered t p).total_of (id_of x)).kilograms ≡ total (apportionment t p m x)
  total-answered x found = rw found (measured-both m (λ m. total (apportionment t p m x)))

  answered-as-defined : KeptByEveryRun p
      → AnsweredAsDefined (apportionments t p m)
      (λ id branch. measured m ((all-answered t p).part_of id branch)) (λ id. measured m ((all-answered t p).total_of id).kilograms)
      (λ branch. measured m ((all-answered t p).sheet_of branch)) (measured m (all-answered t p).book_total.all.kilograms)
  answered-as-defined ok = record {
    parts = All-map _ (apportionment t p m) p.investees (All-weaker _ _ (λ x found b branch. part-answered x found b) p.investees (found-by-key id_of p.investees ok.ids_differ));
    totals = All-map _ (apportionment t p m) p.investees (All-weaker _ _ (λ x. total-answered x) p.investees (found-by-key id_of p.investees ok.ids_differ));
    sheets = λ b branch. measured-both m (λ m. sheet (apportionments t p m) b);
    book_total = measured-both m (λ m. book_total (apportionments t p m));
  }

  -- projects and the rest
  subtotals-add : book_total (map (apportionment t p m) (filter is_project p.investees)) +ℤ book_total (map (apportionment t p m) (filter (λ x. not (is_project x)) p.investees)) ≡ book_total (apportionments t p m)
  subtotals-add =
      ap₂ ◌+ℤ◌ (sum-map (apportionment t p m) (filter is_project p.investees) total) (sum-map (apportionment t p m) (filter (λ x. not (is_project x)) p.investees) total)
      ∙ sum-split is_project (λ x. total (apportionment t p m x)) p.investees ∙ sym (sum-map (apportionment t p m) p.investees total)

-- what is told for a group of the investees
group-adds-up : (t : Tables) → Lawful t → (p : PlainBook) → KeptByEveryRun p → (m : Measure) (test : PlainInvestee → Bool)
    → GroupAddsUp t p m (answer_to t p) (all-answered t p) (filter test p.investees) (measured m (subtotal_of t p (filter test p.investees)).kilograms)
group-adds-up t lawful p ok m test =
    let group = filter test p.investees in
    rw (measured-both m (λ n. book_total (map (apportionment t p n) group))) (record {
      totals_add_up =
          sum-all group _ (λ x. total (apportionment t p m x)) (All-weaker _ _ (λ x. total-answered t p m x) group (all_kept_by test _ p.investees (found-by-key id_of p.investees ok.ids_differ)))
          ∙ sym (sum-map (apportionment t p m) group total);
      near_exact_sum = book-near (map (apportionment t p m) group) (All-map Orderly (apportionment t p m) group (all_kept_by test _ p.investees (orderly-each t lawful p m ok)));
    })

both-add : (m : Measure) (f g h : Measure → ℤ) → ((n : Measure) → f n +ℤ g n ≡ h n) → measured m (both f) +ℤ measured m (both g) ≡ measured m (both h)
both-add m f g h e = ap₂ ◌+ℤ◌ (measured-both m f) (measured-both m g) ∙ e m ∙ sym (measured-both m h)

kilograms-at : (t : Tables) → Lawful t → (p : PlainBook) → KeptByEveryRun p → (m : Measure) → KeepsEveryKilogram t p m (answer_to t p) (all-answered t p)
kilograms-at t lawful p ok m = record {
  no_kilogram_gained_or_lost = kilograms-kept (apportionments t p m) (orderly t lawful p m ok) _ _ _ _ (answered-as-defined t p m ok);
  projects_add_up =
      subst (λ (test : PlainInvestee → Bool). GroupAddsUp t p m (answer_to t p) (all-answered t p) (filter test p.investees) (measured m (subtotal_of t p (filter is_project p.investees)).kilograms))
      projects-by-number (group-adds-up t lawful p ok m is_project);
  rest_adds_up =
      subst (λ (test : PlainInvestee → Bool). GroupAddsUp t p m (answer_to t p) (all-answered t p) (filter (λ x. not (test x)) p.investees) (measured m (subtotal_of t p (filter (λ x. not (is_project x)) p.investees)).kilograms))
      projects-by-number (group-adds-up t lawful p ok m (λ x. not (is_project x)));
  projects_and_rest_make_all = both-add m (λ n. book_total (map (apportionment t p n) (filter is_project p.investees)))
      (λ n. book_total (map (apportionment t p n) (filter (λ x. not (is_project x)) p.investees))) _ (subtotals-add t p);
}

-- ---- reasons, covers and the mean grade

filter-all : {X : Type 0} (f g : X → Bool) (xs : List X) → AllByRecursion (λ x. f x ≡ g x) xs → filter f xs ≡ filter g xs
filter-all f g [] all = refl
filter-all f g (x ∷ xs) all = ap₂ (λ t ys. cond t (x ∷ ys) ys) all.0 (filter-all f g xs all.1)

filter-twice : {X : Type 0} (f g : X → Bool) (xs : List X) → filter f (filter g xs) ≡ filter (λ x. g x && f x) xs
filter-twice f g [] = refl
filter-twice {X} f g (x ∷ xs) = by (g x) (filter-twice f g xs)
  where
    by : (t : Bool) → filter f (filter g xs) ≡ filter (λ x. g x && f x) xs → filter f (cond t (x ∷ filter g xs) (filter g xs)) ≡ cond (t && f x) (x ∷ filter (λ x. g x && f x) xs) (filter (λ x. g x && f x) xs)
    by true rest = ap (λ ys. cond (f x) (x ∷ ys) ys) rest
    by false rest = rest

filter-none : {X : Type 0} (xs : List X) → filter (λ x. true) xs ≡ xs
filter-none [] = refl
filter-none (x ∷ xs) = ap (λ ys. x ∷ ys) (filter-none xs)

sum_by-all : {X : Type 0} (f g : X → ℕ) (xs : List X) → AllByRecursion (λ x. f x ≡ g x) xs → sum_by f xs ≡ sum_by g xs
sum_by-all f g [] all = refl
sum_by-all f g (x ∷ xs) all = omega (arith, sum_by-cons f x xs, sum_by-cons g x xs, all.0, sum_by-all f g xs all.1)

module _ (t : Tables) (p : PlainBook) where
  -- the answers of this book
  abbrev answers : Answered p (answer_to t p)
  answers = all-answered t p

  abbrev Found : PlainInvestee → Type 0
  Found x = investee_of (id_of x) p ≡ Some x

  tells-why : Lawful t → KeptByEveryRun p → (x : PlainInvestee) → Found x × (InvesteeInRange x × (exposure_to x p.positions ≤ most_exposure)) → TellsWhy t p (answer_to t p) answers x
  tells-why lawful kept x (found, (range, most)) = record {
    reason_is_the_rule's = rw found refl;
    reason_in_range = rw found (reason-in-range t lawful x p.positions range.profile_in_range kept.positions_in_range most);
    grade_is_the_reading's = rw found refl;
    no_part_with_a_reason = λ why b branch m. part-answered t p m x found b ∙ part-uncounted (apportionment t p m x) b (uncounted why);
    no_total_with_a_reason = λ why m.
        total-answered t p m x found
        ∙ sum-branches (part (apportionment t p m x)) (λ b. pos 0) (λ b branch. part-uncounted (apportionment t p m x) b (uncounted why)) ∙ sum-zero branches;
  }
    where
      uncounted : (answers.total_of (id_of x)).reason ≢ 0 → is_counted t p x ≡ false
      uncounted why = ne_eqb (reason_of t p x) 0 (λ e. why (rw found e))

  counted-as-told : (x : PlainInvestee) → Found x → told_counted p (answer_to t p) answers x ≡ is_counted t p x
  counted-as-told x found = rw found refl

  mean-told : AllByRecursion Found p.investees → MeanGradeIsNearest p (answer_to t p) answers
  mean-told found =
      let counted = filter (is_counted t p) p.investees in
      let same : filter (told_counted p (answer_to t p) answers) p.investees ≡ counted = filter-all _ (is_counted t p) p.investees (All-weaker _ _ counted-as-told p.investees found) in
      let grades : sum_by (λ x. exposure_to x p.positions * (answers.total_of (id_of x)).grade) counted ≡ sum_by (λ x. exposure_to x p.positions * x.grade) counted =
      sum_by-all _ _ counted (All-weaker _ _ (λ x h. rw h refl) counted (all_kept_by (is_counted t p) Found p.investees found)) in
      rw (same, grades) (nearest-mean (sum_by (λ x. exposure_to x p.positions * x.grade) counted) (sum_by (λ x. exposure_to x p.positions) counted))

  -- of the investees that pass a test
  covers-of : KeptByEveryRun p → AllByRecursion Found p.investees → (test : PlainInvestee → Bool) → CoversOf p (answer_to t p) answers test (subtotal_of t p (filter test p.investees))
  covers-of kept found test = record {
    by_emissions = covers-by (covers t p emissions) (told_counted p (answer_to t p) answers) (λ x h. counted-as-told x h);
    by_reductions = covers-by (covers t p reductions) (λ x. told_counted p (answer_to t p) answers x && x.reduced) (λ x h. ap (λ c. c && x.reduced) (counted-as-told x h));
  }
    where
      covers-by : (covered as-told : PlainInvestee → Bool) → ((x : PlainInvestee) → Found x → as-told x ≡ covered x)
          → IsShare (positions_on_those p (λ x. test x && as-told x)) (positions_on_those p test) (hundredths (positions_on_all p (filter covered (filter test p.investees))) (positions_on_all p (filter test p.investees)))
      covers-by covered as-told same =
          let both-tests : positions_on_all p (filter covered (filter test p.investees)) ≡ positions_on_those p (λ x. test x && as-told x) =
          ap (positions_on_all p) (filter-twice covered test p.investees ∙ filter-all _ _ p.investees (All-weaker _ _ (λ x h. ap (λ c. test x && c) (sym (same x h))) p.investees found))
          ∙ positions-on-those p kept (λ x. test x && as-told x) in
          rw (both-tests, positions-on-those p kept test) (hundredths-share (positions_on_those p (λ x. test x && as-told x)) (positions_on_those p test))

  covers-told : KeptByEveryRun p → AllByRecursion Found p.investees → CoversAreShares p (answer_to t p) answers
  covers-told kept found = record {
    of_projects = subst (λ (test : PlainInvestee → Bool). CoversOf p (answer_to t p) answers test (subtotal_of t p (filter is_project p.investees))) projects-by-number (covers-of kept found is_project);
    of_rest = subst (λ (test : PlainInvestee → Bool). CoversOf p (answer_to t p) answers (λ x. not (test x)) (subtotal_of t p (filter (λ x. not (is_project x)) p.investees)))
        projects-by-number (covers-of kept found (λ x. not (is_project x)));
    of_all = subst (λ (xs : List PlainInvestee). CoversOf p (answer_to t p) answers (λ x. true) (subtotal_of t p xs)) (filter-none p.investees) (covers-of kept found (λ x. true));
    all_positions = sym (positions-on-those p kept (λ x. true)) ∙ ap (positions_on_all p) (filter-none p.investees) ∙ each-on-one p kept;
  }

-- ---- runs

by-run : (t : Tables) (P : PlainBook → Type 0) → ((p : PlainBook) (c : Step) → WithinSourceLimits c → P p → P (after t p c)) → (p : PlainBook) (calls : List Step) → AllByRecursion WithinSourceLimits calls → P p → P (run t p calls)
by-run t P keeps p [] limits ok = ok
by-run t P keeps p (c ∷ calls) limits ok = by-run t P keeps (after t p c) calls limits.1 (keeps p c limits.0 ok)

-- what each call keeps of a book that has what every run keeps, any run from the empty book comes to
of-reached : (t : Tables) (P : PlainBook → Type 0) → P empty → ((p : PlainBook) (c : Step) → WithinSourceLimits c → KeptByEveryRun p → P p → P (after t p c)) → (p : PlainBook) → ReachedByARun t p → KeptByEveryRun p × P p
of-reached t P at_first keeps p reached =
    subst (λ p. KeptByEveryRun p × P p) reached.2
    (by-run t (λ p. KeptByEveryRun p × P p) (λ p c limits ok. (kept-by-a-call t p c limits ok.0, keeps p c limits ok.0 ok.1)) empty reached.0 reached.1 (kept-at-first, at_first))

rule-of-reached : (t : Tables) → Lawful t → (p : PlainBook) → ReachedByARun t p → KeptByEveryRun p × KeptUnderRule t p
rule-of-reached t lawful p reached = of-reached t (KeptUnderRule t) (ruled-at-first t) (ruled-by-a-call t lawful) p reached

holds-at : (t : Tables) → Lawful t → (p : PlainBook) → KeptByEveryRun p → HoldsAt t p
holds-at t lawful p kept = record {
  kept = kept;
  under_rule = λ reached. (rule-of-reached t lawful p reached).1;
  orderly = λ m. orderly t lawful p m kept;
  answers = all-answered t p;
  kilograms = kilograms-at t lawful p kept;
  reasons = All-weaker _ _ (tells-why t p lawful kept) p.investees
      (all_both _ _ p.investees (found-by-key id_of p.investees kept.ids_differ) (all_both _ _ p.investees kept.investees_in_range kept.exposures_within_limit));
  covers = covers-told t p kept (found-by-key id_of p.investees kept.ids_differ);
  mean_grade = mean-told t p (found-by-key id_of p.investees kept.ids_differ);
}

holds-whole : (t : Tables) → Lawful t → (p : PlainBook) → ReachedByARun t p → HoldsWhole t p
holds-whole t lawful p reached =
    let rule = rule-of-reached t lawful p reached in
    record { reached = reached; under_rule = rule.1; as_of_any = holds-at t lawful p rule.0 }

from-the-start : (t : Tables) → Lawful t → (calls : List Step) → AllByRecursion WithinSourceLimits calls → AtEachPoint HoldsWhole t empty calls
from-the-start t lawful calls within k = holds-whole t lawful (run t empty (take k calls)) (take k calls, All-take WithinSourceLimits k calls within, refl)

pub holds-throughout : (t : Tables) → Lawful t → (p : PlainBook) → KeptByEveryRun p → (calls : List Step) → AllByRecursion WithinSourceLimits calls → HoldsThroughout t p calls (run t p calls)
holds-throughout t lawful p ok calls within = record {
  of_a_reached_book = λ reached. (
    (λ k. holds-whole t lawful (run t p (take k calls)) (reached-more t p (take k calls) (All-take WithinSourceLimits k calls within) reached)),
    reached-more t p calls within reached,
  );
  with_each_history = λ before fair same. from-the-start t lawful (before ++ calls) (All-append WithinSourceLimits before calls fair within);
  of_any_book = λ k. holds-at t lawful (run t p (take k calls)) (by-run t KeptByEveryRun (kept-by-a-call t) p (take k calls) (All-take WithinSourceLimits k calls within) ok);
}

-- ---- kinds

kind-of-number : (k l : Kind) → (eqb (kind_number k) (kind_number l) ≡ true) ↔ (k ≡ l)
kind-of-number k l = (
  (λ e. let same : Some k ≡ Some l = sym (numbered k) ∙ ap kind_numbered (eqb-true (kind_number k) (kind_number l) e) ∙ numbered l in cc same),
  λ e. eq-eqb (kind_number k) (kind_number l) (ap kind_number e),
)

pub every-run-keeps : EveryRunKeepsEveryKilogram
every-run-keeps = record {
  from_the_start = from-the-start;
  where_reached = holds-whole;
  going_on = holds-throughout;
  kinds_by_number = λ kind x. kind-of-number x.profile.kind kind;
}
