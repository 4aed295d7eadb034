-- Ways of parting a figure that look simpler. Each is shut out for a worked book that a run has come to: no answers to its queries
-- keep every kilogram if their parts are found in that way, whatever total, sheets and book total are answered with them.
-- Refusals in place of figures are shut out too, and figures that no source has read.
use Rattle.std.specs.Prelude.{◌≡◌, ℕ, suc, max, true, cond, ◌≢◌, List, [], ◌∷◌, ℤ, pos, Some, ◌==◌}
use Rattle.std.specs.List.{AllByRecursion}
use Rattle.faults.specs.declared.Fault.{Fault}
use Rattle.rules.specs.National.{national_tables}
use Rattle.plain.specs.declared.answers.Answer.{Answer}
use Rattle.plain.specs.declared.answers.Answer.TheVariants.{Declined}
use Rattle.plain.specs.Answered.{Answered}
use Rattle.plain.specs.Branches.{Branch}
use Rattle.plain.specs.EachCall.{Enters}
use Rattle.plain.specs.EveryRun.{KeepsEveryKilogram}
use Rattle.plain.specs.Exposures.{emissions, apportionments}
use Rattle.plain.specs.Parts.{Lent, at_least, Apportionment, exposures, exposure_at, base_of, base}
use Rattle.plain.specs.PlainBook.{PlainInvestee, PlainBook, empty, investee_of}
use Rattle.plain.specs.Rounding.{rounded}
use Rattle.plain.specs.Runs.{answer_to, run, ReachedByARun}
use Rattle.plain.specs.Steps.{Query, for_part, post}
use Rattle.plain.specs.Worked.{accounts, company, reads, lent}

-- ---- books with one investee, that emits 1,000 kg and has a revenue of 10,000 wan

-- three branches have lent a third each
abbrev pub thirds : PlainBook
thirds = lent (pos 1000) (40000 ∷ 40000 ∷ 40000 ∷ [])

-- two branches have lent, the second half as much as the first
abbrev pub unequal : PlainBook
unequal = lent (pos 1000) (120000 ∷ 60000 ∷ [])

-- one branch has lent, in four months only
abbrev pub four_months : PlainBook
four_months = run national_tables (lent (pos 1000) []) (post 1 7 1 10000 ∷ post 1 7 2 10000 ∷ post 1 7 3 10000 ∷ post 1 7 4 10000 ∷ [])

-- ---- what is parted there

-- branches b, b + 1, .. with these exposures
abbrev pub lent_from : ℕ → List ℕ → List Lent
lent_from b [] = []
lent_from b (e ∷ es) = record { branch = b; exposure = e } ∷ lent_from (suc b) es

-- the emissions among branches 1, 2, .. with these exposures, over the revenue times 12 months
abbrev pub lent_to : List ℕ → Apportionment
lent_to es = record { id = 7; figure = pos 1000; denominator = at_least 120000; lent = lent_from 1 es; counted = true }

-- a book has this to part and nothing else
abbrev pub HasToPart : PlainBook → List ℕ → Type 0
HasToPart p es = apportionments national_tables p emissions ≡ lent_to es ∷ []

-- ---- ways of parting: what falls to a branch

-- for what is to be parted and a branch, its part
abbrev pub Way : Type 0
Way = Apportionment → ℕ → ℤ

-- the first branch takes everything
abbrev pub all_to_the_first : Way
all_to_the_first a b = cond (b == 1) a.figure (pos 0)

-- nobody takes anything
abbrev pub nothing_to_anybody : Way
nothing_to_anybody a b = pos 0

-- each branch's share is rounded by itself, which comes to 999 for thirds
abbrev pub rounded_by_itself : Way
rounded_by_itself a b = rounded a.figure (exposure_at a.lent b) (base a)

-- the base is the larger of the denominator and the branch's own exposure, in place of all branches' together
abbrev pub capped_by_itself : Way
capped_by_itself a b = rounded a.figure (exposure_at a.lent b) (max 1 (base_of a.denominator (exposure_at a.lent b)))

-- the denominator w is the amount times the months in which something was posted, in place of the twelve months of the year
abbrev pub over_months_posted : ℕ → Way
over_months_posted w a b = rounded a.figure (exposure_at a.lent b) (max w (exposures a.lent))

-- the answers give each branch its part of each investee in this way
abbrev pub PartedBy : Way → (p : PlainBook) (ask : Query → Answer) → Answered p ask → Type 0
PartedBy way p ask answers = AllByRecursion (λ a. (b : ℕ) → Branch b → (answers.part_of a.id b).emissions ≡ way a b) (apportionments national_tables p emissions)

-- somebody answers the readings of the book in this way
abbrev pub PartedBySome : Way → PlainBook → Type 0
PartedBySome way p = (ask : Query → Answer) × (answers : Answered p ask) × PartedBy way p ask answers

-- the emissions that such answers tell are not kept
abbrev pub Loses : (p : PlainBook) (ask : Query → Answer) → Answered p ask → Type 0
Loses p ask answers = KeepsEveryKilogram national_tables p emissions ask answers → ⊥

-- and then they gain or lose a kilogram
abbrev pub GainsOrLoses : PlainBook → Way → Type 0
GainsOrLoses p way = (ask : Query → Answer) (answers : Answered p ask) → PartedBy way p ask answers → Loses p ask answers

-- ---- refusals in place of figures

abbrev pub DeclinesEverything : (Query → Answer) → Type 0
DeclinesEverything ask = (query : Query) → (f : Fault) × (ask query ≡ Declined f)

-- ---- figures that no source has read

-- thirds, where the source read 999 kg in place of 1,000
abbrev pub thirds_of_999 : PlainBook
thirds_of_999 = lent (pos 999) (40000 ∷ 40000 ∷ 40000 ∷ [])

-- q comes of the opening of investee 7 in an empty book, with a reading of 1,000 kg
abbrev pub OpenedWith1000 : PlainBook → Type 0
OpenedWith1000 q = Enters (company 5 (accounts 10000 0)) (reads (pos 1000)) empty q

-- the books, and each way with a book that shuts it out
pub record SimplerAnswersShutOut : Type 0 where
  pub reached_by_runs : AllByRecursion (ReachedByARun national_tables) (thirds ∷ unequal ∷ four_months ∷ [])
  pub of_thirds : HasToPart thirds (40000 ∷ 40000 ∷ 40000 ∷ [])
  pub of_unequal : HasToPart unequal (120000 ∷ 60000 ∷ [])
  pub of_four_months : HasToPart four_months (40000 ∷ [])
  pub all_to_the_first_branch : GainsOrLoses thirds all_to_the_first
  pub every_part_zero : GainsOrLoses thirds nothing_to_anybody
  pub each_branch_rounded_by_itself : GainsOrLoses thirds rounded_by_itself
  pub cap_taken_by_each_branch : GainsOrLoses unequal capped_by_itself
  -- four months of 10,000
  pub divided_by_months_posted : GainsOrLoses four_months (over_months_posted 40000)
  -- there are such answers, whatever the way, so that none of these statements is empty
  pub each_way_has_answers : (way : Way) → AllByRecursion (PartedBySome way) (thirds ∷ unequal ∷ four_months ∷ [])
  -- refusals are no answers, be it all of them, or one for the part of one branch
  pub everything_declined : (p : PlainBook) (ask : Query → Answer) → DeclinesEverything ask → Answered p ask → ⊥
  pub one_part_declined : (ask : Query → Answer) (f : Fault) → ask (for_part 7 2) ≡ Declined f → Answered thirds ask → ⊥
  -- all is lent to the investee, so that its total is what the source has read: no other is, nor are the answers of a book with another figure
  pub another_total : (ask : Query → Answer) (answers : Answered thirds ask) → (answers.total_of 7).kilograms.emissions ≢ pos 1000 → Loses thirds ask answers
  pub a_book_with_another_figure_answers : Answered thirds (answer_to national_tables thirds_of_999)
  pub answers_of_a_book_with_another_figure : (answers : Answered thirds (answer_to national_tables thirds_of_999)) → Loses thirds (answer_to national_tables thirds_of_999) answers
  -- and no such book comes of the opening
  pub a_book_with_another_figure : (q : PlainBook) (x : PlainInvestee) → investee_of 7 q ≡ Some x → x.kilograms ≢ pos 1000 → OpenedWith1000 q → ⊥
