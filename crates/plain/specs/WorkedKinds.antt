-- A worked book under the guide of Pudong with an investee of each kind, and everything that it answers.
use Rattle.std.specs.Prelude.{◌≡◌, ℕ, List, [], ◌∷◌, ◌++◌, map, replicate, pos, Some, None, Ok}
use Rattle.rules.specs.Pudong.{pudong_tables}
use Rattle.rules.specs.declared.figures.Figures.{Figures}
use Rattle.sources.specs.Readings.{reading}
use Rattle.plain.specs.declared.answers.Answer.{Answer}
use Rattle.plain.specs.declared.answers.Answer.TheVariants.{Done, Part, Total, Sheet, Book}
use Rattle.plain.specs.declared.answers.InvesteeAccount.{InvesteeAccount}
use Rattle.plain.specs.declared.answers.InvesteeTotal.{InvesteeTotal}
use Rattle.plain.specs.declared.answers.Kilograms.{Kilograms}
use Rattle.plain.specs.PlainBook.{PlainBook, empty}
use Rattle.plain.specs.Readings.{accounts_of, sheets_of}
use Rattle.plain.specs.Runs.{answered, answer_to, run}
use Rattle.plain.specs.Steps.{Meaning, Step, enter, restate, reduce, post, amend, Query, for_part, for_total, for_sheet, for_book_total}
use Rattle.plain.specs.Worked.{kilograms}
use Rattle.plain.specs.WorkedYear.{subtotal}

-- ---- the calls

-- so many kilograms, of this grade
abbrev pub kg : ℕ → ℕ → Meaning
kg kilograms grade = Ok (reading (pos kilograms) grade)

-- the accounts of all six, but for the initial value
abbrev pub figures : ℕ → Figures
figures v = record { investment = 1000; revenue = 3000; total_assets = 2000; initial_value = v }

abbrev pub opens : ℕ → ℕ → ℕ → ℕ → Meaning → Step
opens id kind size v meaning = enter (record { id = id; kind = kind; sector = 0; size = size; days = 200; figures = figures v }) meaning

abbrev pub calls : List Step
calls =
    -- id, kind, size, initial value, and the reading
    opens 11 1 1 500 (kg 900 5)
    ∷ opens 12 2 2 500 (kg 700 3)
    ∷ opens 13 3 5 500 (kg 5000 5)
    ∷ opens 14 4 2 0 (kg 100 4)
    ∷ opens 15 5 1 500 (kg 4000 1)
    ∷ opens 16 6 1 500 (kg 8000 5)
    -- the project is restated after its reduction, the reduction of 12 is 0, and the second of 15 replaces the first
    ∷ reduce 11 (kg 120 4)
    ∷ restate 11 (kg 1200 2)
    ∷ reduce 12 (kg 0 1)
    ∷ reduce 15 (kg 900 2)
    ∷ reduce 13 (kg 500 1)
    ∷ reduce 15 (kg 480 5)
    -- branch, id, month, balance
    ∷ post 1 11 12 3000
    ∷ post 40 11 11 4000
    ∷ post 40 11 12 2000
    ∷ post 1 12 12 12000
    ∷ post 7 13 12 3000
    ∷ post 40 13 12 3000
    ∷ post 40 14 12 6000
    ∷ post 1 14 12 3000
    ∷ post 1 15 3 1000
    ∷ post 40 15 12 12000
    ∷ amend 1 15 3 6000
    ∷ post 40 16 12 1000
    ∷ []

-- ---- the answers

-- the book after the calls, and what it answers
abbrev pub book_of_kinds : PlainBook
book_of_kinds = run pudong_tables empty calls

abbrev pub of_kinds : Query → Answer
of_kinds query = answer_to pudong_tables book_of_kinds query

-- the parts of branches 1 and 40 on an investee, and its total
abbrev pub told_of : ℕ → List Answer
told_of id = map of_kinds (for_part id 1 ∷ for_part id 40 ∷ for_total id ∷ [])

-- emissions and reduction
abbrev pub measures : ℕ → ℕ → Kilograms
measures e r = kilograms (pos e) (pos r)

abbrev pub part : ℕ → ℕ → Answer
part e r = Part (measures e r)

abbrev pub sheet : ℕ → ℕ → Answer
sheet e r = Sheet (measures e r)

-- emissions, reduction, reason and grade
abbrev pub figures_told : ℕ → ℕ → ℕ → ℕ → InvesteeTotal
figures_told e r reason grade = record { kilograms = measures e r; reason = reason; grade = grade }

abbrev pub total : ℕ → ℕ → ℕ → ℕ → Answer
total e r reason grade = Total (figures_told e r reason grade)

-- on a page an investee's id stands beside its total
abbrev pub account : ℕ → ℕ → ℕ → ℕ → ℕ → InvesteeAccount
account id e r reason grade = record { id = id; total = figures_told e r reason grade }

pub record WorkedKinds : Type 0 where
  pub every_call_accepted : answered pudong_tables empty calls ≡ map (λ c. Done) calls
  -- 3,000 and 6,000 of 12 × 1,000
  pub project : told_of 11 ≡ part 300 30 ∷ part 600 60 ∷ total 900 90 0 2 ∷ []
  -- 12,000 of 12 × 1,000
  pub property_development : told_of 12 ≡ part 700 0 ∷ part 0 0 ∷ total 700 0 0 3 ∷ []
  -- bought by a person: left out for reason 3, though it has a reduction
  pub property_purchase : told_of 13 ≡ part 0 0 ∷ part 0 0 ∷ total 0 0 3 5 ∷ []
  -- no initial value is given, so 6,000 and then 3,000 are divided by the 9,000 that they add up to: 66.7, and what is left
  pub vehicle : told_of 14 ≡ part 34 0 ∷ part 66 0 ∷ total 100 0 0 4 ∷ []
  -- 6,000 and 12,000 of 12 × 2,000
  pub general_loan : told_of 15 ≡ part 1000 120 ∷ part 2000 240 ∷ total 3000 360 0 1 ∷ []
  -- 12 times 1,000, of 12 × 2,000
  pub bond : told_of 16 ≡ part 0 0 ∷ part 4000 0 ∷ total 4000 0 0 5 ∷ []
  pub sheets : map of_kinds (for_sheet 1 ∷ for_sheet 7 ∷ for_sheet 40 ∷ []) ≡ sheet 2034 150 ∷ sheet 0 0 ∷ sheet 6666 300 ∷ []
  -- Of ten positions two are on the project, and two on the investee that is left out; a reduction is set for five of the other eight.
  -- The grades 2, 3, 4, 1 and 5 weigh 9,000, 12,000, 9,000, 18,000 and 12,000, so that their mean is 168,000 / 60,000.
  pub book_total : of_kinds for_book_total ≡ Book (record {
    projects = subtotal (pos 900) (pos 90) (Some 10000) (Some 10000);
    rest = subtotal (pos 7800) (pos 360) (Some 7500) (Some 3750);
    all = subtotal (pos 8700) (pos 450) (Some 8000) (Some 5000);
    mean_grade = Some 280;
  })
  -- what a page is made of: investees in the order of their openings, and the sheets of branches with a position, that of branch 7 too
  pub accounts_of_a_page : accounts_of pudong_tables book_of_kinds ≡ account 11 900 90 0 2 ∷ account 12 700 0 0 3 ∷ account 13 0 0 3 5 ∷ account 14 100 0 0 4 ∷ account 15 3000 360 0 1 ∷ account 16 4000 0 0 5 ∷ []
  pub sheets_of_a_page : sheets_of pudong_tables book_of_kinds ≡ Some (measures 2034 150) ∷ (replicate 5 None ++ Some (measures 0 0) ∷ (replicate 32 None ++ Some (measures 6666 300) ∷ []))
