-- A worked year: openings, a restatement, a reduction, posts and an amendment, and what the queries are answered.
use Rattle.std.specs.Prelude.{◌≡◌, ℕ, List, [], ◌∷◌, map, ℤ, pos, neg_ℤ, Some, None, Ok, Option}
use Rattle.rules.specs.National.{national_tables}
use Rattle.rules.specs.Pudong.{pudong_tables}
use Rattle.rules.specs.declared.investees.InvesteeFields.{InvesteeFields}
use Rattle.sources.specs.Readings.{reading}
use Rattle.plain.specs.declared.answers.Answer.{Answer}
use Rattle.plain.specs.declared.answers.Answer.TheVariants.{Done, Part, Total, Sheet, Book}
use Rattle.plain.specs.declared.answers.Subtotal.{Subtotal}
use Rattle.plain.specs.PlainBook.{PlainBook, empty}
use Rattle.plain.specs.Runs.{answer_to, answered, run}
use Rattle.plain.specs.Steps.{Query, for_part, for_total, for_sheet, for_book_total, Step, enter, restate, reduce, post, amend}
use Rattle.plain.specs.Worked.{accounts, company, kilograms, reads, totalled}

-- 7 and 9 are general loans to companies with a revenue of 10,000 wan, and 8 a project with an investment of 1,000 wan
abbrev pub loan_to : ℕ → InvesteeFields
loan_to id = record { id = id; kind = 5; sector = 0; size = 2; days = 200; figures = accounts 10000 0 }

abbrev pub project : InvesteeFields
project = record { id = 8; kind = 1; sector = 0; size = 1; days = 30; figures = record { investment = 1000; revenue = 0; total_assets = 0; initial_value = 0 } }

-- the calls of the year, in their order
abbrev pub year : List Step
year =
    enter (loan_to 7) (Ok (reading (pos 1000) 1))
    ∷ enter project (Ok (reading (pos 500) 5))
    ∷ enter (loan_to 9) (Ok (reading (pos 1000) 5))
    -- the project's reading and its grade are replaced, and the reduction's grade is not taken
    ∷ restate 8 (Ok (reading (pos 600) 2))
    ∷ reduce 7 (Ok (reading (neg_ℤ (pos 50)) 4))
    -- 7 is lent 200,000 by branch 2 in month 1, and then by branch 1 100,000 in month 1 and 894,000 in month 2
    ∷ post 2 7 1 200000
    ∷ post 1 7 1 100
    ∷ post 1 7 2 894000
    ∷ amend 1 7 1 100000
    -- half of the project's denominator, and a loan that is too small to be counted
    ∷ post 2 8 12 6000
    ∷ post 1 9 12 5999
    ∷ []

-- what the book answers at the end of the year
abbrev pub of_year : Query → Answer
of_year query = answer_to national_tables (run national_tables empty year) query

-- kilograms of both measures, and the shares of positions that they cover
abbrev pub subtotal : ℤ → ℤ → Option ℕ → Option ℕ → Subtotal
subtotal e r ce cr = record { kilograms = kilograms e r; emissions_cover = ce; reductions_cover = cr }

-- of no positions
abbrev pub nothing : Subtotal
nothing = subtotal (pos 0) (pos 0) None None

-- under the guide of Pudong, a loan that is repaid before the last month is left out, for reason 4
abbrev pub repaid : PlainBook
repaid = run pudong_tables empty (enter (company 5 (accounts 0 10000)) (reads (pos 1000)) ∷ post 1 7 11 60000 ∷ [])

pub record WorkedYear : Type 0 where
  pub every_call_accepted : answered national_tables empty year ≡ Done ∷ Done ∷ Done ∷ Done ∷ Done ∷ Done ∷ Done ∷ Done ∷ Done ∷ Done ∷ Done ∷ []
  -- 1,000 × 200,000 / 1,194,000 = 167.5, and −50 × 200,000 / 1,194,000 = −8.4; branch 2 posted first
  pub parts : map (λ b. of_year (for_part 7 b)) (1 ∷ 2 ∷ 3 ∷ []) ≡ Part (kilograms (pos 833) (neg_ℤ (pos 42))) ∷ Part (kilograms (pos 167) (neg_ℤ (pos 8))) ∷ Part (kilograms (pos 0) (pos 0)) ∷ []
  pub total_of_the_loan : of_year (for_total 7) ≡ Total (record { kilograms = kilograms (pos 1000) (neg_ℤ (pos 50)); reason = 0; grade = 1 })
  pub total_of_the_project : of_year (for_total 8) ≡ Total (record { kilograms = kilograms (pos 300) (pos 0); reason = 0; grade = 2 })
  pub total_of_the_small_loan : of_year (for_total 9) ≡ Total (record { kilograms = kilograms (pos 0) (pos 0); reason = 2; grade = 5 })
  pub sheets : map (λ b. of_year (for_sheet b)) (1 ∷ 2 ∷ []) ≡ Sheet (kilograms (pos 833) (neg_ℤ (pos 42))) ∷ Sheet (kilograms (pos 467) (neg_ℤ (pos 8))) ∷ []
  -- of the four positions three are on counted investees, and two of these have a reduction set; the grades weigh 1,194,000 and 6,000
  pub book_total : of_year for_book_total ≡ Book (record {
    projects = subtotal (pos 300) (pos 0) (Some 10000) (Some 0);
    rest = subtotal (pos 1000) (neg_ℤ (pos 50)) (Some 6666) (Some 6666);
    all = subtotal (pos 1300) (neg_ℤ (pos 50)) (Some 7500) (Some 5000);
    mean_grade = Some 101;
  })
  pub book_total_of_an_empty_book : answer_to national_tables empty for_book_total ≡ Book (record { projects = nothing; rest = nothing; all = nothing; mean_grade = None })
  pub repaid_before_the_last_month : answer_to pudong_tables repaid (for_total 7) ≡ totalled (pos 0) 4
  pub not_repaid : answer_to pudong_tables (run pudong_tables repaid (post 1 7 12 60000 ∷ [])) (for_total 7) ≡ totalled (pos 1000) 0
