-- Worked cases: small books under the two guides, and what they answer.
use Rattle.std.specs.Prelude.{◌≡◌, ℕ, suc, List, [], ◌∷◌, map, ℤ, pos, neg_ℤ, Some, Ok}
use Rattle.factors.specs.declared.Activity.{Activity}
use Rattle.faults.specs.Refusals.{fault}
use Rattle.faults.specs.declared.Refusal.TheVariants.{BondAboveDenominator}
use Rattle.grading.specs.Mean.{mean_of}
use Rattle.rules.specs.National.{national_tables}
use Rattle.rules.specs.Pudong.{pudong_tables}
use Rattle.rules.specs.declared.figures.Figures.{Figures}
use Rattle.rules.specs.declared.investees.InvesteeFields.{InvesteeFields}
use Rattle.sources.specs.Bottoms.{physical_meaning}
use Rattle.sources.specs.Layers.{estimate_meaning}
use Rattle.sources.specs.Readings.{reading}
use Rattle.sources.specs.declared.estimate.EstimateFigures.{EstimateFigures}
use Rattle.plain.specs.declared.answers.Answer.{Answer}
use Rattle.plain.specs.declared.answers.Answer.TheVariants.{Done, Declined, Part, Total}
use Rattle.plain.specs.declared.answers.Kilograms.{Kilograms}
use Rattle.plain.specs.PlainBook.{PlainBook, empty}
use Rattle.plain.specs.Runs.{answer, answer_to, run}
use Rattle.plain.specs.Steps.{Meaning, for_part, for_total, Step, enter, reduce, post}

-- ---- a medium-sized company with a general loan outstanding for 200 days, and a revenue of 10,000 wan

abbrev pub company : ℕ → Figures → InvesteeFields
company kind figures = record { id = 7; kind = kind; sector = 0; size = 2; days = 200; figures = figures }

abbrev pub accounts : ℕ → ℕ → Figures
accounts revenue assets = record { investment = 0; revenue = revenue; total_assets = assets; initial_value = 0 }

-- a reading of grade 1
abbrev pub reads : ℤ → Meaning
reads kilograms = Ok (reading kilograms 1)

-- branches 1, 2, .. post these balances for month 1
abbrev pub posts : ℕ → List ℕ → List Step
posts b [] = []
posts b (v ∷ vs) = post b 7 1 v ∷ posts (suc b) vs

-- the company emits so much, and branches lend it so much in month 1, under the guide of the People's Bank
abbrev pub lent : ℤ → List ℕ → PlainBook
lent kilograms balances = run national_tables empty (enter (company 5 (accounts 10000 0)) (reads kilograms) ∷ posts 1 balances)

-- what the parts of these branches on 7 are
abbrev pub parts_asked : PlainBook → List ℕ → List Answer
parts_asked p branches = map (λ b. answer_to national_tables p (for_part 7 b)) branches

abbrev pub kilograms : ℤ → ℤ → Kilograms
kilograms e r = record { emissions = e; reductions = r }

-- a part of emissions, and nothing of a reduction
abbrev pub emitted : ℤ → Answer
emitted e = Part (kilograms e (pos 0))

-- a total of emissions with its reason, and nothing of a reduction
abbrev pub totalled : ℤ → ℕ → Answer
totalled e reason = Total (record { kilograms = kilograms e (pos 0); reason = reason; grade = 1 })

-- three branches with exposures of 40,000, and a reduction of −1,000 kg
abbrev pub thirds_with_reduction : PlainBook
thirds_with_reduction = run national_tables (lent (pos 1000) (40000 ∷ 40000 ∷ 40000 ∷ [])) (reduce 7 (reads (neg_ℤ (pos 1000))) ∷ [])

-- a part of n kg of emissions and of −n kg of the reduction
abbrev pub third_of : ℕ → Answer
third_of n = Part (kilograms (pos n) (neg_ℤ (pos n)))

-- ---- a bond with total assets of 1,000 wan, under the guide of Pudong

abbrev pub bond : PlainBook
bond = run pudong_tables empty (enter (company 6 (accounts 0 1000)) (reads (pos 1)) ∷ [])

-- ---- sources

-- a quantity with the row of its factor
abbrev pub activity : ℕ → ℕ → Activity
activity row quantity = record { row = row; quantity = quantity }

-- outputs of 100 in the report period and of 120 in the base period, which emitted 1,000 kg
abbrev pub periods : EstimateFigures
periods = record { report_output = 100; base_output = 120; base_kilograms = 1000 }

pub record WorkedCases : Type 0 where
  pub thirds_of_1000 : parts_asked thirds_with_reduction (1 ∷ 2 ∷ 3 ∷ 4 ∷ []) ≡ third_of 333 ∷ third_of 333 ∷ third_of 334 ∷ third_of 0 ∷ []
  -- more is lent than the denominator, so the exposures are the base
  pub exposures_120000_and_60000 : parts_asked (lent (pos 1000) (120000 ∷ 60000 ∷ [])) (1 ∷ 2 ∷ []) ≡ emitted (pos 666) ∷ emitted (pos 334) ∷ []
  pub halves_of_1 : parts_asked (lent (pos 1) (60000 ∷ 60000 ∷ [])) (1 ∷ 2 ∷ []) ≡ emitted (pos 0) ∷ emitted (pos 1) ∷ []
  pub exposure_6000 : answer_to national_tables (lent (pos 1000) (6000 ∷ [])) (for_total 7) ≡ totalled (pos 50) 0
  -- a small loan is left out, for reason 2
  pub exposure_5999 : answer_to national_tables (lent (pos 1000) (5999 ∷ [])) (for_total 7) ≡ totalled (pos 0) 2
  -- 1,000 kWh of power elsewhere and a litre of diesel
  pub energy_bill : physical_meaning (activity 6 1000 ∷ activity 3 1 ∷ []) ≡ Ok (reading (pos 573) 3)
  -- over a reading of 1,050 kg
  pub estimate : estimate_meaning periods (reads (pos 1050)) ≡ reads (neg_ℤ (pos 217))
  -- weights 199 and 1, grades 1 and 2
  pub mean_grade : mean_of {X = ℕ × ℕ} (λ x. x.0) (λ x. x.1) ((199, 1) ∷ (1, 2) ∷ []) ≡ Some 101
  pub bond_at_its_denominator : answer pudong_tables bond (post 1 7 12 1000) ≡ Done
  pub bond_past_its_denominator : answer pudong_tables bond (post 1 7 12 1001) ≡ Declined (fault BondAboveDenominator 0 0)
