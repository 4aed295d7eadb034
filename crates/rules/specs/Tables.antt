-- A rule, as its two tables.
--   bases     a kind and figures, to what exposures are divided by
--   reasons   how an investee is financed, to 0 (counted) or a reason from 1 to 9
-- Both ranges are asked of what a book can ask: of figures within their limits, and of financings in range.
use Rattle.std.specs.Prelude.{◌≡◌, ℕ, ◌≤◌, ◌⊎◌, Ok, Err, Result}
use Rattle.faults.specs.declared.Refusal.{Refusal}
use Rattle.faults.specs.declared.Refusal.TheVariants.{KindNotCovered, FigureNotGiven}
use Rattle.rules.specs.declared.figures.Base.{Base}
use Rattle.rules.specs.declared.figures.Base.TheVariants.{Amount, Whole}
use Rattle.rules.specs.declared.figures.Figures.{Figures}
use Rattle.rules.specs.declared.investees.Financing.{Financing}
use Rattle.rules.specs.declared.kinds.Kind.{Kind}
use Rattle.rules.specs.Figures.{most_figure, WithinLimits}
use Rattle.rules.specs.Investees.{FinancingInRange}

pub record Tables : Type 0 where
  pub bases : Kind → Figures → Result Base Refusal
  pub reasons : Financing → ℕ

-- the reason of an investee as it is financed
abbrev pub reason_for : Tables → Financing → ℕ
reason_for t f = t.reasons f

-- an amount that a figure can be, whatever the exposures add up to, or one of a rule's two refusals
abbrev pub BaseInRange : Result Base Refusal → Type 0
BaseInRange (Ok (Amount n)) = (1 ≤ n) × (n ≤ most_figure)
BaseInRange (Ok Whole) = Unit {0}
BaseInRange (Err e) = (e ≡ KindNotCovered) ⊎ (e ≡ FigureNotGiven)

-- what every rule shows of its tables
pub record Lawful (t : Tables) : Type 0 where
  pub bases_in_range : (kind : Kind) (figures : Figures) → WithinLimits figures → BaseInRange (t.bases kind figures)
  pub reasons_in_range : (financing : Financing) → FinancingInRange financing → t.reasons financing ≤ 9
