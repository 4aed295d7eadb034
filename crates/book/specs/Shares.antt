-- Shares of a figure and their sums, in numbers that fit 64 bits.
use Rattle.std.specs.Prelude.{ℕ, ◌*◌, ◌<◌, ◌≤◌, ℤ, pos, ◌+ℤ◌, unsigned_abs}
use Rattle.rules.specs.Figures.{most_figure}
use Rattle.rules.specs.Months.{months}
use Rattle.sources.specs.Limits.{most_kilograms}
use Rattle.plain.specs.declared.answers.Kilograms.{Kilograms}
use Rattle.plain.specs.EveryRun.{measured}
use Rattle.plain.specs.Limits.{most_exposure}
use Rattle.plain.specs.Readings.{both}

-- a figure, an exposure and a base of which figure × exposure / base is worked out
pub record Sizes (figure : ℤ) (exposure base : ℕ) : Type 0 where
  pub figure_within_limit : unsigned_abs figure ≤ most_kilograms
  pub exposure_within_limit : exposure ≤ most_exposure
  pub exposure_within_base : exposure ≤ base
  pub base_above_zero : 0 < base
  pub base_within_limit : base ≤ months * most_figure

-- both measures added
abbrev pub added : Kilograms → Kilograms → Kilograms
added k l = both (λ m. measured m k +ℤ measured m l)

-- none of either measure
abbrev pub no_kilograms : Kilograms
no_kilograms = record { emissions = pos 0; reductions = pos 0 }

-- no larger than n figures together
pub record AtMostFigures (n : ℕ) (k : Kilograms) : Type 0 where
  pub of_emissions : unsigned_abs k.emissions ≤ n * most_kilograms
  pub of_reductions : unsigned_abs k.reductions ≤ n * most_kilograms
