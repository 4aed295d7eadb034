-- The figures of an investee's accounts, in wan; 0 stands for a figure that is not given.
use Rattle.std.specs.Prelude.{◌≡◌, ℕ, ◌≤◌, Bool, cond, ◌&&◌, Ok, Err, Result, ◌==◌, nat_le}
use Rattle.faults.specs.declared.Refusal.{Refusal}
use Rattle.faults.specs.declared.Refusal.TheVariants.{FigureNotGiven}
use Rattle.rules.specs.declared.figures.Base.{Base}
use Rattle.rules.specs.declared.figures.Base.TheVariants.{Amount, Whole}
use Rattle.rules.specs.declared.figures.Figures.{Figures}

-- the largest figure
abbrev pub most_figure : ℕ
most_figure = 500000000

-- no figure is over its limit
pub record WithinLimits (f : Figures) : Type 0 where
  pub investment : f.investment ≤ most_figure
  pub revenue : f.revenue ≤ most_figure
  pub total_assets : f.total_assets ≤ most_figure
  pub initial_value : f.initial_value ≤ most_figure

-- the same, as a test
abbrev pub within_limits : Figures → Bool
within_limits f =
    nat_le f.investment most_figure && (nat_le f.revenue most_figure
    && (nat_le f.total_assets most_figure && nat_le f.initial_value most_figure))

-- a figure as a base; nothing can be divided by one that is not given
abbrev pub given : ℕ → Result Base Refusal
given n = cond (n == 0) (Err FigureNotGiven) (Ok (Amount n))

-- a figure as a base, or whatever the exposures add up to where it is not given
abbrev pub given_or_whole : ℕ → Result Base Refusal
given_or_whole n = cond (n == 0) (Ok Whole) (Ok (Amount n))

-- exposures are divided by the figure n, which has to be given
pub record DividedBy (n : ℕ) (r : Result Base Refusal) : Type 0 where
  pub if_given : 1 ≤ n → r ≡ Ok (Amount n)
  pub if_not : n ≡ 0 → r ≡ Err FigureNotGiven

-- exposures are divided by the figure n, or by what they add up to where it is not given
pub record DividedByOrWhole (n : ℕ) (r : Result Base Refusal) : Type 0 where
  pub if_given : 1 ≤ n → r ≡ Ok (Amount n)
  pub if_not : n ≡ 0 → r ≡ Ok Whole
