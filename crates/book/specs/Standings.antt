-- How an investee stands in a book, and what of its figures falls to a branch's turn.
use Rattle.std.specs.Prelude.{◌≡◌, ℕ, ◌+◌, ◌<◌, ◌≤◌, max, cond, List, length, ℤ, pos, ◌-ℤ◌, ◌==◌, slice_index_or}
use Rattle.rules.specs.Tables.{Tables}
use Rattle.plain.specs.declared.answers.Kilograms.{Kilograms}
use Rattle.plain.specs.Exposures.{positions_on, exposure_to, denominator_of, reason_of, figure_of}
use Rattle.plain.specs.Kept.{InvesteeInRange}
use Rattle.plain.specs.Branches.{branch_count}
use Rattle.plain.specs.Limits.{most_investees, most_exposure}
use Rattle.plain.specs.Parts.{base_of}
use Rattle.plain.specs.PlainBook.{PlainInvestee, PlainPosition, PlainBook, id_of}
use Rattle.plain.specs.Readings.{both}
use Rattle.plain.specs.Rounding.{rounded}
use Rattle.book.specs.Shares.{Sizes, added, no_kilograms, AtMostFigures}
use Rattle.positions.specs.declared.lending.Turn.{Turn}
use Rattle.book.specs.declared.book.readings.Standing.{Standing}

abbrev pub standing_of : Tables → PlainBook → PlainInvestee → Standing
standing_of t p x = record {
  positions = length (positions_on (id_of x) p.positions);
  exposure = exposure_to x p.positions;
  base = max 1 (base_of (denominator_of t p x) (exposure_to x p.positions));
  reason = reason_of t p x;
}

-- what of a figure falls to a turn: nothing where the investee is not counted
abbrev pub falls : Standing → Turn → ℤ → ℤ
falls s turn figure =
    cond (s.reason == 0) (rounded figure (turn.before + turn.exposure) s.base -ℤ rounded figure turn.before s.base) (pos 0)

-- the same of both measures
abbrev pub both_fall : Standing → Turn → PlainInvestee → Kilograms
both_fall s turn x = both (λ m. falls s turn (figure_of m x))

-- all exposures together, as one turn
abbrev pub whole_turn : Standing → Turn
whole_turn s = record { before = 0; exposure = s.exposure }

-- what falls to it
abbrev pub all_falls : Standing → PlainInvestee → Kilograms
all_falls s x = both (λ m. cond (s.reason == 0) (rounded (figure_of m x) s.exposure s.base) (pos 0))

-- every product fits: the turn lies within the base, and both figures within their limits
pub record Fair (s : Standing) (turn : Turn) (x : PlainInvestee) : Type 0 where
  pub emissions : Sizes x.kilograms (turn.before + turn.exposure) s.base
  pub reductions : Sizes x.reduction (turn.before + turn.exposure) s.base

-- an investee as every book has it, with what was lent to it
pub record WithinBook (qs : List PlainPosition) (x : PlainInvestee) : Type 0 where
  pub in_range : InvesteeInRange x
  pub exposure_within_limit : exposure_to x qs ≤ most_exposure

-- a sum for each branch, to which another figure can be added
pub record RoomForParts (sums : List Kilograms) : Type 0 where
  pub long : length sums ≡ branch_count
  pub within_limit : (n : ℕ) → n < branch_count → AtMostFigures most_investees (slice_index_or sums n no_kilograms)

-- the sums with the parts of branch 1, 2, .. added
pub record WithParts (parts : ℕ → Kilograms) (old now : List Kilograms) : Type 0 where
  pub long : length now ≡ branch_count
  pub has_part : (n : ℕ) → n < branch_count → slice_index_or now n no_kilograms ≡ added (slice_index_or old n no_kilograms) (parts (n + 1))
