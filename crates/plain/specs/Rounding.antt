-- How a fraction of a figure becomes whole kilograms, and how large the error can be.
-- The three statements on the error stand here, under names of their own, since they change when the rounding does; of all
-- proofs that reason about `rounded` only proofs/Rounding.antt unfolds it.
use Rattle.std.specs.Prelude.{◌≡◌, ℕ, ◌*◌, ◌<◌, ◌≤◌, ◌↔◌, ℤ, pos, ◌*ℤ◌, int_div}
use Rattle.plain.specs.Fractions.{Fraction, gap}

-- figure × exposure / base, rounded toward zero
unfoldable pub rounded : ℤ → ℕ → ℕ → ℤ
rounded figure exposure base = int_div (figure *ℤ pos exposure) (pos base)

-- a part of n kilograms and its exact share x: less than one kilogram apart
abbrev pub PartNearShare : ℤ → Fraction → Type 0
PartNearShare n x = gap n x < x.bottom

-- a total of n kilograms over k counted investees and the sum x of all exact shares: at most k kilograms apart
abbrev pub TotalNearExactSum : ℕ → ℤ → Fraction → Type 0
TotalNearExactSum k n x = gap n x ≤ k * x.bottom

-- the total is the whole figure exactly when the exposures reach the denominator
abbrev pub TotalIsFigureWhen : Type 0 → ℤ → ℤ → Type 0
TotalIsFigureWhen Reached total figure = (total ≡ figure) ↔ Reached
