-- Fractions, and how far a whole number lies from one. Nothing is ever divided: both sides are multiplied by the bottom.
use Rattle.std.specs.Prelude.{ℕ, ◌*◌, List, [], ◌∷◌, ℤ, pos, ◌+ℤ◌, ◌-ℤ◌, ◌*ℤ◌, unsigned_abs}

-- top / bottom
pub record Fraction : Type 0 where
  pub top : ℤ
  pub bottom : ℕ

infix 5 ◌over◌
abbrev pub ◌over◌ : ℤ → ℕ → Fraction
t over b = record { top = t; bottom = b }

-- t / b + t' / b' = (t × b' + t' × b) / (b × b')
abbrev pub add_fractions : Fraction → Fraction → Fraction
add_fractions x y = (x.top *ℤ pos y.bottom +ℤ y.top *ℤ pos x.bottom) over (x.bottom * y.bottom)

-- the fraction of each x, added up over the x of a list
unfoldable pub sum_of_fractions : {X : Type 0} → List X → (X → Fraction) → Fraction
sum_of_fractions [] f = pos 0 over 1
sum_of_fractions (x ∷ xs) f = add_fractions (f x) (sum_of_fractions xs f)

-- how far the whole number n lies from the fraction x, times the bottom of x
abbrev pub gap : ℤ → Fraction → ℕ
gap n x = unsigned_abs (n *ℤ pos x.bottom -ℤ x.top)
