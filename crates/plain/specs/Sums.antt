-- Sums of whole numbers over a list.
use Rattle.std.specs.Prelude.{ℕ, zero, suc, List, [], ◌∷◌, ℤ, pos, ◌+ℤ◌}

-- f x, added up over the x of a list
unfoldable pub sum_over : {X : Type 0} → List X → (X → ℤ) → ℤ
sum_over [] f = pos 0
sum_over (x ∷ xs) f = f x +ℤ sum_over xs f

-- the numbers n, .. 2, 1
unfoldable pub down_from : ℕ → List ℕ
down_from zero = []
down_from (suc n) = suc n ∷ down_from n
