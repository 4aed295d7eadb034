-- Places in a list, counted from 0.
use Rattle.std.specs.Prelude.{ℕ, zero, suc, Bool, List, [], ◌∷◌, position, Option}

-- where the first that passes a test stands: after all that do not
abbrev pub first_place : {X : Type 0} → (X → Bool) → List X → Option ℕ
first_place test xs = position test xs

-- the one at a place is changed, and no other
unfoldable pub change_at : {X : Type 0} → ℕ → (X → X) → List X → List X
change_at k change [] = []
change_at zero change (x ∷ xs) = change x ∷ xs
change_at (suc k) change (x ∷ xs) = x ∷ change_at k change xs
