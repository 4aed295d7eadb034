-- Finding and changing one element of a list, and lists without two of a kind.
use Rattle.std.specs.Prelude.{Bool, cond, List, [], ◌∷◌, Some, None, Option}
use Rattle.std.specs.List.{AllByRecursion}

-- the first that passes a test
unfoldable pub first_of : {X : Type 0} → (X → Bool) → List X → Option X
first_of test [] = None
first_of test (x ∷ xs) = cond (test x) (Some x) (first_of test xs)

-- the first that passes a test is changed, and no other
unfoldable pub change_first : {X : Type 0} → (X → Bool) → (X → X) → List X → List X
change_first test change [] = []
change_first test change (x ∷ xs) = cond (test x) (change x ∷ xs) (x ∷ change_first test change xs)

-- R holds of every two, the one that stands first taken first
unfoldable pub Pairwise : {X : Type 0} → (X → X → Type 0) → List X → Type 0
Pairwise R [] = Unit {0}
Pairwise R (x ∷ xs) = AllByRecursion (R x) xs × Pairwise R xs
