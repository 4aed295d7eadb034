-- A list of any length in a table with a place for each element that there can be.
use Rattle.std.specs.Prelude.{ℕ, ◌-◌, List, ◌++◌, map, length, replicate, Some, None, Option}

-- in a table of n places: the elements, and None in every place after them
abbrev pub listed : {X : Type 0} → ℕ → List X → List (Option X)
listed n xs = map Some xs ++ replicate (n - length xs) None
