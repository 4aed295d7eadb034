-- The branches of a lender are numbered from 1.
use Rattle.std.specs.Prelude.{ℕ, ◌<◌, ◌≤◌, List}
use Rattle.plain.specs.Sums.{down_from}

-- how many branches a book has
abbrev pub branch_count : ℕ
branch_count = 40

-- their numbers, the last first
abbrev pub branches : List ℕ
branches = down_from branch_count

-- b is the number of a branch
abbrev pub Branch : ℕ → Type 0
Branch b = (0 < b) × (b ≤ branch_count)
