-- The months of a year, numbered from 1.
use Rattle.std.specs.Prelude.{ℕ, Bool, ◌&&◌, nat_le}
use Rattle.rules.specs.Months.{months}

-- the year has a month of this number
abbrev pub in_year : ℕ → Bool
in_year m = nat_le 1 m && nat_le m months
