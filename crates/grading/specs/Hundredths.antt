-- Hundredths as they are printed.
use Rattle.std.specs.Prelude.{ℕ, ◌/◌, ◌%◌, List, ◌++◌, Some, None, codes, decimal, Option}

-- hundredths with two decimals; `-` where there are none
abbrev pub two_decimals : Option ℕ → List ℕ
two_decimals None = codes "-"
two_decimals (Some h) = decimal (h / 100) ++ (codes "." ++ (decimal (h / 10 % 10) ++ decimal (h % 10)))
