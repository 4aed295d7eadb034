-- The year of a book.
use Rattle.std.specs.Prelude.{ℕ}

-- how many months it has
abbrev pub months : ℕ
months = 12
