-- How much one book holds.
use Rattle.std.specs.Prelude.{ℕ}
pub use Rattle.rules.specs.Investees.{most_exposure}

abbrev pub most_investees : ℕ
most_investees = 200

abbrev pub most_positions : ℕ
most_positions = 500

-- the largest balance of a month, in wan
abbrev pub most_balance : ℕ
most_balance = 9000000
