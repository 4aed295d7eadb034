-- Balances of months as any numbers ask for them: where the year has no such month there is none, and none is written.
use Rattle.std.specs.Prelude.{ℕ, Bool, cond, not, ◌&&◌, List, Some, None, Option}
use Rattle.plain.specs.PlainBook.{PlainPosition, balance_of, with_balance}
use Rattle.plain.specs.Refused.{no_room_for}
use Rattle.positions.specs.Years.{in_year}

-- the balance of month m, if there is a position and the month was posted
abbrev pub balance_in : ℕ → Option PlainPosition → Option ℕ
balance_in m None = None
balance_in m (Some q) = balance_of m q

-- a position with a balance written
abbrev pub written : ℕ → ℕ → PlainPosition → PlainPosition
written m v q = cond (in_year m) (with_balance m v q) q

-- a balance can be entered: the year has the month, and the position is there or there is room for it
abbrev pub can_enter : ℕ → ℕ → ℕ → List PlainPosition → Bool
can_enter b id m qs = in_year m && not (no_room_for b id qs)
