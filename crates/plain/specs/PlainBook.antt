-- The plain book: investees in the order of their openings, and positions in the order of their first posts.
--   investee   what was opened: its profile, the kilograms and grade of its last reading, its reduction
--   position   what one branch has lent to one investee: a balance for each month of the year that was posted
use Rattle.std.specs.Prelude.{ℕ, ◌-◌, Bool, false, ◌&&◌, List, [], replicate, ℤ, is_some, Some, None, Option, ◌==◌, slice_index_or, slice_set}
use Rattle.rules.specs.Months.{months}
use Rattle.rules.specs.Investees.{PlainProfile}
use Rattle.plain.specs.Lists.{first_of}

-- a reduction is 0 until one is set
pub record PlainInvestee : Type 0 where
  pub profile : PlainProfile
  pub kilograms : ℤ
  pub grade : ℕ
  pub reduction : ℤ
  pub reduced : Bool

pub record PlainPosition : Type 0 where
  pub branch : ℕ
  pub id : ℕ
  pub balances : List (Option ℕ)

pub record PlainBook : Type 0 where
  pub investees : List PlainInvestee
  pub positions : List PlainPosition

abbrev pub empty : PlainBook
empty = record { investees = []; positions = [] }

-- a book with other investees, or other positions
abbrev pub with_investees : PlainBook → List PlainInvestee → PlainBook
with_investees p xs = record { investees = xs; positions = p.positions }

abbrev pub with_positions : PlainBook → List PlainPosition → PlainBook
with_positions p qs = record { investees = p.investees; positions = qs }

-- ---- investees

abbrev pub id_of : PlainInvestee → ℕ
id_of x = x.profile.id

abbrev pub has_id : ℕ → PlainInvestee → Bool
has_id id x = id_of x == id

-- the investee of an id
abbrev pub investee_of : ℕ → PlainBook → Option PlainInvestee
investee_of id p = first_of (has_id id) p.investees

-- an investee of this id is in the book
abbrev pub is_open : ℕ → PlainBook → Bool
is_open id p = is_some (investee_of id p)

-- ---- positions

-- the position is that of branch b on the investee of this id
abbrev pub is_of : ℕ → ℕ → PlainPosition → Bool
is_of b id q = q.branch == b && q.id == id

-- the position of branch b on the investee of this id
abbrev pub position_of : ℕ → ℕ → List PlainPosition → Option PlainPosition
position_of b id qs = first_of (is_of b id) qs

-- a position before its first post
abbrev pub new_position : ℕ → ℕ → PlainPosition
new_position b id = record { branch = b; id = id; balances = replicate months None }

-- the balance of month m, from 1
abbrev pub balance_of : ℕ → PlainPosition → Option ℕ
balance_of m q = slice_index_or q.balances (m - 1) None

-- the position with the balance v in month m, and its other months as they were
abbrev pub with_balance : ℕ → ℕ → PlainPosition → PlainPosition
with_balance m v q = record { branch = q.branch; id = q.id; balances = slice_set q.balances (m - 1) (Some v) }

-- there is a position, and its month m has a balance
abbrev pub posted_in : ℕ → Option PlainPosition → Bool
posted_in m None = false
posted_in m (Some q) = is_some (balance_of m q)

-- month m of branch b on the investee has a balance
abbrev pub is_posted : ℕ → ℕ → ℕ → List PlainPosition → Bool
is_posted b id m qs = posted_in m (position_of b id qs)
