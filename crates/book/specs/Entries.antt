-- The tests of posts and amendments.
--   entry     a branch, an investee's id, a month and a balance
--   counted   what the balance of one month counts in an exposure
use Rattle.std.specs.Prelude.{◌≡◌, ℕ, ◌*◌, false, cond, not, ◌&&◌, Some, None, Ok, Err, Option, Result, nat_lt}
use Rattle.faults.specs.Refusals.{fault}
use Rattle.faults.specs.declared.Fault.{Fault}
use Rattle.faults.specs.declared.Refusal.TheVariants.{NotOpen, EntryOutOfRange, BondOutsideClosingMonth, MonthAlreadyPosted, MonthNotPosted, PositionsFull, ExposureTooLarge, BondAboveDenominator}
use Rattle.rules.specs.Months.{months}
use Rattle.rules.specs.Tables.{Tables}
use Rattle.rules.specs.declared.kinds.Kind.{Kind}
use Rattle.plain.specs.Changes.{posted, amended}
use Rattle.plain.specs.Exposures.{is_bond, denominator_from}
use Rattle.plain.specs.Limits.{most_exposure}
use Rattle.plain.specs.PlainBook.{PlainInvestee, PlainBook, id_of, investee_of, is_posted}
use Rattle.plain.specs.Refused.{refuse, entry_out_of_range, bond_outside_closing, no_room_for, passes, too_much_lent}
use Rattle.book.specs.declared.rows.InvesteeRow.{InvesteeRow}
use Rattle.book.specs.Rows.{plain_investee}

-- ---- the investee that an entry is for

abbrev pub entry_on : Option PlainInvestee → ℕ → Result PlainInvestee Fault
entry_on None m = Err (fault NotOpen 0 0)
entry_on (Some x) m = cond (bond_outside_closing x m) (Err (fault BondOutsideClosingMonth 0 0)) (Ok x)

abbrev pub entry_for : PlainBook → ℕ → ℕ → ℕ → ℕ → Result PlainInvestee Fault
entry_for p b id m v = cond (entry_out_of_range b m v) (Err (fault EntryOutOfRange 0 0)) (entry_on (investee_of id p) m)

-- a row as what it stands for, or a fault
abbrev pub plain_result : Result InvesteeRow Fault → Result PlainInvestee Fault
plain_result (Ok x) = Ok (plain_investee x)
plain_result (Err f) = Err f

-- an entry for an investee of the book, within its ranges
pub record EntryFor (p : PlainBook) (b m v : ℕ) (x : PlainInvestee) : Type 0 where
  pub in_range : entry_out_of_range b m v ≡ false
  pub found : investee_of (id_of x) p ≡ Some x
  pub in_closing_month : bond_outside_closing x m ≡ false

-- ---- what else can be wrong

-- a fault as a failure
abbrev pub failing : Option Fault → Result (Unit {0}) Fault
failing None = Ok tt
failing (Some f) = Err f

-- a bond's is counted for each month of the year
abbrev pub counted : Kind → ℕ → ℕ
counted kind v = cond (is_bond kind) (months * v) v

-- so much is lent to the investee
abbrev pub too_much_at : Tables → PlainInvestee → ℕ → Option Fault
too_much_at t x s =
    refuse (nat_lt most_exposure s) ExposureTooLarge
    (refuse (is_bond x.profile.kind && passes s (denominator_from (t.bases x.profile.kind x.profile.figures))) BondAboveDenominator None)

abbrev pub post_fault : Tables → PlainBook → PlainInvestee → ℕ → ℕ → ℕ → Option Fault
post_fault t p x b m v =
    refuse (is_posted b (id_of x) m p.positions) MonthAlreadyPosted
    (refuse (no_room_for b (id_of x) p.positions) PositionsFull
    (too_much_lent t p x (posted b (id_of x) m v p.positions)))

abbrev pub amend_fault : Tables → PlainBook → PlainInvestee → ℕ → ℕ → ℕ → Option Fault
amend_fault t p x b m v =
    refuse (not (is_posted b (id_of x) m p.positions)) MonthNotPosted
    (too_much_lent t p x (amended b (id_of x) m v p.positions))
