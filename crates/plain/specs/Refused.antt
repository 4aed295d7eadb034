-- When a call is declined: the first of its refusals, in the order in which they are tried here, that applies.
use Rattle.std.specs.Prelude.{ℕ, Bool, false, cond, not, ◌&&◌, ◌||◌, List, length, pos, is_some, Some, None, Ok, Err, Option, Result, ◌==◌, int_lt, nat_le, nat_lt}
use Rattle.faults.specs.Refusals.{fault}
use Rattle.faults.specs.declared.Fault.{Fault}
use Rattle.faults.specs.declared.Refusal.{Refusal}
use Rattle.faults.specs.declared.Refusal.TheVariants.{ReadingBelowZero, AlreadyOpen, InvesteesFull, NotOpen, EntryOutOfRange, BondOutsideClosingMonth, MonthAlreadyPosted, MonthNotPosted, PositionsFull, ExposureTooLarge, BondAboveDenominator}
use Rattle.rules.specs.Investees.{PlainProfile, profile_of}
use Rattle.rules.specs.Months.{months}
use Rattle.rules.specs.Tables.{Tables}
use Rattle.rules.specs.declared.figures.Base.{Base}
use Rattle.sources.specs.declared.reading.Reading.{Reading}
use Rattle.plain.specs.Branches.{branch_count}
use Rattle.plain.specs.Changes.{posted, amended}
use Rattle.plain.specs.Exposures.{is_bond, exposure_to, denominator_of}
use Rattle.plain.specs.Limits.{most_investees, most_positions, most_balance, most_exposure}
use Rattle.plain.specs.Parts.{Denominator, at_least, whole}
use Rattle.plain.specs.PlainBook.{PlainInvestee, PlainPosition, PlainBook, investee_of, is_open, position_of, is_posted}
use Rattle.plain.specs.Steps.{Meaning, Query, for_part, for_total, for_sheet, for_book_total, Step, enter, restate, reduce, post, amend, ask}

-- ---- how refusals follow one another

-- a refusal where the test applies, and otherwise what follows
abbrev pub refuse : Bool → Refusal → Option Fault → Option Fault
refuse test refusal next = cond test (Some (fault refusal 0 0)) next

-- what follows for the investee, if it is open
abbrev pub if_open : Option PlainInvestee → (PlainInvestee → Option Fault) → Option Fault
if_open None next = Some (fault NotOpen 0 0)
if_open (Some x) next = next x

-- what follows for the profile, if every field is within its range
abbrev pub if_in_range : Result PlainProfile Fault → (PlainProfile → Option Fault) → Option Fault
if_in_range (Ok x) next = next x
if_in_range (Err f) next = Some f

-- what follows if the rule has a base for the investee
abbrev pub if_based : Result Base Refusal → Option Fault → Option Fault
if_based (Ok base) next = next
if_based (Err refusal) next = Some (fault refusal 0 0)

-- what follows for the reading, if the source has one; its fault is passed on as it is
abbrev pub if_read : Meaning → (Reading → Option Fault) → Option Fault
if_read (Ok r) next = next r
if_read (Err f) next = Some f

-- ---- tests

-- the number is not from 1 to 40
abbrev pub branch_out_of_range : ℕ → Bool
branch_out_of_range b = nat_lt b 1 || nat_lt branch_count b

-- branch, month or balance is not within its range
abbrev pub entry_out_of_range : ℕ → ℕ → ℕ → Bool
entry_out_of_range b m v = branch_out_of_range b || ((nat_lt m 1 || nat_lt months m) || nat_lt most_balance v)

-- a bond, and the month is not the last
abbrev pub bond_outside_closing : PlainInvestee → ℕ → Bool
bond_outside_closing x m = is_bond x.profile.kind && not (m == months)

-- a new position, and as many as there may be are held
abbrev pub no_room_for : ℕ → ℕ → List PlainPosition → Bool
no_room_for b id qs = not (is_some (position_of b id qs)) && nat_le most_positions (length qs)

-- exposures s are more than the amount to divide by
abbrev pub passes : ℕ → Denominator → Bool
passes s (at_least w) = nat_lt w s
passes s whole = false

-- these positions would bring the exposure to an investee of a book past its limit, or that to a bond past its denominator
abbrev pub too_much_lent : Tables → PlainBook → PlainInvestee → List PlainPosition → Option Fault
too_much_lent t p x qs =
    refuse (nat_lt most_exposure (exposure_to x qs)) ExposureTooLarge
    (refuse (is_bond x.profile.kind && passes (exposure_to x qs) (denominator_of t p x)) BondAboveDenominator None)

-- refused where the reading is below 0
abbrev pub below_zero : Reading → Option Fault
below_zero r = refuse (int_lt r.kilograms (pos 0)) ReadingBelowZero None

-- ---- the calls

-- the fault with which a query is declined, or nothing where it is answered
abbrev pub declined_query : PlainBook → Query → Option Fault
declined_query p (for_part id branch) = refuse (branch_out_of_range branch) EntryOutOfRange (if_open (investee_of id p) (λ x. None))
declined_query p (for_total id) = if_open (investee_of id p) (λ x. None)
declined_query p (for_sheet branch) = refuse (branch_out_of_range branch) EntryOutOfRange None
declined_query p for_book_total = None

-- the fault with which a call is declined, or nothing where it is accepted
abbrev pub declined : Tables → PlainBook → Step → Option Fault
declined t p (enter fields meaning) =
    if_in_range (profile_of fields) (λ x.
    refuse (is_open x.id p) AlreadyOpen
    (refuse (nat_le most_investees (length p.investees)) InvesteesFull
    (if_based (t.bases x.kind x.figures)
    (if_read meaning below_zero))))
declined t p (restate id meaning) = if_open (investee_of id p) (λ x. if_read meaning below_zero)
declined t p (reduce id meaning) = if_open (investee_of id p) (λ x. if_read meaning (λ r. None))
declined t p (post branch id month balance) =
    refuse (entry_out_of_range branch month balance) EntryOutOfRange
    (if_open (investee_of id p) (λ x.
    refuse (bond_outside_closing x month) BondOutsideClosingMonth
    (refuse (is_posted branch id month p.positions) MonthAlreadyPosted
    (refuse (no_room_for branch id p.positions) PositionsFull
    (too_much_lent t p x (posted branch id month balance p.positions))))))
declined t p (amend branch id month balance) =
    refuse (entry_out_of_range branch month balance) EntryOutOfRange
    (if_open (investee_of id p) (λ x.
    refuse (bond_outside_closing x month) BondOutsideClosingMonth
    (refuse (not (is_posted branch id month p.positions)) MonthNotPosted
    (too_much_lent t p x (amended branch id month balance p.positions)))))
declined t p (ask query) = declined_query p query
