-- When each refusal is due, in plain statements. A call is declined with a refusal exactly when that one is due and none
-- that is tried before it, and is accepted exactly when none is due.
use Rattle.std.specs.Prelude.{◌≡◌, ℕ, ◌<◌, ◌≤◌, true, false, ◌≢◌, ◌⊎◌, List, [], ◌∷◌, length, pos, ◌<ℤ◌, is_some, Some, None, Ok, Err, Option}
use Rattle.faults.specs.Refusals.{fault}
use Rattle.faults.specs.declared.Fault.{Fault}
use Rattle.faults.specs.declared.Refusal.{Refusal}
use Rattle.faults.specs.declared.Refusal.TheVariants.{KindNotCovered, FigureNotGiven, FieldOutOfRange, ReadingBelowZero, AlreadyOpen, InvesteesFull, NotOpen, EntryOutOfRange, BondOutsideClosingMonth, MonthAlreadyPosted, MonthNotPosted, PositionsFull, ExposureTooLarge, BondAboveDenominator}
use Rattle.rules.specs.Investees.{WithinRanges}
use Rattle.rules.specs.Kinds.{kind_number}
use Rattle.rules.specs.Months.{months}
use Rattle.rules.specs.Tables.{Tables, Lawful}
use Rattle.rules.specs.declared.investees.InvesteeFields.{InvesteeFields}
use Rattle.rules.specs.declared.kinds.Kind.{Kind}
use Rattle.rules.specs.declared.kinds.Kind.TheVariants.{Bond}
use Rattle.sources.specs.declared.reading.Reading.{Reading}
use Rattle.plain.specs.Branches.{branch_count}
use Rattle.plain.specs.Changes.{posted, amended}
use Rattle.plain.specs.Exposures.{exposure_to, denominator_of}
use Rattle.plain.specs.Limits.{most_investees, most_positions, most_balance, most_exposure}
use Rattle.plain.specs.Parts.{at_least}
use Rattle.plain.specs.PlainBook.{PlainInvestee, PlainPosition, PlainBook, investee_of, is_open, position_of, is_posted}
use Rattle.plain.specs.Refused.{declined}
use Rattle.plain.specs.Steps.{Meaning, Query, for_part, for_total, for_sheet, for_book_total, Step, enter, restate, reduce, post, amend, ask}

-- which faults are due, at one place of the order
abbrev pub Case : Type 1
Case = Fault → Type 0

-- r is the first fault that is due, or nothing
unfoldable pub FirstDue : List Case → Option Fault → Type 0
FirstDue [] r = r ≡ None
FirstDue (Due ∷ later) r = ((f : Fault) → Due f → r ≡ Some f) × (((f : Fault) → Due f → ⊥) → FirstDue later r)

-- a refusal, where something holds
infix 3 ◌due_if◌
abbrev pub ◌due_if◌ : Refusal → Type 0 → Case
◌due_if◌ refusal Holds f = Holds × (f ≡ fault refusal 0 0)

-- the source's own fault
abbrev pub source_fault : Meaning → Case
source_fault meaning f = meaning ≡ Err f

-- ---- what the refusals speak of

-- the source has a reading, of less than 0 kilograms
abbrev pub BelowZero : Meaning → Type 0
BelowZero meaning = (r : Reading) × (meaning ≡ Ok r) × (r.kilograms <ℤ pos 0)

-- the rule has this refusal for the kind and the figures of the fields
abbrev pub RuleRefuses : Tables → InvesteeFields → Refusal → Type 0
RuleRefuses t fields refusal = (kind : Kind) × (kind_number kind ≡ fields.kind) × (t.bases kind fields.figures ≡ Err refusal)

-- the number is that of no branch
abbrev pub NoBranch : ℕ → Type 0
NoBranch b = (b < 1) ⊎ (branch_count < b)

-- branch, month or balance is out of range
abbrev pub NoEntry : ℕ → ℕ → ℕ → Type 0
NoEntry b m v = NoBranch b ⊎ (((m < 1) ⊎ (months < m)) ⊎ (most_balance < v))

-- the investee of an id is open, and something holds of it
abbrev pub OfOpen : ℕ → PlainBook → (PlainInvestee → Type 0) → Type 0
OfOpen id p Holds = (x : PlainInvestee) × (investee_of id p ≡ Some x) × Holds x

abbrev pub IsBond : PlainInvestee → Type 0
IsBond x = x.profile.kind ≡ Bond

-- a bond has an amount to divide by, and its exposure is more
abbrev pub BondPasses : Tables → PlainBook → List PlainPosition → PlainInvestee → Type 0
BondPasses t p qs x = IsBond x × ((w : ℕ) × (denominator_of t p x ≡ at_least w) × (w < exposure_to x qs))

-- ---- the order of each call

-- the refusals of each query, in the order in which they are tried
abbrev pub query_cases : PlainBook → Query → List Case
query_cases p (for_part id b) = (EntryOutOfRange due_if NoBranch b) ∷ (NotOpen due_if (is_open id p ≡ false)) ∷ []
query_cases p (for_total id) = (NotOpen due_if (is_open id p ≡ false)) ∷ []
query_cases p (for_sheet b) = (EntryOutOfRange due_if NoBranch b) ∷ []
query_cases p for_book_total = []

-- and of each call
abbrev pub cases : Tables → PlainBook → Step → List Case
cases t p (enter fields meaning) =
    (FieldOutOfRange due_if (WithinRanges fields → ⊥))
    ∷ (AlreadyOpen due_if (is_open fields.id p ≡ true))
    ∷ (InvesteesFull due_if (most_investees ≤ length p.investees))
    ∷ (KindNotCovered due_if RuleRefuses t fields KindNotCovered)
    ∷ (FigureNotGiven due_if RuleRefuses t fields FigureNotGiven)
    ∷ source_fault meaning
    ∷ (ReadingBelowZero due_if BelowZero meaning)
    ∷ []
cases t p (restate id meaning) = (NotOpen due_if (is_open id p ≡ false)) ∷ source_fault meaning ∷ (ReadingBelowZero due_if BelowZero meaning) ∷ []
cases t p (reduce id meaning) = (NotOpen due_if (is_open id p ≡ false)) ∷ source_fault meaning ∷ []
cases t p (post b id m v) =
    (EntryOutOfRange due_if NoEntry b m v)
    ∷ (NotOpen due_if (is_open id p ≡ false))
    ∷ (BondOutsideClosingMonth due_if OfOpen id p (λ x. IsBond x × (m ≢ months)))
    ∷ (MonthAlreadyPosted due_if (is_posted b id m p.positions ≡ true))
    ∷ (PositionsFull due_if ((is_some (position_of b id p.positions) ≡ false) × (most_positions ≤ length p.positions)))
    ∷ (ExposureTooLarge due_if OfOpen id p (λ x. most_exposure < exposure_to x (posted b id m v p.positions)))
    ∷ (BondAboveDenominator due_if OfOpen id p (BondPasses t p (posted b id m v p.positions)))
    ∷ []
cases t p (amend b id m v) =
    (EntryOutOfRange due_if NoEntry b m v)
    ∷ (NotOpen due_if (is_open id p ≡ false))
    ∷ (BondOutsideClosingMonth due_if OfOpen id p (λ x. IsBond x × (m ≢ months)))
    ∷ (MonthNotPosted due_if (is_posted b id m p.positions ≡ false))
    ∷ (ExposureTooLarge due_if OfOpen id p (λ x. most_exposure < exposure_to x (amended b id m v p.positions)))
    ∷ (BondAboveDenominator due_if OfOpen id p (BondPasses t p (amended b id m v p.positions)))
    ∷ []
cases t p (ask query) = query_cases p query

-- so it is of each call, under every lawful rule
abbrev pub RefusedWhenDue : Type 0
RefusedWhenDue = (t : Tables) → Lawful t → (p : PlainBook) (c : Step) → FirstDue (cases t p c) (declined t p c)
