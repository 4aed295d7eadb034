-- Refusals with their numbers, and faults.
use Rattle.std.specs.Prelude.{ℕ, List, ◌++◌, codes, decimal}
use Rattle.faults.specs.declared.Fault.{Fault}
use Rattle.faults.specs.declared.Refusal.{Refusal}
use Rattle.faults.specs.declared.Refusal.TheVariants.{FigureOutOfRange, NeitherVerifiedNorDisclosed, TermCount, ResultTooLarge, OverseasAboveReading, OffsetsAboveReading, KindNotCovered, FigureNotGiven, FieldOutOfRange, ReadingBelowZero, AlreadyOpen, InvesteesFull, NotOpen, EntryOutOfRange, BondOutsideClosingMonth, MonthAlreadyPosted, MonthNotPosted, PositionsFull, ExposureTooLarge, BondAboveDenominator, FieldNotAsLaidOut, FileBeyondLimits, LineMissing, PageTooShort, OwnItem, Custom}

-- the number that a report prints for a refusal
abbrev pub number_of : Refusal → ℕ
-- emission sources: a figure, mark or row outside its range
number_of FigureOutOfRange = 1
-- a report that is neither verified nor publicly disclosed
number_of NeitherVerifiedNorDisclosed = 2
-- an energy bill of no term, or of more than 16
number_of TermCount = 3
-- a result over 10^12 kilograms in size
number_of ResultTooLarge = 4
-- an overseas part above the reading that it is cut from
number_of OverseasAboveReading = 5
-- offsets above the reading that they are taken from
number_of OffsetsAboveReading = 6
-- attribution rules: the kind is not in the rule
number_of KindNotCovered = 10
-- the figure that the rule needs is 0, not given
number_of FigureNotGiven = 11
-- the book: a field of an investee outside its range
number_of FieldOutOfRange = 12
-- emissions below zero
number_of ReadingBelowZero = 13
-- an investee of this id is already open
number_of AlreadyOpen = 14
-- 200 investees are held
number_of InvesteesFull = 15
-- no investee of this id is open
number_of NotOpen = 16
-- a branch that is not 1 to 40, a month that is not 1 to 12, or a balance over 9,000,000
number_of EntryOutOfRange = 20
-- a bond, and the month is not 12
number_of BondOutsideClosingMonth = 21
-- the month is posted already
number_of MonthAlreadyPosted = 22
-- the month to amend is not posted
number_of MonthNotPosted = 23
-- a new position, and 500 are held
number_of PositionsFull = 24
-- the investee's exposure would pass 9,000,000
number_of ExposureTooLarge = 25
-- a bond's exposure would pass twelve times its amount
number_of BondAboveDenominator = 26
-- the portfolio file: a line that is not as laid out, at its first wrong, missing or surplus field
number_of FieldNotAsLaidOut = 30
-- a file over 65,536 bytes, or a first line with a number beyond its limits
number_of FileBeyondLimits = 31
-- a line missing or not ended, or bytes after the last line
number_of LineMissing = 32
-- a buffer under 8,192 bytes
number_of PageTooShort = 33
-- own operations: an item out of range or over 10^12 kilograms, or more than 64 items
number_of OwnItem = 40
-- whatever a caller's own source means by it
number_of (Custom n) = n

abbrev pub fault : Refusal → ℕ → ℕ → Fault
fault refusal place source = record { refusal = refusal; place = place; source = source }

-- a fault as it is printed
abbrev pub fault_text : Fault → List ℕ
fault_text f = codes "refusal " ++ (decimal (number_of f.refusal) ++ (codes ", place " ++ (decimal f.place ++ (codes ", source " ++ decimal f.source))))
