-- The two halves of an opening: what the book and its rule say of the fields, and what the source says.
use Rattle.std.specs.Prelude.{cond, length, pos, Ok, Err, Result, int_lt, nat_le}
use Rattle.faults.specs.Refusals.{fault}
use Rattle.faults.specs.declared.Fault.{Fault}
use Rattle.faults.specs.declared.Refusal.{Refusal}
use Rattle.faults.specs.declared.Refusal.TheVariants.{ReadingBelowZero, AlreadyOpen, InvesteesFull}
use Rattle.rules.specs.Investees.{PlainProfile, profile_of}
use Rattle.rules.specs.Tables.{Tables}
use Rattle.rules.specs.declared.figures.Base.{Base}
use Rattle.rules.specs.declared.investees.InvesteeFields.{InvesteeFields}
use Rattle.plain.specs.Limits.{most_investees}
use Rattle.plain.specs.PlainBook.{PlainBook, is_open}
use Rattle.plain.specs.Steps.{Meaning}

-- the reading, unless it is below zero
abbrev pub emissions_in : Meaning → Meaning
emissions_in (Ok r) = cond (int_lt r.kilograms (pos 0)) (Err (fault ReadingBelowZero 0 0)) (Ok r)
emissions_in (Err f) = Err f

-- a profile for which the rule has a base
abbrev pub based_on : Result Base Refusal → PlainProfile → Result PlainProfile Fault
based_on (Ok base) x = Ok x
based_on (Err refusal) x = Err (fault refusal 0 0)

-- a new one for which there is room
abbrev pub taken_as : Tables → PlainBook → Result PlainProfile Fault → Result PlainProfile Fault
taken_as t p (Ok x) =
    cond (is_open x.id p) (Err (fault AlreadyOpen 0 0))
    (cond (nat_le most_investees (length p.investees)) (Err (fault InvesteesFull 0 0))
    (based_on (t.bases x.kind x.figures) x))
taken_as t p (Err f) = Err f

abbrev pub taken_by : Tables → PlainBook → InvesteeFields → Result PlainProfile Fault
taken_by t p fields = taken_as t p (profile_of fields)
