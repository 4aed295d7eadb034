-- A portfolio, whatever text it came from: a guide, investees with their sources, and posts.
--   method    how an investee's emissions are found, with its numbers
--   entry     an investee to be opened; its source is the offset layer over the overseas cut over the method
--   posting   a month's balance of a branch on an investee
use Rattle.std.specs.Prelude.{ℕ, List, Result}
use Rattle.factors.specs.declared.Activity.{Activity}
use Rattle.faults.specs.declared.Fault.{Fault}
use Rattle.rules.specs.declared.investees.InvesteeFields.{InvesteeFields}
use Rattle.sources.specs.Bottoms.{reported_meaning, physical_meaning, economic_meaning}
use Rattle.sources.specs.Layers.{overseas_meaning, offset_meaning}
use Rattle.sources.specs.declared.offset.OffsetFigures.{OffsetFigures}
use Rattle.sources.specs.declared.overseas.OverseasFigures.{OverseasFigures}
use Rattle.sources.specs.declared.reading.Reading.{Reading}
use Rattle.entries.specs.Bills.{bill_of}
use Rattle.entries.specs.declared.guide.Guide.{Guide}
use Rattle.entries.specs.declared.investee.InvesteeEntry.{InvesteeEntry}
use Rattle.entries.specs.declared.investee.PostEntry.{PostEntry}
use Rattle.entries.specs.declared.method.Method.{Method}
use Rattle.entries.specs.declared.method.Method.TheVariants as held

pub data PlainMethod : Type 0 where
  report : (kilograms mark : ℕ) → PlainMethod
  bill : (terms : List Activity) → PlainMethod
  sector_mean : (output mean : ℕ) → PlainMethod

pub record PlainEntry : Type 0 where
  pub fields : InvesteeFields
  pub overseas : OverseasFigures
  pub offsets : OffsetFigures
  pub method : PlainMethod

pub record PlainPortfolio : Type 0 where
  pub guide : Guide
  pub investees : List PlainEntry
  pub posts : List PostEntry

-- ---- what an investee's source means

abbrev pub method_meaning : PlainMethod → Result Reading Fault
method_meaning (report kilograms mark) = reported_meaning kilograms mark
method_meaning (bill terms) = physical_meaning terms
method_meaning (sector_mean output mean) = economic_meaning output mean

abbrev pub entry_meaning : PlainEntry → Result Reading Fault
entry_meaning e = offset_meaning e.offsets (overseas_meaning e.overseas (method_meaning e.method))

-- ---- the entry as a program holds it

abbrev pub held_method : PlainMethod → Method
held_method (report kilograms mark) = held.Report (record { kilograms = kilograms; mark = mark })
held_method (bill terms) = held.Bill (bill_of terms)
held_method (sector_mean output mean) = held.Mean (record { output = output; mean = mean })

abbrev pub held_entry : PlainEntry → InvesteeEntry
held_entry e = record { fields = e.fields; source = record { figures = e.offsets; below = record { figures = e.overseas; below = held_method e.method } } }
