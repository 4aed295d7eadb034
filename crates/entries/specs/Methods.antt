-- What a method means as a source.
use Rattle.std.specs.Prelude.{Result}
use Rattle.faults.specs.declared.Fault.{Fault}
use Rattle.sources.specs.Bottoms.{reported_meaning, physical_meaning, economic_meaning}
use Rattle.sources.specs.Readings.{WithinLimits}
use Rattle.sources.specs.Within.{reported-within, physical-within, economic-within}
use Rattle.sources.specs.declared.reading.Reading.{Reading}
use Rattle.entries.specs.Bills.{terms_in}
use Rattle.entries.specs.declared.method.Method.{Method}
use Rattle.entries.specs.declared.method.Method.TheVariants.{Report, Bill, Mean}

abbrev pub held_meaning : Method → Result Reading Fault
held_meaning (Report r) = reported_meaning r.kilograms r.mark
held_meaning (Bill b) = physical_meaning (terms_in b)
held_meaning (Mean e) = economic_meaning e.output e.mean

pub held-within : (m : Method) → WithinLimits (held_meaning m)
held-within (Report r) = reported-within r.kilograms r.mark
held-within (Bill b) = physical-within (terms_in b)
held-within (Mean e) = economic-within e.output e.mean
