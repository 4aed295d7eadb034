-- What a gauge's log means, and that it is within the limits of a reading.
use Rattle.std.specs.Prelude.{cond, pos, Ok, Err, Result, nat_lt}
use Rattle.std.proofs.Common.{arith}
use Rattle.std.proofs.lemmas.Bool.{ltb-false}
use Rattle.faults.specs.Refusals.{fault}
use Rattle.faults.specs.declared.Fault.{Fault}
use Rattle.faults.specs.declared.Refusal.TheVariants.{FigureOutOfRange, Custom}
use Rattle.sources.specs.Limits.{most_kilograms}
use Rattle.sources.specs.Readings.{WithinLimits, reading}
use Rattle.sources.specs.Within.{unless-refused}
use Rattle.sources.specs.declared.reading.Reading.{Reading}
use Rattle.own_source.specs.declared.GaugeLog.{GaugeLog}

-- a gauge may stand still for 100 hours; refusal 7001 and source 101 are this source's own numbers
abbrev pub measured_meaning : GaugeLog → Result Reading Fault
measured_meaning log =
    cond (nat_lt 100 log.hours_down) (Err (fault (Custom 7001) 0 101))
    (cond (nat_lt most_kilograms log.kilograms) (Err (fault FigureOutOfRange 0 101))
    (Ok (reading (pos log.kilograms) 2)))

pub measured-within : (log : GaugeLog) → WithinLimits (measured_meaning log)
measured-within log =
    unless-refused (nat_lt 100 log.hours_down) _ _
    (λ _.
    unless-refused (nat_lt most_kilograms log.kilograms) _ _
    (λ e. record { size = ltb-false most_kilograms log.kilograms e; best = omega arith; worst = omega arith }))
