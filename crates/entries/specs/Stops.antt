-- Where a file stops: a line, from 1, and the fault found there.
use Rattle.std.specs.Prelude.{ℕ}
use Rattle.faults.specs.declared.Fault.{Fault}
use Rattle.entries.specs.declared.stop.Stop.{Stop}

abbrev pub stop_at : ℕ → Fault → Stop
stop_at line f = record { line = line; fault = f }
