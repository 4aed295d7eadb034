use Rattle.std.proofs.Common.{length}
use Rattle.lines.specs.Fields.{pieces, pieces_left}
use Rattle.bills.proofs.Sofar.{Sofar}
use Rattle.bills.proofs.reading.read_lines.Given as goal

abbrev pub invariant-loop-line : goal.invariant-loop-line
invariant-loop-line l = Sofar (pieces 10 l.text) l.items.items l.number (pieces_left l.lines.separator l.lines.rest)

abbrev pub decreases-loop-line : goal.decreases-loop-line
decreases-loop-line l = length (pieces_left l.lines.separator l.lines.rest)
