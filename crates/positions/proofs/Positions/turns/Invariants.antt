use Rattle.std.proofs.Common.{length}
use Rattle.positions.proofs.Turns.{TurnsSofar}
use Rattle.positions.specs.Rows.{rows_on}
use Rattle.positions.proofs.Positions.turns.Given as goal

abbrev pub invariant-loop-row : goal.invariant-loop-row
invariant-loop-row l = TurnsSofar l.fn.kind (rows_on l.fn.id l.fn.self.rows.items) (length l.yielded) l.before l.turns
