use Rattle.std.proofs.Common.{length}
use Rattle.positions.specs.Rows.{rows_on}
use Rattle.positions.proofs.Walks.{NoTurnYet}
use Rattle.positions.proofs.Positions.turn.Given as goal

abbrev pub invariant-loop-row : goal.invariant-loop-row
invariant-loop-row l = NoTurnYet l.fn.kind l.branch (rows_on l.fn.id l.fn.self.rows.items) (length l.yielded) l.before
