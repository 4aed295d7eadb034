use Rattle.std.proofs.Common.{length}
use Rattle.positions.specs.Rows.{rows_on}
use Rattle.positions.proofs.Walks.{LentSofar}
use Rattle.positions.proofs.Positions.lending.Given as goal

abbrev pub invariant-loop-row : goal.invariant-loop-row
invariant-loop-row l = LentSofar l.fn.kind (rows_on l.fn.id l.fn.self.rows.items) (length l.yielded) l.lending
