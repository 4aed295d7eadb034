use Rattle.positions.proofs.Seeking.{Seeking, rows_after}
use Rattle.positions.proofs.Positions.place.Given as goal

abbrev pub invariant-loop-next : goal.invariant-loop-next
invariant-loop-next l = Seeking l.fn.branch l.fn.id l.fn.self.rows.items l.next

abbrev pub decreases-loop-next : goal.decreases-loop-next
decreases-loop-next l = rows_after l.fn.branch l.fn.id l.fn.self.rows.items l.next
