use Rattle.std.proofs.Common.{length}
use Rattle.key_index.proofs.Chains.{Looking, left_from}
use Rattle.key_index.proofs.KeyIndex.find.Given as goal

abbrev pub invariant-loop-next : goal.invariant-loop-next
invariant-loop-next g l = Looking l.fn.key l.fn.self.links.items l.fn.from l.next

abbrev pub decreases-loop-next : goal.decreases-loop-next
decreases-loop-next g l = left_from (length l.fn.self.links.items) l.next
