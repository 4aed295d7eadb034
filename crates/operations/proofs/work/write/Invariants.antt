use Rattle.std.proofs.Common.{◌≡◌, ◌++◌, map, take, drop}
use Rattle.operations.specs.Items.{worked}
use Rattle.operations.proofs.work.write.Given as goal

abbrev pub invariant-loop-item : goal.invariant-loop-item
invariant-loop-item l = l.item-items ≡ map worked (take l.item-index l.initial.item-items) ++ drop l.item-index l.initial.item-items
