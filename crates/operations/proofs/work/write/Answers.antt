use Rattle.std.proofs.Common.{◌<◌, length, get_or, arith}
use Rattle.std.proofs.lemmas.List.{get_or_default}
use Rattle.std.proofs.lemmas.List.Edits.{map_over_more}
use Rattle.operations.specs.Items.{worked, item_of}
use Rattle.operations.proofs.work.write.Goals as goal

pub loop-item-preserved : goal.loop-item-preserved
loop-item-preserved c =
    let xs = c.args.items.now in
    let ys = c.loop-item.item-items in
    let i = c.loop-item.item-index in
    let lt : i < length xs = c.loop-item-test.true in
    let in_ys : i < length ys = omega arith in
    let x = get_or ys i (item_of 0 0 0) in
    let more = map_over_more worked xs ys i x lt c.loop-item.invariant (get_or_default ys i (item_of 0 0 0) x in_ys) in
    grind (arith, more)
