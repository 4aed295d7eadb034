use Rattle.std.proofs.Common.{◌<◌, ◌≤◌, ◌∷◌, [], ◌++◌, length, sym, ◌∙◌, arith}
use Rattle.std.proofs.lemmas.Bool.Decides.{nat_tests}
use Rattle.std.proofs.lemmas.List.{length_push, take_all, take-append-le}
use Rattle.bills.specs.Bills.{most_held}
use Rattle.bills.proofs.reading.keep.Goals as goal

pub returns-then-not-is_full : goal.returns-then-not-is_full
returns-then-not-is_full c =
    let items = c.args.items.now.items in
    let some : length items < most_held = grind (arith, nat_tests) in
    c.push.ensures.items ∙ sym (take_all most_held (items ++ c.args.item ∷ []) (omega (arith, some, length_push items c.args.item)))

pub returns-else-not-is_full : goal.returns-else-not-is_full
returns-else-not-is_full c =
    let items = c.args.items.now.items in
    let full : most_held ≤ length items = grind (arith, nat_tests) in
    sym (take-append-le most_held items (c.args.item ∷ []) full ∙ take_all most_held items c.is_full.ensures.fits)
