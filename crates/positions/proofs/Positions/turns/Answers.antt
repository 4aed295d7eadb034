use Rattle.std.proofs.Common.{length}
use Rattle.std.proofs.lemmas.List.{length_push}
use Rattle.positions.proofs.Turns.{turns-first, turns-on, turns-all}
use Rattle.positions.specs.Rows.{rows_on}
use Rattle.positions.proofs.Walks.{row-next, rows-end}
use Rattle.positions.proofs.Positions.turns.Goals as goal

pub loop-row-init : goal.loop-row-init
loop-row-init c = turns-first c.args.kind (rows_on c.args.id c.args.self.now.rows.items)

pub loop-row-preserved : goal.loop-row-preserved
loop-row-preserved c =
    let rows = c.args.self.now.rows.items in
    let row = c.in-Some.row.now in
    let turn = row-next c.args.id rows c.into_iter-row-iterator.ensures.into_iter_gives c.on-row-items.ensures.rows c.loop-row.yielded c.loop-row.row-iterator c.loop-row.yielded_by _ c.next.new.self c.in-Some.row c.in-Some.is c.next.ensures.steps in
    rw (length_push c.loop-row.yielded c.in-Some.row)
    (turns-on c.args.kind (rows_on c.args.id rows) (length c.loop-row.yielded) row turn.0 turn.1 c.loop-row.before c.loop-row.turns c.loop-row.invariant
    c.exposure-exposure.result c.exposure-exposure.ensures.value c.exposure-exposure.ensures.bound c.note.new.turns c.note.ensures)

pub returns : goal.returns
returns c =
    let rows = c.args.self.now.rows.items in
    let end = rows-end c.args.id rows c.into_iter-row-iterator.ensures.into_iter_gives c.on-row-items.ensures.rows c.loop-row.yielded c.loop-row.row-iterator c.loop-row.yielded_by _ c.next.new.self c.in-None.is c.next.ensures.steps in
    turns-all c.args.kind c.args.id rows (length c.loop-row.yielded) c.loop-row.before c.loop-row.turns end c.loop-row.invariant
