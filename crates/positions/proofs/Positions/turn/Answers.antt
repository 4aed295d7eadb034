use Rattle.std.proofs.Common.{length, sym, ◌∙◌}
use Rattle.std.proofs.lemmas.Bool.{eqb-true, eqb-false}
use Rattle.std.proofs.lemmas.List.{length_push}
use Rattle.positions.specs.Rows.{rows_on}
use Rattle.positions.proofs.Walks.{row-next, rows-end, turn-past, turn-here, turn-never, turn-view}
use Rattle.positions.proofs.Positions.turn.Goals as goal

pub returns-then-is_of_branch : goal.returns-then-is_of_branch
returns-then-is_of_branch c =
    let rows = c.args.self.now.rows.items in
    let row = c.in-Some.row.now in
    let turn = row-next c.args.id rows c.into_iter-row-iterator.ensures.into_iter_gives c.on-row-items.ensures.rows c.loop-row.yielded c.loop-row.row-iterator c.loop-row.yielded_by _ c.next.new.self c.in-Some.row c.in-Some.is c.next.ensures.steps in
    turn-here c.args.kind c.args.branch (rows_on c.args.id rows) (length c.loop-row.yielded) row turn.0 turn.1 c.loop-row.before c.loop-row.invariant
    (eqb-true _ _ (sym c.is_of_branch.ensures ∙ c.if-is_of_branch.true)) c.exposure-exposure.result c.exposure-exposure.ensures.value
    ∙ turn-view c.args.kind c.args.id c.args.branch rows

pub loop-row-preserved : goal.loop-row-preserved
loop-row-preserved c =
    let rows = c.args.self.now.rows.items in
    let row = c.in-Some.row.now in
    let turn = row-next c.args.id rows c.into_iter-row-iterator.ensures.into_iter_gives c.on-row-items.ensures.rows c.loop-row.yielded c.loop-row.row-iterator c.loop-row.yielded_by _ c.next.new.self c.in-Some.row c.in-Some.is c.next.ensures.steps in
    rw (length_push c.loop-row.yielded c.in-Some.row)
    (turn-past c.args.kind c.args.branch (rows_on c.args.id rows) (length c.loop-row.yielded) row turn.0 turn.1 c.loop-row.before c.loop-row.invariant
    (eqb-false _ _ (sym c.is_of_branch.ensures ∙ c.if-is_of_branch.false)) c.exposure-exposure.result c.exposure-exposure.ensures.value c.exposure-exposure.ensures.bound)

pub returns : goal.returns
returns c =
    let rows = c.args.self.now.rows.items in
    let end = rows-end c.args.id rows c.into_iter-row-iterator.ensures.into_iter_gives c.on-row-items.ensures.rows c.loop-row.yielded c.loop-row.row-iterator c.loop-row.yielded_by _ c.next.new.self c.in-None.is c.next.ensures.steps in
    turn-never c.args.kind c.args.branch (rows_on c.args.id rows) (length c.loop-row.yielded) c.loop-row.before end c.loop-row.invariant
    ∙ turn-view c.args.kind c.args.id c.args.branch rows
