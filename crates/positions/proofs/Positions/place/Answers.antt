use Rattle.std.proofs.Common.{◌≡◌, ◌<◌, get_or, [], Some, None, sym, ap, ◌∙◌}
use Rattle.std.proofs.lemmas.Bool.{eqb-true, eqb-false}
use Rattle.std.proofs.lemmas.List.{get_or_default}
use Rattle.key_index.specs.Places.{first_place, next_place}
use Rattle.positions.specs.declared.PositionRow.{PositionRow}
use Rattle.positions.proofs.Seeking.{Seeking, seek-start, seek-here, seek-on, seek-shorter, found-is, rows_after}
use Rattle.positions.proofs.Positions.place.Goals as goal

pub loop-next-init : goal.loop-next-init
loop-next-init c =
    let table = c.args.self.now in
    seek-start c.args.branch c.args.id table.rows.items c.first-next.result (c.first-next.ensures ∙ ap (first_place c.args.id) table.indexed)

pub returns-then-is_of_branch : goal.returns-then-is_of_branch
returns-then-is_of_branch c =
    let rows = c.args.self.now.rows.items in
    let seeking : Seeking c.args.branch c.args.id rows (Some c.in-Some.at) = rw (sym c.in-Some.is) c.loop-next.invariant in
    let row : PositionRow = get_or c.as_slice.result.now c.in-Some.at (record { branch = 0; id = 0; balances = [] }) in
    let is : row ≡ get_or rows c.in-Some.at row = ap (λ rs. get_or rs c.in-Some.at (record { branch = 0; id = 0; balances = [] })) c.as_slice.ensures.value ∙ get_or_default rows c.in-Some.at _ _ seeking.there.0 in
    seek-here c.args.branch c.args.id rows c.in-Some.at seeking row is (eqb-true row.branch c.args.branch (sym c.is_of_branch.ensures ∙ c.if-is_of_branch.true))
    ∙ found-is c.args.branch c.args.id rows

pub loop-next-smaller : goal.loop-next-smaller
loop-next-smaller c =
    let table = c.args.self.now in
    let rows = table.rows.items in
    let seeking : Seeking c.args.branch c.args.id rows (Some c.in-Some.at) = rw (sym c.in-Some.is) c.loop-next.invariant in
    let row : PositionRow = get_or c.as_slice.result.now c.in-Some.at (record { branch = 0; id = 0; balances = [] }) in
    let is : row ≡ get_or rows c.in-Some.at row = ap (λ rs. get_or rs c.in-Some.at (record { branch = 0; id = 0; balances = [] })) c.as_slice.ensures.value ∙ get_or_default rows c.in-Some.at _ _ seeking.there.0 in
    let shorter : rows_after c.args.branch c.args.id rows c.after-next.result < rows_after c.args.branch c.args.id rows (Some c.in-Some.at) =
    seek-shorter c.args.branch c.args.id rows c.in-Some.at seeking row is c.after-next.result (c.after-next.ensures ∙ ap (next_place c.in-Some.at) table.indexed) in
    rw c.in-Some.is shorter

pub loop-next-preserved : goal.loop-next-preserved
loop-next-preserved c =
    let table = c.args.self.now in
    let rows = table.rows.items in
    let seeking : Seeking c.args.branch c.args.id rows (Some c.in-Some.at) = rw (sym c.in-Some.is) c.loop-next.invariant in
    let row : PositionRow = get_or c.as_slice.result.now c.in-Some.at (record { branch = 0; id = 0; balances = [] }) in
    let is : row ≡ get_or rows c.in-Some.at row = ap (λ rs. get_or rs c.in-Some.at (record { branch = 0; id = 0; balances = [] })) c.as_slice.ensures.value ∙ get_or_default rows c.in-Some.at _ _ seeking.there.0 in
    seek-on c.args.branch c.args.id rows c.in-Some.at seeking row is (eqb-false row.branch c.args.branch (sym c.is_of_branch.ensures ∙ c.if-is_of_branch.false))
    c.after-next.result (c.after-next.ensures ∙ ap (next_place c.in-Some.at) table.indexed)

pub returns : goal.returns
returns c =
    let rows = c.args.self.now.rows.items in
    let seeking : Seeking c.args.branch c.args.id rows None = rw (sym c.in_default.is) c.loop-next.invariant in
    seeking.same ∙ found-is c.args.branch c.args.id rows
