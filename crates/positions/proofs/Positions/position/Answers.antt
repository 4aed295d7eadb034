use Rattle.std.proofs.Common.{◌≡◌, ℕ, [], Some, None, Option, option_map, get_or, sym, ap, ◌∙◌}
use Rattle.plain.specs.PlainBook.{is_of}
use Rattle.positions.specs.Places.{first_place}
use Rattle.positions.specs.Rows.{plain_position}
use Rattle.positions.specs.View.{positions_in}
use Rattle.positions.specs.declared.PositionRow.{PositionRow}
use Rattle.positions.proofs.Places.{first-nowhere, row-found}
use Rattle.positions.proofs.Positions.position.Goals as goal

pub returns-in_err-place : goal.returns-in_err-place
returns-in_err-place c =
    let none : ◌≡◌ {A = Option ℕ} None (first_place (is_of c.args.branch c.args.id) (positions_in c.args.self.now)) = sym c.in_err-place.was ∙ c.place.ensures in
    ap (option_map plain_position) c.from_residual.ensures
    ∙ sym (first-nowhere (is_of c.args.branch c.args.id) (positions_in c.args.self.now) none)

pub returns : goal.returns
returns c =
    let rows = c.args.self.now.rows.items in
    let no_row : PositionRow = record { branch = 0; id = 0; balances = [] } in
    let at : Some c.in_ok-place.field-0 ≡ first_place (is_of c.args.branch c.args.id) (positions_in c.args.self.now) = sym c.in_ok-place.was ∙ c.place.ensures in
    ap (λ rs. Some (plain_position (get_or rs c.in_ok-place.field-0 no_row))) c.as_slice.ensures.value
    ∙ sym (row-found plain_position (is_of c.args.branch c.args.id) rows c.in_ok-place.field-0 at no_row)
