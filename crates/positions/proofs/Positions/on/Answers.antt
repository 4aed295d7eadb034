use Rattle.std.proofs.Common.{eqb, length, refl, ap, ap₂, ◌∙◌, arith}
use Rattle.std.proofs.lemmas.Iterator.Adapters.{position_from-zero}
use Rattle.key_index.specs.Places.{first_place}
use Rattle.positions.specs.Rows.{ids_of, rows_from}
use Rattle.positions.proofs.Following.{rows-found, rows-few}
use Rattle.positions.proofs.Positions.on.Goals as goal

pub returns-clause-rows : goal.returns-clause-rows
returns-clause-rows c =
    let rows = c.args.self.now.rows.items in
    ap (rows_from rows) (c.first.ensures ∙ ap₂ first_place c.from.ensures c.args.self.now.indexed ∙ position_from-zero (λ k. eqb k c.args.id) (ids_of rows)) ∙ rows-found c.args.id rows 0 rows refl

pub returns-clause-few : goal.returns-clause-few
returns-clause-few c =
    let rows = c.args.self.now.rows.items in
    let long = ap length (returns-clause-rows c) in
    omega (arith, long, rows-few c.args.id rows, c.args.self.now.few)
