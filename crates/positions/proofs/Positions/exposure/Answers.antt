use Rattle.std.proofs.Common.{map, sym, refl, ap, ◌∙◌, rules, tests, arith}
use Rattle.std.proofs.lemmas.Iterator.{YieldsList-from_map}
use Rattle.std.proofs.lemmas.Iterator.Consumers.{YieldsList-at, YieldsList-from_first, sum_by_from_yields_List}
use Rattle.std.proofs.lemmas.Iterator.Adapters.{fits_from_length, at_most_from_yields_List}
use Rattle.plain.specs.Limits.{most_positions}
use Rattle.plain.specs.Exposures.{exposure_of, lent_by}
use Rattle.plain.specs.Parts.{exposures}
use Rattle.positions.specs.Rows.{plain_position, rows_on}
use Rattle.positions.specs.RowsOn.{rows_left}
use Rattle.positions.proofs.Walks.{on-view, exposures-rows}
use Rattle.positions.proofs.Positions.exposure.Goals as goal

pub returns : goal.returns
returns c =
    let rows = c.args.self.now.rows.items in
    sum_by_from_yields_List (λ row. exposure_of c.args.kind (plain_position row)) (rows_on c.args.id rows) _ _ c.sum.ensures.ran
    (YieldsList-from_map _ (λ row. exposure_of c.args.kind (plain_position row))
    (YieldsList-at c.map.ensures.source (YieldsList-from_first (λ y. y.now) rows_left (rows_on c.args.id rows) c.on.ensures.rows))
    c.map.ensures.closure (λ x r q k. search rules))
    ∙ sym (exposures-rows c.args.kind (rows_on c.args.id rows))
    ∙ ap (λ qs. exposures (map (lent_by c.args.kind) qs)) (on-view c.args.id rows)

pub sum-requires-clause-fits : goal.sum-requires-clause-fits
sum-requires-clause-fits c =
    let road = YieldsList-at c.map.ensures.source (YieldsList-from_first (λ y. y.now) rows_left (rows_left c.on.result) refl) in
    fits_from_length _ _ most_positions _ (at_most_from_yields_List road c.on.ensures.few) c.map.ensures.closure (omega arith) (λ x r q k. search (rules, tests))
