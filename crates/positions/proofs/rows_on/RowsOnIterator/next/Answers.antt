use Rattle.std.proofs.Common.{◌≡◌, ltb, get_or, length, is_some, IfSome, sym, ap, ◌∙◌}
use Rattle.key_index.specs.Keys.{keys_in}
use Rattle.positions.specs.RowsOn.{rows_left}
use Rattle.positions.proofs.Following.{walked, progress}
use Rattle.positions.proofs.rows_on.RowsOnIterator.next.Goals as goal

pub returns-clause-steps : goal.returns-clause-steps
returns-clause-steps c =
    let table = c.args.self.now.table.now in
    let rows = table.rows.items in
    let there : is_some c.get.result ≡ ltb c.in_ok-at.at (length rows) = c.get.ensures.lookup.0 ∙ ap (λ rs. ltb c.in_ok-at.at (length rs)) c.as_slice.ensures.value in
    let row : IfSome c.get.result (λ x. x.now ≡ get_or rows c.in_ok-at.at x.now) = rw (sym c.as_slice.ensures.value) c.get.ensures.lookup.1 in
    rw c.in_ok-at.was (walked rows (keys_in table.ids) table.indexed c.in_ok-at.at c.after-self.result c.after-self.ensures c.get.result there row)

pub returns-clause-goes : goal.returns-clause-goes
returns-clause-goes c = progress rows_left _ _ c.get.result (returns-clause-steps c)
