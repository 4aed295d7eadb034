use Rattle.book.specs.Rows.{plain_investee}
use Rattle.book.specs.View.{plain}
use Rattle.book.proofs.Propositions.{kept_of, within_of}
use Rattle.book.proofs.Totals.{line-told}
use Rattle.book.proofs.WithinBook.{fair-whole}
use Rattle.book.proofs.book.readings.Held.line.Goals as goal

pub whole_shares-requires : goal.whole_shares-requires
whole_shares-requires g c =
    let held = c.args.self.now in
    let rule = held.book.now.rule.now in
    let p = plain held.book.now in
    let x = plain_investee held.row in
    fair-whole (g.R.Rule.tables rule) (g.R.Rule.lawful rule) p x (within_of p.positions x held.within) c.standing-standing.result c.standing-standing.ensures

pub returns : goal.returns
returns g c =
    let held = c.args.self.now in
    let p = plain held.book.now in
    line-told (g.R.Rule.tables held.book.now.rule.now) p (kept_of p held.book.now.kept) (plain_investee held.row) c.standing-standing.result c.whole_shares.result c.is_project.result c.is_counted.result c.is_some.result
    c.standing-standing.ensures c.whole_shares.ensures c.is_project.ensures c.is_counted.ensures c.is_some.ensures
