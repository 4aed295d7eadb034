use Rattle.book.specs.Rows.{plain_investee}
use Rattle.book.specs.View.{plain}
use Rattle.book.proofs.Propositions.{within_of}
use Rattle.book.proofs.WithinBook.{fair-turn}
use Rattle.book.proofs.book.readings.Held.part.Goals as goal

pub shares-requires : goal.shares-requires
shares-requires g c =
    let held = c.args.self.now in
    let rule = held.book.now.rule.now in
    let p = plain held.book.now in
    let x = plain_investee held.row in
    fair-turn (g.R.Rule.tables rule) (g.R.Rule.lawful rule) p x (within_of p.positions x held.within) c.standing.result c.turn-turn.result c.args.branch c.standing.ensures c.turn-turn.ensures
