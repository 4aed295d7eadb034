use Rattle.std.proofs.Common.{[], ◌∷◌, ◌++◌, map, ap, ◌∙◌}
use Rattle.std.proofs.lemmas.List.{map_push}
use Rattle.positions.specs.Entries.{written}
use Rattle.positions.specs.Rows.{plain_position}
use Rattle.positions.specs.View.{positions_in}
use Rattle.positions.proofs.Positions.add.Goals as goal

pub returns-clause-added : goal.returns-clause-added
returns-clause-added c =
    ap (λ rows. map plain_position rows) c.push.ensures.items
    ∙ map_push plain_position c.args.self.now.rows.items c.write.new.self
    ∙ ap (λ q. positions_in c.args.self.now ++ q ∷ []) (c.write.ensures ∙ ap (written c.args.month c.args.balance) c.new-row.ensures)
