use Rattle.std.proofs.Common.{eqb, ◌∙◌, rules, tests}
use Rattle.std.proofs.lemmas.Iterator.{YieldsList-from_slice}
use Rattle.std.proofs.lemmas.Iterator.Search.{any_from_yields_List}
use Rattle.positions.specs.Rows.{plain_position}
use Rattle.positions.proofs.Views.{any-view}
use Rattle.positions.proofs.Positions.has_branch.Goals as goal

pub returns : goal.returns
returns c =
    any_from_yields_List (λ row. eqb row.branch c.args.branch) _ _ _ c.any.ensures.ran
    (YieldsList-from_slice c.args.self.now.rows.items cc) (λ x b q k. search (rules, tests))
    ∙ any-view plain_position (λ q. eqb q.branch c.args.branch) c.args.self.now.rows.items
