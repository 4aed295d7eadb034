use Rattle.std.proofs.Common.{cond, None, ap, ◌∙◌}
use Rattle.positions.specs.Entries.{balance_in}
use Rattle.positions.specs.Years.{in_year}
use Rattle.positions.proofs.Positions.balance.Goals as goal

pub returns : goal.returns
returns c = c.balance.ensures ∙ ap (λ q. cond (in_year c.args.month) (balance_in c.args.month q) None) c.in_ok-position.ensures
