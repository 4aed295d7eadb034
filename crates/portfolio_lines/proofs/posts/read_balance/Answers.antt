use Rattle.std.proofs.Common.{rules}
use Rattle.portfolio_lines.proofs.Texts.{reads_balances}
use Rattle.portfolio_lines.proofs.posts.read_balance.Goals as goal

pub returns-in_err-balance-clause-lines : goal.returns-in_err-balance-clause-lines
returns-in_err-balance-clause-lines c = reads_balances _ _ (search rules)

pub returns-clause-lines : goal.returns-clause-lines
returns-clause-lines c = reads_balances _ _ (search rules)
