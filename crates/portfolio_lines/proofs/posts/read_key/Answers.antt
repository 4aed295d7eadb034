use Rattle.std.proofs.Common.{rules}
use Rattle.portfolio_lines.proofs.Texts.{reads_keys}
use Rattle.portfolio_lines.proofs.posts.read_key.Goals as goal

pub returns-in_err-branch-clause-lines : goal.returns-in_err-branch-clause-lines
returns-in_err-branch-clause-lines c = reads_keys _ _ (search rules)

pub returns-clause-lines : goal.returns-clause-lines
returns-clause-lines c = reads_keys _ _ (search rules)
