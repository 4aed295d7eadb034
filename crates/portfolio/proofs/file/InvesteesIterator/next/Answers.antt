use Rattle.std.proofs.Common.{rules}
use Rattle.portfolio.proofs.Steps.{entry_next}
use Rattle.portfolio.proofs.file.InvesteesIterator.next.Goals as goal

pub returns-clause-steps : goal.returns-clause-steps
returns-clause-steps c = (entry_next _ _ (λ line r gave. search rules) _ _ _ c.read_next.ensures.read, c.read_next.ensures.left)
