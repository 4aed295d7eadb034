use Rattle.std.proofs.Common.{[], refl, rules}
use Rattle.portfolio_lines.specs.Lines.{balance_of}
use Rattle.portfolio.proofs.Steps.{value-next, post-none}
use Rattle.portfolio.proofs.file.PostsIterator.next.Goals as goal

pub returns-in_default-clause-steps : goal.returns-in_default-clause-steps
returns-in_default-clause-steps c =
    (post-none _ [] _ _ (value-next _ _ balance_of (λ line r gave. search rules) _ _ _ c.in_default.ensures.read), refl)
