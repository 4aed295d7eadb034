use Rattle.portfolio.proofs.Steps.{line-ended}
use Rattle.portfolio.proofs.section.next_line.Goals as goal

pub returns : goal.returns
returns c = line-ended _ c.in_ok-line.line.now c.next.new.self.separator c.next.new.self.rest c.in_ok-line.ensures.steps.0 c.if-is_none.ensures
