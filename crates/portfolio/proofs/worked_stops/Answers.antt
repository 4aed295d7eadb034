use Rattle.portfolio.proofs.Worked.{worked}
use Rattle.portfolio.proofs.worked_stops.Goals as goal

pub returns : goal.returns
returns c = worked
