use Rattle.plain.proofs.Listed.{listed}
use Rattle.plain.proofs.listed_as_answered.Goals as goal

pub returns : goal.returns
returns c = listed
