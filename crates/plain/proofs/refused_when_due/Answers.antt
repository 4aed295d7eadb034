use Rattle.plain.proofs.Due.{refused-when-due}
use Rattle.plain.proofs.refused_when_due.Goals as goal

pub returns : goal.returns
returns c = refused-when-due
