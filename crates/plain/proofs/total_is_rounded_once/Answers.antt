use Rattle.plain.proofs.Parts.{total-is}
use Rattle.plain.proofs.total_is_rounded_once.Goals as goal

pub returns : goal.returns
returns c = λ a ok. total-is a ok.once_per_branch
