use Rattle.plain.proofs.ShutOut.{shut_out}
use Rattle.plain.proofs.simpler_answers_shut_out.Goals as goal

pub returns : goal.returns
returns c = shut_out
