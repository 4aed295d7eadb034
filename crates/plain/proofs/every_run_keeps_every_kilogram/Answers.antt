use Rattle.plain.proofs.EveryRun.{every-run-keeps}
use Rattle.plain.proofs.every_run_keeps_every_kilogram.Goals as goal

pub returns : goal.returns
returns c = every-run-keeps
