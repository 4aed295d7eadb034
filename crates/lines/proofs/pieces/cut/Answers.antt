use Rattle.lines.proofs.Splits.{cut-at, cut-nowhere}
use Rattle.lines.proofs.pieces.cut.Goals as goal

pub returns-in-Some : goal.returns-in-Some
returns-in-Some c = cut-at c.args.separator c.args.bytes.now c.in-Some.end (c.in-Some.ensures)

pub returns-in-None : goal.returns-in-None
returns-in-None c = cut-nowhere c.args.separator c.args.bytes.now c.in-None.ensures
