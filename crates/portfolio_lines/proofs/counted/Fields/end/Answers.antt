use Rattle.std.proofs.Common.{sym}
use Rattle.portfolio_lines.proofs.Counts.{surplus}
use Rattle.portfolio_lines.proofs.counted.Fields.end.Goals as goal

pub returns-then-is_some : goal.returns-then-is_some
returns-then-is_some c = surplus tt c.args.self.now.place c.args.self.now.pieces.separator c.args.self.now.pieces.rest (sym c.if-is_some.ensures)
