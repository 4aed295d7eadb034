use Rattle.std.proofs.Common.{drop}
use Rattle.lines.specs.Render.{number_line}
use Rattle.lines.proofs.NumberLines.{after_first}
use Rattle.lines.proofs.Writes.{Left}
use Rattle.lines.proofs.writing.Writer.put_line.Given as goal

abbrev pub invariant-loop-n : goal.invariant-loop-n
invariant-loop-n l = Left l.fn.self (number_line l.fn.numbers) l.self (after_first (drop l.n-index l.rest))
