use Rattle.std.proofs.Common.{◌≡◌, ◌+◌, drop}
use Rattle.lines.proofs.NumberLines.{bytes_of}
use Rattle.lines.proofs.writing.line_fits.Given as goal

abbrev pub invariant-loop-n : goal.invariant-loop-n
invariant-loop-n l = bytes_of l.numbers + l.left ≡ l.room + bytes_of (drop l.n-index l.numbers)
