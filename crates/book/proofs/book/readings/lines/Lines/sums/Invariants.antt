use Rattle.std.proofs.Common.{◌≡◌, take}
use Rattle.book.specs.Lines.{sums_of}
use Rattle.book.proofs.book.readings.lines.Lines.sums.Given as goal

abbrev pub invariant-loop-line : goal.invariant-loop-line
invariant-loop-line l = l.sums ≡ sums_of l.group (take l.line-index l.self.lines.now)
