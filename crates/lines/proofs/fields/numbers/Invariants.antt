use Rattle.std.proofs.Common.{◌≡◌}
use Rattle.lines.specs.Pieces.{left_in}
use Rattle.lines.proofs.Rows.{Sofar}
use Rattle.lines.proofs.fields.numbers.Given as goal

abbrev pub invariant-loop-i : goal.invariant-loop-i
invariant-loop-i g l = Sofar g.row.K 0 l.i (left_in l.fn.fields) l.n-items (left_in l.ahead) × (l.ahead.separator ≡ l.fn.fields.separator)
