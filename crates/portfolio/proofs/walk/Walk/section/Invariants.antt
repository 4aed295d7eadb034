use Rattle.std.proofs.Common.{◌≡◌, ℕ, ◌-◌, List, Result}
use Rattle.lines.specs.Pieces.{left_in}
use Rattle.portfolio_lines.specs.declared.misread.Misread.{Misread}
use Rattle.portfolio.specs.Rows.{Passes, passed}
use Rattle.portfolio.proofs.walk.Walk.section.Given as goal

abbrev pub invariant-loop-number : goal.invariant-loop-number
invariant-loop-number g l =
    (row : List ℕ → Result (Unit {0}) Misread) → Passes g.F.Fn l.read row
    → passed row l.count l.initial.self.number (left_in l.initial.self.lines) ≡ passed row (l.end - l.number) l.number (left_in l.self.lines)
