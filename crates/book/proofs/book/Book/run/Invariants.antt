use Rattle.std.proofs.Common.{◌≡◌}
use Rattle.book.specs.View.{plain}
use Rattle.book.proofs.Runs.{Sofar}
use Rattle.book.proofs.book.Book.run.Given as goal

abbrev pub invariant-loop-i : goal.invariant-loop-i
invariant-loop-i g l =
    (l.self.rule ≡ l.initial.self.rule)
    × Sofar (g.R.Rule.tables l.initial.self.rule.now) g.S.Source.meaning (plain l.initial.self) l.calls l.initial.answers l.i (plain l.self) l.answers
