use Rattle.plain.specs.Readings.{part_of}
use Rattle.book.specs.Rows.{plain_investee}
use Rattle.book.specs.View.{plain}
use Rattle.book.proofs.AllSheets.{AddedSofar}
use Rattle.book.proofs.book.readings.Held.add_parts.Given as goal

abbrev pub invariant-loop-k : goal.invariant-loop-k
invariant-loop-k g l = AddedSofar (λ b. part_of (g.R.Rule.tables l.self.book.now.rule.now) (plain l.self.book.now) b (plain_investee l.self.row)) l.initial.sums l.sums l.k
