use Rattle.std.proofs.Common.{◌≡◌, take}
use Rattle.plain.specs.Readings.{part_of}
use Rattle.book.specs.Rows.{plain_investee}
use Rattle.book.specs.View.{plain}
use Rattle.book.proofs.Adding.{summed}
use Rattle.book.proofs.book.Book.sheet_of.Given as goal

abbrev pub invariant-loop-row : goal.invariant-loop-row
invariant-loop-row g l = l.sum ≡ summed (λ x. part_of (g.R.Rule.tables l.self.rule.now) (plain l.self) l.branch (plain_investee x)) (take l.row-index l.row-items)
