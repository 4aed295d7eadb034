use Rattle.std.proofs.Common.{◌≡◌, map, take}
use Rattle.book.specs.Lines.{line_of}
use Rattle.book.specs.Rows.{plain_investee}
use Rattle.book.specs.View.{plain}
use Rattle.book.proofs.book.Book.lines.Given as goal

abbrev pub invariant-loop-row : goal.invariant-loop-row
invariant-loop-row g l = l.lines.items ≡ map (λ x. line_of (g.R.Rule.tables l.self.rule.now) (plain l.self) (plain_investee x)) (take l.row-index l.row-items)
