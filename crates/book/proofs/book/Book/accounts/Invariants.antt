use Rattle.std.proofs.Common.{◌≡◌, map, take}
use Rattle.plain.specs.Limits.{most_investees}
use Rattle.plain.specs.Readings.{account_of}
use Rattle.book.specs.Listed.{listed}
use Rattle.book.specs.Rows.{plain_investee}
use Rattle.book.specs.View.{plain}
use Rattle.book.proofs.book.Book.accounts.Given as goal

abbrev pub invariant-loop-place : goal.invariant-loop-place
invariant-loop-place g l = l.accounts ≡ listed most_investees (map (λ x. account_of (g.R.Rule.tables l.self.rule.now) (plain l.self) (plain_investee x)) (take l.place l.row-items))
