use Rattle.std.proofs.Common.{◌≡◌, ℕ, ◌+◌, ◌<◌, length, get_or, take}
use Rattle.plain.specs.Branches.{branch_count}
use Rattle.plain.specs.Readings.{part_of}
use Rattle.book.specs.Rows.{plain_investee}
use Rattle.book.specs.Shares.{no_kilograms}
use Rattle.book.specs.View.{plain}
use Rattle.book.proofs.Adding.{summed}
use Rattle.book.proofs.book.Book.all_sheets.Given as goal

abbrev pub invariant-loop-row : goal.invariant-loop-row
invariant-loop-row g l =
    (length l.sums ≡ branch_count)
    × ((n : ℕ) → n < branch_count → get_or l.sums n no_kilograms ≡ summed (λ x. part_of (g.R.Rule.tables l.self.rule.now) (plain l.self) (n + 1) (plain_investee x)) (take l.row-index l.row-items))
