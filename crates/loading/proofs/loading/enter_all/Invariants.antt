use Rattle.std.proofs.Common.{◌≡◌, ◌+◌, ◌^◌, ◌<◌, List}
use Rattle.std.specs.Iterator.{size}
use Rattle.plain.specs.Steps.{Step}
use Rattle.book.specs.View.{plain}
use Rattle.loading.specs.Entering.{GivesCalls}
use Rattle.loading.proofs.OneByOne.{Entering}
use Rattle.loading.proofs.loading.enter_all.Given as goal

abbrev pub invariant-loop-entry : goal.invariant-loop-entry
invariant-loop-entry g l =
    ((left : g.row.I.Denot → List Step) → GivesCalls g.I.Iterator.next_gives g.I.Item.Entry.call left
    → Entering (g.R.Rule.tables l.initial.book.rule.now) l.first (plain l.initial.book) (left l.fn.entries) (g.R.Rule.tables l.book.rule.now) l.line (plain l.book) (left l.entry-iterator))
    × (l.book.rule ≡ l.initial.book.rule)
    × (l.line + size (g.I.Iterator.remaining l.entry-iterator) < 2 ^ 32)
