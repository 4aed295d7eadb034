use Rattle.plain.specs.Limits.{most_investees}
use Rattle.book.proofs.Adding.{sums-within}
use Rattle.book.proofs.Propositions.{lines_of}
use Rattle.book.proofs.book.readings.lines.Lines.subtotal.Goals as goal

pub subtotal-requires : goal.subtotal-requires
subtotal-requires c = rw c.sums.ensures (sums-within c.args.group c.args.self.now.lines.now most_investees c.args.self.now.few (lines_of c.args.self.now.lines.now c.args.self.now.within))
