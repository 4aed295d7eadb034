use Rattle.std.proofs.Common.{◌∙◌}
use Rattle.plain.specs.Limits.{most_investees}
use Rattle.book.proofs.Adding.{none-sums, sums_none, sums-sofar-within, next-within, sums-more}
use Rattle.book.proofs.Propositions.{lines_of}
use Rattle.book.proofs.book.readings.lines.Lines.sums.Goals as goal

pub loop-line-init : goal.loop-line-init
loop-line-init c = none-sums _ c.default-sums.ensures ∙ sums_none c.args.group

pub plus-sums-requires : goal.plus-sums-requires
plus-sums-requires c =
    let lines = c.args.self.now.lines.now in
    let k = c.loop-line.line-index in (
      sums-sofar-within c.args.group lines k c.loop-line-test.true (lines_of lines c.args.self.now.within) most_investees c.loop-line.sums c.args.self.now.few c.loop-line.invariant,
      next-within c.args.group lines k c.loop-line-test.true (lines_of lines c.args.self.now.within) _ c.taken.result c.taken.ensures,
    )

pub loop-line-preserved : goal.loop-line-preserved
loop-line-preserved c =
    let lines = c.args.self.now.lines.now in
    c.plus-sums.ensures
    ∙ sums-more c.args.group c.args.self.now.lines.now c.loop-line.line-index c.loop-line-test.true (lines_of lines c.args.self.now.within) _ c.loop-line.sums c.taken.result c.loop-line.invariant c.taken.ensures
