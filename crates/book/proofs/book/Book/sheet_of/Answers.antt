use Rattle.std.proofs.Common.{ap, ◌∙◌, arith, take_all}
use Rattle.plain.specs.Limits.{most_investees}
use Rattle.book.specs.View.{plain}
use Rattle.book.proofs.Adding.{none-kilograms, summed, summed-none, summed-more}
use Rattle.book.proofs.Sheets.{row_part, parts-sofar-within, next-part-within, sheet-rows}
use Rattle.book.proofs.WithinBook.{rows-within, row-within}
use Rattle.book.proofs.book.Book.sheet_of.Goals as goal

pub loop-row-init : goal.loop-row-init
loop-row-init g c = none-kilograms _ c.default-sum.ensures ∙ summed-none _

pub invariant_of-part : goal.invariant_of-part
invariant_of-part g c =
    let book = c.args.self.now in
    let read = c.as_slice-row-items.result.now in
    record { within = ∣ row-within book.investees.items book.positions book.kept read c.as_slice-row-items.ensures.value c.loop-row.row-index c.row-item.result c.loop-row-test.true c.row-item.is ∣₁ }

pub added-sum-requires : goal.added-sum-requires
added-sum-requires g c =
    let book = c.args.self.now in
    let t = g.R.Rule.tables book.rule.now in
    let read = c.as_slice-row-items.result.now in
    let all = rows-within book.investees.items book.positions book.kept read c.as_slice-row-items.ensures.value in (
      parts-sofar-within t (plain book) c.args.branch read all c.loop-row.row-index c.loop-row-test.true most_investees c.loop-row.sum (omega (arith, c.as_slice-row-items.ensures.fits)) c.loop-row.invariant,
      next-part-within t (plain book) c.args.branch read all c.loop-row.row-index c.loop-row-test.true c.row-item.result c.part-part.result
          (c.part-part.ensures ∙ ap (row_part t (plain book) c.args.branch) c.row-item.is),
    )

pub loop-row-preserved : goal.loop-row-preserved
loop-row-preserved g c =
    let book = c.args.self.now in
    let falls = row_part (g.R.Rule.tables book.rule.now) (plain book) c.args.branch in
    c.added-sum.ensures
    ∙ summed-more falls c.as_slice-row-items.result.now c.loop-row.row-index c.row-item.result c.loop-row-test.true
    c.loop-row.sum c.part-part.result c.loop-row.invariant (c.part-part.ensures ∙ ap falls c.row-item.is)

pub returns : goal.returns
returns g c =
    let book = c.args.self.now in
    let t = g.R.Rule.tables book.rule.now in
    c.loop-row.invariant
    ∙ ap (summed (row_part t (plain book) c.args.branch)) (take_all c.loop-row.row-index c.as_slice-row-items.result.now c.loop-row-test.false ∙ c.as_slice-row-items.ensures.value)
    ∙ sheet-rows t book.investees.items book.positions c.args.branch
