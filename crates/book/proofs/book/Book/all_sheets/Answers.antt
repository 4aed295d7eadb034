use Rattle.std.proofs.Common.{◌+◌, get_or, refl, ap, ◌∙◌, arith, take_all}
use lib.ListN.{get_or-replicate}
use Rattle.plain.specs.Branches.{branch_count}
use Rattle.plain.specs.Limits.{most_investees}
use Rattle.book.specs.Shares.{no_kilograms}
use Rattle.book.specs.View.{plain}
use Rattle.book.proofs.Adding.{none-kilograms, summed, summed-none, summed-more}
use Rattle.book.proofs.Sheets.{row_part, parts-sofar-within, sheet-rows}
use Rattle.book.proofs.WithinBook.{rows-within, row-within}
use Rattle.book.proofs.book.Book.all_sheets.Goals as goal

pub invariant_of-add_parts : goal.invariant_of-add_parts
invariant_of-add_parts g c =
    let book = c.args.self.now in
    let read = c.as_slice-row-items.result.now in
    record { within = ∣ row-within book.investees.items book.positions book.kept read c.as_slice-row-items.ensures.value c.loop-row.row-index c.row-item.result c.loop-row-test.true c.row-item.is ∣₁ }

pub add_parts-requires : goal.add_parts-requires
add_parts-requires g c =
    let book = c.args.self.now in
    let t = g.R.Rule.tables book.rule.now in
    let read = c.as_slice-row-items.result.now in
    let all = rows-within book.investees.items book.positions book.kept read c.as_slice-row-items.ensures.value in
    record {
      long = c.loop-row.invariant.0;
      within_limit = λ n h. parts-sofar-within t (plain book) (n + 1) read all c.loop-row.row-index c.loop-row-test.true most_investees (get_or c.loop-row.sums n no_kilograms) (omega (arith, c.as_slice-row-items.ensures.fits)) (c.loop-row.invariant.1 n h);
    }

pub loop-row-init : goal.loop-row-init
loop-row-init g c = (
  refl,
  λ n h. get_or-replicate branch_count n c.default-sums.result no_kilograms h ∙ none-kilograms _ c.default-sums.ensures ∙ summed-none _,
)

pub loop-row-preserved : goal.loop-row-preserved
loop-row-preserved g c =
    let book = c.args.self.now in
    let t = g.R.Rule.tables book.rule.now in (
      c.add_parts.ensures.long,
      λ n h. c.add_parts.ensures.has_part n h
          ∙ summed-more (row_part t (plain book) (n + 1)) c.as_slice-row-items.result.now c.loop-row.row-index c.row-item.result c.loop-row-test.true (get_or c.loop-row.sums n no_kilograms) _ (c.loop-row.invariant.1 n h)
          (ap (row_part t (plain book) (n + 1)) c.row-item.is),
    )

pub returns : goal.returns
returns g c =
    let book = c.args.self.now in
    let t = g.R.Rule.tables book.rule.now in
    record {
      long = c.loop-row.invariant.0;
      sheets = λ n h. c.loop-row.invariant.1 n h
          ∙ ap (summed (row_part t (plain book) (n + 1))) (take_all c.loop-row.row-index c.as_slice-row-items.result.now c.loop-row-test.false ∙ c.as_slice-row-items.ensures.value)
          ∙ sheet-rows t book.investees.items book.positions (n + 1);
    }
