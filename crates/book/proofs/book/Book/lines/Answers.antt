use Rattle.std.proofs.Common.{List, map, [], ◌∷◌, ◌++◌, sym, ap, ap₂, ◌∙◌, take_all}
use Rattle.std.proofs.lemmas.List.{map_more}
use Rattle.book.specs.Lines.{line_of}
use Rattle.book.specs.Rows.{plain_investee}
use Rattle.book.specs.declared.book.readings.lines.Line.{Line}
use Rattle.book.specs.declared.rows.InvesteeRow.{InvesteeRow}
use Rattle.book.specs.View.{plain}
use Rattle.book.proofs.Listing.{mapped-twice}
use Rattle.book.proofs.WithinBook.{row-within}
use Rattle.book.proofs.book.Book.lines.Goals as goal

pub invariant_of-line : goal.invariant_of-line
invariant_of-line g c =
    let book = c.args.self.now in
    let read = c.as_slice-row-items.result.now in
    record { within = ∣ row-within book.investees.items book.positions book.kept read c.as_slice-row-items.ensures.value c.loop-row.row-index c.row-item.result c.loop-row-test.true c.row-item.is ∣₁ }

pub loop-row-preserved : goal.loop-row-preserved
loop-row-preserved g c =
    let book = c.args.self.now in
    let read = c.as_slice-row-items.result.now in
    let line = λ (x : InvesteeRow). line_of (g.R.Rule.tables book.rule.now) (plain book) (plain_investee x) in
    c.push.ensures.items
    ∙ ap₂ (λ (lines : List Line) (next : Line). lines ++ next ∷ []) c.loop-row.invariant (c.line.ensures ∙ ap line c.row-item.is)
    ∙ sym (map_more line read c.loop-row.row-index c.row-item.result c.loop-row-test.true)

pub returns : goal.returns
returns g c =
    let book = c.args.self.now in
    let f = line_of (g.R.Rule.tables book.rule.now) (plain book) in
    c.loop-row.invariant
    ∙ ap (map (λ x. f (plain_investee x))) (take_all c.loop-row.row-index c.as_slice-row-items.result.now c.loop-row-test.false ∙ c.as_slice-row-items.ensures.value)
    ∙ mapped-twice f plain_investee book.investees.items
