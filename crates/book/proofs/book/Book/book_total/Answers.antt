use Rattle.std.proofs.Common.{ap, ◌∙◌}
use Rattle.plain.specs.declared.answers.Answer.TheVariants as answers
use Rattle.book.specs.View.{plain}
use Rattle.book.proofs.BookTotals.{lines-within, book-total-told}
use Rattle.book.proofs.Propositions.{kept_of}
use Rattle.book.proofs.WithinBook.{all-within}
use Rattle.book.proofs.book.Book.book_total.Goals as goal

pub invariant_of-total : goal.invariant_of-total
invariant_of-total g c =
    let book = c.args.self.now in
    let kept = kept_of (plain book) book.kept in
    let all = lines-within (g.R.Rule.tables book.rule.now) (plain book) kept _ (c.as_slice-lines.ensures.value ∙ c.lines-table.ensures) (all-within (plain book) kept) in
    record { few = all.0; within = ∣ all.1 ∣₁ }

pub returns : goal.returns
returns g c =
    let book = c.args.self.now in
    let kept = kept_of (plain book) book.kept in
    ap answers.Book (c.total.ensures ∙ book-total-told (g.R.Rule.tables book.rule.now) (plain book) kept _ (c.as_slice-lines.ensures.value ∙ c.lines-table.ensures) (all-within (plain book) kept))
