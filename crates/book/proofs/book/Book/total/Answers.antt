use Rattle.book.specs.Rows.{plain_investee}
use Rattle.book.specs.View.{plain}
use Rattle.book.proofs.Propositions.{kept_of}
use Rattle.book.proofs.WithinBook.{within-book}
use Rattle.book.proofs.book.Book.total.Goals as goal

pub invariant_of-total : goal.invariant_of-total
invariant_of-total g c =
    let book = c.args.self.now in
    record { within = ∣ within-book (plain book) (kept_of (plain book) book.kept) c.args.id (plain_investee c.in_ok-row.row) c.in_ok-row.ensures ∣₁ }
