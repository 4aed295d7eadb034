-- Which plain book a book stands for.
use Rattle.plain.specs.PlainBook.{PlainBook}
use Rattle.rules.specs.declared.rule.Rule.{Ghosts}
use Rattle.book.specs.declared.book.Book.{Book}
use Rattle.book.specs.Rows.{plain_rows}

-- under any rule
abbrev pub plain : {R : Type 0} {rule : Ghosts R} → Book R rule → PlainBook
plain b = plain_rows b.investees.items b.positions
