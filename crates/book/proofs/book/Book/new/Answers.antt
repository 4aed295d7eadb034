use Rattle.std.proofs.Common.{rules}
use Rattle.plain.specs.PlainBook.{empty}
use Rattle.plain.proofs.Kept.{kept-at-first}
use Rattle.book.proofs.Books.{kept-as}
use Rattle.book.proofs.book.Book.new.Goals as goal

pub invariant_of-result : goal.invariant_of-result
invariant_of-result g c = record { kept = kept-as empty _ kept-at-first (search rules) }
