-- The calls on a book, as the steps of a plain book: the meaning of a source stands in place of the source.
use Rattle.std.specs.Prelude.{List, map}
use Rattle.plain.specs.Steps.{Meaning, for_part, for_total, for_sheet, for_book_total, Step, enter, restate, reduce, post, amend, ask}
use Rattle.book.specs.declared.calls.Call.{Call}
use Rattle.book.specs.declared.calls.Call.TheVariants.{Open, Restate, Reduce, Post, Amend, Part, Total, Sheet, BookTotal}

abbrev pub step_of : {S : Type 0} → (S → Meaning) → Call S → Step
step_of meaning (Open fields source) = enter fields (meaning source)
step_of meaning (Restate id source) = restate id (meaning source)
step_of meaning (Reduce id source) = reduce id (meaning source)
step_of meaning (Post branch id month balance) = post branch id month balance
step_of meaning (Amend branch id month balance) = amend branch id month balance
step_of meaning (Part id branch) = ask (for_part id branch)
step_of meaning (Total id) = ask (for_total id)
step_of meaning (Sheet branch) = ask (for_sheet branch)
step_of meaning BookTotal = ask for_book_total

abbrev pub steps_of : {S : Type 0} → (S → Meaning) → List (Call S) → List Step
steps_of meaning calls = map (step_of meaning) calls
