-- The figures that a book's answers tell. A refusal tells none: it is not 0 kilograms.
use Rattle.std.specs.Prelude.{◌≡◌, ℕ, true}
use Rattle.plain.specs.declared.answers.Answer.{Answer}
use Rattle.plain.specs.declared.answers.Answer.TheVariants.{Part, Total, Sheet, Book}
use Rattle.plain.specs.declared.answers.BookTotal.{BookTotal}
use Rattle.plain.specs.declared.answers.InvesteeTotal.{InvesteeTotal}
use Rattle.plain.specs.declared.answers.Kilograms.{Kilograms}
use Rattle.plain.specs.Branches.{Branch}
use Rattle.plain.specs.PlainBook.{PlainBook, is_open}
use Rattle.plain.specs.Steps.{Query, for_part, for_total, for_sheet, for_book_total}

-- Every query that a book has to answer is answered, with these figures: the part of each branch and the total of each open
-- investee, the sheet of each branch, and the book total. Who gives the answers, and how, is left open.
pub record Answered (p : PlainBook) (ask : Query → Answer) : Type 0 where
  pub part_of : ℕ → ℕ → Kilograms
  pub total_of : ℕ → InvesteeTotal
  pub sheet_of : ℕ → Kilograms
  pub book_total : BookTotal
  pub parts_answered : (id b : ℕ) → is_open id p ≡ true → Branch b → ask (for_part id b) ≡ Part (part_of id b)
  pub totals_answered : (id : ℕ) → is_open id p ≡ true → ask (for_total id) ≡ Total (total_of id)
  pub sheets_answered : (b : ℕ) → Branch b → ask (for_sheet b) ≡ Sheet (sheet_of b)
  pub book_total_answered : ask for_book_total ≡ Book book_total
