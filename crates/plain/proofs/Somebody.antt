-- Answers parted in any way are given by somebody who makes them up, and a book with another figure answers too.
use Rattle.std.proofs.Common.{◌≡◌, ℕ, Bool, true, false, cond, List, pos, is_some, Some, None, sym, refl, ◌∙◌, subst, ◌==◌}
use Rattle.std.specs.List.{AllByRecursion}
use Rattle.rules.specs.National.{national_tables}
use Rattle.plain.specs.declared.answers.Answer.{Answer}
use Rattle.plain.specs.declared.answers.Answer.TheVariants.{Sheet, Book}
use Rattle.plain.specs.Answered.{Answered}
use Rattle.plain.specs.Branches.{Branch}
use Rattle.plain.specs.Lists.{first_of, change_first}
use Rattle.plain.specs.Parts.{Apportionment, exposures}
use Rattle.plain.specs.PlainBook.{PlainBook, is_open}
use Rattle.plain.specs.Runs.{answer_to}
use Rattle.plain.specs.ShutOut.{thirds, thirds_of_999, lent_to, HasToPart, Way, PartedBySome}
use Rattle.plain.specs.Steps.{Query, for_part, for_total, for_sheet, for_book_total}
use Rattle.plain.specs.Worked.{kilograms, emitted, totalled}
use Rattle.plain.specs.WorkedYear.{nothing}
use Rattle.plain.proofs.EveryRun.{own-answers}

-- parts in this way, and 0 for everything else
abbrev made-up : Way → Apportionment → Query → Answer
made-up way a (for_part id b) = emitted (way a b)
made-up way a (for_total id) = totalled (pos 0) 0
made-up way a (for_sheet b) = Sheet (kilograms (pos 0) (pos 0))
made-up way a for_book_total = Book (record { projects = nothing; rest = nothing; all = nothing; mean_grade = None })

abbrev answers-made-up : (way : Way) (a : Apportionment) (p : PlainBook) → Answered p (made-up way a)
answers-made-up way a p = record {
  part_of = λ id b. kilograms (way a b) (pos 0);
  total_of = λ id. record { kilograms = kilograms (pos 0) (pos 0); reason = 0; grade = 1 };
  sheet_of = λ b. kilograms (pos 0) (pos 0);
  book_total = record { projects = nothing; rest = nothing; all = nothing; mean_grade = None };
  parts_answered = λ id b there branch. refl;
  totals_answered = λ id there. refl;
  sheets_answered = λ b branch. refl;
  book_total_answered = refl;
}

pub parted-by-some : (way : Way) (p : PlainBook) (es : List ℕ) → HasToPart p es → PartedBySome way p
parted-by-some way p es is =
    let a = lent_to es in
    let answers = answers-made-up way a p in
    (made-up way a, answers, subst (AllByRecursion (λ a. (b : ℕ) → Branch b → (answers.part_of a.id b).emissions ≡ way a b)) (sym is) ((λ b branch. refl), tt))

-- the same id is open in both
same-open : (id : ℕ) → is_open id thirds ≡ is_open id thirds_of_999
unfolding first_of change_first exposures
same-open id = by _ _ (7 == id)
  where
    by : {X : Type 0} (x y : X) (c : Bool) → is_some (cond c (Some x) None) ≡ is_some (cond c (Some y) None)
    by x y true = refl
    by x y false = refl

pub answers-of-999 : Answered thirds (answer_to national_tables thirds_of_999)
answers-of-999 =
    let own = own-answers national_tables thirds_of_999 in
    record {
      part_of = own.part_of;
      total_of = own.total_of;
      sheet_of = own.sheet_of;
      book_total = own.book_total;
      parts_answered = λ id b there. own.parts_answered id b (sym (same-open id) ∙ there);
      totals_answered = λ id there. own.totals_answered id (sym (same-open id) ∙ there);
      sheets_answered = own.sheets_answered;
      book_total_answered = own.book_total_answered;
    }
