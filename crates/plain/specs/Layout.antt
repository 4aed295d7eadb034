-- What a book answers, as text.
use Rattle.std.specs.Prelude.{ℕ, List, ◌++◌, codes, decimal}
use Rattle.std.specs.Fmt.{signed_decimal}
use Rattle.faults.specs.Refusals.{fault_text}
use Rattle.grading.specs.Hundredths.{two_decimals}
use Rattle.plain.specs.declared.answers.Answer.{Answer}
use Rattle.plain.specs.declared.answers.Answer.TheVariants.{Done, Declined, Part, Total, Sheet, Book}
use Rattle.plain.specs.declared.answers.BookTotal.{BookTotal}
use Rattle.plain.specs.declared.answers.InvesteeTotal.{InvesteeTotal}
use Rattle.plain.specs.declared.answers.Kilograms.{Kilograms}
use Rattle.plain.specs.declared.answers.Subtotal.{Subtotal}

-- both measures
abbrev pub kilograms_text : Kilograms → List ℕ
kilograms_text k = signed_decimal k.emissions ++ (codes " kg, reduction " ++ (signed_decimal k.reductions ++ codes " kg"))

-- an investee's total
abbrev pub total_text : InvesteeTotal → List ℕ
total_text t = kilograms_text t.kilograms ++ (codes ", reason " ++ (decimal t.reason ++ (codes ", grade " ++ decimal t.grade)))

-- a part of the book total, with the shares of its positions that are covered, in percent
abbrev pub subtotal_text : Subtotal → List ℕ
subtotal_text s =
    kilograms_text s.kilograms ++ (codes ", covered " ++ (two_decimals s.emissions_cover ++ (codes " and " ++ two_decimals s.reductions_cover)))

-- the book total in one line
abbrev pub book_total_text : BookTotal → List ℕ
book_total_text b =
    codes "projects " ++ (subtotal_text b.projects ++ (codes "; rest " ++ (subtotal_text b.rest
    ++ (codes "; all " ++ (subtotal_text b.all ++ (codes "; mean grade " ++ two_decimals b.mean_grade))))))

-- each kind of answer
abbrev pub answer_text : Answer → List ℕ
answer_text Done = codes "done"
answer_text (Declined f) = fault_text f
answer_text (Part k) = kilograms_text k
answer_text (Total t) = total_text t
answer_text (Sheet k) = kilograms_text k
answer_text (Book b) = book_total_text b
