-- What the queries are answered with, each of both measures. Any other accepted call answers that it is done.
use Rattle.std.specs.Prelude.{ℕ, ◌*◌, ◌/◌, Bool, true, false, cond, not, ◌&&◌, List, map, reverse, length, ℤ, is_some, Some, None, sum_by, filter, Option, ◌==◌, nat_eq}
use Rattle.grading.specs.Mean.{mean_of}
use Rattle.rules.specs.Tables.{Tables}
use Rattle.rules.specs.declared.kinds.Kind.{Kind}
use Rattle.rules.specs.declared.kinds.Kind.TheVariants.{Project, PropertyDevelopment, PropertyPurchase, Vehicle, GeneralLoan, Bond}
use Rattle.plain.specs.declared.answers.Answer.{Answer}
use Rattle.plain.specs.declared.answers.Answer.TheVariants.{Done, Part, Total, Sheet, Book}
use Rattle.plain.specs.declared.answers.BookTotal.{BookTotal}
use Rattle.plain.specs.declared.answers.InvesteeAccount.{InvesteeAccount}
use Rattle.plain.specs.declared.answers.InvesteeTotal.{InvesteeTotal}
use Rattle.plain.specs.declared.answers.Kilograms.{Kilograms}
use Rattle.plain.specs.declared.answers.Subtotal.{Subtotal}
use Rattle.plain.specs.Branches.{branches}
use Rattle.plain.specs.Exposures.{positions_on, exposure_to, reason_of, is_counted, Measure, emissions, reductions, apportionment, apportionments}
use Rattle.plain.specs.Lists.{first_of}
use Rattle.plain.specs.Parts.{part, total, sheet, book_total}
use Rattle.plain.specs.PlainBook.{PlainInvestee, PlainBook, id_of, investee_of}
use Rattle.plain.specs.Steps.{Query, for_part, for_total, for_sheet, for_book_total, Step, enter, restate, reduce, post, amend, ask}

-- a figure for each measure
abbrev pub both : (Measure → ℤ) → Kilograms
both f = record { emissions = f emissions; reductions = f reductions }

-- ---- one investee

-- the part of branch b on an investee
abbrev pub part_of : Tables → PlainBook → ℕ → PlainInvestee → Kilograms
part_of t p b x = both (λ m. part (apportionment t p m x) b)

-- an investee's total, with its reason and its grade
abbrev pub total_of : Tables → PlainBook → PlainInvestee → InvesteeTotal
total_of t p x = record { kilograms = both (λ m. total (apportionment t p m x)); reason = reason_of t p x; grade = x.grade }

-- a query for an investee that is not open is declined, and this answer never given
abbrev pub of_investee : Option PlainInvestee → (PlainInvestee → Answer) → Answer
of_investee None f = Done
of_investee (Some x) f = f x

-- ---- the whole book

-- the sheet of branch b
abbrev pub sheet_of : Tables → PlainBook → ℕ → Kilograms
sheet_of t p b = both (λ m. sheet (apportionments t p m) b)

-- every investee with its total, in the order of the openings
abbrev pub account_of : Tables → PlainBook → PlainInvestee → InvesteeAccount
account_of t p x = record { id = id_of x; total = total_of t p x }

abbrev pub accounts_of : Tables → PlainBook → List InvesteeAccount
accounts_of t p = map (account_of t p) p.investees

-- the branch has lent to some investee
abbrev pub has_position : PlainBook → ℕ → Bool
has_position p b = is_some (first_of (λ q. nat_eq q.branch b) p.positions)

-- the sheet of a branch, if it has lent at all
abbrev pub sheet_if_any : Tables → PlainBook → ℕ → Option Kilograms
sheet_if_any t p b = cond (has_position p b) (Some (sheet_of t p b)) None

-- the sheets of all branches, from branch 1 on
abbrev pub sheets_of : Tables → PlainBook → List (Option Kilograms)
sheets_of t p = map (sheet_if_any t p) (reverse branches)

-- how many positions there are on these investees
abbrev pub positions_on_all : PlainBook → List PlainInvestee → ℕ
positions_on_all p xs = sum_by (λ x. length (positions_on (id_of x) p.positions)) xs

-- a figure covers an investee if it is counted, and for reductions if one has been set too
abbrev pub covers : Tables → PlainBook → Measure → PlainInvestee → Bool
covers t p emissions x = is_counted t p x
covers t p reductions x = is_counted t p x && x.reduced

-- k of n in hundredths of a percent, toward zero; nothing where n is 0
abbrev pub hundredths : ℕ → ℕ → Option ℕ
hundredths k n = cond (n == 0) None (Some (10000 * k / n))

-- the share of the positions on these investees that a figure covers
abbrev pub cover_of : Tables → PlainBook → Measure → List PlainInvestee → Option ℕ
cover_of t p m xs = hundredths (positions_on_all p (filter (covers t p m) xs)) (positions_on_all p xs)

-- what falls to all branches for these investees, and what share of their positions it covers
abbrev pub subtotal_of : Tables → PlainBook → List PlainInvestee → Subtotal
subtotal_of t p xs = record {
  kilograms = both (λ m. book_total (map (apportionment t p m) xs));
  emissions_cover = cover_of t p emissions xs;
  reductions_cover = cover_of t p reductions xs;
}

-- the kind is that of projects
abbrev pub project_kind : Kind → Bool
project_kind Project = true
project_kind PropertyDevelopment = false
project_kind PropertyPurchase = false
project_kind Vehicle = false
project_kind GeneralLoan = false
project_kind Bond = false

abbrev pub is_project : PlainInvestee → Bool
is_project x = project_kind x.profile.kind

-- by exposure, over the counted investees
abbrev pub mean_grade_of : Tables → PlainBook → Option ℕ
mean_grade_of t p = mean_of (λ x. exposure_to x p.positions) (λ x. x.grade) (filter (is_counted t p) p.investees)

-- the book total
abbrev pub book_total_of : Tables → PlainBook → BookTotal
book_total_of t p = record {
  projects = subtotal_of t p (filter is_project p.investees);
  rest = subtotal_of t p (filter (λ x. not (is_project x)) p.investees);
  all = subtotal_of t p p.investees;
  mean_grade = mean_grade_of t p;
}

-- ---- the answers

-- what each query is answered with, where it is not declined
abbrev pub reply : Tables → PlainBook → Query → Answer
reply t p (for_part id branch) = of_investee (investee_of id p) (λ x. Part (part_of t p branch x))
reply t p (for_total id) = of_investee (investee_of id p) (λ x. Total (total_of t p x))
reply t p (for_sheet branch) = Sheet (sheet_of t p branch)
reply t p for_book_total = Book (book_total_of t p)

-- what each accepted call answers
abbrev pub gives : Tables → PlainBook → Step → Answer
gives t p (enter fields meaning) = Done
gives t p (restate id meaning) = Done
gives t p (reduce id meaning) = Done
gives t p (post branch id month balance) = Done
gives t p (amend branch id month balance) = Done
gives t p (ask query) = reply t p query
