-- What a book total tells beside kilograms: which share of the positions it covers, and how good its data are. Who is counted
-- is told by the investees' totals: they tell the rule's reason to leave an investee out, or 0.
use Rattle.std.specs.Prelude.{◌≡◌, ℕ, ◌+◌, ◌*◌, ◌<◌, ◌≤◌, Bool, true, false, not, ◌&&◌, List, length, Some, None, filter, Option, count_by, ◌==◌}
use Rattle.grading.specs.Mean.{IsNearestMean}
use Rattle.rules.specs.Kinds.{kind_number}
use Rattle.rules.specs.declared.kinds.Kind.{Kind}
use Rattle.rules.specs.declared.kinds.Kind.TheVariants.{Project}
use Rattle.plain.specs.declared.answers.Answer.{Answer}
use Rattle.plain.specs.declared.answers.Subtotal.{Subtotal}
use Rattle.plain.specs.Answered.{Answered}
use Rattle.plain.specs.Exposures.{exposure_to}
use Rattle.plain.specs.PlainBook.{PlainInvestee, PlainBook, id_of, investee_of}
use Rattle.plain.specs.Steps.{Query}

-- h hundredths of a percent are k of n, toward zero; there is no share of none
abbrev pub IsShare : ℕ → ℕ → Option ℕ → Type 0
IsShare k n None = n ≡ 0
IsShare k n (Some h) = (h * n ≤ 10000 * k) × (10000 * k < (h + 1) * n)

-- the kind has the number of that kind
abbrev pub is_of_kind : Kind → PlainInvestee → Bool
is_of_kind kind x = kind_number x.profile.kind == kind_number kind

abbrev pub projects_of : PlainBook → List PlainInvestee
projects_of p = filter (is_of_kind Project) p.investees

abbrev pub rest_of : PlainBook → List PlainInvestee
rest_of p = filter (λ x. not (is_of_kind Project x)) p.investees

-- the total of the investee tells reason 0
abbrev pub told_counted : (p : PlainBook) (ask : Query → Answer) → Answered p ask → PlainInvestee → Bool
told_counted p ask answers x = (answers.total_of (id_of x)).reason == 0

-- there is an investee, and it passes the test
abbrev pub is_one_that : (PlainInvestee → Bool) → Option PlainInvestee → Bool
is_one_that test None = false
is_one_that test (Some x) = test x

-- how many positions are on an investee that passes the test
abbrev pub positions_on_those : PlainBook → (PlainInvestee → Bool) → ℕ
positions_on_those p test = count_by (λ q. is_one_that test (investee_of q.id p)) p.positions

-- of the positions on a group of investees, those on investees with reason 0 are covered, and for reductions those on investees
-- with reason 0 that have one set
pub record CoversOf (p : PlainBook) (ask : Query → Answer) (answers : Answered p ask) (group : PlainInvestee → Bool) (told : Subtotal) : Type 0 where
  pub by_emissions : IsShare (positions_on_those p (λ x. group x && told_counted p ask answers x)) (positions_on_those p group) told.emissions_cover
  pub by_reductions : IsShare (positions_on_those p (λ x. group x && (told_counted p ask answers x && x.reduced))) (positions_on_those p group) told.reductions_cover

-- of a book total; every position is on some investee
pub record CoversAreShares (p : PlainBook) (ask : Query → Answer) (answers : Answered p ask) : Type 0 where
  pub of_projects : CoversOf p ask answers (is_of_kind Project) answers.book_total.projects
  pub of_rest : CoversOf p ask answers (λ x. not (is_of_kind Project x)) answers.book_total.rest
  pub of_all : CoversOf p ask answers (λ x. true) answers.book_total.all
  pub all_positions : positions_on_those p (λ x. true) ≡ length p.positions

-- the mean of the grades that the totals tell, by exposure, over the investees with reason 0: the nearest hundredth, half up
abbrev pub MeanGradeIsNearest : (p : PlainBook) (ask : Query → Answer) → Answered p ask → Type 0
MeanGradeIsNearest p ask answers =
    IsNearestMean (λ x. exposure_to x p.positions) (λ x. (answers.total_of (id_of x)).grade) (filter (told_counted p ask answers) p.investees) answers.book_total.mean_grade
