-- That no kilogram is gained or lost by any run of any book, under any rule and with any sources.
use Rattle.std.specs.Prelude.{◌≡◌, ℕ, ◌≤◌, true, ◌≢◌, ◌↔◌, List, ◌++◌, map, take, ℤ, pos, ◌+ℤ◌}
use Rattle.std.specs.List.{AllByRecursion}
use Rattle.rules.specs.Investees.{financing_of}
use Rattle.rules.specs.Tables.{Tables, Lawful, reason_for}
use Rattle.rules.specs.declared.kinds.Kind.{Kind}
use Rattle.plain.specs.declared.answers.Answer.{Answer}
use Rattle.plain.specs.declared.answers.Kilograms.{Kilograms}
use Rattle.plain.specs.Answered.{Answered}
use Rattle.plain.specs.Branches.{Branch}
use Rattle.plain.specs.Covers.{is_of_kind, projects_of, rest_of, CoversAreShares, MeanGradeIsNearest}
use Rattle.plain.specs.Exposures.{exposure_to, closing_to, Measure, emissions, reductions, apportionment, apportionments}
use Rattle.plain.specs.Kept.{KeptByEveryRun, KeptUnderRule}
use Rattle.plain.specs.Kilograms.{NoKilogramGainedOrLost}
use Rattle.plain.specs.Parts.{Orderly, counted_in, exact_sum}
use Rattle.plain.specs.PlainBook.{PlainInvestee, PlainBook, empty, id_of}
use Rattle.plain.specs.Rounding.{TotalNearExactSum}
use Rattle.plain.specs.Runs.{answer_to, run, ReachedByARun}
use Rattle.plain.specs.Steps.{Query, Step, WithinSourceLimits}
use Rattle.plain.specs.Sums.{sum_over}

-- the kilograms of one measure
abbrev pub measured : Measure → Kilograms → ℤ
measured emissions k = k.emissions
measured reductions k = k.reductions

-- ---- the answers to the queries on a book with this plain book

-- What is told for a group of investees: the totals of these investees add up to it, and it lies near their exact sum.
pub record GroupAddsUp (t : Tables) (p : PlainBook) (m : Measure) (ask : Query → Answer) (answers : Answered p ask) (group : List PlainInvestee) (kilograms : ℤ) : Type 0 where
  pub totals_add_up : sum_over group (λ x. measured m (answers.total_of (id_of x)).kilograms) ≡ kilograms
  pub near_exact_sum : TotalNearExactSum (counted_in (map (apportionment t p m) group)) kilograms (exact_sum (map (apportionment t p m) group))

-- In one measure; the book total is that for all kinds.
pub record KeepsEveryKilogram (t : Tables) (p : PlainBook) (m : Measure) (ask : Query → Answer) (answers : Answered p ask) : Type 0 where
  pub no_kilogram_gained_or_lost :
      NoKilogramGainedOrLost (apportionments t p m)
      (λ id branch. measured m (answers.part_of id branch))
      (λ id. measured m (answers.total_of id).kilograms)
      (λ branch. measured m (answers.sheet_of branch))
      (measured m answers.book_total.all.kilograms)
  pub projects_add_up : GroupAddsUp t p m ask answers (projects_of p) (measured m answers.book_total.projects.kilograms)
  pub rest_adds_up : GroupAddsUp t p m ask answers (rest_of p) (measured m answers.book_total.rest.kilograms)
  pub projects_and_rest_make_all : measured m answers.book_total.projects.kilograms +ℤ measured m answers.book_total.rest.kilograms ≡ measured m answers.book_total.all.kilograms

-- What the total of an investee tells beside kilograms: the rule's reason to leave it out, 1 to 9, or 0, and the grade of its reading.
-- Where there is a reason, nothing falls to anybody.
pub record TellsWhy (t : Tables) (p : PlainBook) (ask : Query → Answer) (answers : Answered p ask) (x : PlainInvestee) : Type 0 where
  pub reason_is_the_rule's : (answers.total_of (id_of x)).reason ≡ reason_for t (financing_of x.profile (exposure_to x p.positions) (closing_to x p.positions))
  pub reason_in_range : (answers.total_of (id_of x)).reason ≤ 9
  pub grade_is_the_reading's : (answers.total_of (id_of x)).grade ≡ x.grade
  pub no_part_with_a_reason : (answers.total_of (id_of x)).reason ≢ 0 → (b : ℕ) → Branch b → (m : Measure) → measured m (answers.part_of (id_of x) b) ≡ pos 0
  pub no_total_with_a_reason : (answers.total_of (id_of x)).reason ≢ 0 → (m : Measure) → measured m (answers.total_of (id_of x)).kilograms ≡ pos 0

-- ---- what holds of a book

-- what holds of a plain book that has what every run keeps, under the tables t
pub record HoldsAt (t : Tables) (p : PlainBook) : Type 0 where
  pub kept : KeptByEveryRun p
  -- a run may also begin with a book of which nothing is known under the rule
  pub under_rule : ReachedByARun t p → KeptUnderRule t p
  -- what is parted: of each investee a branch stands once, and an amount to divide by is above 0
  pub orderly : (m : Measure) → AllByRecursion Orderly (apportionments t p m)
  pub answers : Answered p (answer_to t p)
  pub kilograms : (m : Measure) → KeepsEveryKilogram t p m (answer_to t p) answers
  pub reasons : AllByRecursion (TellsWhy t p (answer_to t p) answers) p.investees
  pub covers : CoversAreShares p (answer_to t p) answers
  pub mean_grade : MeanGradeIsNearest p (answer_to t p) answers

-- and of one that a run from the empty book has come to, without any condition
pub record HoldsWhole (t : Tables) (p : PlainBook) : Type 0 where
  pub reached : ReachedByARun t p
  pub under_rule : KeptUnderRule t p
  pub as_of_any : HoldsAt t p

-- ---- what holds along a run

-- at each point of a run from p: before its first call, and after each of its calls
abbrev pub AtEachPoint : (Tables → PlainBook → Type 0) → Tables → PlainBook → List Step → Type 0
AtEachPoint Holds t p calls = (k : ℕ) → Holds t (run t p (take k calls))

-- of calls that lead from p to q
pub record HoldsThroughout (t : Tables) (p : PlainBook) (calls : List Step) (q : PlainBook) : Type 0 where
  -- if a run has come to p, everything holds at each point of these calls, and a run has come to q
  pub of_a_reached_book : ReachedByARun t p → AtEachPoint HoldsWhole t p calls × ReachedByARun t q
  -- so it does at each point of any run that has come to p, before these calls and in them
  pub with_each_history : (before : List Step) → AllByRecursion WithinSourceLimits before → run t empty before ≡ p → AtEachPoint HoldsWhole t empty (before ++ calls)
  -- and whatever p is
  pub of_any_book : AtEachPoint HoldsAt t p calls

-- of runs from the empty book; of every book that one has come to; and of runs from any book that has what every run keeps
pub record EveryRunKeepsEveryKilogram : Type 0 where
  pub from_the_start : (t : Tables) → Lawful t → (calls : List Step) → AllByRecursion WithinSourceLimits calls → AtEachPoint HoldsWhole t empty calls
  pub where_reached : (t : Tables) → Lawful t → (p : PlainBook) → ReachedByARun t p → HoldsWhole t p
  pub going_on : (t : Tables) → Lawful t → (p : PlainBook) → KeptByEveryRun p → (calls : List Step) → AllByRecursion WithinSourceLimits calls → HoldsThroughout t p calls (run t p calls)
  -- whose kind has the number of a kind has that kind
  pub kinds_by_number : (kind : Kind) (x : PlainInvestee) → (is_of_kind kind x ≡ true) ↔ (x.profile.kind ≡ kind)
