-- What every run keeps of a plain book, whatever is called, and what it keeps of it under its rule.
use Rattle.std.specs.Prelude.{◌≡◌, ℕ, ◌≤◌, true, false, ◌&&◌, ◌≢◌, List, length, pos, ◌≤ℤ◌, is_ok, is_some, None, Ok, unsigned_abs, sum_by}
use Rattle.std.specs.Option.{unwrap_or}
use Rattle.std.specs.List.{AllByRecursion}
use Rattle.rules.specs.Investees.{profile_of, ProfileInRange}
use Rattle.rules.specs.Kinds.{kind_number, size_number}
use Rattle.rules.specs.Months.{months}
use Rattle.rules.specs.Tables.{Tables, Lawful}
use Rattle.rules.specs.declared.investees.InvesteeFields.{InvesteeFields}
use Rattle.sources.specs.Limits.{most_kilograms}
use Rattle.plain.specs.Branches.{Branch}
use Rattle.plain.specs.Exposures.{is_bond, closing_of, positions_on, exposure_to, denominator_of}
use Rattle.plain.specs.Limits.{most_investees, most_positions, most_balance, most_exposure}
use Rattle.plain.specs.Lists.{first_of, Pairwise}
use Rattle.plain.specs.Parts.{AboveZero}
use Rattle.plain.specs.PlainBook.{PlainInvestee, PlainPosition, PlainBook, empty, id_of, is_open, balance_of}
use Rattle.plain.specs.Readings.{positions_on_all}
use Rattle.plain.specs.Refused.{passes}
use Rattle.plain.specs.Runs.{after}
use Rattle.plain.specs.Steps.{Step, WithinSourceLimits}

-- an investee's profile, kilograms and grade are within their limits, and a reduction that is not set is 0
pub record InvesteeInRange (x : PlainInvestee) : Type 0 where
  pub profile_in_range : ProfileInRange x.profile
  pub kilograms_within_limit : unsigned_abs x.kilograms ≤ most_kilograms
  pub kilograms_not_below_zero : pos 0 ≤ℤ x.kilograms
  pub reduction_within_limit : unsigned_abs x.reduction ≤ most_kilograms
  pub unset_reduction_is_zero : x.reduced ≡ false → x.reduction ≡ pos 0
  pub grade_from : 1 ≤ x.grade
  pub grade_to : x.grade ≤ 5

-- a position is of a branch, and has twelve months with balances within their limit
pub record PositionInRange (q : PlainPosition) : Type 0 where
  pub branch_in_range : Branch q.branch
  pub a_place_for_each_month : length q.balances ≡ months
  pub balances_within_limit : AllByRecursion (λ v. unwrap_or v 0 ≤ most_balance) q.balances

-- no month but the last has a balance
abbrev pub PostedAtClosingOnly : PlainPosition → Type 0
PostedAtClosingOnly q = (m : ℕ) → m ≢ length q.balances → balance_of m q ≡ None

-- if the investee is a bond, these positions on it have a balance in the last month only
abbrev pub BondAtClosing : PlainInvestee → List PlainPosition → Type 0
BondAtClosing x qs = is_bond x.profile.kind ≡ true → AllByRecursion PostedAtClosingOnly qs

-- ---- a book can be entered again, call by call: as openings, reductions and posts

-- the fields by which a caller would open the investee
abbrev pub fields_of : PlainInvestee → InvesteeFields
fields_of x = record {
  id = id_of x;
  kind = kind_number x.profile.kind;
  sector = x.profile.sector;
  size = size_number x.profile.size;
  days = x.profile.days;
  figures = x.profile.figures;
}

-- posts can make the position: some month has a balance
abbrev pub HasPost : PlainPosition → Type 0
HasPost q = is_some (first_of is_some q.balances) ≡ true

-- ---- the book as a whole

-- whatever the rule
pub record KeptByEveryRun (p : PlainBook) : Type 0 where
  pub investees_within_limit : length p.investees ≤ most_investees
  pub positions_within_limit : length p.positions ≤ most_positions
  pub investees_in_range : AllByRecursion InvesteeInRange p.investees
  pub positions_in_range : AllByRecursion PositionInRange p.positions
  -- no id is open twice, and every position is on an open investee
  pub ids_differ : Pairwise (λ x y. id_of y ≢ id_of x) p.investees
  pub positions_on_open_investees : AllByRecursion (λ q. is_open q.id p ≡ true) p.positions
  -- a branch has one position on an investee
  pub positions_differ : Pairwise (λ q r. r.id ≡ q.id → r.branch ≢ q.branch) p.positions
  pub exposures_within_limit : AllByRecursion (λ x. exposure_to x p.positions ≤ most_exposure) p.investees
  -- a bond has a balance in the last month alone
  pub bonds_at_closing_only : AllByRecursion (λ x. BondAtClosing x (positions_on (id_of x) p.positions)) p.investees
  pub positions_have_posts : AllByRecursion HasPost p.positions

-- under the rule of the run
pub record KeptUnderRule (t : Tables) (p : PlainBook) : Type 0 where
  -- every investee has a base, and where that is an amount, it is at least 1
  pub bases_given : AllByRecursion (λ x. is_ok (t.bases x.profile.kind x.profile.figures) ≡ true) p.investees
  pub amounts_above_zero : AllByRecursion (λ x. AboveZero (denominator_of t p x)) p.investees
  -- a bond's exposure does not pass its denominator
  pub bonds_within_denominator : AllByRecursion (λ x. (is_bond x.profile.kind && passes (exposure_to x p.positions) (denominator_of t p x)) ≡ false) p.investees

-- The empty book has all this, and each call keeps it, accepted or declined.
pub record KeptByEachCall : Type 0 where
  pub at_first : KeptByEveryRun empty
  pub by_a_call : (t : Tables) (p : PlainBook) (c : Step) → WithinSourceLimits c → KeptByEveryRun p → KeptByEveryRun (after t p c)
  pub at_first_under_rule : (t : Tables) → KeptUnderRule t empty
  pub by_a_call_under_rule : (t : Tables) → Lawful t → (p : PlainBook) (c : Step) → WithinSourceLimits c → KeptByEveryRun p → KeptUnderRule t p → KeptUnderRule t (after t p c)
  -- so the exposure to a bond, which counts closing balances alone, leaves out no balance
  pub a_bond's_balances_are_closing_balances : (q : PlainPosition) → PostedAtClosingOnly q → sum_by (λ v. unwrap_or v 0) q.balances ≡ closing_of q
  -- so each position is on one investee, and a share of the positions on all investees is a share of all positions
  pub each_position_on_one_investee : (p : PlainBook) → KeptByEveryRun p → positions_on_all p p.investees ≡ length p.positions
  -- so the fields of each investee describe its profile
  pub fields_describe_the_profile : (x : PlainInvestee) → InvesteeInRange x → profile_of (fields_of x) ≡ Ok x.profile
