-- What every run keeps is a proposition, so a book can keep that there is a proof of it, and have the proof back.
use mathlib.Core.Bool.{Bool-set}
use mathlib.Core.HLevel.{¬_prop, Unit-prop, Π_prop, →_prop, ×_prop}
use Rattle.std.proofs.Common.{◌≡◌, ℕ, zero, suc, List, [], ◌∷◌, ℤ, ◌≤ℤ◌, Some, None, Option, refl}
use mathlib.Core.Logic.{∥∥₁_elim}
use native.Mathlib.Bridge.{le_prop}
use native.Mathlib.Nat.{ℕ_set}
use ghost.Sets.{retract_set}
use lib.Dec.{T_prop}
use lib.IntN.{ℤ_set}
use Rattle.std.specs.List.{AllByRecursion}
use Rattle.rules.specs.Figures.{WithinLimits}
use Rattle.rules.specs.Investees.{PlainProfile, ProfileInRange}
use Rattle.rules.specs.declared.figures.Figures.{Figures}
use Rattle.plain.specs.Kept.{InvesteeInRange, PositionInRange, PostedAtClosingOnly, KeptByEveryRun}
use Rattle.plain.specs.Lists.{Pairwise}
use Rattle.plain.specs.PlainBook.{PlainInvestee, PlainPosition, PlainBook}
use Rattle.book.specs.Lines.{LineWithinLimits}
use Rattle.book.specs.Standings.{WithinBook}
use Rattle.book.specs.declared.book.readings.lines.Line.{Line}

all_prop : {X : Type 0} (P : X → Type 0) → ((x : X) → IsProp (P x)) → (xs : List X) → IsProp (AllByRecursion P xs)
all_prop P each [] = Unit-prop
all_prop P each (x ∷ xs) = ×_prop (each x) (all_prop P each xs)

pairwise-prop : {X : Type 0} (R : X → X → Type 0) → ((x y : X) → IsProp (R x y)) → (xs : List X) → IsProp (Pairwise R xs)
unfolding Pairwise
pairwise-prop R each [] = Unit-prop
pairwise-prop R each (x ∷ xs) = ×_prop (all_prop (R x) (each x) xs) (pairwise-prop R each xs)

order-prop : (a b : ℤ) → IsProp (a ≤ℤ b)
order-prop a b x y = λ i. record { le = T_prop _ x.le y.le i }

figures-prop : (f : Figures) → IsProp (WithinLimits f)
figures-prop f x y = λ i. record {
  investment = le_prop x.investment y.investment i;
  revenue = le_prop x.revenue y.revenue i;
  total_assets = le_prop x.total_assets y.total_assets i;
  initial_value = le_prop x.initial_value y.initial_value i;
}

profile-prop : (z : PlainProfile) → IsProp (ProfileInRange z)
profile-prop z x y = λ i. record {
  id_from = le_prop x.id_from y.id_from i;
  id_to = le_prop x.id_to y.id_to i;
  sector_to = le_prop x.sector_to y.sector_to i;
  days_to = le_prop x.days_to y.days_to i;
  figures_to = figures-prop z.figures x.figures_to y.figures_to i;
}

investee-prop : (z : PlainInvestee) → IsProp (InvesteeInRange z)
investee-prop z x y = λ i. record {
  profile_in_range = profile-prop z.profile x.profile_in_range y.profile_in_range i;
  kilograms_within_limit = le_prop x.kilograms_within_limit y.kilograms_within_limit i;
  kilograms_not_below_zero = order-prop _ _ x.kilograms_not_below_zero y.kilograms_not_below_zero i;
  reduction_within_limit = le_prop x.reduction_within_limit y.reduction_within_limit i;
  unset_reduction_is_zero = →_prop (ℤ_set _ _) x.unset_reduction_is_zero y.unset_reduction_is_zero i;
  grade_from = le_prop x.grade_from y.grade_from i;
  grade_to = le_prop x.grade_to y.grade_to i;
}

position-prop : (q : PlainPosition) → IsProp (PositionInRange q)
position-prop q x y = λ i. record {
  branch_in_range = ×_prop le_prop le_prop x.branch_in_range y.branch_in_range i;
  a_place_for_each_month = ℕ_set _ _ x.a_place_for_each_month y.a_place_for_each_month i;
  balances_within_limit = all_prop _ (λ v. le_prop) q.balances x.balances_within_limit y.balances_within_limit i;
}

-- options of numbers are a set, since numbers are
abbrev as-number : Option ℕ → ℕ
as-number None = zero
as-number (Some n) = suc n

abbrev of-number : ℕ → Option ℕ
of-number zero = None
of-number (suc n) = Some n

there-and-back : (o : Option ℕ) → of-number (as-number o) ≡ o
there-and-back None = refl
there-and-back (Some n) = refl

options-set : IsSet (Option ℕ)
options-set = retract_set as-number of-number there-and-back ℕ_set

closing-prop : (q : PlainPosition) → IsProp (PostedAtClosingOnly q)
closing-prop q = Π_prop (λ m. →_prop (options-set _ _))

kept-prop : (p : PlainBook) → IsProp (KeptByEveryRun p)
kept-prop p x y = λ i. record {
  investees_within_limit = le_prop x.investees_within_limit y.investees_within_limit i;
  positions_within_limit = le_prop x.positions_within_limit y.positions_within_limit i;
  investees_in_range = all_prop InvesteeInRange investee-prop p.investees x.investees_in_range y.investees_in_range i;
  positions_in_range = all_prop PositionInRange position-prop p.positions x.positions_in_range y.positions_in_range i;
  ids_differ = pairwise-prop _ (λ a b. ¬_prop) p.investees x.ids_differ y.ids_differ i;
  positions_on_open_investees = all_prop _ (λ q. Bool-set _ _) p.positions x.positions_on_open_investees y.positions_on_open_investees i;
  positions_differ = pairwise-prop _ (λ a b. →_prop ¬_prop) p.positions x.positions_differ y.positions_differ i;
  exposures_within_limit = all_prop _ (λ z. le_prop) p.investees x.exposures_within_limit y.exposures_within_limit i;
  bonds_at_closing_only = all_prop _ (λ z. →_prop (all_prop PostedAtClosingOnly closing-prop _)) p.investees x.bonds_at_closing_only y.bonds_at_closing_only i;
  positions_have_posts = all_prop _ (λ q. Bool-set _ _) p.positions x.positions_have_posts y.positions_have_posts i;
}

-- what a book keeps to, from its ghost field
pub kept_of : (p : PlainBook) → ∥ KeptByEveryRun p ∥₁ → KeptByEveryRun p
kept_of p h = ∥∥₁_elim h (kept-prop p) (λ x. x)

within-prop : (qs : List PlainPosition) (z : PlainInvestee) → IsProp (WithinBook qs z)
within-prop qs z x y = λ i. record { in_range = investee-prop z x.in_range y.in_range i; exposure_within_limit = le_prop x.exposure_within_limit y.exposure_within_limit i }

-- and what an investee of a book is within
pub within_of : (qs : List PlainPosition) (x : PlainInvestee) → ∥ WithinBook qs x ∥₁ → WithinBook qs x
within_of qs x h = ∥∥₁_elim h (within-prop qs x) (λ w. w)

line-prop : (l : Line) → IsProp (LineWithinLimits l)
line-prop l x y = λ i. record {
  kilograms_within_limit = record {
    of_emissions = le_prop x.kilograms_within_limit.of_emissions y.kilograms_within_limit.of_emissions i;
    of_reductions = le_prop x.kilograms_within_limit.of_reductions y.kilograms_within_limit.of_reductions i;
  };
  positions_within_limit = le_prop x.positions_within_limit y.positions_within_limit i;
  exposure_within_limit = le_prop x.exposure_within_limit y.exposure_within_limit i;
  grade_within_limit = le_prop x.grade_within_limit y.grade_within_limit i;
}

-- and its lines
pub lines_of : (lines : List Line) → ∥ AllByRecursion LineWithinLimits lines ∥₁ → AllByRecursion LineWithinLimits lines
lines_of lines h = ∥∥₁_elim h (all_prop LineWithinLimits line-prop lines) (λ all. all)
