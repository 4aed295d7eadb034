-- How one figure of one investee, its emissions or its reduction, is parted among the branches that lent to it.
--   exposure      what a branch has lent over the year, in wan: its month balances added up
--   denominator   what exposures are divided by: a number of wan, or "whole", the exposures themselves
--   base          the larger of the denominator and all exposures together
--   share         figure × exposure / base, as an exact fraction
--   part          the share in whole kilograms, by running sums, so that the parts add up
use Rattle.std.specs.Prelude.{ℕ, ◌+◌, ◌<◌, ◌≤◌, max, Bool, cond, ◌≢◌, List, [], ◌∷◌, ℤ, pos, ◌-ℤ◌, ◌*ℤ◌, count_by, ◌==◌}
use Rattle.std.specs.List.{AllByRecursion}
use Rattle.plain.specs.Branches.{Branch, branches}
use Rattle.plain.specs.Fractions.{Fraction, ◌over◌, sum_of_fractions}
use Rattle.plain.specs.Lists.{Pairwise}
use Rattle.plain.specs.Rounding.{rounded}
use Rattle.plain.specs.Sums.{sum_over}

-- what one branch has lent to the investee
pub record Lent : Type 0 where
  pub branch : ℕ
  pub exposure : ℕ

-- "at least w" is divided by w, and by the exposures where they are larger
pub data Denominator : Type 0 where
  at_least : ℕ → Denominator
  whole : Denominator

-- one figure of an investee, what its branches have lent in the order of their first posts, and whether the rule counts it
pub record Apportionment : Type 0 where
  pub id : ℕ
  pub figure : ℤ
  pub denominator : Denominator
  pub lent : List Lent
  pub counted : Bool

-- ---- exposures and base

-- all exposures together
unfoldable pub exposures : List Lent → ℕ
exposures [] = 0
exposures (l ∷ ls) = l.exposure + exposures ls

-- the exposure of branch b: 0 where it has lent nothing
unfoldable pub exposure_at : List Lent → ℕ → ℕ
exposure_at [] b = 0
exposure_at (l ∷ ls) b = cond (l.branch == b) l.exposure (exposure_at ls b)

-- the exposures of those before branch b
unfoldable pub exposure_before : List Lent → ℕ → ℕ
exposure_before [] b = 0
exposure_before (l ∷ ls) b = cond (l.branch == b) 0 (l.exposure + exposure_before ls b)

-- the larger of a denominator and the exposures s
abbrev pub base_of : Denominator → ℕ → ℕ
base_of (at_least w) s = max w s
base_of whole s = s

-- a base of 0 is taken as 1, so that nothing is divided by 0
abbrev pub base : Apportionment → ℕ
base a = max 1 (base_of a.denominator (exposures a.lent))

-- exposures s are at least the denominator; for "whole", above 0
abbrev pub ReachedBy : Denominator → ℕ → Type 0
ReachedBy (at_least w) s = w ≤ s
ReachedBy whole s = 0 < s

-- the exposures reach the denominator
abbrev pub Reached : Apportionment → Type 0
Reached a = ReachedBy a.denominator (exposures a.lent)

-- ---- exact shares

-- the share of branch b: 0 where the investee is not counted
abbrev pub share : Apportionment → ℕ → Fraction
share a b = cond a.counted (a.figure *ℤ pos (exposure_at a.lent b)) (pos 0) over base a

-- the shares of all branches together: they have one base, so their tops are added
abbrev pub all_shares : Apportionment → Fraction
all_shares a = sum_over branches (λ b. (share a b).top) over base a

-- all shares of all investees
abbrev pub exact_sum : List Apportionment → Fraction
exact_sum all = sum_of_fractions all all_shares

-- how many investees are counted
abbrev pub counted_in : List Apportionment → ℕ
counted_in all = count_by (λ a. a.counted) all

-- ---- whole kilograms

-- The figure rounded for the running exposure up to and with branch b, less the figure rounded for the running exposure before it.
abbrev pub part : Apportionment → ℕ → ℤ
part a b =
    let before = exposure_before a.lent b in
    cond a.counted (rounded a.figure (before + exposure_at a.lent b) (base a) -ℤ rounded a.figure before (base a)) (pos 0)

-- an investee's total adds its parts
abbrev pub total : Apportionment → ℤ
total a = sum_over branches (part a)

-- a branch's sheet adds its parts of all investees
abbrev pub sheet : List Apportionment → ℕ → ℤ
sheet all b = sum_over all (λ a. part a b)

-- the book total adds all investees' totals
abbrev pub book_total : List Apportionment → ℤ
book_total all = sum_over all total

-- ---- what the sums rest on

-- every branch is one of the lender's, and stands once
pub record OncePerBranch (ls : List Lent) : Type 0 where
  pub branches_in_range : AllByRecursion (λ l. Branch l.branch) ls
  pub branches_differ : Pairwise (λ l m. m.branch ≢ l.branch) ls

-- an amount to divide by is above 0
abbrev pub AboveZero : Denominator → Type 0
AboveZero (at_least w) = 0 < w
AboveZero whole = Unit {0}

-- both, of what is to be parted
pub record Orderly (a : Apportionment) : Type 0 where
  pub once_per_branch : OncePerBranch a.lent
  pub above_zero : AboveZero a.denominator
