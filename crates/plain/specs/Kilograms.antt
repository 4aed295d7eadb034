-- That no kilogram is gained or lost: how the answers to the queries lie to the exact shares and to each other.
-- It is a relation between answers, whoever gives them, and says nothing of how they are found.
use Rattle.std.specs.Prelude.{◌≡◌, ℕ, ◌≤◌, true, false, cond, ◌≢◌, List, ℤ, pos, unsigned_abs}
use Rattle.std.specs.List.{AllByRecursion}
use Rattle.plain.specs.Branches.{Branch, branches}
use Rattle.plain.specs.Parts.{Apportionment, Orderly, exposures, exposure_at, base, share, all_shares, exact_sum, counted_in, Reached, total}
use Rattle.plain.specs.Rounding.{rounded, PartNearShare, TotalNearExactSum, TotalIsFigureWhen}
use Rattle.plain.specs.Sums.{sum_over}

-- of one investee: the part of each branch, and the total
pub record PartsMakeTheTotal (a : Apportionment) (part_of : ℕ → ℤ) (total_is : ℤ) : Type 0 where
  pub part_near_exact_share : (b : ℕ) → Branch b → PartNearShare (part_of b) (share a b)
  pub nothing_without_exposure : (b : ℕ) → Branch b → exposure_at a.lent b ≡ 0 → part_of b ≡ pos 0
  pub nothing_unless_counted : (b : ℕ) → Branch b → a.counted ≡ false → part_of b ≡ pos 0
  pub parts_add_up_to_total : sum_over branches part_of ≡ total_is
  pub total_near_exact_sum : TotalNearExactSum (cond a.counted 1 0) total_is (all_shares a)
  pub total_within_figure : unsigned_abs total_is ≤ unsigned_abs a.figure
  pub total_is_figure_iff_exposures_reach : a.counted ≡ true → a.figure ≢ pos 0 → TotalIsFigureWhen (Reached a) total_is a.figure

-- of the whole book: parts and totals by investee, the sheet of each branch, and the book total
pub record NoKilogramGainedOrLost (all : List Apportionment) (part_of : ℕ → ℕ → ℤ) (total_of : ℕ → ℤ) (sheet_of : ℕ → ℤ) (book_total_is : ℤ) : Type 0 where
  pub of_each_investee : AllByRecursion (λ a. PartsMakeTheTotal a (part_of a.id) (total_of a.id)) all
  pub parts_add_up_to_sheet : (b : ℕ) → Branch b → sum_over all (λ a. part_of a.id b) ≡ sheet_of b
  pub sheets_add_up_to_book_total : sum_over branches sheet_of ≡ book_total_is
  pub totals_add_up_to_book_total : sum_over all (λ a. total_of a.id) ≡ book_total_is
  pub book_total_near_exact_sum : TotalNearExactSum (counted_in all) book_total_is (exact_sum all)

-- the total in closed form: the figure, rounded for all exposures together
abbrev pub TotalIsRoundedOnce : Type 0
TotalIsRoundedOnce = (a : Apportionment) → Orderly a → total a ≡ cond a.counted (rounded a.figure (exposures a.lent) (base a)) (pos 0)
