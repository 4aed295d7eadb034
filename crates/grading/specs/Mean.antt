-- The mean grade by weight.
use Rattle.std.specs.Prelude.{◌≡◌, ℕ, ◌+◌, ◌*◌, ◌/◌, ◌^◌, ◌<◌, ◌≤◌, cond, List, Some, None, sum_by, Option, ◌==◌}

-- 100 × sum / total, and half a unit, rounded down
abbrev pub half_up : ℕ → ℕ → ℕ
half_up sum total = (200 * sum + total) / (2 * total)

-- nothing where the total is 0
abbrev pub nearest_hundredths : ℕ → ℕ → Option ℕ
nearest_hundredths sum total = cond (total == 0) None (Some (half_up sum total))

-- weight × grade, added up, over the weights, added up
abbrev pub mean_of : {X : Type 0} → (X → ℕ) → (X → ℕ) → List X → Option ℕ
mean_of weight grade xs = nearest_hundredths (sum_by (λ x. weight x * grade x) xs) (sum_by weight xs)

-- what weights of at most 10^12 and grades of at most 5 add up to, over fewer than 2^64 records
pub record Summed (sum total : ℕ) : Type 0 where
  pub weights : total ≤ 1000000000000 * 2 ^ 64
  pub grades : sum ≤ 5 * total

-- h hundredths is at most half a hundredth above sum / total and less than half a hundredth below it
pub record WithinHalfAHundredth (sum total h : ℕ) : Type 0 where
  pub above : 2 * (h * total) ≤ 2 * (100 * sum) + total
  pub below : 2 * (100 * sum) < 2 * (h * total) + total

-- a mean is absent where the total is 0, and otherwise the nearest
abbrev pub IsNearest : ℕ → ℕ → Option ℕ → Type 0
IsNearest sum total None = total ≡ 0
IsNearest sum total (Some h) = WithinHalfAHundredth sum total h

abbrev pub IsNearestMean : {X : Type 0} → (X → ℕ) → (X → ℕ) → List X → Option ℕ → Type 0
IsNearestMean weight grade xs r = IsNearest (sum_by (λ x. weight x * grade x) xs) (sum_by weight xs) r
