-- The branches of a lender, from the first on.
use Rattle.std.proofs.Common.{◌≡◌, ℕ, zero, suc, ◌+◌, ◌-◌, ◌<◌, reverse, length, get_or, refl, ap, ◌∙◌, arith}
use Rattle.std.proofs.lemmas.List.{length-reverse, get_or-reverse}
use Rattle.plain.specs.Branches.{branch_count, branches}
use Rattle.plain.specs.Sums.{down_from}

length-down : (n : ℕ) → length (down_from n) ≡ n
unfolding down_from
length-down zero = refl
length-down (suc n) = ap suc (length-down n)

down-at : (n k d : ℕ) → k < n → get_or (down_from n) k d ≡ n - k
unfolding down_from
down-at zero k d h = absurd (omega arith)
down-at (suc n) zero d h = omega arith
down-at (suc n) (suc k) d h = down-at n k d (omega arith) ∙ omega arith

pub branches-long : length (reverse branches) ≡ branch_count
branches-long = length-reverse branches ∙ length-down branch_count

pub branch-at : (k : ℕ) → k < branch_count → k + 1 ≡ get_or (reverse branches) k 0
branch-at k h =
    let long = length-down branch_count in
    let at = get_or-reverse branches k 0 (omega (arith, long)) in
    let there = down-at branch_count (length branches - 1 - k) 0 (omega (arith, long)) in
    omega (arith, at, there, long)
