-- Figure × exposure / base in words of 64 bits.
use Rattle.std.proofs.Common.{◌≡◌, ℕ, ◌/◌, ◌^◌, ◌<◌, ◌≤◌, ℤ, pos, negsuc, ◌*ℤ◌, nat_abs, div-le_self, arith, w64, SFits, to_z, of_z}
use lib.Signed.{quot_z}
use borrow.Author.Differences.{ints, up, down, abs_is, quot_is}
use Rattle.std.proofs.lemmas.Nat.{mul-le}
use Rattle.std.proofs.lemmas.Int.{to_z-of_z, to_z_pos}
use Rattle.sources.specs.Limits.{most_kilograms}
use Rattle.plain.specs.Limits.{most_exposure}
use Rattle.plain.specs.Rounding.{rounded}
use Rattle.plain.proofs.Integers.{size-mul}
use Rattle.plain.proofs.Rounding.{rounded-within}
use Rattle.book.specs.Shares.{Sizes}

small-fits : (z : ℤ) → nat_abs z < 2 ^ 63 → SFits w64 z
small-fits z h = omega (arith, ints)

product_small : (F : ℤ) (c B : ℕ) → Sizes F c B → nat_abs (F *ℤ pos c) < 2 ^ 63
product_small F c B z = omega (arith, size-mul F (pos c), mul-le (nat_abs F) c most_kilograms most_exposure z.figure_within_limit z.exposure_within_limit)

quotient_fits : (z : ℤ) (B : ℕ) → nat_abs z < 2 ^ 63 → SFits w64 (quot_z z (pos B))
quotient_fits z B h = small-fits (quot_z z (pos B)) (by z (div-le_self (up z) B) (div-le_self (down z) B) h)
  where
    by : (z : ℤ) → up z / B ≤ up z → down z / B ≤ down z → nat_abs z < 2 ^ 63 → nat_abs (quot_z z (pos B)) < 2 ^ 63
    by (pos n) u d h = omega (arith, abs_is (quot_z (pos n) (pos B)), quot_is (pos n) B)
    by (negsuc n) u d h = omega (arith, abs_is (quot_z (negsuc n) (pos B)), quot_is (negsuc n) B)

-- the word that is worked out is the one that is meant
pub rounded-word : (F : ℤ) (c B : ℕ) → SFits w64 F → Sizes F c B → to_z w64 (of_z w64 (quot_z (to_z w64 (of_z w64 (to_z w64 (of_z w64 F) *ℤ to_z w64 c))) (to_z w64 B))) ≡ rounded F c B
unfolding rounded
rounded-word F c B f z =
    let bs : to_z w64 B ≡ pos B = to_z_pos w64 B (omega (arith, z.base_within_limit)) in
    let cs : to_z w64 c ≡ pos c = to_z_pos w64 c (omega (arith, z.exposure_within_limit)) in
    let fs : to_z w64 (of_z w64 F) ≡ F = to_z-of_z w64 F f in
    let ps : to_z w64 (of_z w64 (F *ℤ pos c)) ≡ F *ℤ pos c = to_z-of_z w64 (F *ℤ pos c) (small-fits (F *ℤ pos c) (product_small F c B z)) in
    rw (bs, cs, fs, ps) (to_z-of_z w64 (quot_z (F *ℤ pos c) (pos B)) (quotient_fits (F *ℤ pos c) B (product_small F c B z)))

pub rounded-small : (F : ℤ) (c B : ℕ) → Sizes F c B → nat_abs (rounded F c B) ≤ most_kilograms
rounded-small F c B z = omega (arith, rounded-within F c B z.base_above_zero z.exposure_within_base, z.figure_within_limit)
