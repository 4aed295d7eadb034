-- Shares in hundredths of a percent, and means in hundredths, lie where they are to lie.
use Rattle.std.proofs.Common.{◌≡◌, ℕ, zero, suc, ◌+◌, ◌*◌, ◌/◌, eqb, Some, None, refl, arith}
use Rattle.std.proofs.Math.Nat.{div-mul-le_self, lt-div-mul-add, add-mul}
use Rattle.std.proofs.lemmas.Bool.{cond-false, ne_eqb}
use Rattle.grading.specs.Mean.{half_up, nearest_hundredths, IsNearest}
use Rattle.plain.specs.Covers.{IsShare}
use Rattle.plain.specs.Readings.{hundredths}

pub hundredths-share : (k n : ℕ) → IsShare k n (hundredths k n)
hundredths-share k zero = refl
hundredths-share k (suc n) =
    let q = 10000 * k / suc n in
    let some : hundredths k (suc n) ≡ Some q = cond-false (eqb (suc n) 0) None (Some q) (ne_eqb (suc n) 0 (λ e. omega (arith, e))) in
    rw some (div-mul-le_self (10000 * k) (suc n), omega (arith, add-mul q 1 (suc n), lt-div-mul-add {a = 10000 * k} {b = suc n} (omega arith)))

pub nearest-mean : (sum n : ℕ) → IsNearest sum n (nearest_hundredths sum n)
nearest-mean sum zero = refl
nearest-mean sum (suc n) =
    let h = half_up sum (suc n) in
    let some : nearest_hundredths sum (suc n) ≡ Some h = cond-false (eqb (suc n) 0) None (Some h) (ne_eqb (suc n) 0 (λ e. omega (arith, e))) in
    rw some (record {
      above = omega (arith, div-mul-le_self (200 * sum + suc n) (2 * suc n));
      below = omega (arith, lt-div-mul-add {a = 200 * sum + suc n} {b = 2 * suc n} (omega arith));
    })
