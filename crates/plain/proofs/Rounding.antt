-- What is shown of `rounded`: all that other proofs use of it.
use Rattle.std.proofs.Common.{◌≡◌, ℕ, zero, suc, ◌+◌, ◌*◌, ◌/◌, ◌<◌, ◌≤◌, ◌≢◌, ◌⊎◌, ℤ, pos, negsuc, ◌+ℤ◌, ◌-ℤ◌, ◌*ℤ◌, nat_abs, sym, refl, ap, ◌∙◌, inl, inr, mul-le-mul_right, mod-lt, div-lt_iff_lt-mul, mul-le-mul_left, div-add-mod', le-div_iff_mul-le, div-mul-le_self, mul-div_cancel, arith}
use native.Mathlib.Nat.{div-le_of_le-mul, mul-lt-mul_of_pos_left}
use borrow.Author.Differences.{up, down, ints, same_in, product_is, quot_is}
use Rattle.plain.proofs.Integers.{sub-mul}
use Rattle.plain.specs.Rounding.{rounded, PartNearShare, TotalNearExactSum, TotalIsFigureWhen}
use Rattle.plain.specs.Fractions.{Fraction, ◌over◌, add_fractions}
use Rattle.plain.proofs.Fractions.{gap-none, gap-add}

-- the two parts of what is rounded
up-rounded : (F : ℤ) (c B : ℕ) → up (rounded F c B) ≡ up F * c / B
unfolding rounded
up-rounded F c B = (quot_is (F *ℤ pos c) B).0 ∙ ap (λ n. n / B) (omega (arith, product_is F (pos c)))

down-rounded : (F : ℤ) (c B : ℕ) → down (rounded F c B) ≡ down F * c / B
unfolding rounded
down-rounded F c B = (quot_is (F *ℤ pos c) B).1 ∙ ap (λ n. n / B) (omega (arith, product_is F (pos c)))

-- nothing of a figure
pub rounded-none : (F : ℤ) (B : ℕ) → rounded F 0 B ≡ pos 0
rounded-none F B = same_in (rounded F 0 B) (pos 0) (rw (up-rounded F 0 B, down-rounded F 0 B) (omega arith))

-- the whole figure
pub rounded-all : (F : ℤ) (B : ℕ) → 0 < B → rounded F B B ≡ F
rounded-all F B h = same_in (rounded F B B) F
    (rw (up-rounded F B B, down-rounded F B B, mul-div_cancel (up F) h, mul-div_cancel (down F) h) (omega arith))

-- never past the figure
quotient-within : (n c B : ℕ) → c ≤ B → n * c / B ≤ n
quotient-within n c B h = div-le_of_le-mul B (omega (arith, mul-le-mul_left n h))

pub rounded-within : (F : ℤ) (c B : ℕ) → 0 < B → c ≤ B → nat_abs (rounded F c B) ≤ nat_abs F
rounded-within F c B p h = bound F (quotient-within (up F) c B h) (quotient-within (down F) c B h)
  where
    bound : (F : ℤ) → up F * c / B ≤ up F → down F * c / B ≤ down F → nat_abs (rounded F c B) ≤ nat_abs F
    bound (pos f) u d = omega (arith, ints, up-rounded (pos f) c B, down-rounded (pos f) c B)
    bound (negsuc f) u d = omega (arith, ints, up-rounded (negsuc f) c B, down-rounded (negsuc f) c B)

-- nor does what is added on the way
pub rounded-between : (F : ℤ) (c e B : ℕ) → 0 < B → c + e ≤ B → nat_abs (rounded F (c + e) B -ℤ rounded F c B) ≤ nat_abs F
rounded-between F c e B p h = bound F
  where
    rises : (n : ℕ) → n * c / B ≤ n * (c + e) / B
    rises n =
        let more : c ≤ c + e = omega arith in
        (le-div_iff_mul-le {x = n * c / B} {y = n * (c + e)} p).1 (omega (arith, div-mul-le_self (n * c) B, mul-le-mul_left n more))

    bound : (F : ℤ) → nat_abs (rounded F (c + e) B -ℤ rounded F c B) ≤ nat_abs F
    bound (pos f) = omega (arith, ints, up-rounded (pos f) c B, down-rounded (pos f) c B, up-rounded (pos f) (c + e) B, down-rounded (pos f) (c + e) B, rises f, quotient-within f (c + e) B h)
    bound (negsuc f) = omega (arith, ints, up-rounded (negsuc f) c B, down-rounded (negsuc f) c B, up-rounded (negsuc f) (c + e) B, down-rounded (negsuc f) (c + e) B, rises (suc f), quotient-within (suc f) (c + e) B h)

-- and short of it before the end
quotient-short : (n c B : ℕ) → 0 < n → c < B → n * c / B < n
quotient-short n c B p h = (div-lt_iff_lt-mul {x = n * c} (omega arith)).1 (mul-lt-mul_of_pos_left h p)

pub rounded-short : (F : ℤ) (c B : ℕ) → F ≢ pos 0 → c < B → rounded F c B ≢ F
rounded-short (pos zero) c B n h e = n refl
rounded-short (pos (suc f)) c B n h e =
    omega (arith, quotient-short (suc f) c B (omega arith) h, up-rounded (pos (suc f)) c B, ap up e)
rounded-short (negsuc f) c B n h e =
    omega (arith, quotient-short (suc f) c B (omega arith) h, down-rounded (negsuc f) c B, ap down e)

-- the distance from the exact fraction
times-up : (F : ℤ) (c B : ℕ) → 0 < B → (up (rounded F c B) * B ≤ up F * c) × (up F * c < up (rounded F c B) * B + B)
times-up F c B h = rw (up-rounded F c B) (omega (arith, div-add-mod' (up F * c) B, mod-lt (up F * c) h))

times_down : (F : ℤ) (c B : ℕ) → 0 < B → (down (rounded F c B) * B ≤ down F * c) × (down F * c < down (rounded F c B) * B + B)
times_down F c B h = rw (down-rounded F c B) (omega (arith, div-add-mod' (down F * c) B, mod-lt (down F * c) h))

pub rounded-near : (F : ℤ) (c B : ℕ) → 0 < B → TotalNearExactSum 1 (rounded F c B) (F *ℤ pos c over B)
rounded-near F c B h = omega (arith, ints, times-up F c B h, times_down F c B h)

-- what a more adds, and its distance from the exact share of a
pub rounded-step : (F : ℤ) (c a B : ℕ) → 0 < B → PartNearShare (rounded F (c + a) B -ℤ rounded F c B) (F *ℤ pos a over B)
rounded-step F c a B h = rw (sub-mul (rounded F (c + a) B) (rounded F c B) (pos B)) (go F)
  where
    go : (F : ℤ) → nat_abs ((rounded F (c + a) B *ℤ pos B -ℤ rounded F c B *ℤ pos B) -ℤ F *ℤ pos a) < B
    go (pos f) = omega (arith, ints, times-up (pos f) c B h, times_down (pos f) c B h, times-up (pos f) (c + a) B h, times_down (pos f) (c + a) B h)
    go (negsuc f) = omega (arith, ints, times-up (negsuc f) c B h, times_down (negsuc f) c B h, times-up (negsuc f) (c + a) B h, times_down (negsuc f) (c + a) B h)

-- ---- how large the error can be

-- nothing is near nothing
pub no-part-near : (B : ℕ) → 0 < B → PartNearShare (pos 0) (pos 0 over B)
no-part-near B h = omega (arith, gap-none B)

pub no-total-near : (B : ℕ) → TotalNearExactSum 0 (pos 0) (pos 0 over B)
no-total-near B = omega (arith, gap-none B)

-- what is near stays near when added up
pub totals-near : (j k : ℕ) (n n' : ℤ) (x y : Fraction) → TotalNearExactSum j n x → TotalNearExactSum k n' y → TotalNearExactSum (j + k) (n +ℤ n') (add_fractions x y)
totals-near j k n n' x y h g =
    omega (arith, gap-add n n' x y, mul-le-mul_right y.bottom h, mul-le-mul_right x.bottom g)

-- a rounded figure is the whole one just where the exposure c has reached the base B
pub whole-figure : (R : Type 0) → R ⊎ (R → ⊥) → (F : ℤ) (c B : ℕ) → 0 < B → F ≢ pos 0 → (R → B ≡ c) → ((R → ⊥) → c < B) → TotalIsFigureWhen R (rounded F c B) F
whole-figure R either F c B p n same short = (only either, λ r. ap (λ m. rounded F m B) (sym (same r)) ∙ rounded-all F B p)
  where
    only : R ⊎ (R → ⊥) → rounded F c B ≡ F → R
    only (inl r) e = r
    only (inr r) e = absurd (rounded-short F c B n (short r) e)
