-- What an array holds that a closure made: each call gives the row at its place, and leaves the closure as it was.
use Rattle.std.proofs.Common.{◌≡◌, ℕ, zero, suc, ◌+◌, ◌<◌, ◌≤◌, List, length, get_or, ◌∙◌, ap, sym, subst, ⊎_elim, arith}
use Rattle.std.proofs.lemmas.Bool.{cases_lt}
use Rattle.std.proofs.lemmas.List.{ext_get_or}
use Rattle.std.specs.Array.{IsFromFnResult, IsFromFnResultFrom}
use Rattle.std.specs.Fn.{Mut, Called}

module _ {F B : Type 0} (g : Mut F (ℕ × Unit {0}) B) (f : F) (row : ℕ → B) (ys : List B) (most : ℕ)
    (one : (i : ℕ) → i < most → (y : B) (q : F) → Called g f (i, tt) y q → (y ≡ row i) × (q ≡ f)) where
  made-at : (i n : ℕ) → i + n ≤ most → IsFromFnResultFrom g f ys i n → (k : ℕ) (d : B) → i ≤ k → k < i + n → get_or ys k d ≡ row k
  made-at i zero fits made k d lo hi = absurd (omega arith)
  made-at i (suc n) fits made k d lo hi =
      ⊎_elim
      (λ h. made-at (i + 1) n (omega arith) (subst (λ p. IsFromFnResultFrom g p ys (i + 1) n) (one i (omega arith) made.1 made.0 made.3).1 made.4) k d (omega arith) (omega arith))
      (λ h. let same : k ≡ i = omega arith in ap (λ j. get_or ys j d) same ∙ made.2.1 d ∙ (one i (omega arith) made.1 made.0 made.3).0 ∙ sym (ap row same))
      (cases_lt i k)

  -- the array is a list that has the same rows
  pub made-as : (d : B) (zs : List B) → IsFromFnResult g f ys most → length zs ≡ most → ((k : ℕ) → k < most → row k ≡ get_or zs k d) → ys ≡ zs
  made-as d zs made long same =
      ext_get_or d ys zs (made.long ∙ sym long)
      (λ k lt. made-at 0 most (omega arith) made.each k d (omega arith) (omega (arith, lt, made.long)) ∙ same k (omega (arith, lt, made.long)))
