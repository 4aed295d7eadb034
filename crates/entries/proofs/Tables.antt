-- A list in a table of n places, the rest of which is empty, and one more element.
use Rattle.std.proofs.Common.{◌≡◌, ℕ, zero, suc, ◌+◌, ◌<◌, ◌≤◌, List, [], ◌∷◌, ◌++◌, length, take, set, replicate, sym, refl, ap, ◌∙◌, append_assoc, arith}
use lib.Seq.{take-append-le}

take-empty : {X : Type 0} (z : X) (n k l : ℕ) → n ≤ k → n ≤ l → take n (replicate k z) ≡ take n (replicate l z)
take-empty z zero k l p q = refl
take-empty z (suc n) zero l p q = absurd (omega arith)
take-empty z (suc n) (suc k) zero p q = absurd (omega arith)
take-empty z (suc n) (suc k) (suc l) p q = ap (λ xs. z ∷ xs) (take-empty z n k l (omega arith) (omega arith))

-- where there is a place left, it takes the element
pub set_next : {X : Type 0} (z d : X) (n k : ℕ) (xs : List X) → length xs < n → n ≤ length xs + k → set (take n (xs ++ replicate k z)) (length xs) d ≡ take n ((xs ++ d ∷ []) ++ replicate k z)
set_next z d zero k xs lt le = absurd (omega arith)
set_next z d (suc n) zero [] lt le = absurd (omega arith)
set_next z d (suc n) (suc k) [] lt le = ap (λ xs. d ∷ xs) (take-empty z n k (suc k) (omega arith) (omega arith))
set_next z d (suc n) k (x ∷ xs) lt le = ap (λ ys. x ∷ ys) (set_next z d n k xs (omega arith) (omega arith))

-- where there is none, it is left out
pub full-stays : {X : Type 0} (d : X) (n : ℕ) (xs empty : List X) → n ≤ length xs → take n (xs ++ empty) ≡ take n ((xs ++ d ∷ []) ++ empty)
full-stays d n xs empty le =
    take-append-le n xs empty le ∙ sym (ap (take n) (append_assoc xs (d ∷ []) empty) ∙ take-append-le n xs ((d ∷ []) ++ empty) le)
