-- Bytes cut at the first separator.
use Rattle.std.proofs.Common.{◌≡◌, ℕ, suc, ◌+◌, ◌-◌, ◌<◌, ◌≤◌, true, false, cond, not, eqb, List, [], ◌∷◌, length, take, drop, Some, None, refl, ap, sym, subst, add-one, arith}
use Rattle.std.proofs.lemmas.Grind.{common_steps}
use Rattle.std.proofs.lemmas.List.{take_rest}
use Rattle.std.specs.List.{position, position_or_len}
use Rattle.lines.specs.Fields.{pieces, onto}

abbrev before : ℕ → List ℕ → ℕ
before sep bs = position_or_len (λ b. eqb b sep) bs

pieces-cut : (sep : ℕ) (bs : List ℕ) → before sep bs < length bs → pieces sep bs ≡ take (before sep bs) bs ∷ pieces sep (drop (suc (before sep bs)) bs)
pieces-cut sep [] h = absurd (omega arith)
pieces-cut sep (b ∷ bs) h =
    (elim (eqb b sep) as (λ t. cond (not t) (1 + before sep bs) 0 < suc (length bs) → cond t ([] ∷ pieces sep bs) (onto b (pieces sep bs)) ≡ take (cond (not t) (1 + before sep bs) 0) (b ∷ bs) ∷ pieces sep (drop (suc (cond (not t) (1 + before sep bs) 0)) (b ∷ bs)))
    [ true ↦ λ _. refl | false ↦ λ k. let next : suc (before sep bs) ≡ 1 + before sep bs = omega arith in subst (λ n. onto b (pieces sep bs) ≡ take n (b ∷ bs) ∷ pieces sep (drop (suc n) (b ∷ bs))) next (ap (onto b) (pieces-cut sep bs (omega arith))) ]) h

pieces-last : (sep : ℕ) (bs : List ℕ) → length bs ≤ before sep bs → pieces sep bs ≡ bs ∷ []
pieces-last sep [] h = refl
pieces-last sep (b ∷ bs) h =
    (elim (eqb b sep) as (λ t. suc (length bs) ≤ cond (not t) (1 + before sep bs) 0 → cond t ([] ∷ pieces sep bs) (onto b (pieces sep bs)) ≡ (b ∷ bs) ∷ [])
    [ true ↦ λ k. absurd (omega arith) | false ↦ λ k. ap (onto b) (pieces-last sep bs (omega arith)) ]) h

-- the first piece, and the bytes after its separator
pub cut-at : (sep : ℕ) (bs : List ℕ) (e : ℕ) → Some e ≡ position (λ b. eqb b sep) bs → pieces sep bs ≡ take e bs ∷ pieces sep (take (length bs - (e + 1)) (drop (e + 1) bs))
cut-at sep bs e is =
    let at : (e ≡ before sep bs) × (e < length bs) = grind (arith, common_steps) in
    let P : ℕ → Type 0 = λ n. pieces sep bs ≡ take n bs ∷ pieces sep (drop (suc n) bs) in
    let here : P e = subst P (sym at.0) (pieces-cut sep bs (omega (arith, at.0, at.1))) in
    rw (take_rest bs (e + 1), add-one e) here

pub cut-nowhere : (sep : ℕ) (bs : List ℕ) → None ≡ position (λ b. eqb b sep) bs → pieces sep bs ≡ bs ∷ []
cut-nowhere sep bs is =
    let none : length bs ≤ before sep bs = grind (arith, common_steps) in
    pieces-last sep bs none
