-- The parts of one investee: each near its share, and all adding up to the rounded figure of all exposures.
use Rattle.std.proofs.Common.{◌≡◌, ℕ, ◌+◌, ◌<◌, ◌≤◌, max, Bool, true, false, cond, eqb, ◌≢◌, ◌⊎◌, List, [], ◌∷◌, ℤ, pos, ◌+ℤ◌, ◌-ℤ◌, ◌*ℤ◌, nat_abs, sym, refl, ap, ◌∙◌, ap₂, inl, inr, ⊎_elim, add-zero, zero-add, add_assoc, arith}
use lib.IntN.{+ℤ_idr, +ℤ_invr}
use Rattle.std.specs.List.{AllByRecursion}
use Rattle.std.proofs.lemmas.Bool.{ne_eqb, cond-true, cond-false, cond_both, cases_lt}
use Rattle.plain.specs.Branches.{branches, branch_count}
use Rattle.plain.specs.Fractions.{◌over◌}
use Rattle.plain.specs.Lists.{Pairwise}
use Rattle.plain.specs.Parts.{Lent, Denominator, at_least, whole, Apportionment, exposures, exposure_at, exposure_before, base_of, base, ReachedBy, Reached, share, all_shares, part, total, OncePerBranch, AboveZero, Orderly}
use Rattle.plain.specs.Rounding.{rounded, PartNearShare, TotalNearExactSum, TotalIsFigureWhen}
use Rattle.plain.specs.Sums.{sum_over}
use Rattle.plain.proofs.Integers.{linear}
use Rattle.plain.proofs.Rounding.{rounded-none, rounded-within, rounded-near, rounded-step, no-part-near, no-total-near, whole-figure}
use Rattle.plain.proofs.Sums.{sum_same, sum-zero, sum-mul, sum-pick}

-- ---- the base

pub base-pos : (a : Apportionment) → 0 < base a
base-pos a = omega arith

pub base-holds : (d : Denominator) (s : ℕ) → s ≤ max 1 (base_of d s)
base-holds (at_least w) s = omega arith
base-holds whole s = omega arith

-- the exposures are the base where they reach the denominator, and otherwise below it
reached-base : (d : Denominator) (s : ℕ) → AboveZero d → ReachedBy d s → max 1 (base_of d s) ≡ s
reached-base (at_least w) s z r = omega arith
reached-base whole s z r = omega arith

short-base : (d : Denominator) (s : ℕ) → (ReachedBy d s → ⊥) → s < max 1 (base_of d s)
short-base (at_least w) s n = omega arith
short-base whole s n = omega arith

reached-or-not : (d : Denominator) (s : ℕ) → ReachedBy d s ⊎ (ReachedBy d s → ⊥)
reached-or-not (at_least w) s = ⊎_elim (λ h. inr (λ g. omega arith)) inl (cases_lt s w)
reached-or-not whole s = ⊎_elim inl (λ h. inr (λ g. omega arith)) (cases_lt 0 s)

-- ---- one part

part-nears : (t : Bool) (F : ℤ) (B c e : ℕ) → 0 < B → PartNearShare (cond t (rounded F (c + e) B -ℤ rounded F c B) (pos 0)) (cond t (F *ℤ pos e) (pos 0) over B)
part-nears true F B c e h = rounded-step F c e B h
part-nears false F B c e h = no-part-near B h

pub part-near : (a : Apportionment) (b : ℕ) → PartNearShare (part a b) (share a b)
part-near a b = part-nears a.counted a.figure (base a) (exposure_before a.lent b) (exposure_at a.lent b) (base-pos a)

pub part_none : (a : Apportionment) (b : ℕ) → exposure_at a.lent b ≡ 0 → part a b ≡ pos 0
part_none a b e =
    cond_both a.counted _ _ (λ n. n ≡ pos 0)
    (λ _. ap (λ n. rounded a.figure n (base a) -ℤ rounded a.figure (exposure_before a.lent b) (base a)) (omega arith) ∙ +ℤ_invr (rounded a.figure (exposure_before a.lent b) (base a)))
    (λ _. refl)

pub part-uncounted : (a : Apportionment) (b : ℕ) → a.counted ≡ false → part a b ≡ pos 0
part-uncounted a b e = cond-false a.counted _ _ e

-- ---- all parts

fewer : (l : Lent) (ls : List Lent) → OncePerBranch (l ∷ ls) → OncePerBranch ls
unfolding Pairwise
fewer l ls ok = record { branches_in_range = ok.branches_in_range.1; branches_differ = ok.branches_differ.1 }

-- what branch b adds to the rounded figure after exposures c
pub part_after : ℤ → ℕ → ℕ → List Lent → ℕ → ℤ
part_after F B c ls b = rounded F (c + (exposure_before ls b + exposure_at ls b)) B -ℤ rounded F (c + exposure_before ls b) B

-- a branch that has lent nothing
pub exposure-none : (ls : List Lent) (b : ℕ) → AllByRecursion (λ m. m.branch ≢ b) ls → exposure_at ls b ≡ 0
unfolding exposure_at
exposure-none [] b h = refl
exposure-none (l ∷ ls) b h = cond-false (eqb l.branch b) _ _ (ne_eqb l.branch b h.0) ∙ exposure-none ls b h.1

part-after-none : (F : ℤ) (B c : ℕ) (ls : List Lent) (b : ℕ) → AllByRecursion (λ m. m.branch ≢ b) ls → part_after F B c ls b ≡ pos 0
unfolding part_after
part-after-none F B c ls b h =
    ap (λ n. rounded F (c + n) B -ℤ rounded F (c + exposure_before ls b) B) (omega (arith, exposure-none ls b h))
    ∙ +ℤ_invr (rounded F (c + exposure_before ls b) B)

-- the first branch takes its own step, and the others go on after it
part-after-cons : (F : ℤ) (B c : ℕ) (l : Lent) (ls : List Lent) (b : ℕ) → part_after F B c (l ∷ ls) b ≡ cond (eqb l.branch b) (rounded F (c + l.exposure) B -ℤ rounded F c B) (part_after F B (c + l.exposure) ls b)
unfolding part_after exposure_at exposure_before
part-after-cons F B c l ls b = by (eqb l.branch b) l.exposure (exposure_before ls b) (exposure_at ls b)
  where
    by : (t : Bool) (e x y : ℕ) → rounded F (c + (cond t 0 (e + x) + cond t e y)) B -ℤ rounded F (c + cond t 0 (e + x)) B
        ≡ cond t (rounded F (c + e) B -ℤ rounded F c B) (rounded F (c + e + (x + y)) B -ℤ rounded F (c + e + x) B)
    by true e x y = ap₂ (λ m n. rounded F m B -ℤ rounded F n B) (omega arith) (omega arith)
    by false e x y = ap₂ (λ m n. rounded F m B -ℤ rounded F n B) (omega arith) (omega arith)

parts-after-add : (F : ℤ) (B c : ℕ) (ls : List Lent) → OncePerBranch ls → sum_over branches (part_after F B c ls) ≡ rounded F (c + exposures ls) B -ℤ rounded F c B
unfolding exposures Pairwise
parts-after-add F B c [] ok =
    sum_same branches _ _ (λ b. part-after-none F B c [] b tt) ∙ sum-zero branches
    ∙ sym (ap (λ n. rounded F n B -ℤ rounded F c B) (add-zero c) ∙ +ℤ_invr (rounded F c B))
parts-after-add F B c (l ∷ ls) ok =
    let e = l.exposure in
    rw (
      sum_same branches _ _ (part-after-cons F B c l ls),
      sum-pick branch_count l.branch (rounded F (c + e) B -ℤ rounded F c B) (part_after F B (c + e) ls) ok.branches_in_range.0.0 ok.branches_in_range.0.1 (part-after-none F B (c + e) ls l.branch ok.branches_differ.0),
      parts-after-add F B (c + e) ls (fewer l ls ok),
      add_assoc c e (exposures ls),
    )
    (omega (arith, linear))

parts_add : (F : ℤ) (B : ℕ) (ls : List Lent) → OncePerBranch ls → sum_over branches (λ b. rounded F (exposure_before ls b + exposure_at ls b) B -ℤ rounded F (exposure_before ls b) B) ≡ rounded F (exposures ls) B
unfolding part_after
parts_add F B ls ok =
    sum_same branches _ (part_after F B 0 ls) (λ b. simp zero-add)
    ∙ parts-after-add F B 0 ls ok
    ∙ rw (zero-add (exposures ls), rounded-none F B) (+ℤ_idr (rounded F (exposures ls) B))

totals-by : (t : Bool) (F : ℤ) (B : ℕ) (ls : List Lent) → OncePerBranch ls → sum_over branches (λ b. cond t (rounded F (exposure_before ls b + exposure_at ls b) B -ℤ rounded F (exposure_before ls b) B) (pos 0)) ≡ cond t (rounded F (exposures ls) B) (pos 0)
totals-by true F B ls ok = parts_add F B ls ok
totals-by false F B ls ok = sum-zero branches

-- the closed form: a counted investee's total is its figure, rounded for all exposures together
pub total-is : (a : Apportionment) → OncePerBranch a.lent → total a ≡ cond a.counted (rounded a.figure (exposures a.lent) (base a)) (pos 0)
total-is a ok = totals-by a.counted a.figure (base a) a.lent ok

-- ---- the total and the figure

pub total-within : (a : Apportionment) → OncePerBranch a.lent → nat_abs (total a) ≤ nat_abs a.figure
total-within a ok =
    rw (total-is a ok)
    (cond_both a.counted _ _ (λ n. nat_abs n ≤ nat_abs a.figure)
    (λ _. rounded-within a.figure (exposures a.lent) (base a) (base-pos a) (base-holds a.denominator (exposures a.lent))) (λ _. omega arith))

pub total-whole : (a : Apportionment) → Orderly a → a.counted ≡ true → a.figure ≢ pos 0 → TotalIsFigureWhen (Reached a) (total a) a.figure
total-whole a ok counts n =
    let d = a.denominator in
    let s = exposures a.lent in
    rw (total-is a ok.once_per_branch ∙ cond-true a.counted _ _ counts)
    (whole-figure (Reached a) (reached-or-not d s) a.figure s (base a) (base-pos a) n (reached-base d s ok.above_zero) (short-base d s))

-- ---- the exact shares

exposures-add : (ls : List Lent) → OncePerBranch ls → sum_over branches (λ b. pos (exposure_at ls b)) ≡ pos (exposures ls)
unfolding exposure_at exposures Pairwise
exposures-add [] ok = sum-zero branches
exposures-add (l ∷ ls) ok =
    sum_same branches _ _ (λ b. inside (eqb l.branch b) l.exposure (exposure_at ls b))
    ∙ sum-pick branch_count l.branch (pos l.exposure) (λ b. pos (exposure_at ls b)) ok.branches_in_range.0.0 ok.branches_in_range.0.1 (ap pos (exposure-none ls l.branch ok.branches_differ.0))
    ∙ ap (λ z. pos l.exposure +ℤ z) (exposures-add ls (fewer l ls ok))
  where
    inside : (t : Bool) (m n : ℕ) → pos (cond t m n) ≡ cond t (pos m) (pos n)
    inside true m n = refl
    inside false m n = refl

shares-by : (t : Bool) (F : ℤ) (ls : List Lent) → OncePerBranch ls → sum_over branches (λ b. cond t (F *ℤ pos (exposure_at ls b)) (pos 0)) ≡ cond t (F *ℤ pos (exposures ls)) (pos 0)
shares-by true F ls ok = sum-mul F branches (λ b. pos (exposure_at ls b)) ∙ ap (λ z. F *ℤ z) (exposures-add ls ok)
shares-by false F ls ok = sum-zero branches

total-nears : (t : Bool) (F : ℤ) (c B : ℕ) → 0 < B → TotalNearExactSum (cond t 1 0) (cond t (rounded F c B) (pos 0)) (cond t (F *ℤ pos c) (pos 0) over B)
total-nears true F c B h = rounded-near F c B h
total-nears false F c B h = no-total-near B

pub total-near : (a : Apportionment) → OncePerBranch a.lent → TotalNearExactSum (cond a.counted 1 0) (total a) (all_shares a)
total-near a ok =
    rw (total-is a ok, shares-by a.counted a.figure a.lent ok)
    (total-nears a.counted a.figure (exposures a.lent) (base a) (base-pos a))
