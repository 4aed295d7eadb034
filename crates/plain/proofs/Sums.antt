-- Sums over lists: termwise, of nothing, in either order, and of a list in which one place is picked out.
use Rattle.std.proofs.Common.{◌≡◌, ℕ, zero, suc, ◌<◌, ◌≤◌, Bool, true, false, cond, not, eqb, ◌⊎◌, List, [], ◌∷◌, map, ℤ, pos, ◌+ℤ◌, ◌*ℤ◌, filter, sym, refl, ap, ◌∙◌, ap₂, inl, inr, arith}
use mathlib.Core.Path.{fun_ext}
use lib.IntN.{+ℤ_idl, *ℤ-zero}
use Rattle.std.proofs.lemmas.Bool.{eq-eqb, ne_eqb, cases_eq, cond-true, cond-false}
use Rattle.plain.specs.Sums.{sum_over, down_from}
use Rattle.std.specs.List.{AllByRecursion}
use Rattle.plain.specs.Branches.{Branch, branches, branch_count}
use Rattle.plain.proofs.Integers.{mul-add, linear}

pub sum_same : {X : Type 0} (xs : List X) (f g : X → ℤ) → ((x : X) → f x ≡ g x) → sum_over xs f ≡ sum_over xs g
sum_same xs f g h = ap (sum_over xs) (fun_ext h)

pub sum-zero : {X : Type 0} (xs : List X) → sum_over xs (λ x. pos 0) ≡ pos 0
unfolding sum_over
sum-zero [] = refl
sum-zero (x ∷ xs) = +ℤ_idl (sum_over xs (λ x. pos 0)) ∙ sum-zero xs

pub sum-add : {X : Type 0} (xs : List X) (f g : X → ℤ) → sum_over xs (λ x. f x +ℤ g x) ≡ sum_over xs f +ℤ sum_over xs g
unfolding sum_over
sum-add [] f g = refl
sum-add (x ∷ xs) f g = rw (sum-add xs f g) (omega (arith, linear))

-- two sums in either order
pub sum-swap : {X Y : Type 0} (xs : List X) (ys : List Y) (f : X → Y → ℤ) → sum_over xs (λ x. sum_over ys (λ y. f x y)) ≡ sum_over ys (λ y. sum_over xs (λ x. f x y))
unfolding sum_over
sum-swap [] ys f = sym (sum-zero ys)
sum-swap (x ∷ xs) ys f =
    ap (λ z. sum_over ys (f x) +ℤ z) (sum-swap xs ys f) ∙ sym (sum-add ys (f x) (λ y. sum_over xs (λ x'. f x' y)))

pub sum-mul : {X : Type 0} (a : ℤ) (xs : List X) (f : X → ℤ) → sum_over xs (λ x. a *ℤ f x) ≡ a *ℤ sum_over xs f
unfolding sum_over
sum-mul a [] f = sym (*ℤ-zero a)
sum-mul a (x ∷ xs) f = ap (λ z. a *ℤ f x +ℤ z) (sum-mul a xs f) ∙ sym (mul-add a (f x) (sum_over xs f))

-- one of the places n, .. 2, 1 has another term, where g has 0
past-pick : (n k : ℕ) (x : ℤ) (g : ℕ → ℤ) → n < k → sum_over (down_from n) (λ b. cond (eqb k b) x (g b)) ≡ sum_over (down_from n) g
unfolding sum_over down_from
past-pick zero k x g h = refl
past-pick (suc n) k x g h =
    ap₂ ◌+ℤ◌ (cond-false (eqb k (suc n)) x (g (suc n)) (ne_eqb k (suc n) (λ e. omega arith))) (past-pick n k x g (omega arith))

pub sum-pick : (n k : ℕ) (x : ℤ) (g : ℕ → ℤ) → 0 < k → k ≤ n → g k ≡ pos 0 → sum_over (down_from n) (λ b. cond (eqb k b) x (g b)) ≡ x +ℤ sum_over (down_from n) g
unfolding sum_over down_from
sum-pick zero k x g low high z = absurd (omega arith)
sum-pick (suc n) k x g low high z = by (cases_eq k (suc n)) (sum-pick n k x g low)
  where
    by : (k ≡ suc n) ⊎ (k ≡ suc n → ⊥)
        → (k ≤ n → g k ≡ pos 0 → sum_over (down_from n) (λ b. cond (eqb k b) x (g b)) ≡ x +ℤ sum_over (down_from n) g)
        → cond (eqb k (suc n)) x (g (suc n)) +ℤ sum_over (down_from n) (λ b. cond (eqb k b) x (g b)) ≡ x +ℤ (g (suc n) +ℤ sum_over (down_from n) g)
    by (inl e) ih =
        let none : g (suc n) ≡ pos 0 = ap g (sym e) ∙ z in
        rw (cond-true (eqb k (suc n)) x (g (suc n)) (eq-eqb k (suc n) e), past-pick n k x g (omega arith), none) (omega (arith, linear))
    by (inr e) ih =
        rw (cond-false (eqb k (suc n)) x (g (suc n)) (ne_eqb k (suc n) e), ih (omega arith) z) (omega (arith, linear))

-- termwise, for the terms of the list alone
pub sum-all : {X : Type 0} (xs : List X) (f g : X → ℤ) → AllByRecursion (λ x. f x ≡ g x) xs → sum_over xs f ≡ sum_over xs g
unfolding sum_over
sum-all [] f g h = refl
sum-all (x ∷ xs) f g h = ap₂ ◌+ℤ◌ h.0 (sum-all xs f g h.1)

all-down : (n : ℕ) (P : ℕ → Type 0) → ((b : ℕ) → 0 < b → b ≤ n → P b) → AllByRecursion P (down_from n)
unfolding down_from
all-down zero P h = tt
all-down (suc n) P h = (h (suc n) (omega arith) (omega arith), all-down n P (λ b p q. h b p (omega arith)))

pub sum-branches : (f g : ℕ → ℤ) → ((b : ℕ) → Branch b → f b ≡ g b) → sum_over branches f ≡ sum_over branches g
sum-branches f g h = sum-all branches f g (all-down branch_count (λ b. f b ≡ g b) (λ b p q. h b (p, q)))

pub sum-map : {X Y : Type 0} (f : X → Y) (xs : List X) (g : Y → ℤ) → sum_over (map f xs) g ≡ sum_over xs (λ x. g (f x))
unfolding sum_over
sum-map f [] g = refl
sum-map f (x ∷ xs) g = ap (λ z. g (f x) +ℤ z) (sum-map f xs g)

-- those that pass a test, and the rest
pub sum-split : {X : Type 0} (test : X → Bool) (f : X → ℤ) (xs : List X) → sum_over (filter test xs) f +ℤ sum_over (filter (λ x. not (test x)) xs) f ≡ sum_over xs f
unfolding sum_over
sum-split test f [] = refl
sum-split {X} test f (x ∷ xs) = by (test x) (sum-split test f xs)
  where
    by : (t : Bool) → sum_over (filter test xs) f +ℤ sum_over (filter (λ y. not (test y)) xs) f ≡ sum_over xs f
        → sum_over (cond t (x ∷ filter test xs) (filter test xs)) f +ℤ sum_over (cond (not t) (x ∷ filter (λ y. not (test y)) xs) (filter (λ y. not (test y)) xs)) f ≡ f x +ℤ sum_over xs f
    by true rest = rw (sym rest) (omega (arith, linear))
    by false rest = rw (sym rest) (omega (arith, linear))
