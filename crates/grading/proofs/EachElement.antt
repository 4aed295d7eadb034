-- What is used of `AllByRecursion`, which says of a list that each of its elements has a property.
use Rattle.std.proofs.Common.{◌≡◌, ℕ, zero, suc, ◌*◌, ◌<◌, ◌≤◌, Bool, true, false, cond, List, [], ◌∷◌, ◌++◌, map, length, get_or, set, take, sum_by, refl, arith}
use Rattle.std.specs.Prelude.{filter}
use Rattle.std.specs.List.{AllByRecursion}
use Rattle.std.proofs.lemmas.List.Sums.{sum_by-cons}

module _ {X : Type 0} (P : X → Type 0) where
  pub All-weaker : (Q : X → Type 0) → ((x : X) → P x → Q x) → (xs : List X) → AllByRecursion P xs → AllByRecursion Q xs
  All-weaker Q f [] h = tt
  All-weaker Q f (x ∷ xs) h = (f x h.0, All-weaker Q f xs h.1)

  pub All-get_or : (xs : List X) (i : ℕ) (d : X) → i < length xs → AllByRecursion P xs → P (get_or xs i d)
  All-get_or [] i d p h = absurd (omega arith)
  All-get_or (x ∷ xs) zero d p h = h.0
  All-get_or (x ∷ xs) (suc i) d p h = All-get_or xs i d (omega arith) h.1

  pub All-take : (n : ℕ) (xs : List X) → AllByRecursion P xs → AllByRecursion P (take n xs)
  All-take zero xs h = tt
  All-take (suc n) [] h = tt
  All-take (suc n) (x ∷ xs) h = (h.0, All-take n xs h.1)

  pub All-append : (xs ys : List X) → AllByRecursion P xs → AllByRecursion P ys → AllByRecursion P (xs ++ ys)
  All-append [] ys h k = k
  All-append (x ∷ xs) ys h k = (h.0, All-append xs ys h.1 k)

  pub All-push : (xs : List X) (x : X) → AllByRecursion P xs → P x → AllByRecursion P (xs ++ x ∷ [])
  All-push xs x h p = All-append xs (x ∷ []) h (p, tt)

  pub All-set : (xs : List X) (i : ℕ) (x : X) → P x → AllByRecursion P xs → AllByRecursion P (set xs i x)
  All-set [] i x p h = tt
  All-set (y ∷ ys) zero x p h = (p, h.1)
  All-set (y ∷ ys) (suc i) x p h = (h.0, All-set ys i x p h.1)

  pub All-map : {Y : Type 0} (f : Y → X) (ys : List Y) → AllByRecursion (λ y. P (f y)) ys → AllByRecursion P (map f ys)
  All-map f [] h = tt
  All-map f (y ∷ ys) h = (h.0, All-map f ys h.1)

module _ {X : Type 0} where
  pub all_kept_by : (test : X → Bool) (P : X → Type 0) (xs : List X) → AllByRecursion P xs → AllByRecursion P (filter test xs)
  all_kept_by test P [] h = tt
  all_kept_by test P (x ∷ xs) h = by (test x) (all_kept_by test P xs h.1)
    where
      by : (b : Bool) → AllByRecursion P (filter test xs) → AllByRecursion P (cond b (x ∷ filter test xs) (filter test xs))
      by true rest = (h.0, rest)
      by false rest = rest

  pub kept_by_passes : (test : X → Bool) (xs : List X) → AllByRecursion (λ x. test x ≡ true) (filter test xs)
  kept_by_passes test [] = tt
  kept_by_passes test (x ∷ xs) = by (test x) refl (kept_by_passes test xs)
    where
      by : (b : Bool) → test x ≡ b → AllByRecursion (λ x. test x ≡ true) (filter test xs) → AllByRecursion (λ x. test x ≡ true) (cond b (x ∷ filter test xs) (filter test xs))
      by true e rest = (e, rest)
      by false e rest = rest

  pub sum_by_le : (f : X → ℕ) (most : ℕ) (xs : List X) → AllByRecursion (λ x. f x ≤ most) xs → sum_by f xs ≤ length xs * most
  sum_by_le f most [] h = omega arith
  sum_by_le f most (x ∷ xs) h = omega (arith, sum_by-cons f x xs, h.0, sum_by_le f most xs h.1)
