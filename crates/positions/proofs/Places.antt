-- Finding a row and changing it, by its place.
use Rattle.std.proofs.Common.{◌≡◌, ℕ, zero, suc, ◌<◌, ◌≤◌, Bool, true, false, cond, ltb, List, [], ◌∷◌, ◌++◌, map, length, get_or, set, is_some, Some, None, is_ok, Ok, Err, Result, sym, refl, ap, ◌∙◌, ⊎_elim, arith}
use Rattle.std.specs.List.{AllByRecursion}
use Rattle.std.proofs.lemmas.List.{length-map, get_or-map, map-set, map_push}
use Rattle.std.proofs.lemmas.Bool.{lt-ltb, le-ltb, cond-true, cond-false, cases_lt}
use Rattle.plain.specs.Lists.{first_of, change_first}
use Rattle.plain.proofs.Lists.{place_of, first-at, first_past, change-at}
use Rattle.positions.specs.Places.{first_place, change_at}

-- ---- places

module _ {X : Type 0} (test : X → Bool) (xs : List X) where
  pub found-place : (k : ℕ) → k ≡ place_of test xs → k < length xs → Some k ≡ first_place test xs
  found-place k e h = ap Some e ∙ sym (cond-true (ltb (place_of test xs) (length xs)) (Some (place_of test xs)) None (lt-ltb (place_of test xs) (length xs) (omega arith)))

  pub no_place : length xs ≤ place_of test xs → None ≡ first_place test xs
  no_place h = sym (cond-false (ltb (place_of test xs) (length xs)) (Some (place_of test xs)) None (le-ltb (place_of test xs) (length xs) h))

  pub place-of-some : (k : ℕ) → Some k ≡ first_place test xs → (k ≡ place_of test xs) × (k < length xs)
  place-of-some k e =
      ⊎_elim
      (λ h. let is : Some k ≡ Some (place_of test xs) = e ∙ cond-true (ltb (place_of test xs) (length xs)) (Some (place_of test xs)) None (lt-ltb (place_of test xs) (length xs) h) in
      let same : k ≡ place_of test xs = cc in
      (same, omega arith))
      (λ h. let is : Some k ≡ None = e ∙ sym (no_place h) in
      absurd cc)
      (cases_lt (place_of test xs) (length xs))

  pub place-of-none : None ≡ first_place test xs → length xs ≤ place_of test xs
  place-of-none e =
      ⊎_elim
      (λ h. let is : None ≡ Some (place_of test xs) = e ∙ cond-true (ltb (place_of test xs) (length xs)) (Some (place_of test xs)) None (lt-ltb (place_of test xs) (length xs) h) in
      absurd cc)
      (λ h. h)
      (cases_lt (place_of test xs) (length xs))

  pub first-nowhere : None ≡ first_place test xs → first_of test xs ≡ None
  first-nowhere e = first_past test xs (place-of-none e)

pub found_alike : {X : Type 0} (test : X → Bool) (xs : List X) → is_some (first_place test xs) ≡ is_some (first_of test xs)
unfolding first_of
found_alike test [] = refl
found_alike test (x ∷ xs) =
    ⊎_elim
    (λ h. ap is_some (sym (found-place test (x ∷ xs) (place_of test (x ∷ xs)) refl h)) ∙ sym (ap is_some (first-at test (x ∷ xs) x h)))
    (λ h. ap is_some (sym (no_place test (x ∷ xs) h)) ∙ sym (ap is_some (first_past test (x ∷ xs) h)))
    (cases_lt (place_of test (x ∷ xs)) (suc (length xs)))

-- the row at the place of the first whose view passes
module _ {X Y : Type 0} (view : X → Y) (test : Y → Bool) (xs : List X) (k : ℕ) (at : Some k ≡ first_place test (map view xs)) where
  pub row_within : k < length xs
  row_within = omega (arith, (place-of-some test (map view xs) k at).1, length-map xs view)

  pub row-found : (d : X) → first_of test (map view xs) ≡ Some (view (get_or xs k d))
  row-found d =
      let place = place-of-some test (map view xs) k at in
      first-at test (map view xs) (view d) (omega (arith, place.0, place.1))
      ∙ ap (λ n. Some (get_or (map view xs) n (view d))) (sym place.0)
      ∙ ap Some (get_or-map view xs k d (view d) row_within)

-- ---- one change

pub change-set : {X : Type 0} (change : X → X) (xs : List X) (k : ℕ) (d : X) → change_at k change xs ≡ set xs k (change (get_or xs k d))
unfolding change_at
change-set change [] k d = refl
change-set change (x ∷ xs) zero d = refl
change-set change (x ∷ xs) (suc k) d = ap (λ ys. x ∷ ys) (change-set change xs k d)

-- past the end nothing is changed
pub change-past : {X : Type 0} (change : X → X) (xs : List X) (k : ℕ) → length xs ≤ k → change_at k change xs ≡ xs
unfolding change_at
change-past change [] k h = refl
change-past change (x ∷ xs) zero h = absurd (omega arith)
change-past change (x ∷ xs) (suc k) h = ap (λ ys. x ∷ ys) (change-past change xs k (omega arith))

pub change-at-place : {X : Type 0} (test : X → Bool) (change : X → X) (xs : List X) (k : ℕ) → Some k ≡ first_place test xs → (d : X) → change_at k change xs ≡ change_first test change xs
change-at-place test change xs k e d =
    let at = place-of-some test xs k e in
    change-set change xs k d
    ∙ ap (λ n. set xs n (change (get_or xs n d))) at.0
    ∙ sym (change-at test change xs d (omega (arith, at.0, at.1)))

pub first-idle : {X : Type 0} (test : X → Bool) (xs : List X) → change_first test (λ x. x) xs ≡ xs
unfolding change_first
first-idle test [] = refl
first-idle test (x ∷ xs) = one (test x) (first-idle test xs)
  where
    one : (t : Bool) → change_first test (λ x. x) xs ≡ xs → cond t (x ∷ xs) (x ∷ change_first test (λ x. x) xs) ≡ x ∷ xs
    one true e = refl
    one false e = ap (λ l. x ∷ l) e

-- where none passes, none is changed
pub change-nowhere : {X : Type 0} (test : X → Bool) (change : X → X) (xs : List X) → AllByRecursion (λ x. test x ≡ false) xs → change_first test change xs ≡ xs
unfolding change_first
change-nowhere test change [] none = refl
change-nowhere test change (x ∷ xs) none = cond-false (test x) (change x ∷ xs) (x ∷ change_first test change xs) none.0 ∙ ap (λ ys. x ∷ ys) (change-nowhere test change xs none.1)

-- a row is written over: its view is changed, where the view of the new row is the change of the old row's
pub written-view : {X Y : Type 0} (view : X → Y) (change : Y → Y) (xs : List X) (k : ℕ) (old new : X) → k < length xs → old ≡ get_or xs k old → view new ≡ change (view old) → map view (set xs k new) ≡ change_at k change (map view xs)
written-view view change xs k old new h is e =
    map-set view xs k new
    ∙ ap (set (map view xs) k) (e ∙ ap change (ap view is ∙ sym (get_or-map view xs k old (view old) h)))
    ∙ sym (change-set change (map view xs) k (view old))

-- a row is added where a table is not full: so is its view
pub added-view : {X Y E : Type 0} (view : X → Y) (full : Bool) (xs new : List X) (x : X) (e : E) (r : Result (Unit {0}) E) → new ≡ cond full xs (xs ++ x ∷ []) → r ≡ cond full (Err e) (Ok tt) → map view new ≡ cond (is_ok r) (map view xs ++ view x ∷ []) (map view xs)
added-view view true xs new x e r is told = ap (map view) is ∙ sym (ap (λ s. cond (is_ok s) (map view xs ++ view x ∷ []) (map view xs)) told)
added-view view false xs new x e r is told =
    ap (map view) is
    ∙ map_push view xs x
    ∙ sym (ap (λ s. cond (is_ok s) (map view xs ++ view x ∷ []) (map view xs)) told)
