-- What a chain over rows finds or adds up, as what their views give.
use Rattle.std.proofs.Common.{◌≡◌, ◌+◌, Bool, true, false, cond, not, ◌||◌, nat_lt, List, [], ◌∷◌, map, is_some, Some, None, find, option_map, filter, sym, refl, ap}
use Rattle.std.specs.List.{position, position_or_len, list_any}
use Rattle.std.proofs.lemmas.List.{length-map}
use Rattle.plain.specs.Lists.{first_of}

module _ {X Y : Type 0} (view : X → Y) (test : Y → Bool) where
  position_or_len-view : (xs : List X) → position_or_len (λ x. test (view x)) xs ≡ position_or_len test (map view xs)
  position_or_len-view [] = refl
  position_or_len-view (x ∷ xs) = ap (λ n. cond (not (test (view x))) (1 + n) 0) (position_or_len-view xs)

  pub position-view : (xs : List X) → position (λ x. test (view x)) xs ≡ position test (map view xs)
  position-view xs i =
      let n = position_or_len-view xs i in
      let long = sym (length-map xs view) i in
      cond (nat_lt n long) (Some n) None

  pub any-view : (xs : List X) → list_any (λ x. test (view x)) xs ≡ is_some (first_of test (map view xs))
  unfolding first_of
  any-view [] = refl
  any-view (x ∷ xs) = by (test (view x)) (any-view xs)
    where
      by : (t : Bool) → list_any (λ x. test (view x)) xs ≡ is_some (first_of test (map view xs)) → (t || list_any (λ x. test (view x)) xs) ≡ is_some (cond t (Some (view x)) (first_of test (map view xs)))
      by true rest = refl
      by false rest = rest

  pub find-view : (xs : List X) → option_map view (find (λ x. test (view x)) xs) ≡ first_of test (map view xs)
  unfolding first_of
  find-view [] = refl
  find-view (x ∷ xs) = by (test (view x)) (find-view xs)
    where
      by : (t : Bool) → option_map view (find (λ x. test (view x)) xs) ≡ first_of test (map view xs) → option_map view (cond t (Some x) (find (λ x. test (view x)) xs)) ≡ cond t (Some (view x)) (first_of test (map view xs))
      by true e = refl
      by false e = e

  pub filter-view : (xs : List X) → map view (filter (λ x. test (view x)) xs) ≡ filter test (map view xs)
  filter-view [] = refl
  filter-view (x ∷ xs) = by (test (view x)) (filter-view xs)
    where
      by : (t : Bool) → map view (filter (λ x. test (view x)) xs) ≡ filter test (map view xs) → map view (cond t (x ∷ filter (λ x. test (view x)) xs) (filter (λ x. test (view x)) xs)) ≡ cond t (view x ∷ filter test (map view xs)) (filter test (map view xs))
      by true rest = ap (λ l. view x ∷ l) rest
      by false rest = rest
