-- The first place that passes a test, where places are counted on from n.
use Rattle.std.proofs.Common.{◌≡◌, ℕ, ◌+◌, ◌<◌, Bool, true, false, List, [], ◌∷◌, length, drop, Some, None, Option, sym, refl, ap, ◌∙◌, arith}
use Rattle.std.proofs.lemmas.Bool.{cond-true, cond-false, true≢false}
use Rattle.std.proofs.lemmas.List.{length-drop, drop_more}
use Rattle.std.specs.List.{position_from}

module _ {X : Type 0} where
  pub first-here : (test : X → Bool) (n : ℕ) (x : X) (xs : List X) → test x ≡ true → position_from test n (x ∷ xs) ≡ Some n
  first-here test n x xs e = cond-true (test x) (Some n) (position_from test (n + 1) xs) e

  pub first-past : (test : X → Bool) (n : ℕ) (x : X) (xs : List X) → test x ≡ false → position_from test n (x ∷ xs) ≡ position_from test (n + 1) xs
  first-past test n x xs e = cond-false (test x) (Some n) (position_from test (n + 1) xs) e

  pub rest-after : (all : List X) (n : ℕ) (x : X) (xs : List X) → drop n all ≡ x ∷ xs → drop (n + 1) all ≡ xs
  rest-after all n x xs e =
      let h : n < length all = omega (arith, ap length e, length-drop n all) in
      ap (drop 1) (sym (drop_more all n x h) ∙ e)

  -- looking on from a place
  abbrev pub seen_from : (X → Bool) → List X → Option ℕ → Option ℕ
  seen_from test all None = None
  seen_from test all (Some at) = position_from test at (drop at all)

  -- what passes a test is not before the first that passes a wider one
  pub wider-first : (test wide : X → Bool) → ((x : X) → test x ≡ true → wide x ≡ true) → (all : List X) (n : ℕ) (xs : List X) → drop n all ≡ xs → seen_from test all (position_from wide n xs) ≡ position_from test n xs
  wider-first test wide so all n [] e = refl
  wider-first test wide so all n (x ∷ xs) e = by (wide x) refl (wider-first test wide so all (n + 1) xs (rest-after all n x xs e))
    where
      fails : wide x ≡ false → (t : Bool) → test x ≡ t → test x ≡ false
      fails other true passes = absurd (true≢false (sym (so x passes) ∙ other))
      fails other false is = is

      by : (t : Bool) → wide x ≡ t → seen_from test all (position_from wide (n + 1) xs) ≡ position_from test (n + 1) xs → seen_from test all (position_from wide n (x ∷ xs)) ≡ position_from test n (x ∷ xs)
      by true passes further = ap (seen_from test all) (first-here wide n x xs passes) ∙ ap (position_from test n) e
      by false other further =
          ap (seen_from test all) (first-past wide n x xs other)
          ∙ further
          ∙ sym (first-past test n x xs (fails other (test x) refl))
