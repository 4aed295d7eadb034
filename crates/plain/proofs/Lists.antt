-- Finding and changing one element of a list, and lists without two of a kind.
use Rattle.std.proofs.Common.{◌≡◌, ℕ, suc, ◌<◌, ◌≤◌, Bool, true, false, cond, not, eqb, ◌≢◌, List, [], ◌∷◌, ◌++◌, length, get_or, set, is_some, Some, None, Option, filter, sym, refl, ap, ◌∙◌, subst, ⊎_elim, one-add, arith}
use Rattle.std.specs.List.{find, prefix_len, AllByRecursion}
use Rattle.std.specs.Option.{option_or}
use Rattle.grading.proofs.EachElement.{All-weaker, All-push}
use Rattle.std.proofs.lemmas.Option.{slice_get-get_or, slice_get_past}
use Rattle.std.proofs.lemmas.List.Folds.{find_at, find-append}
use Rattle.std.proofs.lemmas.List.Recursion.{same_from_clauses}
use Rattle.std.proofs.lemmas.Bool.{cases_Bool, eq-eqb, ne_eqb, cond-true, cond-false, cond_both}
use Rattle.plain.specs.Lists.{first_of, change_first, Pairwise}

pub all_both : {X : Type 0} (P Q : X → Type 0) (xs : List X) → AllByRecursion P xs → AllByRecursion Q xs → AllByRecursion (λ x. P x × Q x) xs
all_both P Q [] p q = tt
all_both P Q (x ∷ xs) p q = ((p.0, q.0), all_both P Q xs p.1 q.1)

-- ---- the first that passes a test

pub is_find : {X : Type 0} (test : X → Bool) (xs : List X) → first_of test xs ≡ find test xs
unfolding first_of
is_find test = same_from_clauses (first_of test) (find test) (λ x r. cond (test x) (Some x) r) refl (λ x xs. refl) (λ x xs. refl)

pub first_passes : {X : Type 0} (test : X → Bool) (xs : List X) (y : X) → first_of test xs ≡ Some y → test y ≡ true
unfolding first_of
first_passes test [] y e = absurd cc
first_passes test (x ∷ xs) y e = cond_both (test x) (Some x) (first_of test xs) (λ o. o ≡ Some y → test y ≡ true) (λ p h. let same : x ≡ y = cc in ap test (sym same) ∙ p) (λ p h. first_passes test xs y h) e

pub first-all : {X : Type 0} (P : X → Type 0) (test : X → Bool) (xs : List X) (y : X) → first_of test xs ≡ Some y → AllByRecursion P xs → P y
unfolding first_of
first-all P test [] y e all = absurd cc
first-all P test (x ∷ xs) y e all = cond_both (test x) (Some x) (first_of test xs) (λ o. o ≡ Some y → P y) (λ p h. let same : x ≡ y = cc in subst P same all.0) (λ p h. first-all P test xs y h all.1) e

pub none_passes : {X : Type 0} (test : X → Bool) (xs : List X) → is_some (first_of test xs) ≡ false → AllByRecursion (λ x. test x ≡ false) xs
unfolding first_of
none_passes test [] e = tt
none_passes test (x ∷ xs) e =
    cond_both (test x) (Some x) (first_of test xs) (λ o. is_some o ≡ false → (test x ≡ false) × AllByRecursion (λ x. test x ≡ false) xs)
    (λ p h. absurd cc) (λ p h. (p, none_passes test xs h)) e

pub still-found : {X : Type 0} (test : X → Bool) (xs : List X) (y : X) → is_some (first_of test xs) ≡ true → is_some (first_of test (xs ++ y ∷ [])) ≡ true
still-found {X} test xs y e = ap is_some (is_find test (xs ++ y ∷ []) ∙ find-append test xs (y ∷ [])) ∙ by (find test xs) (ap is_some (sym (is_find test xs)) ∙ e)
  where
    by : (o : Option X) → is_some o ≡ true → is_some (option_or o (find test (y ∷ []))) ≡ true
    by (Some x) e = refl
    by None e = absurd cc

-- each is the first of its own key, where keys differ
pub found-by-key : {X : Type 0} (key : X → ℕ) (xs : List X) → Pairwise (λ x y. key y ≢ key x) xs → AllByRecursion (λ x. first_of (λ y. eqb (key y) (key x)) xs ≡ Some x) xs
unfolding first_of Pairwise
found-by-key key [] ok = tt
found-by-key {X} key (x ∷ xs) ok = (
  cond-true (eqb (key x) (key x)) _ _ (eq-eqb (key x) (key x) refl),
  All-weaker _ _ later xs (all_both _ _ xs ok.0 (found-by-key key xs ok.1)),
)
  where
    later : (y : X) → (key y ≢ key x) × (first_of (λ z. eqb (key z) (key y)) xs ≡ Some y) → cond (eqb (key x) (key y)) (Some x) (first_of (λ z. eqb (key z) (key y)) xs) ≡ Some y
    later y h = cond-false (eqb (key x) (key y)) _ _ (ne_eqb (key x) (key y) (λ e. h.0 (sym e))) ∙ h.1

-- ---- one change

module _ {X : Type 0} (test : X → Bool) (change : X → X) where
  pub length-change : (xs : List X) → length (change_first test change xs) ≡ length xs
  unfolding change_first
  length-change [] = refl
  length-change (x ∷ xs) = cond_both (test x) _ _ (λ (l : List X). length l ≡ suc (length xs)) (λ e. refl) (λ e. ap suc (length-change xs))

  pub all-change : (P : X → Type 0) → ((x : X) → test x ≡ true → P x → P (change x)) → (xs : List X) → AllByRecursion P xs → AllByRecursion P (change_first test change xs)
  unfolding change_first
  all-change P keeps [] all = tt
  all-change P keeps (x ∷ xs) all = cond_both (test x) _ _ (AllByRecursion P) (λ e. (keeps x e all.0, all.1)) (λ e. (all.0, all-change P keeps xs all.1))

  pub pairwise-change : (R : X → X → Type 0) → ((x y : X) → R x y → R (change x) y) → ((x y : X) → R x y → R x (change y)) → (xs : List X) → Pairwise R xs → Pairwise R (change_first test change xs)
  unfolding change_first Pairwise
  pairwise-change R left right [] ok = tt
  pairwise-change R left right (x ∷ xs) ok =
      cond_both (test x) _ _ (Pairwise R) (λ e. (All-weaker _ _ (left x) xs ok.0, ok.1))
      (λ e. (all-change (R x) (λ y e r. right x y r) xs ok.0, pairwise-change R left right xs ok.1))

  -- another test finds as much as before, if the change does not touch it
  pub found-changed : (other : X → Bool) → ((x : X) → other (change x) ≡ other x) → (xs : List X) → is_some (first_of other (change_first test change xs)) ≡ is_some (first_of other xs)
  unfolding change_first first_of
  found-changed other same [] = refl
  found-changed other same (x ∷ xs) =
      cond_both (test x) _ _ (λ l. is_some (first_of other l) ≡ is_some (first_of other (x ∷ xs)))
      (λ e. rw (same x) (alike (other x) (change x) (first_of other xs) (first_of other xs) refl))
      (λ e. alike (other x) x (first_of other (change_first test change xs)) (first_of other xs) (found-changed other same xs))
    where
      alike : (t : Bool) (y : X) (a b : Option X) → is_some a ≡ is_some b → is_some (cond t (Some y) a) ≡ is_some (cond t (Some x) b)
      alike true y a b e = refl
      alike false y a b e = e

  -- those that another test keeps are not changed
  pub kept-changed : (other : X → Bool) → ((x : X) → test x ≡ true → other x ≡ false) → ((x : X) → other (change x) ≡ other x) → (xs : List X) → filter other (change_first test change xs) ≡ filter other xs
  unfolding change_first
  kept-changed other apart same [] = refl
  kept-changed other apart same (x ∷ xs) =
      cond_both (test x) _ _ (λ l. filter other l ≡ filter other (x ∷ xs))
      (λ e. cond-false (other (change x)) _ _ (same x ∙ apart x e) ∙ sym (cond-false (other x) _ _ (apart x e)))
      (λ e. ap (λ ys. cond (other x) (x ∷ ys) ys) (kept-changed other apart same xs))

-- ---- one more at the end

pub pairwise-push : {X : Type 0} (R : X → X → Type 0) (xs : List X) (y : X) → Pairwise R xs → AllByRecursion (λ x. R x y) xs → Pairwise R (xs ++ y ∷ [])
unfolding Pairwise
pairwise-push R [] y ok new = (tt, tt)
pairwise-push R (x ∷ xs) y ok new = (All-push (R x) xs y ok.0 new.0, pairwise-push R xs y ok.1 new.1)

pub change-last : {X : Type 0} (test : X → Bool) (change : X → X) (xs : List X) (y : X) → AllByRecursion (λ x. test x ≡ false) xs → test y ≡ true → change_first test change (xs ++ y ∷ []) ≡ xs ++ change y ∷ []
unfolding change_first
change-last test change [] y none here = cond-true (test y) _ _ here
change-last test change (x ∷ xs) y none here = cond-false (test x) _ _ none.0 ∙ ap (λ l. x ∷ l) (change-last test change xs y none.1 here)

-- ---- by places: the first that passes stands after those that do not

module _ {X : Type 0} (test : X → Bool) where
  -- where the first that passes stands, or how many there are
  abbrev pub place_of : List X → ℕ
  place_of xs = prefix_len (λ x. not (test x)) xs

  pub first-at : (xs : List X) (d : X) → place_of xs < length xs → first_of test xs ≡ Some (get_or xs (place_of xs) d)
  first-at xs d h = is_find test xs ∙ find_at test xs ∙ slice_get-get_or xs (place_of xs) d h

  pub first_past : (xs : List X) → length xs ≤ place_of xs → first_of test xs ≡ None
  first_past xs h = is_find test xs ∙ find_at test xs ∙ slice_get_past xs (place_of xs) h

  pub change-at : (change : X → X) (xs : List X) (d : X) → place_of xs < length xs → change_first test change xs ≡ set xs (place_of xs) (change (get_or xs (place_of xs) d))
  unfolding change_first
  change-at change [] d h = absurd (omega arith)
  change-at change (x ∷ xs) d h =
      ⊎_elim (λ e. rw e refl)
      (λ e. let less = rw e at h in
      rw (e, one-add) (ap (λ ys. x ∷ ys) (change-at change xs d (omega arith))))
      (cases_Bool (test x))
