-- Each position is on one investee.
use Rattle.std.proofs.Common.{◌≡◌, ℕ, ◌+◌, Bool, true, false, cond, eqb, ◌≢◌, List, [], ◌∷◌, length, is_some, Some, sum_by, count_by, filter, sym, refl, ap, ◌∙◌, arith}
use mathlib.Core.Path.{fun_ext}
use Rattle.std.specs.List.{AllByRecursion}
use Rattle.grading.proofs.EachElement.{All-weaker, sum_by_le}
use Rattle.std.proofs.lemmas.List.Sums.{sum_by-cons, sum_by-le}
use Rattle.std.proofs.lemmas.List.Recursion.{is_sum_by}
use Rattle.std.proofs.lemmas.Bool.Decides.{nat_tests}
use Rattle.std.proofs.lemmas.Bool.{eqb-true, eqb-false, eq-eqb, ne_eqb, cond-true, cond-false, cond_both}
use Rattle.plain.specs.Covers.{is_one_that, positions_on_those}
use Rattle.plain.specs.Exposures.{positions_on}
use Rattle.plain.specs.Kept.{KeptByEveryRun}
use Rattle.plain.specs.Lists.{first_of, Pairwise}
use Rattle.plain.specs.PlainBook.{PlainInvestee, PlainPosition, PlainBook, id_of, has_id}
use Rattle.plain.specs.Readings.{positions_on_all}
use Rattle.plain.proofs.Exposures.{sum_kept}

sum-none : {X : Type 0} (f : X → ℕ) (xs : List X) → AllByRecursion (λ x. f x ≡ 0) xs → sum_by f xs ≡ 0
sum-none f xs all = omega (arith, sum_by_le f 0 xs (All-weaker _ _ (λ x e. omega arith) xs all))

sum-plus : {X : Type 0} (f g : X → ℕ) (xs : List X) → sum_by (λ x. f x + g x) xs ≡ sum_by f xs + sum_by g xs
sum-plus f g xs = sym (is_sum_by (λ xs. sum_by f xs + sum_by g xs) (λ x. f x + g x) refl (λ x xs. omega (arith, sum_by-cons f x xs, sum_by-cons g x xs)) xs)

-- an id that is open is that of one investee
one-of-key : {X : Type 0} (key : X → ℕ) (n : ℕ) (xs : List X) → Pairwise (λ x y. key y ≢ key x) xs → is_some (first_of (λ x. eqb (key x) n) xs) ≡ true → sum_by (λ x. cond (eqb n (key x)) 1 0) xs ≡ 1
unfolding Pairwise first_of
one-of-key key n [] differ found = absurd cc
one-of-key key n (x ∷ xs) differ found =
    cond_both (eqb (key x) n) (Some x) (first_of (λ x. eqb (key x) n) xs) (λ o. is_some o ≡ true → sum_by (λ x. cond (eqb n (key x)) 1 0) (x ∷ xs) ≡ 1)
    (λ e h.
    let same : key x ≡ n = eqb-true (key x) n e in
    let nowhere : sum_by (λ x. cond (eqb n (key x)) 1 0) xs ≡ 0 = sum-none (λ x. cond (eqb n (key x)) 1 0) xs (All-weaker _ _ (λ y ne. cond-false (eqb n (key y)) 1 0 (ne_eqb n (key y) (λ h. ne (sym h ∙ sym same)))) xs differ.0) in
    grind (arith, nat_tests, sum_by-cons (λ x. cond (eqb n (key x)) 1 0) x xs))
    (λ e h.
    let rest : sum_by (λ x. cond (eqb n (key x)) 1 0) xs ≡ 1 = one-of-key key n xs differ.1 h in
    grind (arith, nat_tests, sum_by-cons (λ x. cond (eqb n (key x)) 1 0) x xs)) found

more : (q : PlainPosition) (t : Bool) (rs : List PlainPosition) → length (cond t (q ∷ rs) rs) ≡ cond t 1 0 + length rs
more q true rs = omega arith
more q false rs = omega arith

each_on : (xs : List PlainInvestee) (qs : List PlainPosition) → Pairwise (λ x y. id_of y ≢ id_of x) xs → AllByRecursion (λ q. is_some (first_of (has_id q.id) xs) ≡ true) qs → sum_by (λ x. length (positions_on (id_of x) qs)) xs ≡ length qs
each_on xs [] differ found = omega (arith, sum_by-le (λ (x : PlainInvestee). 0) 0 xs (λ k d h. omega arith))
each_on xs (q ∷ qs) differ found =
    ap (λ f. sum_by f xs) (fun_ext (λ x. more q (eqb q.id (id_of x)) (positions_on (id_of x) qs)))
    ∙ sum-plus (λ x. cond (eqb q.id (id_of x)) 1 0) (λ x. length (positions_on (id_of x) qs)) xs
    ∙ omega (arith, one-of-key id_of q.id xs differ found.0, each_on xs qs differ found.1)

-- ---- the positions on some investees, found by their ids

no-one : (t : Bool) → ◌≡◌ {A = ℕ} (cond t 0 0) 0
no-one true = refl
no-one false = refl

one-that : (n : ℕ) (test : PlainInvestee → Bool) (xs : List PlainInvestee) → Pairwise (λ x y. id_of y ≢ id_of x) xs → sum_by (λ x. cond (test x) (cond (eqb n (id_of x)) 1 0) 0) xs ≡ cond (is_one_that test (first_of (has_id n) xs)) 1 0
unfolding Pairwise first_of
one-that n test [] differ = refl
one-that n test (x ∷ xs) differ =
    cond_both (has_id n x) (Some x) (first_of (has_id n) xs) (λ o. sum_by (λ x. cond (test x) (cond (eqb n (id_of x)) 1 0) 0) (x ∷ xs) ≡ cond (is_one_that test o) 1 0)
    (λ e.
    let same : id_of x ≡ n = eqb-true (id_of x) n e in
    let nowhere : sum_by (λ x. cond (test x) (cond (eqb n (id_of x)) 1 0) 0) xs ≡ 0 =
    sum-none (λ x. cond (test x) (cond (eqb n (id_of x)) 1 0) 0) xs (All-weaker _ _ (λ y ne. ap (λ k. cond (test y) k 0) (cond-false (eqb n (id_of y)) 1 0 (ne_eqb n (id_of y) (λ h. ne (sym h ∙ sym same)))) ∙ no-one (test y)) xs differ.0) in
    let here : ◌≡◌ {A = ℕ} (cond (test x) (cond (eqb n (id_of x)) 1 0) 0) (cond (is_one_that test (Some x)) 1 0) = ap (λ k. cond (test x) k 0) (cond-true (eqb n (id_of x)) 1 0 (eq-eqb n (id_of x) (sym same))) in
    omega (arith, sum_by-cons (λ x. cond (test x) (cond (eqb n (id_of x)) 1 0) 0) x xs))
    (λ e.
    let elsewhere : ◌≡◌ {A = ℕ} (cond (test x) (cond (eqb n (id_of x)) 1 0) 0) 0 = ap (λ k. cond (test x) k 0) (cond-false (eqb n (id_of x)) 1 0 (ne_eqb n (id_of x) (λ h. eqb-false (id_of x) n e (sym h)))) ∙ no-one (test x) in
    omega (arith, sum_by-cons (λ x. cond (test x) (cond (eqb n (id_of x)) 1 0) 0) x xs, one-that n test xs differ.1))

on-those : (test : PlainInvestee → Bool) (xs : List PlainInvestee) (qs : List PlainPosition) → Pairwise (λ x y. id_of y ≢ id_of x) xs → sum_by (λ x. length (positions_on (id_of x) qs)) (filter test xs) ≡ count_by (λ q. is_one_that test (first_of (has_id q.id) xs)) qs
on-those test xs [] differ = omega (arith, sum_by-le (λ (x : PlainInvestee). 0) 0 (filter test xs) (λ k d h. omega arith))
on-those test xs (q ∷ qs) differ =
    ap (λ f. sum_by f (filter test xs)) (fun_ext (λ x. more q (eqb q.id (id_of x)) (positions_on (id_of x) qs)))
    ∙ sum-plus (λ x. cond (eqb q.id (id_of x)) 1 0) (λ x. length (positions_on (id_of x) qs)) (filter test xs)
    ∙ omega (arith, sum_kept test (λ x. cond (eqb q.id (id_of x)) 1 0) xs, one-that q.id test xs differ, on-those test xs qs differ, sum_by-cons (λ q. cond (is_one_that test (first_of (has_id q.id) xs)) 1 0) q qs)

pub positions-on-those : (p : PlainBook) → KeptByEveryRun p → (test : PlainInvestee → Bool) → positions_on_all p (filter test p.investees) ≡ positions_on_those p test
positions-on-those p ok test = on-those test p.investees p.positions ok.ids_differ

pub each-on-one : (p : PlainBook) → KeptByEveryRun p → positions_on_all p p.investees ≡ length p.positions
each-on-one p ok = each_on p.investees p.positions ok.ids_differ ok.positions_on_open_investees
