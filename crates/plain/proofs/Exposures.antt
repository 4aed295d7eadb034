-- Exposures and means as sums over all, in which what does not pass a test counts for nothing.
use Rattle.std.proofs.Common.{◌≡◌, ℕ, ◌+◌, ◌*◌, Bool, true, false, cond, eqb, List, ◌∷◌, map, sum_by, filter, sym, refl, ap, ◌∙◌, ap₂, zero-mul, arith}
use mathlib.Core.Path.{fun_ext}
use Rattle.std.proofs.lemmas.List.Sums.{sum_by-cons}
use Rattle.std.proofs.lemmas.List.Recursion.{is_sum_by}
use Rattle.grading.specs.Mean.{mean_of, nearest_hundredths}
use Rattle.rules.specs.declared.kinds.Kind.{Kind}
use Rattle.plain.specs.Exposures.{exposure_of, positions_on, lent_by}
use Rattle.plain.specs.Parts.{exposures}
use Rattle.plain.specs.PlainBook.{PlainPosition}

-- a sum over those that pass a test
pub sum_kept : {X : Type 0} (test : X → Bool) (f : X → ℕ) (xs : List X) → sum_by f (filter test xs) ≡ sum_by (λ x. cond (test x) (f x) 0) xs
sum_kept {X} test f xs = is_sum_by (λ xs. sum_by f (filter test xs)) (λ x. cond (test x) (f x) 0) refl (λ x xs. by (test x) x (filter test xs)) xs
  where
    by : (t : Bool) (x : X) (ys : List X) → sum_by f (cond t (x ∷ ys) ys) ≡ cond t (f x) 0 + sum_by f ys
    by true x ys = sum_by-cons f x ys
    by false x ys = omega arith

-- what the position adds to the exposure of the investee of an id
abbrev pub adds : Kind → ℕ → PlainPosition → ℕ
adds kind id q = cond (eqb q.id id) (exposure_of kind q) 0

pub exposures-sum : (kind : Kind) (id : ℕ) (qs : List PlainPosition) → exposures (map (lent_by kind) (positions_on id qs)) ≡ sum_by (adds kind id) qs
unfolding exposures
exposures-sum kind id qs = is_sum_by (λ qs. exposures (map (lent_by kind) (positions_on id qs))) (adds kind id) refl (λ q qs. by (eqb q.id id) q (positions_on id qs)) qs
  where
    by : (t : Bool) (q : PlainPosition) (rs : List PlainPosition) → exposures (map (lent_by kind) (cond t (q ∷ rs) rs)) ≡ cond t (exposure_of kind q) 0 + exposures (map (lent_by kind) rs)
    by true q rs = refl
    by false q rs = omega arith

-- a mean over those that pass a test: the others weigh nothing
pub mean-kept : {X : Type 0} (test : X → Bool) (weight grade : X → ℕ) (xs : List X) → mean_of weight grade (filter test xs) ≡ mean_of (λ x. cond (test x) (weight x) 0) grade xs
mean-kept test weight grade xs = ap₂ nearest_hundredths (sum_kept test (λ x. weight x * grade x) xs ∙ ap (λ f. sum_by f xs) (fun_ext (λ x. by (test x) (weight x) (grade x)))) (sum_kept test weight xs)
  where
    by : (t : Bool) (w g : ℕ) → cond t (w * g) 0 ≡ cond t w 0 * g
    by true w g = refl
    by false w g = sym (zero-mul g)
