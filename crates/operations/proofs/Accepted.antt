-- Tables that are not refused.
use Rattle.std.proofs.Common.{◌≡◌, ℕ, ◌+◌, ◌*◌, ◌≤◌, min, Bool, true, false, cond, ◌&&◌, leb, List, [], ◌∷◌, map, length, is_some, Some, None, sum_by, Option, sym, refl, ◌∙◌, ap₂, ⊎_elim, arith}
use Rattle.std.specs.List.{prefix_len, AllByRecursion}
use Rattle.std.proofs.lemmas.List.{length-map}
use Rattle.std.proofs.lemmas.List.Sums.{sum_by-cons, prefix_len-le-length}
use Rattle.grading.proofs.EachElement.{sum_by_le, All-weaker}
use Rattle.std.proofs.lemmas.Bool.{leb-true, cases_Bool}
use Rattle.std.proofs.lemmas.Bool.Decides.{nat_tests}
use Rattle.factors.specs.Factors.{kilograms_of}
use Rattle.grading.specs.Mean.{mean_of, nearest_hundredths}
use Rattle.operations.specs.declared.items.Item.{Item}
use Rattle.operations.specs.Items.{acceptable, worked, with_kilograms, at_most, most_items, most_kilograms}
use Rattle.operations.specs.Tables.{refusal_of}

-- the limits of an item that has been worked out
pub record Within (x : Item) : Type 0 where
  pub kilograms : x.kilograms ≤ most_kilograms
  pub grade : x.grade ≤ 5

within_by : (x : Item) (b : Bool) (o : Option ℕ) → (b ≡ true → x.grade ≤ 5) → is_some (cond b (at_most most_kilograms o) None) ≡ true → Within (with_kilograms x (cond b (at_most most_kilograms o) None))
within_by x true (Some k) graded t = at-most (leb k most_kilograms) refl t
  where
    at-most : (d : Bool) → leb k most_kilograms ≡ d → is_some (cond d (Some k) None) ≡ true → Within (with_kilograms x (cond d (Some k) None))
    at-most true e s = record { kilograms = leb-true k most_kilograms e; grade = graded refl }
    at-most false e s = let z : ◌≡◌ {A = ℕ} 0 1 = cc in absurd (omega arith)
within_by x true None graded t = let z : ◌≡◌ {A = ℕ} 0 1 = cc in absurd (omega arith)
within_by x false o graded t = let z : ◌≡◌ {A = ℕ} 0 1 = cc in absurd (omega arith)

worked-within : (x : Item) → acceptable x ≡ true → Within (worked x)
worked-within x t =
    within_by x (leb 1 x.grade && leb x.grade 5) (kilograms_of x.activity) (λ e. grind (arith, nat_tests)) t

all-within : (xs : List Item) → prefix_len acceptable xs ≡ length xs → AllByRecursion Within (map worked xs)
all-within [] e = tt
all-within (x ∷ xs) e =
    ⊎_elim
    (λ t. let rest : prefix_len acceptable xs ≡ length xs = grind (arith, t) in (worked-within x t, all-within xs rest))
    (λ f. let z : ◌≡◌ {A = ℕ} 0 1 = grind (arith, f) in absurd (omega arith))
    (cases_Bool (acceptable x))

pub accepted-within : (xs : List Item) → refusal_of xs ≡ None → AllByRecursion Within (map worked xs)
accepted-within xs e = all-within xs (grind (arith, nat_tests, prefix_len-le-length acceptable xs))

-- 64 items of 10^12 kilograms at most
pub sum-small : (xs : List Item) → refusal_of xs ≡ None → sum_by (λ x. x.kilograms) (map worked xs) ≤ 64000000000000
sum-small xs e =
    let few : length xs ≤ most_items = grind (arith, nat_tests) in
    let each = All-weaker Within (λ x. x.kilograms ≤ most_kilograms) (λ x w. w.kilograms) (map worked xs) (accepted-within xs e) in
    omega (arith, sum_by_le (λ (x : Item). x.kilograms) most_kilograms (map worked xs) each, length-map xs worked)

sum_same : (f g : Item → ℕ) (xs : List Item) → AllByRecursion (λ x. f x ≡ g x) xs → sum_by f xs ≡ sum_by g xs
sum_same f g [] h = refl
sum_same f g (x ∷ xs) h = sum_by-cons f x xs ∙ ap₂ ◌+◌ h.0 (sum_same f g xs h.1) ∙ sym (sum_by-cons g x xs)

-- the limits of the mean's records change nothing
pub mean-same : (xs : List Item) → AllByRecursion Within xs → mean_of (λ x. min x.kilograms most_kilograms) (λ x. min x.grade 5) xs ≡ mean_of (λ x. x.kilograms) (λ x. x.grade) xs
mean-same xs h =
    ap₂ nearest_hundredths
    (sum_same _ _ xs (All-weaker Within _ (λ x w. ap₂ ◌*◌ (weight x w) (grade x w)) xs h))
    (sum_same _ _ xs (All-weaker Within _ weight xs h))
  where
    weight : (x : Item) → Within x → min x.kilograms most_kilograms ≡ x.kilograms
    weight x w = omega (arith, w.kilograms)

    grade : (x : Item) → Within x → min x.grade 5 ≡ x.grade
    grade x w = omega (arith, w.grade)
