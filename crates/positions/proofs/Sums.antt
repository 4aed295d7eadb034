-- Sums over the rows of a table: one row more, and as sums over its plain positions.
use Rattle.std.proofs.Common.{◌≡◌, ℕ, ◌+◌, ◌<◌, List, [], ◌∷◌, map, length, get_or, take, sum_by, sym, refl, ap, ◌∙◌, arith}
use Rattle.std.proofs.lemmas.List.Sums.{sum_by-cons, sum_by_more}
use Rattle.rules.specs.declared.kinds.Kind.{Kind}
use Rattle.plain.specs.Exposures.{exposure_of, lent_by}
use Rattle.plain.specs.Parts.{exposures}
use Rattle.plain.specs.PlainBook.{PlainPosition}

pub sum-next : {X : Type 0} (f : X → ℕ) (xs : List X) (k : ℕ) (d : X) (s n : ℕ) → k < length xs → n ≡ f (get_or xs k d) → s ≡ sum_by f (take k xs) → s + n ≡ sum_by f (take (k + 1) xs)
sum-next f xs k d s n h e inv = omega (arith, sum_by_more f xs k d h)

pub sum_view : {X Y : Type 0} (view : X → Y) (f : Y → ℕ) (xs : List X) → sum_by f (map view xs) ≡ sum_by (λ x. f (view x)) xs
sum_view view f [] = refl
sum_view view f (x ∷ xs) = sum_by-cons f (view x) (map view xs) ∙ ap (λ n. f (view x) + n) (sum_view view f xs) ∙ sym (sum_by-cons (λ x. f (view x)) x xs)

-- exposures, added up
pub exposures_summed : (kind : Kind) (qs : List PlainPosition) → exposures (map (lent_by kind) qs) ≡ sum_by (exposure_of kind) qs
unfolding exposures
exposures_summed kind [] = refl
exposures_summed kind (q ∷ qs) = ap (λ n. exposure_of kind q + n) (exposures_summed kind qs) ∙ sym (sum_by-cons (exposure_of kind) q qs)
