-- Tables with a row for each element of a list.
use Rattle.std.proofs.Common.{◌≡◌, ℕ, suc, ◌+◌, ◌-◌, ◌<◌, ◌≤◌, List, [], ◌∷◌, ◌++◌, map, length, get_or, replicate, set, take, Some, None, Option, sym, refl, ap, ◌∙◌, append_assoc, arith}
use Rattle.std.proofs.lemmas.List.{length-map, length-append, length-take-le, map_push, map_more, set-append_right}
use Rattle.book.specs.Listed.{listed}

-- one element more is written at the first place without one
listed-more : {X : Type 0} (n : ℕ) (xs : List X) (y : X) → length xs < n → set (listed n xs) (length xs) (Some y) ≡ listed n (xs ++ y ∷ [])
listed-more {X} n xs y room =
    let k = length xs in
    let m = n - length (xs ++ y ∷ []) in
    let more : length (xs ++ y ∷ []) ≡ k + 1 = length-append xs (y ∷ []) in
    let left : n - k ≡ suc m = omega (arith, room, more) in
    let first : k - k ≡ 0 = omega arith in
    set-append_right (map Some xs) (replicate (n - k) None) k k (Some y) (length-map xs Some) (omega arith)
    ∙ (λ i. map Some xs ++ set (replicate {A = Option X} (left i) None) (first i) (Some y))
    ∙ sym (ap (λ l. l ++ replicate m None) (map_push Some xs y) ∙ append_assoc (map Some xs) (Some y ∷ []) (replicate m None))

-- the rows of a list before a place, and then the row there
pub listed-next : {X Y : Type 0} (n : ℕ) (f : X → Y) (xs : List X) (k : ℕ) (d : X) → k < length xs → length xs ≤ n → (y : Y) → y ≡ f (get_or xs k d)
    → set (listed n (map f (take k xs))) k (Some y) ≡ listed n (map f (take (k + 1) xs))
listed-next n f xs k d lt few y is =
    let before : length (map f (take k xs)) ≡ k = length-map (take k xs) f ∙ length-take-le k xs (omega (arith, lt)) in
    ap (λ i. set (listed n (map f (take k xs))) i (Some y)) (sym before)
    ∙ listed-more n (map f (take k xs)) y (omega (arith, before, lt, few))
    ∙ ap (λ z. listed n (map f (take k xs) ++ z ∷ [])) is
    ∙ ap (listed n) (sym (map_more f xs k d lt))

pub mapped-twice : {X Y Z : Type 0} (f : Y → Z) (g : X → Y) (xs : List X) → map (λ x. f (g x)) xs ≡ map f (map g xs)
mapped-twice f g [] = refl
mapped-twice f g (x ∷ xs) = ap (λ ys. f (g x) ∷ ys) (mapped-twice f g xs)
