-- An entry as a program holds it means what the entry means.
use Rattle.std.proofs.Common.{◌≡◌, ℕ, ◌<◌, min, ◌||◌, eqb, ltb, List, ◌++◌, length, take, replicate, Err, sym, refl, ap, ◌∙◌, ⊎_elim, arith}
use Rattle.std.proofs.lemmas.List.{take-append-le, take-take, take_all, length-take-le}
use Rattle.std.proofs.lemmas.Bool.{lt-ltb, or_right, cond-true, cases_lt}
use Rattle.factors.specs.declared.Activity.{Activity}
use Rattle.faults.specs.Refusals.{fault}
use Rattle.faults.specs.declared.Refusal.TheVariants.{TermCount}
use Rattle.sources.specs.Bottoms.{physical_meaning}
use Rattle.sources.specs.Layers.{overseas_meaning, offset_meaning}
use Rattle.sources.specs.Limits.{most_terms, physical_number}
use Rattle.entries.specs.Bills.{most_held, no_term}
use Rattle.entries.specs.Entries.{PlainMethod, PlainEntry, report, bill, sector_mean, method_meaning, entry_meaning, held_method}
use Rattle.entries.specs.Methods.{held_meaning}

-- a table of n places that was filled from a list holds the front of the list
front-held : {X : Type 0} (z : X) (n : ℕ) (xs : List X) → take (min (min (length xs) n) n) (take n (xs ++ replicate n z)) ≡ take n xs
front-held {X} z n xs =
    let empty : List X = replicate n z in
    ⊎_elim
    (λ long.
    let some : min (min (length xs) n) n ≡ n = omega arith in
    ap (λ k. take k (take n (xs ++ empty))) some ∙ take-take n n (xs ++ empty) (omega arith) ∙ take-append-le n xs empty (omega arith))
    (λ short.
    let all : min (min (length xs) n) n ≡ length xs = omega arith in
    ap (λ k. take k (take n (xs ++ empty))) all ∙ take-take (length xs) n (xs ++ empty) (omega arith)
    ∙ take-append-le (length xs) xs empty (omega arith) ∙ take_all (length xs) xs (omega arith) ∙ sym (take_all n xs short))
    (cases_lt n (length xs))

-- a bill that is too long is refused, however long it is
too_long : (terms : List Activity) → most_terms < length terms → physical_meaning terms ≡ Err (fault TermCount 0 physical_number)
too_long terms long = cond-true (eqb (length terms) 0 || ltb most_terms (length terms)) _ _ (or_right (eqb (length terms) 0) (ltb most_terms (length terms)) (lt-ltb most_terms (length terms) long))

-- and so no term after the first seventeen matters
front-means : (terms : List Activity) → physical_meaning (take most_held terms) ≡ physical_meaning terms
front-means terms =
    ⊎_elim
    (λ long.
    let kept : length (take most_held terms) ≡ most_held = length-take-le most_held terms (omega arith) in
    too_long (take most_held terms) (omega arith) ∙ sym (too_long terms (omega arith)))
    (λ short. ap physical_meaning (take_all most_held terms short))
    (cases_lt most_held (length terms))

pub held-method-means : (m : PlainMethod) → held_meaning (held_method m) ≡ method_meaning m
held-method-means (report kilograms mark) = refl
held-method-means (bill terms) = ap physical_meaning (front-held no_term most_held terms) ∙ front-means terms
held-method-means (sector_mean output mean) = refl

pub held-entry-means : (e : PlainEntry) → offset_meaning e.offsets (overseas_meaning e.overseas (held_meaning (held_method e.method))) ≡ entry_meaning e
held-entry-means e = ap (λ m. offset_meaning e.offsets (overseas_meaning e.overseas m)) (held-method-means e.method)
