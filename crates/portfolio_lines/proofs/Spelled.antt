-- Number fields: what is read is what is written.
use Rattle.std.proofs.Common.{◌≡◌, ℕ, zero, suc, ◌+◌, List, [], ◌∷◌, ◌++◌, map, length, Some, None, Ok, Err, decimal, Option, Result, sym, refl, ap, ◌∙◌, subst, arith}
use Rattle.std.specs.List.{AllByRecursion}
use Rattle.lines.specs.Fields.{numbers_of, first}
use Rattle.lines.specs.Numerals.{number_of}
use Rattle.lines.specs.Render.{join}
use Rattle.lines.proofs.Numbers.{spells-from-number, number-from-spells}
use Rattle.lines.proofs.Printed.{Free}
use Rattle.portfolio_lines.specs.Counted.{FieldsLeft, counted, numbers_in}
use Rattle.portfolio_lines.specs.Text.{ThirteenDigits}

-- the fields fs are how the numbers ns are written, and then come the fields gs
pub record Written (ns : List ℕ) (fs gs : List (List ℕ)) : Type 0 where
  pub small : ThirteenDigits ns
  pub spelled : fs ≡ map decimal ns ++ gs

numbers-written : (k p : ℕ) (fs : List (List ℕ)) (x : List ℕ × List (List ℕ)) → numbers_of k p fs ≡ Ok x → (length x.0 ≡ k) × Written x.0 fs x.1
numbers-written zero p fs x h =
    let pair : ◌≡◌ {A = List ℕ × List (List ℕ)} ([], fs) x = cc in
    subst (λ y. (length y.0 ≡ 0) × Written y.0 fs y.1) pair (refl, record { small = tt; spelled = refl })
numbers-written (suc k) p [] x h = let z : ◌≡◌ {A = ℕ} 0 1 = cc in absurd (omega arith)
numbers-written (suc k) p (f ∷ fs) x h = by (numbers-written k (suc p) fs) (number_of f) refl (numbers_of k (suc p) fs) refl h
  where
    by : ((y : List ℕ × List (List ℕ)) → numbers_of k (suc p) fs ≡ Ok y → (length y.0 ≡ k) × Written y.0 fs y.1) → (o : Option ℕ) → number_of f ≡ o → (r : Result (List ℕ × List (List ℕ)) ℕ) → numbers_of k (suc p) fs ≡ r → first p o r ≡ Ok x → (length x.0 ≡ suc k) × Written x.0 (f ∷ fs) x.1
    by deep None e r q h = let z : ◌≡◌ {A = ℕ} 0 1 = cc in absurd (omega arith)
    by deep (Some n) e (Err d) q h = let z : ◌≡◌ {A = ℕ} 0 1 = cc in absurd (omega arith)
    by deep (Some n) e (Ok y) q h =
        let pair : ◌≡◌ {A = List ℕ × List (List ℕ)} (n ∷ y.0, y.1) x = cc in
        let (count, rest) = deep y q in
        let word = spells-from-number f n e in
        subst (λ y. (length y.0 ≡ suc k) × Written y.0 (f ∷ fs) y.1) pair (ap suc count, record { small = (word.1, rest.small); spelled = λ t. word.0 t ∷ rest.spelled t })

written-numbers : (p : ℕ) (ns : List ℕ) (gs : List (List ℕ)) → ThirteenDigits ns → numbers_of (length ns) p (map decimal ns ++ gs) ≡ Ok (ns, gs)
written-numbers p [] gs small = refl
written-numbers p (n ∷ ns) gs small =
    ap (λ o. first p o (numbers_of (length ns) (suc p) (map decimal ns ++ gs))) (number-from-spells (decimal n) n (refl, small.0)) ∙ ap (first p (Some n)) (written-numbers (suc p) ns gs small.1)

counted-ok : (place : ℕ) (r : Result (List ℕ × List (List ℕ)) ℕ) (x : List ℕ × FieldsLeft) → counted place r ≡ Ok x → r ≡ Ok (x.0, x.1.left)
counted-ok place (Ok y) x h = let pair : ◌≡◌ {A = List ℕ × FieldsLeft} (y.0, record { place = place; left = y.1 }) x = cc in ap (λ z. Ok (z.0, z.1.left)) pair
counted-ok place (Err p) x h = let z : ◌≡◌ {A = ℕ} 0 1 = cc in absurd (omega arith)

-- k numbers, both ways
pub numbers-read : (k : ℕ) (f : FieldsLeft) (x : List ℕ × FieldsLeft) → numbers_in k f ≡ Ok x → (length x.0 ≡ k) × Written x.0 f.left x.1.left
numbers-read k f x h = numbers-written k f.place f.left (x.0, x.1.left) (counted-ok (f.place + k) (numbers_of k f.place f.left) x h)

pub numbers-gives : (k p : ℕ) (fs : List (List ℕ)) (ns : List ℕ) (gs : List (List ℕ)) → length ns ≡ k → Written ns fs gs → numbers_in k (record { place = p; left = fs }) ≡ Ok (ns, record { place = p + k; left = gs })
numbers-gives k p fs ns gs count w =
    ap (counted (p + k)) ((λ t. numbers_of (sym count t) p (w.spelled t)) ∙ written-numbers p ns gs w.small)

-- ---- bytes that stand in no field

pub all_append : {X : Type 0} (P : X → Type 0) (xs ys : List X) → AllByRecursion P xs → AllByRecursion P ys → AllByRecursion P (xs ++ ys)
all_append P [] ys a b = b
all_append P (x ∷ xs) ys a b = (a.0, all_append P xs ys a.1 b)

-- fields without a byte, joined by another
pub join_free : (sep between : ℕ) (fs : List (List ℕ)) → (between ≡ sep → ⊥) → AllByRecursion (Free sep) fs → Free sep (join between fs)
join_free sep between [] other free = tt
join_free sep between (f ∷ []) other free = free.0
join_free sep between (f ∷ g ∷ fs) other free = all_append (λ b. b ≡ sep → ⊥) f (between ∷ join between (g ∷ fs)) free.0 (other, join_free sep between (g ∷ fs) other free.1)
