-- Reading number fields one after another.
use Rattle.std.proofs.Common.{◌≡◌, ℕ, suc, ◌+◌, ◌-◌, ◌<◌, List, [], ◌∷◌, ◌++◌, length, take, set, Some, Option, Ok, Err, Result, sym, refl, ap, ◌∙◌, subst, append_assoc, arith}
use Rattle.std.proofs.lemmas.List.{take_more_set, length-set}
use Rattle.lines.specs.Fields.{numbers_of, first}

-- the numbers read so far, before what the rest reads as
abbrev pub prefixed : List ℕ → Result (List ℕ × List (List ℕ)) ℕ → Result (List ℕ × List (List ℕ)) ℕ
prefixed ns (Ok r) = Ok (ns ++ r.0, r.1)
prefixed ns (Err p) = Err p

-- i of k numbers are read, and they are ns
abbrev pub Read : (k p i : ℕ) (was : List (List ℕ)) (ns : List ℕ) (left : List (List ℕ)) → Type 0
Read k p i was ns left = numbers_of k p was ≡ prefixed ns (numbers_of (k - i) (p + i) left)

prefixed-first : (ns : List ℕ) (p n : ℕ) (r : Result (List ℕ × List (List ℕ)) ℕ) → prefixed ns (first p (Some n) r) ≡ prefixed (ns ++ n ∷ []) r
prefixed-first ns p n (Ok r) = ap (λ l. Ok (l, r.1)) (sym (append_assoc ns (n ∷ []) r.0))
prefixed-first ns p n (Err q) = refl

-- what a call for the next number gave, and the fields that it left
abbrev pub Next : List (List ℕ) → Option ℕ → List (List ℕ) → Type 0
Next was o left = (k i : ℕ) → numbers_of (suc k) i was ≡ first i o (numbers_of k (suc i) left)

next-first : (k p i : ℕ) (was : List (List ℕ)) (ns : List ℕ) (o : Option ℕ) (left next : List (List ℕ)) → i < k → Read k p i was ns left → Next left o next → numbers_of k p was ≡ prefixed ns (first (p + i) o (numbers_of (k - (i + 1)) (suc (p + i)) next))
next-first k p i was ns o left next lt so reads =
    let turns : k - i ≡ suc (k - (i + 1)) = omega arith in
    so ∙ ap (λ j. prefixed ns (numbers_of j (p + i) left)) turns ∙ ap (prefixed ns) (reads (k - (i + 1)) (p + i))

read_more : (k p i n : ℕ) (was : List (List ℕ)) (ns : List ℕ) (left next : List (List ℕ)) → i < k → Read k p i was ns left → Next left (Some n) next → Read k p (i + 1) was (ns ++ n ∷ []) next
read_more k p i n was ns left next lt so reads =
    let here : suc (p + i) ≡ p + (i + 1) = omega arith in
    next-first k p i was ns (Some n) left next lt so reads
    ∙ ap (λ q. prefixed ns (first (p + i) (Some n) (numbers_of (k - (i + 1)) q next))) here ∙ prefixed-first ns (p + i) n _

-- the same, where the numbers are the front of an array of k
abbrev pub Sofar : (k p i : ℕ) (was : List (List ℕ)) (out : List ℕ) (left : List (List ℕ)) → Type 0
Sofar k p i was out left = (length out ≡ k) × Read k p i was (take i out) left

pub more : (k p i n : ℕ) (was : List (List ℕ)) (out : List ℕ) (o : Option ℕ) (left next : List (List ℕ)) → i < k → Sofar k p i was out left → Next left o next → o ≡ Some n → Sofar k p (i + 1) was (set out i n) next
more k p i n was out o left next lt so reads some =
    let grown : take (i + 1) (set out i n) ≡ take i out ++ n ∷ [] = take_more_set out i n (omega (arith, so.0)) in
    (simp length-set so.0, subst (λ ns. Read k p (i + 1) was ns next) (sym grown) (read_more k p i n was (take i out) left next lt so.1 (subst (λ o. Next left o next) some reads)))
