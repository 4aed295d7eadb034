-- How many fields there are, and where a field stands that is wrong or missing.
use Rattle.std.proofs.Common.{◌≡◌, ℕ, zero, suc, ◌+◌, ◌≤◌, true, false, cond, eqb, ltb, List, [], ◌∷◌, length, is_some, Some, None, Ok, Err, Option, Result, sym, refl, ap, ◌∙◌, subst, ⊎_elim, add-zero, arith, Bor}
use Rattle.lines.specs.Fields.{pieces, onto, pieces_left, numbers_of, first, at_field, ended, line_of}
use Rattle.lines.specs.Numerals.{number_of}
use Rattle.lines.specs.declared.fields.LineError.{LineError}
use Rattle.lines.specs.declared.fields.LineError.TheVariants.{TooLong, Field, Surplus}
use Rattle.lines.proofs.Printed.{some-piece}
use Rattle.portfolio_lines.specs.declared.misread.Misread.TheVariants as misread
use Rattle.std.proofs.lemmas.Bool.{cases_lt, lt-ltb, le-ltb, cond-true, cond-false}
use Rattle.portfolio_lines.specs.declared.misread.Misread.{Misread}
use Rattle.portfolio_lines.specs.Counted.{and_then, none_at, none_left, counted}
use Rattle.portfolio_lines.specs.Lines.{number_line}
use Rattle.portfolio_lines.specs.Rows.{misread_of, last_place}

-- ---- how many

onto_same : (b : ℕ) (ps : List (List ℕ)) → (length ps ≡ 0 → ⊥) → length (onto b ps) ≡ length ps
onto_same b [] some = absurd (some refl)
onto_same b (p ∷ ps) some = refl

pieces-count : (sep : ℕ) (bs : List ℕ) → length (pieces sep bs) ≤ length bs + 1
pieces-count sep [] = omega arith
pieces-count sep (b ∷ bs) =
    elim (eqb b sep) as (λ t. length (cond t ([] ∷ pieces sep bs) (onto b (pieces sep bs))) ≤ suc (length bs) + 1)
    [ true ↦ omega (arith, pieces-count sep bs) | false ↦ omega (arith, pieces-count sep bs, onto_same b (pieces sep bs) (some-piece sep bs)) ]

-- a line of at most 511 bytes has at most 512
pub few-fields : (line : List ℕ) (fs : List (List ℕ)) → fs ≡ pieces 32 line → length line ≤ 511 → 1 + length fs ≤ 513
few-fields line fs is short = omega (arith, pieces-count 32 line, ap length is)

none_more : {X : Type 0} (x : X) (place : ℕ) (ps : List (List ℕ)) → (length ps ≡ 0 → ⊥) → Err (misread.Field place) ≡ none_at x place ps
none_more x place [] some = absurd (some refl)
none_more x place (p ∷ ps) some = refl

-- a field is left
pub surplus : {X : Type 0} (x : X) (place sep : ℕ) (rest : Option (Bor (List ℕ))) → is_some rest ≡ true → Err (misread.Field place) ≡ none_at x place (pieces_left sep rest)
surplus x place sep None there = let z : ◌≡◌ {A = ℕ} 0 1 = cc in absurd (omega arith)
surplus x place sep (Some r) there = none_more x place (pieces sep r.now) (some-piece sep r.now)

-- ---- places counted from another start

abbrev shifted : ℕ → Result (List ℕ × List (List ℕ)) ℕ → Result (List ℕ × List (List ℕ)) ℕ
shifted p (Ok r) = Ok r
shifted p (Err i) = Err (p + i)

shift-first : (p i : ℕ) (o : Option ℕ) (r : Result (List ℕ × List (List ℕ)) ℕ) → first (p + i) o (shifted p r) ≡ shifted p (first i o r)
shift-first p i None r = refl
shift-first p i (Some n) (Ok r) = refl
shift-first p i (Some n) (Err j) = refl

shift : (k p i : ℕ) (fs : List (List ℕ)) → numbers_of k (p + i) fs ≡ shifted p (numbers_of k i fs)
shift zero p i fs = refl
shift (suc k) p i [] = refl
shift (suc k) p i (f ∷ fs) =
    let e : suc (p + i) ≡ p + suc i = omega arith in
    ap (λ q. first (p + i) (number_of f) (numbers_of k q fs)) e ∙ ap (first (p + i) (number_of f)) (shift k p (suc i) fs) ∙ shift-first p i (number_of f) (numbers_of k (suc i) fs)

from_start : (k p : ℕ) (fs : List (List ℕ)) → numbers_of k p fs ≡ shifted p (numbers_of k 0 fs)
from_start k p fs = ap (λ q. numbers_of k q fs) (sym (add-zero p)) ∙ shift k p 0 fs

-- ---- numbers read

rest-count : (k i : ℕ) (fs : List (List ℕ)) (x : List ℕ × List (List ℕ)) → numbers_of k i fs ≡ Ok x → length x.1 + k ≡ length fs
rest-count zero i fs x h = let same : ([], fs) ≡ x = cc in omega (arith, ap (λ y. length y.1) same)
rest-count (suc k) i [] x h = let z : ◌≡◌ {A = ℕ} 0 1 = cc in absurd (omega arith)
rest-count (suc k) i (f ∷ fs) x h = by (rest-count k (suc i) fs) (number_of f) (numbers_of k (suc i) fs) refl h
  where
    by : ((y : List ℕ × List (List ℕ)) → numbers_of k (suc i) fs ≡ Ok y → length y.1 + k ≡ length fs) → (o : Option ℕ) (r : Result (List ℕ × List (List ℕ)) ℕ) → numbers_of k (suc i) fs ≡ r → first i o r ≡ Ok x → length x.1 + suc k ≡ suc (length fs)
    by deep None r e h = let z : ◌≡◌ {A = ℕ} 0 1 = cc in absurd (omega arith)
    by deep (Some n) (Err j) e h = let z : ◌≡◌ {A = ℕ} 0 1 = cc in absurd (omega arith)
    by deep (Some n) (Ok y) e h = let same : (n ∷ y.0, y.1) ≡ x = cc in omega (arith, deep y e, ap (λ z. length z.1) same)

wrong-within : (k i : ℕ) (fs : List (List ℕ)) (j : ℕ) → numbers_of k i fs ≡ Err j → j ≤ i + length fs
wrong-within zero i fs j h = let z : ◌≡◌ {A = ℕ} 0 1 = cc in absurd (omega arith)
wrong-within (suc k) i [] j h = let same : i ≡ j = cc in omega arith
wrong-within (suc k) i (f ∷ fs) j h = by (wrong-within k (suc i) fs) (number_of f) (numbers_of k (suc i) fs) refl h
  where
    by : ((q : ℕ) → numbers_of k (suc i) fs ≡ Err q → q ≤ suc i + length fs) → (o : Option ℕ) (r : Result (List ℕ × List (List ℕ)) ℕ) → numbers_of k (suc i) fs ≡ r → first i o r ≡ Err j → j ≤ i + suc (length fs)
    by deep None r e h = let same : i ≡ j = cc in omega arith
    by deep (Some n) (Ok y) e h = let z : ◌≡◌ {A = ℕ} 0 1 = cc in absurd (omega arith)
    by deep (Some n) (Err q) e h = let same : q ≡ j = cc in omega (arith, deep q e)

-- what `numbers` of the crate lines answers, as a count of fields and as a reading
pub numbers-count : (k : ℕ) (fs : List (List ℕ)) (x : List ℕ × List (List ℕ)) → numbers_of k 0 fs ≡ Ok x → length x.1 + k ≡ length fs
numbers-count k fs x h = rest-count k 0 fs x h

pub numbers-wrong : (k : ℕ) (fs : List (List ℕ)) (i : ℕ) → numbers_of k 0 fs ≡ Err i → i ≤ length fs
numbers-wrong k fs i h = omega (arith, wrong-within k 0 fs i h)

pub numbers-read : (k p : ℕ) (fs : List (List ℕ)) (x : List ℕ × List (List ℕ)) → numbers_of k 0 fs ≡ Ok x → counted (p + k) (numbers_of k p fs) ≡ counted (p + k) (Ok x)
numbers-read k p fs x h = ap (counted (p + k)) (from_start k p fs ∙ ap (shifted p) h)

pub numbers-refused : (k p : ℕ) (fs : List (List ℕ)) (i : ℕ) → numbers_of k 0 fs ≡ Err i → counted (p + k) (numbers_of k p fs) ≡ Err (misread.Field (p + i))
numbers-refused k p fs i h = ap (counted (p + k)) (from_start k p fs ∙ ap (shifted p) h)

-- ---- a whole line, as the crate lines reads it

-- what it answers, with its error told by places
abbrev pub by_places : ℕ → Result (List ℕ) LineError → Result (List ℕ) Misread
by_places k (Ok ns) = Ok ns
by_places k (Err e) = Err (misread_of k e)

line-ended : (k : ℕ) (r : Result (List ℕ × List (List ℕ)) ℕ) → and_then (counted (1 + k) (shifted 1 r)) (λ r. none_left r.0 r.1) ≡ by_places k (ended (at_field r))
line-ended k (Err i) = let e : 1 + i ≡ i + 1 = omega arith in ap (λ p. Err (misread.Field p)) e
line-ended k (Ok (ns, [])) = refl
line-ended k (Ok (ns, f ∷ fs)) = let e : 1 + k ≡ k + 1 = omega arith in ap (λ p. Err (misread.Field p)) e

pub line-by-places : (k : ℕ) (line : List ℕ) → number_line k line ≡ by_places k (line_of k line)
line-by-places k line =
    ⊎_elim
    (λ over. let t = lt-ltb 511 (length line) over in cond-true (ltb 511 (length line)) _ _ t ∙ ap (by_places k) (sym (cond-true (ltb 511 (length line)) _ _ t)))
    (λ fits. let f = le-ltb 511 (length line) fits in
    cond-false (ltb 511 (length line)) _ _ f
    ∙ ap (λ r. and_then (counted (1 + k) r) (λ r. none_left r.0 r.1)) (from_start k 1 (pieces 32 line)) ∙ line-ended k (numbers_of k 0 (pieces 32 line))
    ∙ ap (by_places k) (sym (cond-false (ltb 511 (length line)) _ _ f)))
    (cases_lt 511 (length line))

-- a place is at most the number of fields, and a line has few
place-of-end : (k : ℕ) (fs : List (List ℕ)) (e : LineError) → ended (at_field (numbers_of k 0 fs)) ≡ Err e → last_place k e ≤ length fs + 1
place-of-end k fs e h = by (numbers_of k 0 fs) refl h
  where
    by : (r : Result (List ℕ × List (List ℕ)) ℕ) → numbers_of k 0 fs ≡ r → ended (at_field r) ≡ Err e → last_place k e ≤ length fs + 1
    by (Err i) is h = let same : Field i ≡ e = cc in subst (λ e. last_place k e ≤ length fs + 1) same (omega (arith, wrong-within k 0 fs i is))
    by (Ok (ns, [])) is h = let z : ◌≡◌ {A = ℕ} 0 1 = cc in absurd (omega arith)
    by (Ok (ns, f ∷ gs)) is h = let same : Surplus ≡ e = cc in subst (λ e. last_place k e ≤ length fs + 1) same (omega (arith, rest-count k 0 fs (ns, f ∷ gs) is))

pub place-fits : (k : ℕ) (line : List ℕ) (e : LineError) → line_of k line ≡ Err e → last_place k e ≤ 513
place-fits k line e h =
    ⊎_elim
    (λ over. let same : ◌≡◌ {A = Result (List ℕ) LineError} (Err TooLong) (Err e) = sym (cond-true (ltb 511 (length line)) _ _ (lt-ltb 511 (length line) over)) ∙ h in let same : TooLong ≡ e = cc in subst (λ e. last_place k e ≤ 513) same (omega arith))
    (λ fits. omega (arith, place-of-end k (pieces 32 line) e (sym (cond-false (ltb 511 (length line)) _ _ (le-ltb 511 (length line) fits)) ∙ h), pieces-count 32 line))
    (cases_lt 511 (length line))
