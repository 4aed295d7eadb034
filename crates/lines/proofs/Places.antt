-- Where a line of numbers goes wrong.
use Rattle.std.proofs.Common.{◌≡◌, ℕ, zero, suc, ◌+◌, ◌<◌, ◌≤◌, ltb, List, [], ◌∷◌, ◌++◌, length, Some, None, Ok, Err, decimal, Option, Result, sym, refl, ap, ◌∙◌, subst, ⊎_elim, append_assoc, append-nil, arith}
use Rattle.std.proofs.lemmas.Bool.{cases_lt, lt-ltb, le-ltb, cond-true, cond-false}
use Rattle.lines.specs.Fields.{pieces, numbers_of, first, at_field, ended, line_of}
use Rattle.lines.specs.Numerals.{number_of}
use Rattle.lines.specs.Places.{Begins, GoesWrong, WrongAt, FieldsOfNumbers, WrongNumberLine, RefusesWrongNumberLines}
use Rattle.lines.specs.declared.fields.LineError.{LineError}
use Rattle.lines.specs.declared.fields.LineError.TheVariants.{TooLong, Field, Surplus}
use Rattle.lines.proofs.Numbers.{number-from-spells}
use Rattle.lines.proofs.Printed.{fields_read, read-printed}

-- ---- of any form: at most one place, and none in a line

-- of two fronts of the same fields, the longer one goes on as the fields do
record Longer (a rest b : List (List ℕ)) : Type 0 where
  pub field : List ℕ
  pub after : List (List ℕ)
  pub more : List (List ℕ)
  pub next : rest ≡ field ∷ after
  pub goes_on : b ≡ (a ++ field ∷ []) ++ more

longer : (a rest b bs : List (List ℕ)) → a ++ rest ≡ b ++ bs → length a < length b → Longer a rest b
longer a rest [] bs same lt = absurd (omega (arith, lt))
longer [] rest (f ∷ b) bs same lt = record { field = f; after = b ++ bs; more = b; next = same; goes_on = refl }
longer (g ∷ a) rest (f ∷ b) bs same lt =
    let head : g ≡ f = cc in
    let tail : a ++ rest ≡ b ++ bs = cc in
    let deep = longer a rest b bs tail (omega (arith, lt)) in
    record { field = deep.field; after = deep.after; more = deep.more; next = deep.next; goes_on = λ t. sym head t ∷ deep.goes_on t }

module _ (Form : List (List ℕ) → Type 0) where
  begins-less : (a b : List (List ℕ)) → Begins Form (a ++ b) → Begins Form a
  begins-less a b (more, form) = (b ++ more, subst Form (append_assoc a b more) form)

  not_before : (fields : List (List ℕ)) (i j : ℕ) → WrongAt Form fields i → WrongAt Form fields j → i < j → ⊥
  not_before fields i j w v lt =
      let far = longer w.before w.after v.before v.after (sym w.fields_are ∙ v.fields_are) (omega (arith, w.count, v.count, lt)) in
      subst (GoesWrong Form w.before) far.next w.goes_wrong (begins-less (w.before ++ far.field ∷ []) far.more (subst (Begins Form) far.goes_on v.begins))

  pub one-place : (fields : List (List ℕ)) (i j : ℕ) → WrongAt Form fields i → WrongAt Form fields j → i ≡ j
  one-place fields i j w v =
      ⊎_elim (λ lt. absurd (not_before fields i j w v lt))
      (λ le. ⊎_elim (λ gt. absurd (not_before fields j i v w gt)) (λ ge. omega (arith, le, ge)) (cases_lt j i))
      (cases_lt i j)

  pub no-place : (fields : List (List ℕ)) (i : ℕ) → Form fields → WrongAt Form fields i → ⊥
  no-place fields i form w = by w.after w.fields_are w.goes_wrong
    where
      by : (after : List (List ℕ)) → fields ≡ w.before ++ after → GoesWrong Form w.before after → ⊥
      by [] is wrong = wrong (subst Form (is ∙ append-nil w.before) form)
      by (f ∷ after) is wrong = wrong (after, subst Form (is ∙ sym (append_assoc w.before (f ∷ []) after)) form)

  -- fields of which some begin a line of the form, and of which the next is missing or wrong, whatever follows it
  pub wrong-at : (fields before after : List (List ℕ)) (i : ℕ) → fields ≡ before ++ after → length before ≡ i → Begins Form before
      → (fields ≡ before → Form before → ⊥) → ((f : List ℕ) (us vs : List (List ℕ)) → after ≡ f ∷ us → Form (before ++ f ∷ vs) → ⊥) → WrongAt Form fields i
  wrong-at fields before after i is count begins missing wrong =
      record { before = before; after = after; fields_are = is; count = count; begins = begins; goes_wrong = by after refl is }
    where
      by : (rest : List (List ℕ)) → after ≡ rest → fields ≡ before ++ rest → GoesWrong Form before rest
      by [] there whole = missing (whole ∙ append-nil before)
      by (f ∷ rest) there whole = λ b. wrong f rest b.0 there (subst Form (append_assoc before (f ∷ []) b.0) b.1)

-- ---- k numbers, and what follows them

-- what is read does not hang on what follows
pub record Passes (k i : ℕ) (fs : List (List ℕ)) (ns : List ℕ) (gs : List (List ℕ)) : Type 0 where
  pub front : List (List ℕ)
  pub fields_are : fs ≡ front ++ gs
  pub count : length front ≡ k
  pub again : (after : List (List ℕ)) → numbers_of k i (front ++ after) ≡ Ok (ns, after)

pub numbers-pass : (k i : ℕ) (fs : List (List ℕ)) (ns : List ℕ) (gs : List (List ℕ)) → numbers_of k i fs ≡ Ok (ns, gs) → Passes k i fs ns gs
numbers-pass zero i fs ns gs h =
    let pair : ◌≡◌ {A = List ℕ × List (List ℕ)} ([], fs) (ns, gs) = cc in
    record { front = []; fields_are = ap (λ x. x.1) pair; count = refl; again = λ after. ap (λ x. Ok (x.0, after)) pair }
numbers-pass (suc k) i [] ns gs h = let z : ◌≡◌ {A = ℕ} 0 1 = cc in absurd (omega arith)
numbers-pass (suc k) i (f ∷ fs) ns gs h = by (λ ms q. numbers-pass k (suc i) fs ms gs q) (number_of f) refl (numbers_of k (suc i) fs) refl h
  where
    by : ((ms : List ℕ) → numbers_of k (suc i) fs ≡ Ok (ms, gs) → Passes k (suc i) fs ms gs) → (o : Option ℕ) → number_of f ≡ o → (r : Result (List ℕ × List (List ℕ)) ℕ) → numbers_of k (suc i) fs ≡ r → first i o r ≡ Ok (ns, gs) → Passes (suc k) i (f ∷ fs) ns gs
    by deep None e r q h = let z : ◌≡◌ {A = ℕ} 0 1 = cc in absurd (omega arith)
    by deep (Some n) e (Err d) q h = let z : ◌≡◌ {A = ℕ} 0 1 = cc in absurd (omega arith)
    by deep (Some n) e (Ok (ms, hs)) q h =
        let pair : ◌≡◌ {A = List ℕ × List (List ℕ)} (n ∷ ms, hs) (ns, gs) = cc in
        let rest : Passes k (suc i) fs ms gs = deep ms (q ∙ ap (λ x. Ok (ms, x.1)) pair) in
        record {
          front = f ∷ rest.front;
          fields_are = ap (λ l. f ∷ l) rest.fields_are;
          count = ap suc rest.count;
          again = λ after. (λ t. first i (e t) (rest.again after t)) ∙ ap (λ x. Ok (x.0, after)) pair;
        }

-- fields that read as k numbers
pub record Zeros (k i : ℕ) : Type 0 where
  pub fields : List (List ℕ)
  pub numbers : List ℕ
  pub read : (after : List (List ℕ)) → numbers_of k i (fields ++ after) ≡ Ok (numbers, after)

pub zeros : (k i : ℕ) → Zeros k i
zeros zero i = record { fields = []; numbers = []; read = λ after. refl }
zeros (suc k) i =
    let rest = zeros k (suc i) in
    record { fields = decimal 0 ∷ rest.fields; numbers = 0 ∷ rest.numbers; read = λ after. (λ t. first i (number-from-spells (decimal 0) 0 (refl, omega arith) t) (rest.read after t)) }

-- fields where no k numbers stand: those before the place go on to k numbers, and whatever follows the one there, they stop at it
pub record Stops (k i : ℕ) (fs : List (List ℕ)) (j : ℕ) : Type 0 where
  pub before : List (List ℕ)
  pub after : List (List ℕ)
  pub fields_are : fs ≡ before ++ after
  pub count : i + length before ≡ j
  pub few : length before < k
  pub more : List (List ℕ)
  pub numbers : List ℕ
  pub completes : (rest : List (List ℕ)) → numbers_of k i ((before ++ more) ++ rest) ≡ Ok (numbers, rest)
  pub again : (f : List ℕ) (us vs : List (List ℕ)) → after ≡ f ∷ us → numbers_of k i (before ++ f ∷ vs) ≡ Err j

pub numbers_stop : (k i : ℕ) (fs : List (List ℕ)) (j : ℕ) → numbers_of k i fs ≡ Err j → Stops k i fs j
numbers_stop zero i fs j h = let z : ◌≡◌ {A = ℕ} 0 1 = cc in absurd (omega arith)
numbers_stop (suc k) i [] j h =
    let same : i ≡ j = cc in
    let z = zeros (suc k) i in
    record {
      before = [];
      after = [];
      fields_are = refl;
      count = omega (arith, same);
      few = omega arith;
      more = z.fields;
      numbers = z.numbers;
      completes = z.read;
      again = λ f us vs none. absurd (omega (arith, ap length none));
    }
numbers_stop (suc k) i (f ∷ fs) j h = by (numbers_stop k (suc i) fs j) (number_of f) refl (numbers_of k (suc i) fs) refl h
  where
    by : (numbers_of k (suc i) fs ≡ Err j → Stops k (suc i) fs j) → (o : Option ℕ) → number_of f ≡ o → (r : Result (List ℕ × List (List ℕ)) ℕ) → numbers_of k (suc i) fs ≡ r → first i o r ≡ Err j → Stops (suc k) i (f ∷ fs) j
    by deep None e r q h =
        let same : i ≡ j = cc in
        let z = zeros (suc k) i in
        record {
          before = [];
          after = f ∷ fs;
          fields_are = refl;
          count = omega (arith, same);
          few = omega arith;
          more = z.fields;
          numbers = z.numbers;
          completes = z.read;
          again = λ g us vs is. let here : f ≡ g = cc in ap (λ o. first i o (numbers_of k (suc i) vs)) (sym (ap number_of here) ∙ e) ∙ ap Err same;
        }
    by deep (Some n) e (Ok x) q h = let z : ◌≡◌ {A = ℕ} 0 1 = cc in absurd (omega arith)
    by deep (Some n) e (Err d) q h =
        let same : d ≡ j = cc in
        let rest : Stops k (suc i) fs j = deep (q ∙ ap Err same) in
        record {
          before = f ∷ rest.before;
          after = rest.after;
          fields_are = ap (λ l. f ∷ l) rest.fields_are;
          count = omega (arith, rest.count);
          few = omega (arith, rest.few);
          more = rest.more;
          numbers = n ∷ rest.numbers;
          completes = λ others t. first i (e t) (rest.completes others t);
          again = λ g us vs is. (λ t. first i (e t) (rest.again g us vs is t));
        }

-- ---- the fields of a line of numbers

pub fields-from : (k i : ℕ) (fs : List (List ℕ)) (ns : List ℕ) → numbers_of k i fs ≡ Ok (ns, []) → FieldsOfNumbers k fs
fields-from k i fs ns h = let w = fields_read k i fs ns h in record { numbers = ns; count = w.count; digits = w.small; fields_are = w.spelled }

pub fields-give : (k i : ℕ) (fs : List (List ℕ)) (w : FieldsOfNumbers k fs) → numbers_of k i fs ≡ Ok (w.numbers, [])
fields-give k i fs w = (λ t. numbers_of (sym w.count t) i (w.fields_are t)) ∙ read-printed i w.numbers w.digits

-- k numbers are read to the end of the fields in one way
one-reading : (k : ℕ) (fs : List (List ℕ)) (r : Result (List ℕ × List (List ℕ)) ℕ) → numbers_of k 0 fs ≡ r → (w : FieldsOfNumbers k fs) → r ≡ Ok (w.numbers, [])
one-reading k fs r is w = sym is ∙ fields-give k 0 fs w

err-not-ok : {X : Type 0} (j : ℕ) (x : X) → ◌≡◌ {A = Result X ℕ} (Err j) (Ok x) → ⊥
err-not-ok j x h = let z : ◌≡◌ {A = ℕ} 0 1 = cc in omega (arith, z)

wrong-field : (k : ℕ) (fs : List (List ℕ)) (j : ℕ) → numbers_of k 0 fs ≡ Err j → (j < k) × WrongAt (FieldsOfNumbers k) fs j
wrong-field k fs j h =
    let s = numbers_stop k 0 fs j h in
    let begins : FieldsOfNumbers k (s.before ++ s.more) = fields-from k 0 (s.before ++ s.more) s.numbers (ap (numbers_of k 0) (sym (append-nil (s.before ++ s.more))) ∙ s.completes []) in (
      omega (arith, s.count, s.few),
      wrong-at (FieldsOfNumbers k) fs s.before s.after j s.fields_are (omega (arith, s.count)) (s.more, begins)
          (λ is form. err-not-ok j _ (one-reading k s.before (Err j) (ap (numbers_of k 0) (sym is) ∙ h) form))
          (λ f us vs there form. err-not-ok j _ (one-reading k (s.before ++ f ∷ vs) (Err j) (s.again f us vs there) form)),
    )

surplus-field : (k : ℕ) (fs : List (List ℕ)) (ns : List ℕ) (f : List ℕ) (gs : List (List ℕ)) → numbers_of k 0 fs ≡ Ok (ns, f ∷ gs) → WrongAt (FieldsOfNumbers k) fs k
surplus-field k fs ns f gs h =
    let p = numbers-pass k 0 fs ns (f ∷ gs) h in
    wrong-at (FieldsOfNumbers k) fs p.front (f ∷ gs) k p.fields_are p.count ([], fields-from k 0 (p.front ++ []) ns (p.again []))
    (λ is form. over f gs (ns, f ∷ gs) refl (one-reading k fs (Ok (ns, f ∷ gs)) h (subst (FieldsOfNumbers k) (sym is) form)))
    (λ g us vs there form. over g vs (ns, g ∷ vs) refl (one-reading k (p.front ++ g ∷ vs) (Ok (ns, g ∷ vs)) (p.again (g ∷ vs)) form))
  where
    over : (g : List ℕ) (vs : List (List ℕ)) (x : List ℕ × List (List ℕ)) {ms : List ℕ} → x.1 ≡ g ∷ vs → ◌≡◌ {A = Result (List ℕ × List (List ℕ)) ℕ} (Ok x) (Ok (ms, [])) → ⊥
    over g vs x {ms} more is = let pair : ◌≡◌ {A = List ℕ × List (List ℕ)} x (ms, []) = cc in omega (arith, ap length more, ap (λ y. length y.1) pair)

-- ---- the line

-- what the reading of a line shows of it
abbrev Shown : ℕ → List ℕ → Result (List ℕ) LineError → Type 0
Shown k line (Ok ns) = (length line ≤ 511) × FieldsOfNumbers k (pieces 32 line)
Shown k line (Err e) = WrongNumberLine k line e

line-shown : (k : ℕ) (line : List ℕ) → Shown k line (line_of k line)
line-shown k line =
    ⊎_elim
    (λ over. subst (Shown k line) (sym (cond-true (ltb 511 (length line)) _ _ (lt-ltb 511 (length line) over))) over)
    (λ fits. subst (Shown k line) (sym (cond-false (ltb 511 (length line)) _ _ (le-ltb 511 (length line) fits))) (by fits (numbers_of k 0 (pieces 32 line)) refl))
    (cases_lt 511 (length line))
  where
    by : length line ≤ 511 → (r : Result (List ℕ × List (List ℕ)) ℕ) → numbers_of k 0 (pieces 32 line) ≡ r → Shown k line (ended (at_field r))
    by fits (Err j) is = let (few, wrong) = wrong-field k (pieces 32 line) j is in (fits, few, wrong)
    by fits (Ok (ns, [])) is = (fits, fields-from k 0 (pieces 32 line) ns is)
    by fits (Ok (ns, f ∷ gs)) is = (fits, surplus-field k (pieces 32 line) ns f gs is)

-- it is wrong in one way
one-way : (k : ℕ) (line : List ℕ) (d e : LineError) → WrongNumberLine k line d → WrongNumberLine k line e → d ≡ e
one-way k line TooLong TooLong a b = refl
one-way k line TooLong (Field j) a b = absurd (omega (arith, a, b.0))
one-way k line TooLong Surplus a b = absurd (omega (arith, a, b.0))
one-way k line (Field i) TooLong a b = absurd (omega (arith, a.0, b))
one-way k line (Field i) (Field j) a b = ap Field (one-place (FieldsOfNumbers k) (pieces 32 line) i j a.2 b.2)
one-way k line (Field i) Surplus a b = absurd (omega (arith, a.1, one-place (FieldsOfNumbers k) (pieces 32 line) i k a.2 b.1))
one-way k line Surplus TooLong a b = absurd (omega (arith, a.0, b))
one-way k line Surplus (Field j) a b = absurd (omega (arith, b.1, one-place (FieldsOfNumbers k) (pieces 32 line) j k b.2 a.1))
one-way k line Surplus Surplus a b = refl

-- and a line of k numbers in none
no-way : (k : ℕ) (line : List ℕ) (e : LineError) → length line ≤ 511 → FieldsOfNumbers k (pieces 32 line) → WrongNumberLine k line e → ⊥
no-way k line TooLong fits form w = omega (arith, fits, w)
no-way k line (Field i) fits form w = no-place (FieldsOfNumbers k) (pieces 32 line) i form w.2
no-way k line Surplus fits form w = no-place (FieldsOfNumbers k) (pieces 32 line) k form w.1

the-way : (k : ℕ) (line : List ℕ) (r : Result (List ℕ) LineError) (e : LineError) → Shown k line r → WrongNumberLine k line e → r ≡ Err e
the-way k line (Ok ns) e shown w = absurd (no-way k line e shown.0 shown.1 w)
the-way k line (Err d) e shown w = ap Err (one-way k line d e shown w)

pub refuses : (k : ℕ) (line : List ℕ) (r : Result (List ℕ) LineError) → r ≡ line_of k line → RefusesWrongNumberLines k line r
refuses k line r is e =
    let shown : Shown k line r = subst (Shown k line) (sym is) (line-shown k line) in
    (λ err. subst (Shown k line) err shown, λ w. the-way k line r e shown w)
