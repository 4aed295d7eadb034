-- Readings of fields, step by step: what they pass does not hang on what follows, nor where they stop on what stands after that.
use Rattle.std.proofs.Common.{◌≡◌, ℕ, zero, suc, ◌+◌, eqb, List, [], ◌∷◌, ◌++◌, length, get_or, Ok, Err, Result, sym, refl, ap, ◌∙◌, subst, ⊎_elim, append_assoc, arith}
use Rattle.std.proofs.lemmas.Bool.{cases_Bool, cond-true, cond-false}
use Rattle.std.proofs.lemmas.List.{length-append}
use Rattle.factors.specs.declared.Activity.{Activity}
use Rattle.entries.specs.Entries.{PlainMethod, report, bill, sector_mean}
use Rattle.lines.specs.Fields.{numbers_of}
use Rattle.lines.proofs.Places.{numbers-pass, zeros, numbers_stop}
use Rattle.portfolio_lines.specs.Counted.{FieldsLeft, Reading, and_then, counted, numbers_in}
use Rattle.portfolio_lines.specs.Lines.{entry_of, entry_in}
use Rattle.portfolio_lines.specs.Methods.{report_in, mean_in, bill_in, term_of, terms_in, in_front, method_by, method_in}
use Rattle.portfolio_lines.specs.Numbers.{numbers_before_method}
use Rattle.portfolio_lines.specs.declared.misread.Misread.{Misread}
use Rattle.portfolio_lines.specs.declared.misread.Misread.TheVariants.{Field}
use Rattle.portfolio_lines.proofs.Texts.{then_ok, then-gives}

abbrev pub from_place : ℕ → List (List ℕ) → FieldsLeft
from_place p fs = record { place = p; left = fs }

module _ {X : Type 0} (read : FieldsLeft → Reading X) where
  pub record Passed (p : ℕ) (fs : List (List ℕ)) (x : X) (g : FieldsLeft) : Type 0 where
    pub front : List (List ℕ)
    pub fields_are : fs ≡ front ++ g.left
    pub place_is : g.place ≡ p + length front
    pub again : (rest : List (List ℕ)) → read (from_place p (front ++ rest)) ≡ Ok (x, from_place g.place rest)

  pub record Readable (p : ℕ) : Type 0 where
    pub fields : List (List ℕ)
    pub value : X
    pub last : ℕ
    pub reads : (rest : List (List ℕ)) → read (from_place p (fields ++ rest)) ≡ Ok (value, from_place last rest)

  -- the fields before the place go on to some that are read; with the one there, whatever follows, reading stops there too
  pub record Stopped (p : ℕ) (fs : List (List ℕ)) (e : Misread) : Type 0 where
    pub before : List (List ℕ)
    pub after : List (List ℕ)
    pub fields_are : fs ≡ before ++ after
    pub place_is : e ≡ Field (p + length before)
    pub more : List (List ℕ)
    pub value : X
    pub last : ℕ
    pub completes : (rest : List (List ℕ)) → read (from_place p ((before ++ more) ++ rest)) ≡ Ok (value, from_place last rest)
    pub again : (f : List ℕ) (us vs : List (List ℕ)) → after ≡ f ∷ us → read (from_place p (before ++ f ∷ vs)) ≡ Err e

  pub record ByStep : Type 0 where
    pub passes : (p : ℕ) (fs : List (List ℕ)) (x : X) (g : FieldsLeft) → read (from_place p fs) ≡ Ok (x, g) → Passed p fs x g
    pub stops : (p : ℕ) (fs : List (List ℕ)) (e : Misread) → read (from_place p fs) ≡ Err e → Stopped p fs e
    pub some : (p : ℕ) → Readable p

-- ---- a value without a field

pub given : {X : Type 0} (x : X) → ByStep (λ g. Ok (x, g))
given {X} x = record { passes = passes; stops = stops; some = λ p. record { fields = []; value = x; last = p; reads = λ rest. refl } }
  where
    passes : (p : ℕ) (fs : List (List ℕ)) (y : X) (g : FieldsLeft) → ◌≡◌ {A = Reading X} (Ok (x, from_place p fs)) (Ok (y, g)) → Passed (λ g. Ok (x, g)) p fs y g
    passes p fs y g h =
        let pair : ◌≡◌ {A = X × FieldsLeft} (x, from_place p fs) (y, g) = cc in
        subst (λ z. Passed (λ g. Ok (x, g)) p fs z.0 z.1) pair (record { front = []; fields_are = refl; place_is = omega arith; again = λ rest. refl })

    stops : (p : ℕ) (fs : List (List ℕ)) (e : Misread) → ◌≡◌ {A = Reading X} (Ok (x, from_place p fs)) (Err e) → Stopped (λ g. Ok (x, g)) p fs e
    stops p fs e h = let z : ◌≡◌ {A = ℕ} 0 1 = cc in absurd (omega arith)

-- ---- one reading after another

module _ {X Y : Type 0} (read : FieldsLeft → Reading X) (next : X → FieldsLeft → Reading Y) (a : ByStep read) (b : (x : X) → ByStep (next x)) where
  abbrev both : FieldsLeft → Reading Y
  both f = and_then (read f) (λ r. next r.0 r.1)

  goes-on : (p : ℕ) (fs : List (List ℕ)) (x : X) (g : FieldsLeft) (y : Reading Y) → read (from_place p fs) ≡ Ok (x, g) → next x g ≡ y → both (from_place p fs) ≡ y
  goes-on p fs x g y reads rest = then-gives (λ r. next r.0 r.1) (x, g) reads ∙ rest

  passes-both : (p : ℕ) (fs : List (List ℕ)) (y : Y) (h : FieldsLeft) → both (from_place p fs) ≡ Ok (y, h) → Passed both p fs y h
  passes-both p fs y h is =
      let (r, reads, rest) = then_ok (read (from_place p fs)) (λ r. next r.0 r.1) (y, h) is in
      let u = a.passes p fs r.0 r.1 reads in
      let v = (b r.0).passes r.1.place r.1.left y h rest in
      record {
        front = u.front ++ v.front;
        fields_are = u.fields_are ∙ ap (λ l. u.front ++ l) v.fields_are ∙ sym (append_assoc u.front v.front h.left);
        place_is = omega (arith, u.place_is, v.place_is, length-append u.front v.front);
        again = λ others. ap (λ l. both (from_place p l)) (append_assoc u.front v.front others) ∙ goes-on p (u.front ++ (v.front ++ others)) r.0 (from_place r.1.place (v.front ++ others)) (Ok (y, from_place h.place others)) (u.again (v.front ++ others)) (v.again others);
      }

  some-both : (p : ℕ) → Readable both p
  some-both p =
      let u = a.some p in
      let v = (b u.value).some u.last in
      record {
        fields = u.fields ++ v.fields;
        value = v.value;
        last = v.last;
        reads = λ others. ap (λ l. both (from_place p l)) (append_assoc u.fields v.fields others) ∙ goes-on p (u.fields ++ (v.fields ++ others)) u.value (from_place u.last (v.fields ++ others)) (Ok (v.value, from_place v.last others)) (u.reads (v.fields ++ others)) (v.reads others);
      }

  stops-first : (p : ℕ) (fs : List (List ℕ)) (e : Misread) → read (from_place p fs) ≡ Err e → Stopped both p fs e
  stops-first p fs e is =
      let u = a.stops p fs e is in
      let v = (b u.value).some u.last in
      record {
        before = u.before;
        after = u.after;
        fields_are = u.fields_are;
        place_is = u.place_is;
        more = u.more ++ v.fields;
        value = v.value;
        last = v.last;
        completes = λ others. ap (λ l. both (from_place p l)) (ap (λ l. l ++ others) (sym (append_assoc u.before u.more v.fields)) ∙ append_assoc (u.before ++ u.more) v.fields others)
            ∙ goes-on p ((u.before ++ u.more) ++ (v.fields ++ others)) u.value (from_place u.last (v.fields ++ others)) (Ok (v.value, from_place v.last others)) (u.completes (v.fields ++ others)) (v.reads others);
        again = λ f us vs there. ap (λ r. and_then r (λ r. next r.0 r.1)) (u.again f us vs there);
      }

  stops-second : (p : ℕ) (fs : List (List ℕ)) (e : Misread) (x : X) (g : FieldsLeft) → read (from_place p fs) ≡ Ok (x, g) → next x g ≡ Err e → Stopped both p fs e
  stops-second p fs e x g reads rest =
      let u = a.passes p fs x g reads in
      let v = (b x).stops g.place g.left e rest in
      let place : g.place + length v.before ≡ p + length (u.front ++ v.before) = omega (arith, u.place_is, length-append u.front v.before) in
      record {
        before = u.front ++ v.before;
        after = v.after;
        fields_are = u.fields_are ∙ ap (λ l. u.front ++ l) v.fields_are ∙ sym (append_assoc u.front v.before v.after);
        place_is = v.place_is ∙ ap Field place;
        more = v.more;
        value = v.value;
        last = v.last;
        completes = λ others. ap (λ l. both (from_place p l)) (ap (λ l. l ++ others) (append_assoc u.front v.before v.more) ∙ append_assoc u.front (v.before ++ v.more) others)
            ∙ goes-on p (u.front ++ ((v.before ++ v.more) ++ others)) x (from_place g.place ((v.before ++ v.more) ++ others)) (Ok (v.value, from_place v.last others)) (u.again ((v.before ++ v.more) ++ others)) (v.completes others);
        again = λ f us vs there. ap (λ l. both (from_place p l)) (append_assoc u.front v.before (f ∷ vs)) ∙ goes-on p (u.front ++ (v.before ++ f ∷ vs)) x (from_place g.place (v.before ++ f ∷ vs)) (Err e) (u.again (v.before ++ f ∷ vs)) (v.again f us vs there);
      }

  stops-both : (p : ℕ) (fs : List (List ℕ)) (e : Misread) → both (from_place p fs) ≡ Err e → Stopped both p fs e
  stops-both p fs e is = by (read (from_place p fs)) refl is
    where
      by : (r : Reading X) → read (from_place p fs) ≡ r → and_then r (λ r. next r.0 r.1) ≡ Err e → Stopped both p fs e
      by (Err d) reads is = let same : d ≡ e = cc in stops-first p fs e (reads ∙ ap Err same)
      by (Ok r) reads is = stops-second p fs e r.0 r.1 reads is

  pub one_then : ByStep both
  one_then = record { passes = passes-both; stops = stops-both; some = some-both }

-- ---- numbers

module _ (k : ℕ) where
  numbers-passes : (p : ℕ) (fs : List (List ℕ)) (x : List ℕ) (g : FieldsLeft) → numbers_in k (from_place p fs) ≡ Ok (x, g) → Passed (numbers_in k) p fs x g
  numbers-passes p fs x g is = by (numbers_of k p fs) refl is
    where
      by : (r : Result (List ℕ × List (List ℕ)) ℕ) → numbers_of k p fs ≡ r → counted (p + k) r ≡ Ok (x, g) → Passed (numbers_in k) p fs x g
      by (Err d) reads is = let z : ◌≡◌ {A = ℕ} 0 1 = cc in absurd (omega arith)
      by (Ok r) reads is =
          let pair : ◌≡◌ {A = List ℕ × FieldsLeft} (r.0, from_place (p + k) r.1) (x, g) = cc in
          let u = numbers-pass k p fs r.0 r.1 reads in
          subst (λ z. Passed (numbers_in k) p fs z.0 z.1) pair
          (record { front = u.front; fields_are = u.fields_are; place_is = omega (arith, u.count); again = λ rest. ap (counted (p + k)) (u.again rest) })

  numbers-stops : (p : ℕ) (fs : List (List ℕ)) (e : Misread) → numbers_in k (from_place p fs) ≡ Err e → Stopped (numbers_in k) p fs e
  numbers-stops p fs e is = by (numbers_of k p fs) refl is
    where
      by : (r : Result (List ℕ × List (List ℕ)) ℕ) → numbers_of k p fs ≡ r → counted (p + k) r ≡ Err e → Stopped (numbers_in k) p fs e
      by (Ok r) reads is = let z : ◌≡◌ {A = ℕ} 0 1 = cc in absurd (omega arith)
      by (Err j) reads is =
          let same : Field j ≡ e = cc in
          let u = numbers_stop k p fs j reads in
          record {
            before = u.before;
            after = u.after;
            fields_are = u.fields_are;
            place_is = sym same ∙ ap Field (sym u.count);
            more = u.more;
            value = u.numbers;
            last = p + k;
            completes = λ rest. ap (counted (p + k)) (u.completes rest);
            again = λ f us vs there. ap (counted (p + k)) (u.again f us vs there) ∙ ap Err same;
          }

  numbers-some : (p : ℕ) → Readable (numbers_in k) p
  numbers-some p =
      let z = zeros k p in
      record { fields = z.fields; value = z.numbers; last = p + k; reads = λ rest. ap (counted (p + k)) (z.read rest) }

  pub numbers-step : ByStep (numbers_in k)
  numbers-step = record { passes = numbers-passes; stops = numbers-stops; some = numbers-some }

-- ---- the numbers of a method

abbrev two_then : {Y : Type 0} → (List ℕ → FieldsLeft → Reading Y) → FieldsLeft → Reading Y
two_then next f = and_then (numbers_in 2 f) (λ r. next r.0 r.1)

report-step : ByStep report_in
report-step = one_then (numbers_in 2) (λ ns g. Ok (report (get_or ns 0 0) (get_or ns 1 0), g)) (numbers-step 2) (λ ns. given (report (get_or ns 0 0) (get_or ns 1 0)))

mean-step : ByStep mean_in
mean-step = one_then (numbers_in 2) (λ ns g. Ok (sector_mean (get_or ns 0 0) (get_or ns 1 0), g)) (numbers-step 2) (λ ns. given (sector_mean (get_or ns 0 0) (get_or ns 1 0)))

front_then : (t : Activity) (r : Reading (List Activity)) → and_then r (λ s. Ok (t ∷ s.0, s.1)) ≡ in_front t r
front_then t (Ok r) = refl
front_then t (Err e) = refl

terms-step : (n : ℕ) → ByStep (terms_in n)
terms-step zero = given []
terms-step (suc n) =
    one_then (numbers_in 2) (λ ns g. in_front (term_of ns) (terms_in n g)) (numbers-step 2)
    (λ ns. subst ByStep (λ t g. front_then (term_of ns) (terms_in n g) t) (one_then (terms_in n) (λ ts g. Ok (term_of ns ∷ ts, g)) (terms-step n) (λ ts. given (term_of ns ∷ ts))))

bill-step : ByStep bill_in
bill-step =
    one_then (numbers_in 1) (λ ns g. and_then (terms_in (get_or ns 0 0) g) (λ s. Ok (bill s.0, s.1))) (numbers-step 1)
    (λ ns. one_then (terms_in (get_or ns 0 0)) (λ ts g. Ok (bill ts, g)) (terms-step (get_or ns 0 0)) (λ ts. given (bill ts)))

-- ---- a method, by its letter

-- a letter whose numbers are read step by step
module _ (c p : ℕ) (next : FieldsLeft → Reading PlainMethod) (is : (g : FieldsLeft) → method_by p c g ≡ next g) (b : ByStep next) where
  lettered-passes : (gs : List (List ℕ)) (x : PlainMethod) (h : FieldsLeft) → method_by p c (from_place (p + 1) gs) ≡ Ok (x, h) → Passed method_in p ((c ∷ []) ∷ gs) x h
  lettered-passes gs x h reads =
      let u = b.passes (p + 1) gs x h (sym (is (from_place (p + 1) gs)) ∙ reads) in
      record { front = (c ∷ []) ∷ u.front; fields_are = ap (λ l. (c ∷ []) ∷ l) u.fields_are; place_is = omega (arith, u.place_is); again = λ rest. is (from_place (p + 1) (u.front ++ rest)) ∙ u.again rest }

  lettered-stops : (gs : List (List ℕ)) (e : Misread) → method_by p c (from_place (p + 1) gs) ≡ Err e → Stopped method_in p ((c ∷ []) ∷ gs) e
  lettered-stops gs e reads =
      let u = b.stops (p + 1) gs e (sym (is (from_place (p + 1) gs)) ∙ reads) in
      let place : p + 1 + length u.before ≡ p + suc (length u.before) = omega arith in
      record {
        before = (c ∷ []) ∷ u.before;
        after = u.after;
        fields_are = ap (λ l. (c ∷ []) ∷ l) u.fields_are;
        place_is = u.place_is ∙ ap Field place;
        more = u.more;
        value = u.value;
        last = u.last;
        completes = λ rest. is (from_place (p + 1) ((u.before ++ u.more) ++ rest)) ∙ u.completes rest;
        again = λ f us vs there. is (from_place (p + 1) (u.before ++ f ∷ vs)) ∙ u.again f us vs there;
      }

-- which letter it is
data Letter (p c : ℕ) : Type 0 where
  named : (next : FieldsLeft → Reading PlainMethod) → ((g : FieldsLeft) → method_by p c g ≡ next g) → ByStep next → Letter p c
  other : ((g : FieldsLeft) → method_by p c g ≡ Err (Field p)) → Letter p c

letter_named : (p c : ℕ) → Letter p c
letter_named p c =
    ⊎_elim (λ t. named report_in (λ g. cond-true (eqb c 82) _ _ t) report-step)
    (λ x. ⊎_elim (λ t. named bill_in (λ g. cond-false (eqb c 82) _ _ x ∙ cond-true (eqb c 80) _ _ t) bill-step)
    (λ y. ⊎_elim (λ t. named mean_in (λ g. cond-false (eqb c 82) _ _ x ∙ cond-false (eqb c 80) _ _ y ∙ cond-true (eqb c 69) _ _ t) mean-step)
    (λ z. other (λ g. cond-false (eqb c 82) _ _ x ∙ cond-false (eqb c 80) _ _ y ∙ cond-false (eqb c 69) _ _ z))
    (cases_Bool (eqb c 69))) (cases_Bool (eqb c 80))) (cases_Bool (eqb c 82))

-- a sector mean
method-some : (p : ℕ) → Readable method_in p
method-some p =
    let u = mean-step.some (p + 1) in
    record { fields = (69 ∷ []) ∷ u.fields; value = u.value; last = u.last; reads = λ rest. u.reads rest }

at-once : (p : ℕ) (fs : List (List ℕ)) (e : Misread) → e ≡ Field p → ((f : List ℕ) (us vs : List (List ℕ)) → fs ≡ f ∷ us → method_in (from_place p (f ∷ vs)) ≡ Err (Field p)) → Stopped method_in p fs e
at-once p fs e is again =
    let u = method-some p in
    let place : p ≡ p + 0 = omega arith in
    record { before = []; after = fs; fields_are = refl; place_is = is ∙ ap Field place; more = u.fields; value = u.value; last = u.last; completes = u.reads; again = λ f us vs there. again f us vs there ∙ ap Err (sym is) }

method-passes : (p : ℕ) (fs : List (List ℕ)) (x : PlainMethod) (h : FieldsLeft) → method_in (from_place p fs) ≡ Ok (x, h) → Passed method_in p fs x h
method-passes p [] x h is = let z : ◌≡◌ {A = ℕ} 0 1 = cc in absurd (omega arith)
method-passes p ([] ∷ gs) x h is = let z : ◌≡◌ {A = ℕ} 0 1 = cc in absurd (omega arith)
method-passes p ((c ∷ d ∷ ds) ∷ gs) x h is = let z : ◌≡◌ {A = ℕ} 0 1 = cc in absurd (omega arith)
method-passes p ((c ∷ []) ∷ gs) x h is = by (letter_named p c)
  where
    by : Letter p c → Passed method_in p ((c ∷ []) ∷ gs) x h
    by (named next same b) = lettered-passes c p next same b gs x h is
    by (other same) = let y : ◌≡◌ {A = Reading PlainMethod} (Err (Field p)) (Ok (x, h)) = sym (same (from_place (p + 1) gs)) ∙ is in let z : ◌≡◌ {A = ℕ} 0 1 = cc in absurd (omega arith)

method-stops : (p : ℕ) (fs : List (List ℕ)) (e : Misread) → method_in (from_place p fs) ≡ Err e → Stopped method_in p fs e
method-stops p [] e is = let same : Field p ≡ e = cc in at-once p [] e (sym same) (λ f us vs none. absurd (omega (arith, ap length none)))
method-stops p ([] ∷ gs) e is =
    let same : Field p ≡ e = cc in
    at-once p ([] ∷ gs) e (sym same) (λ f us vs there. let field : [] ≡ f = cc in ap (λ f. method_in (from_place p (f ∷ vs))) (sym field))
method-stops p ((c ∷ d ∷ ds) ∷ gs) e is =
    let same : Field p ≡ e = cc in
    at-once p ((c ∷ d ∷ ds) ∷ gs) e (sym same) (λ f us vs there. let field : c ∷ d ∷ ds ≡ f = cc in ap (λ f. method_in (from_place p (f ∷ vs))) (sym field))
method-stops p ((c ∷ []) ∷ gs) e is = by (letter_named p c)
  where
    by : Letter p c → Stopped method_in p ((c ∷ []) ∷ gs) e
    by (named next same b) = lettered-stops c p next same b gs e is
    by (other same) =
        let y : ◌≡◌ {A = Reading PlainMethod} (Err (Field p)) (Err e) = sym (same (from_place (p + 1) gs)) ∙ is in
        let place : Field p ≡ e = cc in
        at-once p ((c ∷ []) ∷ gs) e (sym place) (λ f us vs there. let field : c ∷ [] ≡ f = cc in ap (λ f. method_in (from_place p (f ∷ vs))) (sym field) ∙ same (from_place (p + 1) vs))

method-step : ByStep method_in
method-step = record { passes = method-passes; stops = method-stops; some = method-some }

-- ---- an investee

pub entry-step : ByStep entry_in
entry-step =
    one_then (numbers_in numbers_before_method) (λ ns g. and_then (method_in g) (λ s. Ok (entry_of ns s.0, s.1))) (numbers-step numbers_before_method)
    (λ ns. one_then method_in (λ m g. Ok (entry_of ns m, g)) method-step (λ m. given (entry_of ns m)))
