-- Where a line is wrong, by its fields alone.
use Rattle.std.proofs.Common.{◌≡◌, ℕ, zero, suc, ◌+◌, ◌≤◌, ltb, List, [], ◌∷◌, ◌++◌, map, length, Ok, Err, decimal, Result, sym, refl, ap, ◌∙◌, subst, ⊎_elim, append-nil, arith}
use Rattle.std.proofs.lemmas.Bool.{cases_lt, lt-ltb, le-ltb, cond-true, cond-false}
use Rattle.entries.specs.Entries.{PlainEntry}
use Rattle.entries.specs.declared.investee.InvesteeEntry.{InvesteeEntry}
use Rattle.lines.specs.Fields.{pieces}
use Rattle.lines.specs.Places.{WrongAt, FieldsOfNumbers}
use Rattle.lines.proofs.Places.{one-place, no-place, wrong-at}
use Rattle.portfolio_lines.specs.Counted.{FieldsLeft, Reading, and_then, fields_of, numbers_in, none_at, none_left}
use Rattle.portfolio_lines.specs.Lines.{whole_line, number_line, entry_in, investee_of, key_from, key_of, balance_of, held_line}
use Rattle.portfolio_lines.specs.Numbers.{numbers_of_key, numbers_of_balance}
use Rattle.portfolio_lines.specs.Places.{FieldsOfInvestee, LineOf, WrongLine, RefusesWrongLines}
use Rattle.portfolio_lines.specs.declared.misread.Misread.{Misread}
use Rattle.portfolio_lines.specs.declared.misread.Misread.TheVariants.{TooLong, Field}
use Rattle.portfolio_lines.specs.declared.posts.Key.{Key}
use Rattle.portfolio_lines.proofs.ByStep.{from_place, Passed, Stopped, ByStep, numbers-step, entry-step}
use Rattle.portfolio_lines.proofs.Investees.{entry-done, entry-gives}
use Rattle.portfolio_lines.proofs.Spelled.{numbers-read, numbers-gives}
use Rattle.portfolio_lines.proofs.Texts.{written-done}

-- ---- a line is wrong in one way at most, and one of the form in none

module _ (Form : List (List ℕ) → Type 0) (line : List ℕ) where
  pub one-way : (d e : Misread) → WrongLine Form line d → WrongLine Form line e → d ≡ e
  one-way TooLong TooLong a b = refl
  one-way TooLong (Field zero) a b = absurd b
  one-way TooLong (Field (suc j)) a b = absurd (omega (arith, a, b.0))
  one-way (Field zero) e a b = absurd a
  one-way (Field (suc i)) TooLong a b = absurd (omega (arith, a.0, b))
  one-way (Field (suc i)) (Field zero) a b = absurd b
  one-way (Field (suc i)) (Field (suc j)) a b = ap (λ n. Field (suc n)) (one-place Form (pieces 32 line) i j a.1 b.1)

  pub no-way : (e : Misread) → LineOf Form line → WrongLine Form line e → ⊥
  no-way TooLong l w = omega (arith, l.short, w)
  no-way (Field zero) l w = w
  no-way (Field (suc i)) l w = no-place Form (pieces 32 line) i l.fields w.1

  -- what a reading of a line shows of it
  abbrev pub Shown : {X : Type 0} → Result X Misread → Type 0
  Shown (Ok x) = LineOf Form line
  Shown (Err e) = WrongLine Form line e

  the-way : {X : Type 0} (r : Result X Misread) (e : Misread) → Shown r → WrongLine Form line e → r ≡ Err e
  the-way (Ok x) e shown w = absurd (no-way e shown w)
  the-way (Err d) e shown w = ap Err (one-way d e shown w)

  pub refuses : {X : Type 0} (r : Result X Misread) → Shown r → RefusesWrongLines Form line r
  refuses r shown e = (λ err. subst Shown err shown, λ w. the-way r e shown w)

  pub shown-then : {X Y : Type 0} (r : Result X Misread) (f : X → Y) → Shown r → Shown (and_then r (λ x. Ok (f x)))
  shown-then (Ok x) f shown = shown
  shown-then (Err e) f shown = shown

-- ---- a form whose lines are what a reading reads to the end

pub record ReadsForm {X : Type 0} (read : FieldsLeft → Reading X) (Form : List (List ℕ) → Type 0) : Type 0 where
  pub by_step : ByStep read
  pub from : (fs : List (List ℕ)) (x : X) (g : FieldsLeft) → read (from_place 1 fs) ≡ Ok (x, g) → g.left ≡ [] → Form fs
  pub gives : (fs : List (List ℕ)) → Form fs → (x : X) × (q : ℕ) × (read (from_place 1 fs) ≡ Ok (x, from_place q []))

module _ {X : Type 0} (read : FieldsLeft → Reading X) (Form : List (List ℕ) → Type 0) (law : ReadsForm read Form) where
  -- fields of the form are read to the end, and so neither stop a reading nor leave one over
  not-stopped : (fs : List (List ℕ)) (e : Misread) → read (from_place 1 fs) ≡ Err e → Form fs → ⊥
  not-stopped fs e is form =
      let (x, q, reads) = law.gives fs form in
      let y : ◌≡◌ {A = Reading X} (Err e) (Ok (x, from_place q [])) = sym is ∙ reads in
      let z : ◌≡◌ {A = ℕ} 0 1 = cc in omega (arith, z)

  none-over : (fs : List (List ℕ)) (x : X) (g : FieldsLeft) (f : List ℕ) (gs : List (List ℕ)) → g.left ≡ f ∷ gs → read (from_place 1 fs) ≡ Ok (x, g) → Form fs → ⊥
  none-over fs x g f gs left is form =
      let (y, q, reads) = law.gives fs form in
      let z : ◌≡◌ {A = Reading X} (Ok (x, g)) (Ok (y, from_place q [])) = sym is ∙ reads in
      let pair : ◌≡◌ {A = X × FieldsLeft} (x, g) (y, from_place q []) = cc in
      omega (arith, ap length left, ap (λ z. length z.1.left) pair)

  stopped : (fs : List (List ℕ)) (e : Misread) → read (from_place 1 fs) ≡ Err e → (s : Stopped read 1 fs e) → WrongAt Form fs (length s.before)
  stopped fs e is s =
      let begins : Form (s.before ++ s.more) = law.from (s.before ++ s.more) s.value (from_place s.last []) (ap (λ l. read (from_place 1 l)) (sym (append-nil (s.before ++ s.more))) ∙ s.completes []) refl in
      wrong-at Form fs s.before s.after (length s.before) s.fields_are refl (s.more, begins)
      (λ whole form. not-stopped fs e is (subst Form (sym whole) form))
      (λ f us vs there form. not-stopped (s.before ++ f ∷ vs) e (s.again f us vs there) form)

  surplus : (fs : List (List ℕ)) (x : X) (g : FieldsLeft) (f : List ℕ) (gs : List (List ℕ)) → g.left ≡ f ∷ gs → read (from_place 1 fs) ≡ Ok (x, g) → (s : Passed read 1 fs x g) → WrongAt Form fs (length s.front)
  surplus fs x g f gs left is s =
      wrong-at Form fs s.front g.left (length s.front) s.fields_are refl ([], law.from (s.front ++ []) x (from_place g.place []) (s.again []) refl)
      (λ whole form. none-over fs x g f gs left is (subst Form (sym whole) form))
      (λ h us vs there form. none-over (s.front ++ h ∷ vs) x (from_place g.place (h ∷ vs)) h vs refl (s.again (h ∷ vs)) form)

  module _ (line : List ℕ) (fits : length line ≤ 511) where
    abbrev fs : List (List ℕ)
    fs = pieces 32 line

    at_place : (e : Misread) (i p : ℕ) → e ≡ Field p → p ≡ suc i → WrongAt Form fs i → WrongLine Form line e
    at_place e i p is place w = subst (WrongLine Form line) (sym (is ∙ ap Field place)) (fits, w)

    ended-shown : (x : X) (g : FieldsLeft) (left : List (List ℕ)) → g.left ≡ left → read (from_place 1 fs) ≡ Ok (x, g) → Shown Form line (none_at x g.place left)
    ended-shown x g [] left reads = record { short = fits; fields = law.from fs x g reads left }
    ended-shown x g (f ∷ gs) left reads =
        let s = law.by_step.passes 1 fs x g reads in
        at_place (Field g.place) (length s.front) g.place refl (omega (arith, s.place_is)) (surplus fs x g f gs left reads s)

    fields-shown : (r : Reading X) → read (from_place 1 fs) ≡ r → Shown Form line (and_then r (λ r. none_left r.0 r.1))
    fields-shown (Ok r) is = ended-shown r.0 r.1 r.1.left refl is
    fields-shown (Err e) is =
        let s = law.by_step.stops 1 fs e is in
        at_place e (length s.before) (1 + length s.before) s.place_is (omega arith) (stopped fs e is s)

  pub line-shown : (line : List ℕ) → Shown Form line (whole_line read line)
  line-shown line =
      ⊎_elim
      (λ over. subst (Shown Form line) (sym (cond-true (ltb 511 (length line)) _ _ (lt-ltb 511 (length line) over))) over)
      (λ fits. subst (Shown Form line) (sym (cond-false (ltb 511 (length line)) _ _ (le-ltb 511 (length line) fits))) (fields-shown line fits (read (fields_of line)) refl))
      (cases_lt 511 (length line))

-- ---- numbers

numbers-form : (k : ℕ) → ReadsForm (numbers_in k) (FieldsOfNumbers k)
numbers-form k = record { by_step = numbers-step k; from = from; gives = gives }
  where
    from : (fs : List (List ℕ)) (ns : List ℕ) (g : FieldsLeft) → numbers_in k (from_place 1 fs) ≡ Ok (ns, g) → g.left ≡ [] → FieldsOfNumbers k fs
    from fs ns g reads none =
        let (count, w) = numbers-read k (from_place 1 fs) (ns, g) reads in
        record { numbers = ns; count = count; digits = w.small; fields_are = written-done ns fs g.left w none }

    gives : (fs : List (List ℕ)) → FieldsOfNumbers k fs → (ns : List ℕ) × (q : ℕ) × (numbers_in k (from_place 1 fs) ≡ Ok (ns, from_place q []))
    gives fs w = (w.numbers, 1 + k, numbers-gives k 1 fs w.numbers [] w.count (record { small = w.digits; spelled = w.fields_are ∙ sym (append-nil (map decimal w.numbers)) }))

pub row-shown : (k : ℕ) (line : List ℕ) → Shown (FieldsOfNumbers k) line (number_line k line)
row-shown k line = line-shown (numbers_in k) (FieldsOfNumbers k) (numbers-form k) line

pub key-shown : (line : List ℕ) → Shown (FieldsOfNumbers numbers_of_key) line (key_of line)
key-shown line = shown-then (FieldsOfNumbers numbers_of_key) line (number_line numbers_of_key line) key_from (row-shown numbers_of_key line)

pub balance-shown : (line : List ℕ) → Shown (FieldsOfNumbers numbers_of_balance) line (balance_of line)
balance-shown line = shown-then (FieldsOfNumbers numbers_of_balance) line (number_line numbers_of_balance line) _ (row-shown numbers_of_balance line)

-- ---- an investee

entry-form : ReadsForm entry_in FieldsOfInvestee
entry-form =
    record {
      by_step = entry-step;
      from = λ fs e g reads none. let (fields, small) = entry-done fs e g reads none in record { entry = e; digits = small; fields_are = fields };
      gives = λ fs w. let (q, reads) = entry-gives fs w.entry w.fields_are w.digits in (w.entry, q, reads);
    }

pub investee-shown : (line : List ℕ) → Shown FieldsOfInvestee line (investee_of line)
investee-shown line = line-shown entry_in FieldsOfInvestee entry-form line

-- ---- what the functions answer

pub row-refuses : (k : ℕ) (line : List ℕ) (r : Result (List ℕ) Misread) → r ≡ number_line k line → RefusesWrongLines (FieldsOfNumbers k) line r
row-refuses k line r is = refuses (FieldsOfNumbers k) line r (subst (Shown (FieldsOfNumbers k) line) (sym is) (row-shown k line))

pub key-refuses : (line : List ℕ) (r : Result Key Misread) → r ≡ key_of line → RefusesWrongLines (FieldsOfNumbers numbers_of_key) line r
key-refuses line r is = refuses (FieldsOfNumbers numbers_of_key) line r (subst (Shown (FieldsOfNumbers numbers_of_key) line) (sym is) (key-shown line))

pub balance-refuses : (line : List ℕ) (r : Result ℕ Misread) → r ≡ balance_of line → RefusesWrongLines (FieldsOfNumbers numbers_of_balance) line r
balance-refuses line r is = refuses (FieldsOfNumbers numbers_of_balance) line r (subst (Shown (FieldsOfNumbers numbers_of_balance) line) (sym is) (balance-shown line))

held-shown : (line : List ℕ) (r : Result PlainEntry Misread) → Shown FieldsOfInvestee line r → Shown FieldsOfInvestee line (held_line r)
held-shown line (Ok e) shown = shown
held-shown line (Err e) shown = shown

pub investee-refuses : (line : List ℕ) (r : Result InvesteeEntry Misread) → r ≡ held_line (investee_of line) → RefusesWrongLines FieldsOfInvestee line r
investee-refuses line r is = refuses FieldsOfInvestee line r (subst (Shown FieldsOfInvestee line) (sym is) (held-shown line (investee_of line) (investee-shown line)))
