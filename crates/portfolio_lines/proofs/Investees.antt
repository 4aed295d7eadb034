-- The line of an investee: what is read is what is written.
use Rattle.std.proofs.Common.{◌≡◌, ℕ, zero, suc, ◌+◌, ◌^◌, ◌<◌, true, eqb, List, [], ◌∷◌, ◌++◌, map, length, get_or, Ok, Err, decimal, sym, refl, ap, ◌∙◌, subst, ⊎_elim, append_assoc, append-nil, arith}
use Rattle.std.specs.List.{AllByRecursion}
use Rattle.std.proofs.lemmas.Bool.{cases_Bool, eqb-true, cond-true, cond-false}
use Rattle.std.proofs.lemmas.List.{map-append}
use Rattle.factors.specs.declared.Activity.{Activity}
use Rattle.entries.specs.Entries.{PlainMethod, PlainEntry, report, bill, sector_mean}
use Rattle.lines.specs.Fields.{pieces}
use Rattle.lines.specs.Render.{join}
use Rattle.lines.proofs.Printed.{Free, decimals-free, join-pieces}
use Rattle.portfolio_lines.specs.declared.misread.Misread.TheVariants.{Field}
use Rattle.portfolio_lines.specs.Counted.{FieldsLeft, Reading, and_then, numbers_in, letter_at, letter_in}
use Rattle.portfolio_lines.specs.Lines.{entry_of, entry_in, investee_of}
use Rattle.portfolio_lines.specs.Methods.{report_in, mean_in, bill_in, term_of, terms_in, in_front, method_by, method_in}
use Rattle.portfolio_lines.specs.Numbers.{numbers_before_method}
use Rattle.portfolio_lines.specs.Text.{ThirteenDigits, head_numbers, letter_of, term_numbers, method_numbers, investee_fields, investee_line, IsInvesteeLine}
use Rattle.portfolio_lines.proofs.Spelled.{Written, numbers-read, numbers-gives, all_append, join_free}
use Rattle.portfolio_lines.proofs.Texts.{then_ok, then-gives, whole-ok, whole-gives, at, at_all, split}

written-more : (ns ms : List ℕ) (fs gs hs : List (List ℕ)) → Written ns fs gs → Written ms gs hs → Written (ns ++ ms) fs hs
written-more ns ms fs gs hs a b =
    record {
      small = all_append (λ n. n < 10 ^ 13) ns ms a.small b.small;
      spelled = a.spelled ∙ ap (λ l. map decimal ns ++ l) b.spelled ∙ sym (append_assoc (map decimal ns) (map decimal ms) hs) ∙ ap (λ l. l ++ hs) (sym (map-append decimal ns ms));
    }

-- ---- terms

terms-read : (n : ℕ) (f : FieldsLeft) (x : List Activity × FieldsLeft) → terms_in n f ≡ Ok x → (length x.0 ≡ n) × Written (term_numbers x.0) f.left x.1.left
terms-read zero f x h =
    let pair : ◌≡◌ {A = List Activity × FieldsLeft} ([], f) x = cc in
    subst (λ y. (length y.0 ≡ 0) × Written (term_numbers y.0) f.left y.1.left) pair (refl, record { small = tt; spelled = refl })
terms-read (suc n) f x h =
    let (y, reads, rest) = then_ok (numbers_in 2 f) (λ r. in_front (term_of r.0) (terms_in n r.1)) x h in
    by y reads (terms-read n y.1) (terms_in n y.1) refl rest
  where
    by : (y : List ℕ × FieldsLeft) → numbers_in 2 f ≡ Ok y → ((z : List Activity × FieldsLeft) → terms_in n y.1 ≡ Ok z → (length z.0 ≡ n) × Written (term_numbers z.0) y.1.left z.1.left)
        → (r : Reading (List Activity)) → terms_in n y.1 ≡ r → in_front (term_of y.0) r ≡ Ok x → (length x.0 ≡ suc n) × Written (term_numbers x.0) f.left x.1.left
    by y reads deep (Err p) e h = let z : ◌≡◌ {A = ℕ} 0 1 = cc in absurd (omega arith)
    by y reads deep (Ok z) e h =
        let pair : ◌≡◌ {A = List Activity × FieldsLeft} (term_of y.0 ∷ z.0, z.1) x = cc in
        let (two, w) = numbers-read 2 f y reads in
        let (count, rest) = deep z e in
        let here : Written (at 2 0 y.0) f.left y.1.left = subst (λ ns. Written ns f.left y.1.left) (sym (at_all 2 y.0 two)) w in
        subst (λ y. (length y.0 ≡ suc n) × Written (term_numbers y.0) f.left y.1.left) pair (ap suc count, written-more (at 2 0 y.0) (term_numbers z.0) f.left y.1.left z.1.left here rest)

terms-gives : (p : ℕ) (ts : List Activity) (fs gs : List (List ℕ)) → Written (term_numbers ts) fs gs → (q : ℕ) × (terms_in (length ts) (record { place = p; left = fs }) ≡ Ok (ts, record { place = q; left = gs }))
terms-gives p [] fs gs w = (p, ap (λ l. Ok ([], record { place = p; left = l })) w.spelled)
terms-gives p (t ∷ ts) fs gs w =
    let rest : List (List ℕ) = map decimal (term_numbers ts) ++ gs in
    let first = numbers-gives 2 p fs (t.row ∷ t.quantity ∷ []) rest refl (record { small = (w.small.0, (w.small.1.0, tt)); spelled = w.spelled }) in
    let (q, others) = terms-gives (p + 2) ts rest gs (record { small = w.small.1.1; spelled = refl }) in
    (q, then-gives (λ r. in_front (term_of r.0) (terms_in (length ts) r.1)) _ first ∙ ap (in_front t) others)

-- ---- the method

letter-read : (p : ℕ) (fs : List (List ℕ)) (y : ℕ × FieldsLeft) → letter_at p fs ≡ Ok y → fs ≡ (y.0 ∷ []) ∷ y.1.left
letter-read p [] y h = let z : ◌≡◌ {A = ℕ} 0 1 = cc in absurd (omega arith)
letter-read p ([] ∷ fs) y h = let z : ◌≡◌ {A = ℕ} 0 1 = cc in absurd (omega arith)
letter-read p ((c ∷ []) ∷ fs) y h = let pair : ◌≡◌ {A = ℕ × FieldsLeft} (c, record { place = p + 1; left = fs }) y = cc in ap (λ z. (z.0 ∷ []) ∷ z.1.left) pair
letter-read p ((c ∷ d ∷ ds) ∷ fs) y h = let z : ◌≡◌ {A = ℕ} 0 1 = cc in absurd (omega arith)

-- the letter c, and the fields fs after it, are a method's
abbrev Lettered : ℕ → List (List ℕ) → PlainMethod × FieldsLeft → Type 0
Lettered c fs x = (c ≡ letter_of x.0) × Written (method_numbers x.0) fs x.1.left

report-read : (g : FieldsLeft) (x : PlainMethod × FieldsLeft) → report_in g ≡ Ok x → Lettered 82 g.left x
report-read g x h =
    let (y, reads, made) = then_ok (numbers_in 2 g) (λ r. Ok (report (get_or r.0 0 0) (get_or r.0 1 0), r.1)) x h in
    let pair : ◌≡◌ {A = PlainMethod × FieldsLeft} (report (get_or y.0 0 0) (get_or y.0 1 0), y.1) x = cc in
    let (two, w) = numbers-read 2 g y reads in
    subst (Lettered 82 g.left) pair (refl, subst (λ ns. Written ns g.left y.1.left) (sym (at_all 2 y.0 two)) w)

mean-read : (g : FieldsLeft) (x : PlainMethod × FieldsLeft) → mean_in g ≡ Ok x → Lettered 69 g.left x
mean-read g x h =
    let (y, reads, made) = then_ok (numbers_in 2 g) (λ r. Ok (sector_mean (get_or r.0 0 0) (get_or r.0 1 0), r.1)) x h in
    let pair : ◌≡◌ {A = PlainMethod × FieldsLeft} (sector_mean (get_or y.0 0 0) (get_or y.0 1 0), y.1) x = cc in
    let (two, w) = numbers-read 2 g y reads in
    subst (Lettered 69 g.left) pair (refl, subst (λ ns. Written ns g.left y.1.left) (sym (at_all 2 y.0 two)) w)

bill-read : (g : FieldsLeft) (x : PlainMethod × FieldsLeft) → bill_in g ≡ Ok x → Lettered 80 g.left x
bill-read g x h =
    let (y, reads, rest) = then_ok (numbers_in 1 g) (λ r. and_then (terms_in (get_or r.0 0 0) r.1) (λ s. Ok (bill s.0, s.1))) x h in
    let (z, terms, made) = then_ok (terms_in (get_or y.0 0 0) y.1) (λ s. Ok (bill s.0, s.1)) x rest in
    let pair : ◌≡◌ {A = PlainMethod × FieldsLeft} (bill z.0, z.1) x = cc in
    let (one, w) = numbers-read 1 g y reads in
    let (count, v) = terms-read (get_or y.0 0 0) y.1 z terms in
    let here : Written (length z.0 ∷ []) g.left y.1.left = subst (λ ns. Written ns g.left y.1.left) (sym (at_all 1 y.0 one) ∙ ap (λ n. n ∷ []) (sym count)) w in
    subst (Lettered 80 g.left) pair (refl, written-more (length z.0 ∷ []) (term_numbers z.0) g.left y.1.left z.1.left here v)

by-letter : (c place : ℕ) (g : FieldsLeft) (x : PlainMethod × FieldsLeft) → method_by place c g ≡ Ok x → Lettered c g.left x
by-letter c place g x h =
    ⊎_elim (λ t. named 82 t (report-read g x (sym (cond-true (eqb c 82) _ _ t) ∙ h)))
    (λ a. let h₁ = sym (cond-false (eqb c 82) _ _ a) ∙ h in
    ⊎_elim (λ t. named 80 t (bill-read g x (sym (cond-true (eqb c 80) _ _ t) ∙ h₁)))
    (λ b. let h₂ = sym (cond-false (eqb c 80) _ _ b) ∙ h₁ in
    ⊎_elim (λ t. named 69 t (mean-read g x (sym (cond-true (eqb c 69) _ _ t) ∙ h₂)))
    (λ d. let h₃ : ◌≡◌ {A = Reading PlainMethod} (Err (Field place)) (Ok x) = sym (cond-false (eqb c 69) _ _ d) ∙ h₂ in let z : ◌≡◌ {A = ℕ} 0 1 = cc in absurd (omega arith))
    (cases_Bool (eqb c 69))) (cases_Bool (eqb c 80))) (cases_Bool (eqb c 82))
  where
    named : (l : ℕ) → eqb c l ≡ true → Lettered l g.left x → Lettered c g.left x
    named l t w = subst (λ c. Lettered c g.left x) (sym (eqb-true c l t)) w

method-read : (f : FieldsLeft) (x : PlainMethod × FieldsLeft) → method_in f ≡ Ok x → (f.left ≡ (letter_of x.0 ∷ []) ∷ map decimal (method_numbers x.0) ++ x.1.left) × ThirteenDigits (method_numbers x.0)
method-read f x h =
    let (y, letter, rest) = then_ok (letter_in f) (λ r. method_by f.place r.0 r.1) x h in
    let (same, w) = by-letter y.0 f.place y.1 x rest in
    (letter-read f.place f.left y letter ∙ (λ t. (same t ∷ []) ∷ w.spelled t), w.small)

pub numbers-method : (p : ℕ) (m : PlainMethod) (fs gs : List (List ℕ)) → Written (method_numbers m) fs gs → (q : ℕ) × (method_in (record { place = p; left = (letter_of m ∷ []) ∷ fs }) ≡ Ok (m, record { place = q; left = gs }))
numbers-method p (report a b) fs gs w =
    (p + 1 + 2, then-gives (λ r. Ok (report (get_or r.0 0 0) (get_or r.0 1 0), r.1)) _ (numbers-gives 2 (p + 1) fs (a ∷ b ∷ []) gs refl w))
numbers-method p (sector_mean a b) fs gs w =
    (p + 1 + 2, then-gives (λ r. Ok (sector_mean (get_or r.0 0 0) (get_or r.0 1 0), r.1)) _ (numbers-gives 2 (p + 1) fs (a ∷ b ∷ []) gs refl w))
numbers-method p (bill ts) fs gs w =
    let rest : List (List ℕ) = map decimal (term_numbers ts) ++ gs in
    let count = numbers-gives 1 (p + 1) fs (length ts ∷ []) rest refl (record { small = (w.small.0, tt); spelled = w.spelled }) in
    let (q, terms) = terms-gives (p + 1 + 1) ts rest gs (record { small = w.small.1; spelled = refl }) in
    (q, then-gives (λ r. and_then (terms_in (get_or r.0 0 0) r.1) (λ s. Ok (bill s.0, s.1))) _ count ∙ then-gives (λ s. Ok (bill s.0, s.1)) _ terms)

-- ---- the fields of the line, read to the end

pub entry-done : (fs : List (List ℕ)) (e : PlainEntry) (g : FieldsLeft) → entry_in (record { place = 1; left = fs }) ≡ Ok (e, g) → g.left ≡ [] → (fs ≡ investee_fields e) × (ThirteenDigits (head_numbers e) × ThirteenDigits (method_numbers e.method))
entry-done fs e g h none =
    let (y, reads, rest) = then_ok (numbers_in numbers_before_method (record { place = 1; left = fs })) (λ r. and_then (method_in r.1) (λ s. Ok (entry_of r.0 s.0, s.1))) (e, g) h in
    let (z, method, made) = then_ok (method_in y.1) (λ s. Ok (entry_of y.0 s.0, s.1)) (e, g) rest in
    let pair : ◌≡◌ {A = PlainEntry × FieldsLeft} (entry_of y.0 z.0, z.1) (e, g) = cc in
    let (count, w) = numbers-read numbers_before_method (record { place = 1; left = fs }) y reads in
    let (tail, small) = method-read y.1 z method in
    let here : Written (at numbers_before_method 0 y.0) fs y.1.left = subst (λ ns. Written ns fs y.1.left) (sym (at_all numbers_before_method y.0 count)) w in
    let numbers : List (List ℕ) = map decimal (method_numbers z.0) in
    let last : numbers ++ z.1.left ≡ numbers = ap (λ l. numbers ++ l) (ap (λ x. x.1.left) pair ∙ none) ∙ append-nil numbers in
    subst (λ e. (fs ≡ investee_fields e) × (ThirteenDigits (head_numbers e) × ThirteenDigits (method_numbers e.method))) (ap (λ x. x.0) pair)
    (here.spelled ∙ ap (λ l. map decimal (at numbers_before_method 0 y.0) ++ l) (tail ∙ ap (λ l. (letter_of z.0 ∷ []) ∷ l) last), (here.small, small))

pub entry-gives : (fs : List (List ℕ)) (e : PlainEntry) → fs ≡ investee_fields e → ThirteenDigits (head_numbers e) × ThirteenDigits (method_numbers e.method) → (q : ℕ) × (entry_in (record { place = 1; left = fs }) ≡ Ok (e, record { place = q; left = [] }))
entry-gives fs e is digits =
    let numbers : List (List ℕ) = map decimal (method_numbers e.method) in
    let head = numbers-gives numbers_before_method 1 fs (head_numbers e) ((letter_of e.method ∷ []) ∷ numbers) refl (record { small = digits.0; spelled = is }) in
    let (q, method) = numbers-method (1 + numbers_before_method) e.method numbers [] (record { small = digits.1; spelled = sym (append-nil numbers) }) in
    (q, then-gives (λ r. and_then (method_in r.1) (λ s. Ok (entry_of r.0 s.0, s.1))) _ head ∙ then-gives (λ s. Ok (entry_of (head_numbers e) s.0, s.1)) _ method)

-- ---- the line

pub investee-line : (line : List ℕ) (e : PlainEntry) → investee_of line ≡ Ok e → IsInvesteeLine e line
investee-line line e h =
    let (short, rest) = whole-ok entry_in line e h in
    let (g, reads, none) = rest in
    let (fields, small) = entry-done (pieces 32 line) e g reads none in
    record { line_is = sym (join-pieces 32 line) ∙ ap (join 32) fields; digits = small; short = short }

letter-free : (sep : ℕ) (m : PlainMethod) → sep < 48 → Free sep (letter_of m ∷ [])
letter-free sep (report a b) below = (λ e. omega arith, tt)
letter-free sep (bill ts) below = (λ e. omega arith, tt)
letter-free sep (sector_mean a b) below = (λ e. omega arith, tt)

fields_free : (sep : ℕ) (e : PlainEntry) → sep < 48 → ThirteenDigits (head_numbers e) × ThirteenDigits (method_numbers e.method) → AllByRecursion (Free sep) (investee_fields e)
fields_free sep e below small =
    all_append (Free sep) (map decimal (head_numbers e)) ((letter_of e.method ∷ []) ∷ map decimal (method_numbers e.method)) (decimals-free sep (head_numbers e) below small.0) (letter-free sep e.method below, decimals-free sep (method_numbers e.method) below small.1)

-- no line feed stands in it
pub investee-free : (e : PlainEntry) → ThirteenDigits (head_numbers e) × ThirteenDigits (method_numbers e.method) → Free 10 (investee_line e)
investee-free e small = join_free 10 32 (investee_fields e) (λ e. omega arith) (fields_free 10 e (omega arith) small)

pub investee-reads : (line : List ℕ) (e : PlainEntry) → IsInvesteeLine e line → investee_of line ≡ Ok e
investee-reads line e l =
    let fields : pieces 32 line ≡ investee_fields e = split (decimal e.fields.id) _ line l.line_is (fields_free 32 e (omega arith) l.digits) in
    let (q, reads) = entry-gives (pieces 32 line) e fields l.digits in
    whole-gives entry_in line e q l.short reads
