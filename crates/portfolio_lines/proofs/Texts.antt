-- The lines that are read are the lines that are written.
use Rattle.std.proofs.Common.{◌≡◌, ℕ, zero, suc, ◌+◌, ◌<◌, ◌≤◌, ltb, List, [], ◌∷◌, ◌++◌, map, length, get_or, Ok, Err, decimal, Result, sym, refl, ap, ◌∙◌, subst, ⊎_elim, append-nil, arith}
use Rattle.std.specs.List.{AllByRecursion}
use Rattle.std.proofs.lemmas.Bool.{cases_lt, lt-ltb, le-ltb, cond-true, cond-false}
use Rattle.lines.specs.Fields.{pieces}
use Rattle.lines.specs.Render.{join, printed, LineOfNumbers}
use Rattle.lines.proofs.Printed.{Free, decimals-free, join-pieces, pieces-join}
use Rattle.portfolio_lines.specs.Counted.{FieldsLeft, Reading, and_then, fields_of, numbers_in, none_at, none_left}
use Rattle.portfolio_lines.specs.Lines.{whole_line, number_line, key_from, key_of, balance_of}
use Rattle.portfolio_lines.specs.Numbers.{number_at, numbers_of_key, numbers_of_balance, balance_place}
use Rattle.portfolio_lines.specs.Text.{ThirteenDigits, key_numbers, ReadsKeys, ReadsBalances}
use Rattle.portfolio_lines.specs.declared.misread.Misread.{Misread}
use Rattle.portfolio_lines.specs.declared.misread.Misread.TheVariants.{TooLong}
use Rattle.portfolio_lines.specs.declared.posts.Key.{Key}
use Rattle.portfolio_lines.proofs.Spelled.{Written, numbers-read, numbers-gives, join_free}

-- ---- one reading after another

pub then_ok : {X Y : Type 0} (r : Result X Misread) (f : X → Result Y Misread) (y : Y) → and_then r f ≡ Ok y → (x : X) × (r ≡ Ok x) × (f x ≡ Ok y)
then_ok (Ok x) f y h = (x, refl, h)
then_ok (Err p) f y h = let z : ◌≡◌ {A = ℕ} 0 1 = cc in absurd (omega arith)

pub then-gives : {X Y : Type 0} {r : Result X Misread} (f : X → Result Y Misread) (x : X) → r ≡ Ok x → and_then r f ≡ f x
then-gives f x is = ap (λ r. and_then r f) is

none-ok : {X : Type 0} (x y : X) (p : ℕ) (fs : List (List ℕ)) → none_at x p fs ≡ Ok y → (x ≡ y) × (fs ≡ [])
none-ok x y p [] h = let same : x ≡ y = cc in (same, refl)
none-ok x y p (f ∷ fs) h = let z : ◌≡◌ {A = ℕ} 0 1 = cc in absurd (omega arith)

-- a line is read where it is short and its fields are read to the end
pub whole-ok : {X : Type 0} (read : FieldsLeft → Reading X) (line : List ℕ) (x : X) → whole_line read line ≡ Ok x → (length line ≤ 511) × ((g : FieldsLeft) × (read (fields_of line) ≡ Ok (x, g)) × (g.left ≡ []))
whole-ok {X} read line x h =
    ⊎_elim
    (λ over. let z : ◌≡◌ {A = Result X Misread} (Err TooLong) (Ok x) = sym (cond-true (ltb 511 (length line)) _ _ (lt-ltb 511 (length line) over)) ∙ h in let o : ◌≡◌ {A = ℕ} 0 1 = cc in absurd (omega arith))
    (λ fits.
    let (y, reads, ends) = then_ok (read (fields_of line)) (λ r. none_left r.0 r.1) x (sym (cond-false (ltb 511 (length line)) _ _ (le-ltb 511 (length line) fits)) ∙ h) in
    let (same, none) = none-ok y.0 x y.1.place y.1.left ends in
    (fits, (y.1, reads ∙ ap (λ v. Ok (v, y.1)) same, none)))
    (cases_lt 511 (length line))

pub whole-gives : {X : Type 0} (read : FieldsLeft → Reading X) (line : List ℕ) (x : X) (q : ℕ) → length line ≤ 511 → read (fields_of line) ≡ Ok (x, record { place = q; left = [] }) → whole_line read line ≡ Ok x
whole-gives read line x q short reads =
    cond-false (ltb 511 (length line)) _ _ (le-ltb 511 (length line) short) ∙ then-gives (λ r. none_left r.0 r.1) _ reads

-- ---- numbers

pub written-done : (ns : List ℕ) (fs gs : List (List ℕ)) → Written ns fs gs → gs ≡ [] → fs ≡ map decimal ns
written-done ns fs gs w none = w.spelled ∙ ap (λ l. map decimal ns ++ l) none ∙ append-nil (map decimal ns)

-- the fields of a line that is written
pub split : (f : List ℕ) (fs : List (List ℕ)) (line : List ℕ) → line ≡ join 32 (f ∷ fs) → AllByRecursion (Free 32) (f ∷ fs) → pieces 32 line ≡ f ∷ fs
split f fs line is free = ap (pieces 32) is ∙ pieces-join 32 f fs free

pub row_line : (k : ℕ) (line ns : List ℕ) → number_line k line ≡ Ok ns → LineOfNumbers k ns line
row_line k line ns h =
    let (short, rest) = whole-ok (numbers_in k) line ns h in
    let (g, reads, none) = rest in
    let (count, w) = numbers-read k (fields_of line) (ns, g) reads in
    record { count = count; digits = w.small; bytes_are = sym (join-pieces 32 line) ∙ ap (join 32) (written-done ns (pieces 32 line) g.left w none); short = short }

split-numbers : (ns line : List ℕ) → 0 < length ns → line ≡ printed ns → ThirteenDigits ns → pieces 32 line ≡ map decimal ns
split-numbers [] line some is small = absurd (omega arith)
split-numbers (n ∷ ns) line some is small = split (decimal n) (map decimal ns) line is (decimals-free 32 (n ∷ ns) (omega arith) small)

pub row_reads : (k : ℕ) (line ns : List ℕ) → 0 < k → LineOfNumbers k ns line → number_line k line ≡ Ok ns
row_reads k line ns some l =
    let fields : pieces 32 line ≡ map decimal ns ++ [] = split-numbers ns line (omega (arith, l.count)) l.bytes_are l.digits ∙ sym (append-nil (map decimal ns)) in
    whole-gives (numbers_in k) line ns (1 + k) l.short (numbers-gives k 1 (pieces 32 line) ns [] l.count (record { small = l.digits; spelled = fields }))

-- ---- numbers by their places

abbrev pub at : ℕ → ℕ → List ℕ → List ℕ
at zero i ns = []
at (suc n) i ns = get_or ns i 0 ∷ at n (suc i) ns

at-cons : (n i x : ℕ) (xs : List ℕ) → at n (suc i) (x ∷ xs) ≡ at n i xs
at-cons zero i x xs = refl
at-cons (suc n) i x xs = ap (λ l. get_or xs i 0 ∷ l) (at-cons n (suc i) x xs)

pub at_all : (n : ℕ) (ns : List ℕ) → length ns ≡ n → at n 0 ns ≡ ns
at_all zero [] h = refl
at_all zero (x ∷ xs) h = absurd (omega arith)
at_all (suc n) [] h = absurd (omega arith)
at_all (suc n) (x ∷ xs) h = ap (λ l. x ∷ l) (at-cons n 0 x xs ∙ at_all n xs (omega arith))

-- ---- a post

pub key-line : (line : List ℕ) (key : Key) → key_of line ≡ Ok key → LineOfNumbers numbers_of_key (key_numbers key) line
key-line line key h =
    let (ns, reads, made) = then_ok (number_line numbers_of_key line) (λ ns. Ok (key_from ns)) key h in
    let l = row_line numbers_of_key line ns reads in
    let same : key_from ns ≡ key = cc in
    subst (λ ms. LineOfNumbers numbers_of_key ms line) (sym (at_all numbers_of_key ns l.count) ∙ ap key_numbers same) l

pub key_reads : (line : List ℕ) (key : Key) → LineOfNumbers numbers_of_key (key_numbers key) line → key_of line ≡ Ok key
key_reads line key l = then-gives (λ ns. Ok (key_from ns)) (key_numbers key) (row_reads numbers_of_key line (key_numbers key) (omega arith) l)

pub balance-line : (line : List ℕ) (balance : ℕ) → balance_of line ≡ Ok balance → LineOfNumbers numbers_of_balance (balance ∷ []) line
balance-line line balance h =
    let (ns, reads, made) = then_ok (number_line numbers_of_balance line) (λ ns. Ok (number_at balance_place ns)) balance h in
    let l = row_line numbers_of_balance line ns reads in
    let same : number_at balance_place ns ≡ balance = cc in
    subst (λ ms. LineOfNumbers numbers_of_balance ms line) (sym (at_all numbers_of_balance ns l.count) ∙ ap (λ b. b ∷ []) same) l

pub balance-reads : (line : List ℕ) (balance : ℕ) → LineOfNumbers numbers_of_balance (balance ∷ []) line → balance_of line ≡ Ok balance
balance-reads line balance l = then-gives (λ ns. Ok (number_at balance_place ns)) (balance ∷ []) (row_reads numbers_of_balance line (balance ∷ []) (omega arith) l)

pub reads_keys : (line : List ℕ) (r : Result Key Misread) → r ≡ key_of line → ReadsKeys line r
reads_keys line r is key = (λ h. key-line line key (sym is ∙ h), λ l. is ∙ key_reads line key l)

pub reads_balances : (line : List ℕ) (r : Result ℕ Misread) → r ≡ balance_of line → ReadsBalances line r
reads_balances line r is balance = (λ h. balance-line line balance (sym is ∙ h), λ l. is ∙ balance-reads line balance l)

pub row-free : (ns : List ℕ) → ThirteenDigits ns → Free 10 (printed ns)
row-free ns small = join_free 10 32 (map decimal ns) (λ e. omega arith) (decimals-free 10 ns (omega arith) small)
