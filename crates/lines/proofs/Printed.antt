-- A line reads as its numbers just where it is what they print as.
use Rattle.std.proofs.Common.{◌≡◌, ℕ, zero, suc, ◌^◌, ◌<◌, true, false, cond, eqb, ltb, List, [], ◌∷◌, ◌++◌, map, length, get_or, Some, None, Ok, Err, decimal, Option, Result, sym, refl, ap, ◌∙◌, subst, ⊎_elim, arith}
use Rattle.std.specs.List.{AllByRecursion}
use Rattle.std.proofs.lemmas.Bool.{ne_eqb, eq-eqb, cases_eq, cases_lt, lt-ltb, le-ltb, cond-true, cond-false}
use Rattle.std.proofs.lemmas.Fmt.{digits_decimal}
use Rattle.std.proofs.lemmas.Str.Parse.{not_in_digits}
use Rattle.lines.specs.declared.fields.LineError.{LineError}
use Rattle.lines.specs.declared.fields.LineError.TheVariants.{TooLong}
use Rattle.lines.specs.Fields.{pieces, onto, numbers_of, first, at_field, fields_of, ended, line_of}
use Rattle.lines.specs.Numerals.{number_of}
use Rattle.lines.specs.Render.{join, printed, LineOfNumbers, AcceptsWhatIsPrinted}
use Rattle.lines.proofs.Numbers.{digits, spells-from-number, number-from-spells}

-- the separator stands nowhere in f
abbrev pub Free : ℕ → List ℕ → Type 0
Free sep f = AllByRecursion (λ b. b ≡ sep → ⊥) f

join-push : (sep b : ℕ) (ps : List (List ℕ)) → join sep (onto b ps) ≡ b ∷ join sep ps
join-push sep b [] = refl
join-push sep b (p ∷ []) = refl
join-push sep b (p ∷ q ∷ ps) = refl

join-open : (sep : ℕ) (bs : List ℕ) (ps : List (List ℕ)) → join sep ps ≡ bs → (length ps ≡ 0 → ⊥) → join sep ([] ∷ ps) ≡ sep ∷ bs
join-open sep bs [] is some = absurd (some refl)
join-open sep bs (p ∷ ps) is some = ap (λ l. sep ∷ l) is

onto-some : (b : ℕ) (ps : List (List ℕ)) → length (onto b ps) ≡ 0 → ⊥
onto-some b [] h = omega arith
onto-some b (p ∷ ps) h = omega arith

pub some-piece : (sep : ℕ) (bs : List ℕ) → length (pieces sep bs) ≡ 0 → ⊥
some-piece sep [] h = omega arith
some-piece sep (b ∷ bs) h =
    (elim (eqb b sep) as (λ t. length (cond t ([] ∷ pieces sep bs) (onto b (pieces sep bs))) ≡ 0 → ⊥) [ true ↦ λ z. omega arith | false ↦ λ z. onto-some b (pieces sep bs) z ]) h

pub join-pieces : (sep : ℕ) (bs : List ℕ) → join sep (pieces sep bs) ≡ bs
join-pieces sep [] = refl
join-pieces sep (b ∷ bs) =
    ⊎_elim
    (λ e. ap (λ t. join sep (cond t ([] ∷ pieces sep bs) (onto b (pieces sep bs)))) (eq-eqb b sep e) ∙ join-open sep bs (pieces sep bs) (join-pieces sep bs) (some-piece sep bs) ∙ ap (λ x. x ∷ bs) (sym e))
    (λ ne. ap (λ t. join sep (cond t ([] ∷ pieces sep bs) (onto b (pieces sep bs)))) (ne_eqb b sep ne) ∙ join-push sep b (pieces sep bs) ∙ ap (λ l. b ∷ l) (join-pieces sep bs))
    (cases_eq b sep)

pub pieces-free : (sep : ℕ) (f : List ℕ) → Free sep f → pieces sep f ≡ f ∷ []
pieces-free sep [] free = refl
pieces-free sep (b ∷ f) free =
    ap (λ t. cond t ([] ∷ pieces sep f) (onto b (pieces sep f))) (ne_eqb b sep free.0) ∙ ap (onto b) (pieces-free sep f free.1)

pub pieces_then : (sep : ℕ) (f rest : List ℕ) → Free sep f → pieces sep (f ++ (sep ∷ rest)) ≡ f ∷ pieces sep rest
pieces_then sep [] rest free = ap (λ t. cond t ([] ∷ pieces sep rest) (onto sep (pieces sep rest))) (eq-eqb sep sep refl)
pieces_then sep (b ∷ f) rest free =
    ap (λ t. cond t ([] ∷ pieces sep (f ++ (sep ∷ rest))) (onto b (pieces sep (f ++ (sep ∷ rest))))) (ne_eqb b sep free.0) ∙ ap (onto b) (pieces_then sep f rest free.1)

pub pieces-join : (sep : ℕ) (f : List ℕ) (fs : List (List ℕ)) → AllByRecursion (Free sep) (f ∷ fs) → pieces sep (join sep (f ∷ fs)) ≡ f ∷ fs
pieces-join sep f [] free = pieces-free sep f free.0
pieces-join sep f (g ∷ fs) free = pieces_then sep f (join sep (g ∷ fs)) free.0 ∙ ap (λ l. f ∷ l) (pieces-join sep g fs free.1)

free-by-index : (sep : ℕ) (f : List ℕ) → ((i : ℕ) → i < length f → get_or f i 0 ≡ sep → ⊥) → Free sep f
free-by-index sep [] h = tt
free-by-index sep (b ∷ f) h = (λ e. h 0 (omega arith) e, free-by-index sep f (λ i lt e. h (suc i) (omega arith) e))

-- a byte below the digits
pub decimal-free : (sep n : ℕ) → sep < 48 → n < 2 ^ 64 → Free sep (decimal n)
decimal-free sep n below fits =
    free-by-index sep (decimal n) (not_in_digits digits (decimal n) sep (digits_decimal digits n fits) (λ h. omega arith))

pub decimals-free : (sep : ℕ) (ns : List ℕ) → sep < 48 → AllByRecursion (λ n. n < 10 ^ 13) ns → AllByRecursion (Free sep) (map decimal ns)
decimals-free sep [] below small = tt
decimals-free sep (n ∷ ns) below small = (decimal-free sep n below (omega (arith, small.0)), decimals-free sep ns below small.1)

-- the numbers of fields, both ways
pub read-printed : (p : ℕ) (ns : List ℕ) → AllByRecursion (λ n. n < 10 ^ 13) ns → numbers_of (length ns) p (map decimal ns) ≡ Ok (ns, [])
read-printed p [] small = refl
read-printed p (n ∷ ns) small =
    ap (λ o. first p o (numbers_of (length ns) (suc p) (map decimal ns))) (number-from-spells (decimal n) n (refl, small.0)) ∙ ap (first p (Some n)) (read-printed (suc p) ns small.1)

pub record Fields (k : ℕ) (ns : List ℕ) (fs : List (List ℕ)) : Type 0 where
  pub count : length ns ≡ k
  pub small : AllByRecursion (λ n. n < 10 ^ 13) ns
  pub spelled : fs ≡ map decimal ns

pub fields_read : (k p : ℕ) (fs : List (List ℕ)) (ns : List ℕ) → numbers_of k p fs ≡ Ok (ns, []) → Fields k ns fs
fields_read zero p fs ns h =
    let pair : ◌≡◌ {A = List ℕ × List (List ℕ)} ([], fs) (ns, []) = cc in
    let none : ns ≡ [] = sym (ap (λ x. x.0) pair) in
    subst (λ l. Fields 0 l fs) (sym none) (record { count = refl; small = tt; spelled = ap (λ x. x.1) pair })
fields_read (suc k) p [] ns h = let z : ◌≡◌ {A = ℕ} 0 1 = cc in absurd (omega arith)
fields_read (suc k) p (f ∷ fs) ns h = go (λ ms q. fields_read k (suc p) fs ms q) (number_of f) refl (numbers_of k (suc p) fs) refl h
  where
    go : ((ms : List ℕ) → numbers_of k (suc p) fs ≡ Ok (ms, []) → Fields k ms fs) → (o : Option ℕ) → number_of f ≡ o → (r : Result (List ℕ × List (List ℕ)) ℕ) → numbers_of k (suc p) fs ≡ r → first p o r ≡ Ok (ns, []) → Fields (suc k) ns (f ∷ fs)
    go deep None e r q h = let z : ◌≡◌ {A = ℕ} 0 1 = cc in absurd (omega arith)
    go deep (Some n) e (Err d) q h = let z : ◌≡◌ {A = ℕ} 0 1 = cc in absurd (omega arith)
    go deep (Some n) e (Ok (ms, gs)) q h =
        let pair : ◌≡◌ {A = List ℕ × List (List ℕ)} (n ∷ ms, gs) (ns, []) = cc in
        let rest : gs ≡ [] = ap (λ x. x.1) pair in
        let same : ns ≡ n ∷ ms = sym (ap (λ x. x.0) pair) in
        let tail = deep ms (q ∙ ap (λ l. Ok (ms, l)) rest) in
        let word = spells-from-number f n e in
        subst (λ l. Fields (suc k) l (f ∷ fs)) (sym same) (record { count = ap suc tail.count; small = (word.1, tail.small); spelled = λ t. word.0 t ∷ tail.spelled t })

ended-ok : (k : ℕ) (fs : List (List ℕ)) (ns : List ℕ) → ended (fields_of k fs) ≡ Ok ns → numbers_of k 0 fs ≡ Ok (ns, [])
ended-ok k fs ns h = by (numbers_of k 0 fs) h
  where
    by : (r : Result (List ℕ × List (List ℕ)) ℕ) → ended (at_field r) ≡ Ok ns → r ≡ Ok (ns, [])
    by (Err q) h = let z : ◌≡◌ {A = ℕ} 0 1 = cc in absurd (omega arith)
    by (Ok (ms, [])) h = let same : ms ≡ ns = cc in ap (λ l. Ok (l, [])) same
    by (Ok (ms, f ∷ gs)) h = let z : ◌≡◌ {A = ℕ} 0 1 = cc in absurd (omega arith)

pub line_read : (k : ℕ) (bs ns : List ℕ) → line_of k bs ≡ Ok ns → LineOfNumbers k ns bs
line_read k bs ns h =
    ⊎_elim
    (λ over. let z : ◌≡◌ {A = Result (List ℕ) LineError} (Err TooLong) (Ok ns) = sym (cond-true (ltb 511 (length bs)) _ _ (lt-ltb 511 (length bs) over)) ∙ h in let o : ◌≡◌ {A = ℕ} 0 1 = cc in absurd (omega arith))
    (λ fits.
    let e = sym (cond-false (ltb 511 (length bs)) _ _ (le-ltb 511 (length bs) fits)) ∙ h in
    let w = fields_read k 0 (pieces 32 bs) ns (ended-ok k (pieces 32 bs) ns e) in
    record { count = w.count; digits = w.small; bytes_are = sym (join-pieces 32 bs) ∙ ap (join 32) w.spelled; short = fits })
    (cases_lt 511 (length bs))

split-printed : (ns : List ℕ) → 0 < length ns → AllByRecursion (λ n. n < 10 ^ 13) ns → pieces 32 (printed ns) ≡ map decimal ns
split-printed [] some small = absurd (omega arith)
split-printed (n ∷ ns) some small = pieces-join 32 (decimal n) (map decimal ns) (decimals-free 32 (n ∷ ns) (omega arith) small)

pub line-printed : (k : ℕ) (bs ns : List ℕ) → 0 < k → LineOfNumbers k ns bs → line_of k bs ≡ Ok ns
line-printed k bs ns some line =
    let split : pieces 32 bs ≡ map decimal ns = ap (pieces 32) line.bytes_are ∙ split-printed ns (omega (arith, line.count)) line.digits in
    cond-false (ltb 511 (length bs)) _ _ (le-ltb 511 (length bs) line.short)
    ∙ ap (λ r. ended (at_field r)) ((λ t. numbers_of (sym line.count t) 0 (split t)) ∙ read-printed 0 ns line.digits)

pub accepts : (k : ℕ) (bs : List ℕ) (r : Result (List ℕ) LineError) → 0 < k → r ≡ line_of k bs → AcceptsWhatIsPrinted k bs r
accepts k bs r some is ns = (λ h. line_read k bs ns (sym is ∙ h), λ line. is ∙ line-printed k bs ns some line)
