-- Fields that spell a number.
use Rattle.std.proofs.Common.{◌≡◌, ℕ, ◌+◌, ◌-◌, ◌*◌, ◌^◌, ◌<◌, ◌≤◌, true, List, length, get_or, take, Some, None, Option, decimal, sym, ap, ◌∙◌, ⊎_elim, arith}
use Rattle.std.specs.Str.Parse.{digits_value}
use Rattle.std.specs.Int.{IsInRange}
use Rattle.std.specs.Str.{all_ascii_digits}
use Rattle.std.proofs.lemmas.Bool.Decides.{nat_tests}
use Rattle.std.proofs.lemmas.Bool.{cases_Bool, cases_lt, cond-true, cond-false}
use Rattle.std.proofs.lemmas.Str.Parse.{IsNumeralModel, numerals_by_value, tells_all_ascii_digits, digits_value_short, digit_at}
use Rattle.std.proofs.lemmas.Fmt.{decimal-digits_value, digits_decimal, digits_value-decimal, length-decimal-le, decimal_nonempty, first_decimal}
use Rattle.std.proofs.lemmas.Str.{digit_value_digit}
use Rattle.std.proofs.lemmas.Int.Digits.{digits_more, digits_value_more}
use Rattle.std.proofs.lemmas.List.{length-take-le}
use Rattle.lines.specs.Numerals.{well_formed, value_of, number_of, Spells, ReadsWhatIsSpelled}

pub digits : IsNumeralModel (λ ds. all_ascii_digits ds ≡ true) (digits_value 10)
digits = numerals_by_value _ tells_all_ascii_digits

-- a byte that is no digit
pub stops : (f : List ℕ) (i : ℕ) → i < length f → (IsInRange 48 57 (get_or f i 0) → ⊥) → None ≡ value_of f
stops f i lt bad =
    ⊎_elim
    (λ all. absurd (bad (digit_at f i (digits.to f all) lt)))
    (λ h. sym (cond-false (all_ascii_digits f) _ _ h))
    (cases_Bool (all_ascii_digits f))

-- one digit more
pub step : (f : List ℕ) (i n : ℕ) → i < length f → length f ≤ 13 → all_ascii_digits (take i f) ≡ true → n ≡ digits_value 10 (take i f) → IsInRange 48 57 (get_or f i 0) → (all_ascii_digits (take (i + 1) f) ≡ true) × (n * 10 + (get_or f i 0 - 48) ≡ digits_value 10 (take (i + 1) f))
step f i n lt small all is digit =
    let d = digit_value_digit (get_or f i 0) digit in
    (digits.from _ (digits_more 10 f i lt (digits.to _ all) (omega arith)), omega (arith, digits_value_more 10 f i lt))

-- what is read so far leaves room for one digit
pub room : (f : List ℕ) (i n : ℕ) → i < length f → length f ≤ 13 → all_ascii_digits (take i f) ≡ true → n ≡ digits_value 10 (take i f) → n < 10 ^ 12
room f i n lt small all is =
    let long : length (take i f) ≡ i = length-take-le i f (omega arith) in
    omega (arith, digits_value_short digits (take i f) 12 all (omega arith))

number-true : (f : List ℕ) → well_formed f ≡ true → all_ascii_digits f ≡ true → number_of f ≡ Some (digits_value 10 f)
number-true f w d = cond-true (well_formed f) _ _ w ∙ cond-true (all_ascii_digits f) _ _ d

well-formed : (f : List ℕ) → 0 < length f → length f ≤ 13 → (get_or f 0 0 ≡ 48 → length f ≡ 1) → well_formed f ≡ true
well-formed f a b c = grind (arith, nat_tests)

formed-parts : (f : List ℕ) → well_formed f ≡ true → (0 < length f) × (length f ≤ 13) × (get_or f 0 0 ≡ 48 → length f ≡ 1)
formed-parts f h = grind (arith, nat_tests)

-- a field spells n just where it reads as n
pub spells-from-number : (f : List ℕ) (n : ℕ) → number_of f ≡ Some n → Spells f n
spells-from-number f n h = ⊎_elim (λ w. ⊎_elim (both w) (λ d. nothing (cond-true (well_formed f) _ _ w ∙ cond-false (all_ascii_digits f) _ _ d)) (cases_Bool (all_ascii_digits f))) (λ u. nothing (cond-false (well_formed f) _ _ u)) (cases_Bool (well_formed f))
  where
    nothing : number_of f ≡ None → Spells f n
    nothing e = let z : ◌≡◌ {A = ℕ} 0 1 = cc in absurd (omega arith)

    both : well_formed f ≡ true → all_ascii_digits f ≡ true → Spells f n
    both w d =
        let e : Some (digits_value 10 f) ≡ Some n = sym (number-true f w d) ∙ h in
        let same : digits_value 10 f ≡ n = cc in
        let p = formed-parts f w in
        let low = digits_value_short digits f 13 d p.1 in
        let written : decimal (digits_value 10 f) ≡ f = decimal-digits_value digits f d p.0 p.2 (omega arith) in
        (sym written ∙ ap decimal same, omega arith)

plain-decimal : (n : ℕ) → n < 2 ^ 64 → get_or (decimal n) 0 0 ≡ 48 → length (decimal n) ≡ 1
plain-decimal n fits zero =
    ⊎_elim
    (λ e. omega (arith, length-decimal-le 1 n (omega arith) (omega arith) fits, decimal_nonempty n fits))
    (λ p. absurd (omega (arith, first_decimal n (omega arith) fits)))
    (cases_lt n 1)

pub number-from-spells : (f : List ℕ) (n : ℕ) → Spells f n → number_of f ≡ Some n
number-from-spells f n h =
    let lt : n < 2 ^ 64 = omega (arith, h.1) in
    let w = well-formed (decimal n) (decimal_nonempty n lt) (length-decimal-le 13 n (omega arith) h.1 lt) (plain-decimal n lt) in
    ap number_of h.0 ∙ number-true (decimal n) w (digits_decimal digits n lt) ∙ ap Some (digits_value-decimal digits n lt)

pub reads_what_is_spelled : (f : List ℕ) (r : Option ℕ) → r ≡ number_of f → ReadsWhatIsSpelled f r
reads_what_is_spelled f r is n = (λ e. spells-from-number f n (sym is ∙ e), λ h. is ∙ number-from-spells f n h)
