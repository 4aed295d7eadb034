-- A line of numbers, one number after another.
use Rattle.std.proofs.Common.{◌≡◌, ℕ, ◌+◌, ◌-◌, ◌<◌, ◌≤◌, List, [], ◌∷◌, ◌++◌, length, get_or, take, drop, Some, None, OnSome, decimal, sum_by, Option, sym, refl, ap, ◌∙◌, subst, append_assoc, arith}
use Rattle.std.specs.List.{between}
use Rattle.std.proofs.lemmas.List.{at_drop_more, at_drop_all, length-append, length_push, nil_from_length, take_at, drop_at, length-take-le}
use Rattle.std.proofs.lemmas.List.Sums.{sum_by-cons}
use Rattle.lines.specs.Render.{printed, number_line, FitOneLine, ReadsBack}
use Rattle.lines.specs.declared.writing.Writer.{Writer}
use Rattle.lines.specs.Writing.{Wrote}
use Rattle.lines.proofs.Printed.{line-printed}
use Rattle.lines.proofs.Writes.{Left, left-all, left-more}

-- what follows the first number
abbrev pub after_first : List ℕ → List ℕ
after_first [] = 10 ∷ []
after_first (n ∷ ns) = 32 ∷ (decimal n ++ after_first ns)

pub line_first : (n : ℕ) (ns : List ℕ) → number_line (n ∷ ns) ≡ decimal n ++ after_first ns
line_first n [] = refl
line_first n (m ∷ ns) = append_assoc (decimal n) (32 ∷ printed (m ∷ ns)) (10 ∷ []) ∙ ap (λ l. decimal n ++ 32 ∷ l) (line_first m ns)

-- its first number is written
pub left-first : {w next : Writer} {u : Unit {0}} (all : List ℕ) (n : ℕ) (ns : List ℕ) → all ≡ n ∷ ns → Wrote w (decimal n) next (Some u) → Left w (number_line all) next (after_first ns)
left-first {w} {next} {u} all n ns is wrote =
    left-more (decimal n) (after_first ns) (subst (λ text. Left w (number_line all) w text) (ap number_line is ∙ line_first n ns) (left-all w (number_line all))) wrote

-- the next one stands behind a space
pub left_next : {w here : Writer} (all ns : List ℕ) (i : ℕ) → i < length ns → Left w (number_line all) here (after_first (drop i ns))
    → Left w (number_line all) here ((32 ∷ []) ++ (decimal (get_or ns i 0) ++ after_first (drop (i + 1) ns)))
left_next {w} {here} all ns i lt left = subst (Left w (number_line all) here) (at_drop_more after_first ns i 0 lt) left

-- and a line feed behind the last
pub left_end : {w here : Writer} (all ns : List ℕ) (i : ℕ) → length ns ≤ i → Left w (number_line all) here (after_first (drop i ns)) → Left w (number_line all) here (10 ∷ [])
left_end {w} {here} all ns i le left = subst (Left w (number_line all) here) (at_drop_all after_first ns i le) left

-- ---- how long it is

-- the digits of each number, with the byte after it
abbrev pub bytes_of : List ℕ → ℕ
bytes_of ns = sum_by (λ n. length (decimal n) + 1) ns

length-after : (n : ℕ) (ns : List ℕ) → length (decimal n ++ after_first ns) ≡ bytes_of (n ∷ ns)
length-after n [] = length_push (decimal n) 10 ∙ sym (sum_by-cons (λ n. length (decimal n) + 1) n [] ∙ omega arith)
length-after n (m ∷ ns) =
    omega (arith, length-append (decimal n) (32 ∷ (decimal m ++ after_first ns)), length-after m ns, sum_by-cons (λ n. length (decimal n) + 1) n (m ∷ ns))

pub length-line : (ns : List ℕ) → 0 < length ns → length (number_line ns) ≡ bytes_of ns
length-line [] some = absurd (omega arith)
length-line (n ∷ ns) some = ap length (line_first n ns) ∙ length-after n ns

-- at least the line feed
pub length-no-line : (ns : List ℕ) → length ns ≡ 0 → length (number_line ns) ≡ 1
length-no-line ns none = ap (λ l. length (number_line l)) (nil_from_length ns none)

-- ---- it is read back

pub reads_back : (ns : List ℕ) {was now : Writer} (r : Option (Unit {0})) → FitOneLine ns → Wrote was (number_line ns) now r → OnSome r (ReadsBack ns now.buffer.now was.at now.at)
reads_back ns None fit wrote = tt
reads_back ns {was} {now} (Some u) fit wrote =
    let w = wrote.told in
    let buffer = was.buffer.now in
    let from = was.at in
    let long : length (number_line ns) ≡ length (printed ns) + 1 = length_push (printed ns) 10 in
    let count : now.at - 1 - from ≡ length (printed ns) = omega (arith, w.0) in
    let front : length (take from buffer) ≡ from = length-take-le from buffer (omega (arith, w.0, w.1)) in
    let rest : List ℕ = drop (from + length (number_line ns)) buffer in
    let whole : drop from now.buffer.now ≡ printed ns ++ (10 ∷ rest) =
    ap (drop from) w.2 ∙ drop_at (take from buffer) (number_line ns ++ rest) from front ∙ append_assoc (printed ns) (10 ∷ []) rest in
    let bytes : between from (now.at - 1) now.buffer.now ≡ printed ns = (λ t. take (count t) (whole t)) ∙ take_at (printed ns) (10 ∷ rest) (length (printed ns)) refl in
    line-printed (length ns) (between from (now.at - 1) now.buffer.now) ns fit.some_number
    (record { count = refl; digits = fit.digits; bytes_are = bytes; short = omega (arith, fit.short, ap length bytes) })
