-- Texts written one after another.
use Rattle.std.proofs.Common.{◌≡◌, ℕ, ◌+◌, ◌≤◌, List, [], ◌++◌, length, take, drop, Some, None, Option, sym, refl, ap, ◌∙◌, subst, append_assoc, add-zero, add_assoc, arith}
use Rattle.std.proofs.lemmas.List.{drop-drop, take_at, drop_at, take-append-drop, length-append, length-take-le, length-drop}
use Rattle.lines.specs.declared.writing.Writer.{Writer}
use Rattle.lines.specs.Writing.{over, Wrote}

over_nothing : (b : List ℕ) (at : ℕ) → over b at [] ≡ b
over_nothing b at = rw (add-zero at) (take-append-drop at b)

over-over : (b : List ℕ) (at : ℕ) (x y : List ℕ) → at + length x ≤ length b → over (over b at x) (at + length x) y ≡ over b at (x ++ y)
over-over b at x y room =
    let q : List ℕ = take at b ++ x in
    let d : List ℕ = drop (at + length x) b in
    let long : length q ≡ at + length x = length-append (take at b) x ∙ ap (λ n. n + length x) (length-take-le at b (omega arith)) in
    let whole : over b at x ≡ q ++ d = sym (append_assoc (take at b) x d) in
    let front : take (at + length x) (over b at x) ≡ q = ap (take (at + length x)) whole ∙ take_at q d (at + length x) long in
    let back : drop (at + length x + length y) (over b at x) ≡ drop (at + length (x ++ y)) b =
    sym (drop-drop (length y) (at + length x) (over b at x)) ∙ ap (drop (length y)) (ap (drop (at + length x)) whole ∙ drop_at q d (at + length x) long)
    ∙ drop-drop (length y) (at + length x) b ∙ ap (λ n. drop n b) (add_assoc at (length x) (length y) ∙ ap (λ n. at + n) (sym (length-append x y))) in
    (λ t. front t ++ (y ++ back t)) ∙ append_assoc (take at b) x _ ∙ ap (λ l. take at b ++ l) (sym (append_assoc x y _))

length_over : (b : List ℕ) (at : ℕ) (text : List ℕ) → at + length text ≤ length b → length (over b at text) ≡ length b
length_over b at text room =
    let front = length-take-le at b (omega arith) in
    let back = length-drop (at + length text) b in
    length-append (take at b) _ ∙ ap (λ n. length (take at b) + n) (length-append text _) ∙ omega arith

-- nothing is written
pub wrote_nothing : (w : Writer) → w.at ≤ length w.buffer.now → Wrote w [] w (Some tt)
wrote_nothing w within = record { told = (sym (add-zero w.at), within, sym (over_nothing w.buffer.now w.at)); same_buffer = refl }

-- one text does not fit, and so the whole does not
pub wrote_stop : {w now : Writer} (a rest : List ℕ) → Wrote w a now None → Wrote w (a ++ rest) now None
wrote_stop a rest wrote = record { told = omega (arith, wrote.told, length-append a rest); same_buffer = wrote.same_buffer }

-- one text, and then the rest
pub wrote_then : {w mid now : Writer} {u : Unit {0}} {r : Option (Unit {0})} (a rest : List ℕ) → Wrote w a mid (Some u) → Wrote mid rest now r → Wrote w (a ++ rest) now r
wrote_then {w} {mid} {now} {u} {r} a rest one wrote = by r wrote
  where
    by : (r : Option (Unit {0})) → Wrote mid rest now r → Wrote w (a ++ rest) now r
    by None wrote =
        let long = ap length one.told.2 ∙ length_over w.buffer.now w.at a (omega (arith, one.told.0, one.told.1)) in
        record { told = omega (arith, wrote.told, one.told.0, long, length-append a rest); same_buffer = wrote.same_buffer ∙ one.same_buffer }
    by (Some v) wrote =
        let room : w.at + length a ≤ length w.buffer.now = omega (arith, one.told.0, one.told.1) in
        let long = ap length one.told.2 ∙ length_over w.buffer.now w.at a room in
        record {
          told = (
            omega (arith, wrote.told.0, one.told.0, length-append a rest),
            omega (arith, wrote.told.1, long),
            wrote.told.2 ∙ (λ t. over (one.told.2 t) (one.told.0 t) rest) ∙ over-over w.buffer.now w.at a rest room,
          );
          same_buffer = wrote.same_buffer ∙ one.same_buffer;
        }

-- What is left to write: the rest, from here on, makes the whole text.
pub record Left (start : Writer) (text : List ℕ) (here : Writer) (rest : List ℕ) : Type 0 where
  pub completes : (now : Writer) (r : Option (Unit {0})) → Wrote here rest now r → Wrote start text now r

pub left-all : (w : Writer) (text : List ℕ) → Left w text w text
left-all w text = record { completes = λ now r wrote. wrote }

pub left-more : {start here next : Writer} {text : List ℕ} {u : Unit {0}} (a rest : List ℕ) → Left start text here (a ++ rest) → Wrote here a next (Some u) → Left start text next rest
left-more a rest left wrote = record { completes = λ now r last. left.completes now r (wrote_then a rest wrote last) }

-- it does not fit, and `?` answers so
pub left-stop : {start here now : Writer} {text : List ℕ} {r : Option (Unit {0})} (a rest : List ℕ) → Left start text here (a ++ rest) → r ≡ None → Wrote here a now None → Wrote start text now r
left-stop {start} {here} {now} {text} a rest left is wrote = subst (Wrote start text now) (sym is) (left.completes now None (wrote_stop a rest wrote))

-- the place is in the buffer
pub wrote_within : {was now : Writer} {u : Unit {0}} (text : List ℕ) → Wrote was text now (Some u) → now.at ≤ length now.buffer.now
wrote_within {was} text wrote =
    let w = wrote.told in
    omega (arith, w.1, ap length w.2, length_over was.buffer.now was.at text (omega (arith, w.0, w.1)))

-- nothing is left
pub left-none : {start here : Writer} {text : List ℕ} → Left start text here [] → here.at ≤ length here.buffer.now → Wrote start text here (Some tt)
left-none {here = here} left within = left.completes here (Some tt) (wrote_nothing here within)
