-- The line of an investee as a program holds it.
use Rattle.std.proofs.Common.{◌≡◌, ℕ, ◌≤◌, ltb, List, [], ◌∷◌, length, Ok, Err, Result, sym, refl, ap, ◌∙◌, arith}
use Rattle.std.proofs.lemmas.Bool.{le-ltb, cond-false}
use Rattle.entries.specs.Entries.{PlainMethod, PlainEntry, held_entry}
use Rattle.entries.specs.declared.investee.InvesteeEntry.{InvesteeEntry}
use Rattle.portfolio_lines.specs.declared.misread.Misread.{Misread}
use Rattle.portfolio_lines.specs.declared.misread.Misread.TheVariants.{Field}
use Rattle.portfolio_lines.specs.Counted.{FieldsLeft, Reading, and_then, fields_of, numbers_in, none_left, none_at}
use Rattle.portfolio_lines.specs.Lines.{entry_of, entry_in, investee_of, held_in, held_line}
use Rattle.portfolio_lines.specs.Methods.{method_in, held}
use Rattle.portfolio_lines.specs.Numbers.{numbers_before_method}

method-wrong : (ns : List ℕ) (p : Misread) (x : Reading PlainMethod) → held x ≡ Err p → held_in (and_then x (λ s. Ok (entry_of ns s.0, s.1))) ≡ Err p
method-wrong ns p (Ok r) h = let z : ◌≡◌ {A = ℕ} 0 1 = cc in absurd (omega arith)
method-wrong ns p (Err q) h = let same : q ≡ p = cc in ap Err same

entry-stops : (k : ℕ) (f g : FieldsLeft) (ns : List ℕ) (p : Misread) → numbers_in k f ≡ Ok (ns, g) → held (method_in g) ≡ Err p
    → held_in (and_then (numbers_in k f) (λ r. and_then (method_in r.1) (λ s. Ok (entry_of r.0 s.0, s.1)))) ≡ Err p
entry-stops k f g ns p head method =
    ap (λ x. held_in (and_then x (λ r. and_then (method_in r.1) (λ s. Ok (entry_of r.0 s.0, s.1))))) head ∙ method-wrong ns p (method_in g) method

pub entry-wrong : (f g : FieldsLeft) (ns : List ℕ) (p : Misread) → numbers_in numbers_before_method f ≡ Ok (ns, g) → held (method_in g) ≡ Err p → held_in (entry_in f) ≡ Err p
entry-wrong = entry-stops numbers_before_method

held_none : (e : PlainEntry) (place : ℕ) (fs : List (List ℕ)) → held_line (none_at e place fs) ≡ none_at (held_entry e) place fs
held_none e place [] = refl
held_none e place (f ∷ fs) = refl

held_whole : (x : Reading PlainEntry) → held_line (and_then x (λ r. none_left r.0 r.1)) ≡ and_then (held_in x) (λ r. none_left r.0 r.1)
held_whole (Ok r) = held_none r.0 r.1.place r.1.left
held_whole (Err p) = refl

-- what the line reads as, from what its fields read as
by-fields : (line : List ℕ) (f : FieldsLeft) (x : Reading InvesteeEntry) → length line ≤ 511 → f ≡ fields_of line → held_in (entry_in f) ≡ x → held_line (investee_of line) ≡ and_then x (λ r. none_left r.0 r.1)
by-fields line f x short is reads =
    ap held_line (cond-false (ltb 511 (length line)) _ _ (le-ltb 511 (length line) short))
    ∙ held_whole (entry_in (fields_of line))
    ∙ ap (λ y. and_then y (λ r. none_left r.0 r.1)) (ap (λ f. held_in (entry_in f)) (sym is) ∙ reads)

none-gives : {X : Type 0} (x : X) (place : ℕ) (fs : List (List ℕ)) (u : Unit {0}) → Ok u ≡ none_at tt place fs → none_at x place fs ≡ Ok x
none-gives x place [] u h = refl
none-gives x place (f ∷ fs) u h = let z : ◌≡◌ {A = ℕ} 0 1 = cc in absurd (omega arith)

pub line-wrong : (line : List ℕ) (f : FieldsLeft) (p : Misread) → length line ≤ 511 → f ≡ fields_of line → held_in (entry_in f) ≡ Err p → Err p ≡ held_line (investee_of line)
line-wrong line f p short is reads = sym (by-fields line f (Err p) short is reads)

pub line_read : (line : List ℕ) (f left : FieldsLeft) (e : InvesteeEntry) (u : Unit {0}) → length line ≤ 511 → f ≡ fields_of line → held_in (entry_in f) ≡ Ok (e, left) → Ok u ≡ none_left tt left → Ok e ≡ held_line (investee_of line)
line_read line f left e u short is reads none = sym (by-fields line f (Ok (e, left)) short is reads ∙ none-gives e left.place left.left u none)

none-stops : {X : Type 0} (x : X) (place : ℕ) (fs : List (List ℕ)) (p : Misread) → ◌≡◌ {A = Result (Unit {0}) Misread} (Err p) (none_at tt place fs) → none_at x place fs ≡ Err p
none-stops x place [] p h = let z : ◌≡◌ {A = ℕ} 0 1 = cc in absurd (omega arith)
none-stops x place (f ∷ fs) p h = let same : p ≡ Field place = cc in ap Err (sym same)

pub line-surplus : (line : List ℕ) (f left : FieldsLeft) (e : InvesteeEntry) (p : Misread) → length line ≤ 511 → f ≡ fields_of line → held_in (entry_in f) ≡ Ok (e, left) → ◌≡◌ {A = Result (Unit {0}) Misread} (Err p) (none_left tt left) → Err p ≡ held_line (investee_of line)
line-surplus line f left e p short is reads none = sym (by-fields line f (Ok (e, left)) short is reads ∙ none-stops e left.place left.left p none)
