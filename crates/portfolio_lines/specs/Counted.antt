-- The fields of a line, read one after another and counted.
--   place    of a field: its number in its line, counted from 1
--   reading  what fields read as, with the fields after them; or which is the first that is wrong or missing
use Rattle.std.specs.Prelude.{ℕ, ◌+◌, List, [], ◌∷◌, Ok, Err, Result}
use Rattle.lines.specs.Fields.{pieces, pieces_left, numbers_of}
use Rattle.portfolio_lines.specs.declared.counted.Fields.{Fields}
use Rattle.portfolio_lines.specs.declared.misread.Misread.{Misread}
use Rattle.portfolio_lines.specs.declared.misread.Misread.TheVariants as misread

-- the fields that are still to read, and the place of the next
pub record FieldsLeft : Type 0 where
  pub place : ℕ
  pub left : List (List ℕ)

abbrev pub Reading : Type 0 → Type 0
Reading X = Result (X × FieldsLeft) Misread

-- what comes next, unless there was an error
abbrev pub and_then : {X Y E : Type 0} → Result X E → (X → Result Y E) → Result Y E
and_then (Ok x) next = next x
and_then (Err e) next = Err e

-- the fields of a line: what stands between spaces (32)
abbrev pub fields_of : List ℕ → FieldsLeft
fields_of line = record { place = 1; left = pieces 32 line }

abbrev pub counted : ℕ → Result (List ℕ × List (List ℕ)) ℕ → Reading (List ℕ)
counted place (Ok r) = Ok (r.0, record { place = place; left = r.1 })
counted place (Err p) = Err (misread.Field p)

-- the next k fields as numbers
abbrev pub numbers_in : ℕ → FieldsLeft → Reading (List ℕ)
numbers_in k f = counted (f.place + k) (numbers_of k f.place f.left)

abbrev pub letter_at : ℕ → List (List ℕ) → Reading ℕ
letter_at place [] = Err (misread.Field place)
letter_at place ([] ∷ fields) = Err (misread.Field place)
letter_at place ((c ∷ []) ∷ fields) = Ok (c, record { place = place + 1; left = fields })
letter_at place ((c ∷ d ∷ ds) ∷ fields) = Err (misread.Field place)

-- the next field as a letter: one byte
abbrev pub letter_in : FieldsLeft → Reading ℕ
letter_in f = letter_at f.place f.left

abbrev pub none_at : {X : Type 0} → X → ℕ → List (List ℕ) → Result X Misread
none_at x place [] = Ok x
none_at x place (f ∷ fields) = Err (misread.Field place)

-- no field may be left
abbrev pub none_left : {X : Type 0} → X → FieldsLeft → Result X Misread
none_left x f = none_at x f.place f.left

-- ---- the same as a program holds them

abbrev pub fields_left : Fields → FieldsLeft
fields_left f = record { place = f.place; left = pieces_left f.pieces.separator f.pieces.rest }

-- what a reader of some fields answers, with the fields that it leaves
abbrev pub leaving : {X : Type 0} → Result X Misread → FieldsLeft → Reading X
leaving (Ok x) f = Ok (x, f)
leaving (Err e) f = Err e
