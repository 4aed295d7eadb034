-- Where a line of a portfolio file is wrong, said by its fields alone, for lines of numbers and for investees alike.
use Rattle.std.specs.Prelude.{◌≡◌, ℕ, zero, suc, ◌<◌, ◌≤◌, List, length, Err, Result}
use Rattle.entries.specs.Entries.{PlainEntry}
use Rattle.lines.specs.Fields.{most_line_bytes, pieces}
use Rattle.lines.specs.Places.{WrongAt}
use Rattle.portfolio_lines.specs.Text.{ThirteenDigits, head_numbers, method_numbers, investee_fields}
use Rattle.portfolio_lines.specs.declared.misread.Misread.{Misread}
use Rattle.portfolio_lines.specs.declared.misread.Misread.TheVariants.{TooLong, Field}

-- the fields are an investee as it is written: its numbers, the letter of its method, the method's numbers
pub record FieldsOfInvestee (fields : List (List ℕ)) : Type 0 where
  pub entry : PlainEntry
  pub digits : ThirteenDigits (head_numbers entry) × ThirteenDigits (method_numbers entry.method)
  pub fields_are : fields ≡ investee_fields entry

-- the line is of the form, and has at most 511 bytes
pub record LineOf (Form : List (List ℕ) → Type 0) (line : List ℕ) : Type 0 where
  pub short : length line ≤ most_line_bytes
  pub fields : Form (pieces 32 line)

-- Why a line is not of a form. One of more than 511 bytes is wrong as a whole, whatever it holds.
-- Of another, the fields before the place begin some line of the form, and with the field at the place they begin none. Places count from 1.
abbrev pub WrongLine : (List (List ℕ) → Type 0) → List ℕ → Misread → Type 0
WrongLine Form line TooLong = most_line_bytes < length line
WrongLine Form line (Field zero) = ⊥
WrongLine Form line (Field (suc i)) = (length line ≤ most_line_bytes) × WrongAt Form (pieces 32 line) i

-- a line is refused just where it is wrong, and for that reason
abbrev pub RefusesWrongLines : {X : Type 0} → (List (List ℕ) → Type 0) → List ℕ → Result X Misread → Type 0
RefusesWrongLines Form line r = (e : Misread) → (r ≡ Err e → WrongLine Form line e) × (WrongLine Form line e → r ≡ Err e)
