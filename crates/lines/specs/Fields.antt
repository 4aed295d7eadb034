-- Bytes cut into pieces, and the numbers that pieces spell.
use Rattle.std.specs.Prelude.{ℕ, zero, suc, cond, List, [], ◌∷◌, length, Some, None, Ok, Err, Option, Result, ◌==◌, nat_lt}
use Rattle.std.specs.Borrow.{Bor}
use Rattle.lines.specs.declared.fields.LineError.{LineError}
use Rattle.lines.specs.declared.fields.LineError.TheVariants.{TooLong, Field, Surplus}
use Rattle.lines.specs.declared.fields.WrongField.{WrongField}
use Rattle.lines.specs.Numerals.{number_of}

-- a byte in front of the first piece
abbrev pub onto : ℕ → List (List ℕ) → List (List ℕ)
onto b [] = (b ∷ []) ∷ []
onto b (p ∷ ps) = (b ∷ p) ∷ ps

-- the pieces between separators: at least one, and empty ones too
abbrev pub pieces : ℕ → List ℕ → List (List ℕ)
pieces separator [] = [] ∷ []
pieces separator (b ∷ bs) = cond (b == separator) ([] ∷ pieces separator bs) (onto b (pieces separator bs))

-- the pieces that are still to read; none once the last was read
abbrev pub pieces_left : ℕ → Option (Bor (List ℕ)) → List (List ℕ)
pieces_left separator None = []
pieces_left separator (Some r) = pieces separator r.now

-- a number in front of what the fields after it read as; i is where a field stands that is no number
abbrev pub first : ℕ → Option ℕ → Result (List ℕ × List (List ℕ)) ℕ → Result (List ℕ × List (List ℕ)) ℕ
first i None r = Err i
first i (Some n) (Ok r) = Ok (n ∷ r.0, r.1)
first i (Some n) (Err j) = Err j

-- k numbers, counted from i, and the fields after them; or where the first field stands that is wrong or missing
abbrev pub numbers_of : ℕ → ℕ → List (List ℕ) → Result (List ℕ × List (List ℕ)) ℕ
numbers_of zero i fields = Ok ([], fields)
numbers_of (suc k) i [] = Err i
numbers_of (suc k) i (f ∷ fields) = first i (number_of f) (numbers_of k (suc i) fields)

-- an index as the place of a field
abbrev pub at_field : Result (List ℕ × List (List ℕ)) ℕ → Result (List ℕ × List (List ℕ)) LineError
at_field (Ok r) = Ok r
at_field (Err i) = Err (Field i)

-- the next k fields as numbers, and the fields after them; or the first that is wrong or missing
abbrev pub fields_of : ℕ → List (List ℕ) → Result (List ℕ × List (List ℕ)) LineError
fields_of k fields = at_field (numbers_of k 0 fields)

-- what a reader of some numbers answers, with the fields that it leaves
abbrev pub leaving_fields : Result (List ℕ) WrongField → List (List ℕ) → Result (List ℕ × List (List ℕ)) ℕ
leaving_fields (Ok ns) fields = Ok (ns, fields)
leaving_fields (Err e) fields = Err e.0

-- no field may follow
abbrev pub ended : Result (List ℕ × List (List ℕ)) LineError → Result (List ℕ) LineError
ended (Err e) = Err e
ended (Ok (ns, [])) = Ok ns
ended (Ok (ns, f ∷ fields)) = Err Surplus

-- the most bytes of a line, without its line feed
abbrev pub most_line_bytes : ℕ
most_line_bytes = 511

-- a line of k numbers with one space (32) between them, without its line feed
abbrev pub line_of : ℕ → List ℕ → Result (List ℕ) LineError
line_of k bytes = cond (nat_lt most_line_bytes (length bytes)) (Err TooLong) (ended (fields_of k (pieces 32 bytes)))
