-- Where a line is wrong: at the first field with which it begins no line of its form.
--   form     which fields make up a line; how many bytes they take is left out
--   before   the fields in front of a place
--   after    the field at that place, and those behind it; none where the field is missing
use Rattle.std.specs.Prelude.{◌≡◌, ℕ, ◌^◌, ◌<◌, ◌≤◌, List, [], ◌∷◌, ◌++◌, map, length, decimal, Err, Result}
use Rattle.std.specs.List.{AllByRecursion}
use Rattle.lines.specs.Fields.{most_line_bytes, pieces}
use Rattle.lines.specs.declared.fields.LineError.{LineError}
use Rattle.lines.specs.declared.fields.LineError.TheVariants.{TooLong, Field, Surplus}

-- some line of the form begins with these fields, or has no others
abbrev pub Begins : (List (List ℕ) → Type 0) → List (List ℕ) → Type 0
Begins Form fields = (more : List (List ℕ)) × Form (fields ++ more)

-- no line of the form goes on with the field at the place; where that is missing, no line ends there
abbrev pub GoesWrong : (List (List ℕ) → Type 0) → (before after : List (List ℕ)) → Type 0
GoesWrong Form before [] = Form before → ⊥
GoesWrong Form before (field ∷ after) = Begins Form (before ++ field ∷ []) → ⊥

-- i fields begin a line of the form, and the one behind them is wrong, missing or surplus
pub record WrongAt (Form : List (List ℕ) → Type 0) (fields : List (List ℕ)) (i : ℕ) : Type 0 where
  pub before : List (List ℕ)
  pub after : List (List ℕ)
  pub fields_are : fields ≡ before ++ after
  pub count : length before ≡ i
  pub begins : Begins Form before
  pub goes_wrong : GoesWrong Form before after

-- the fields are k numbers of at most 13 digits
pub record FieldsOfNumbers (k : ℕ) (fields : List (List ℕ)) : Type 0 where
  pub numbers : List ℕ
  pub count : length numbers ≡ k
  pub digits : AllByRecursion (λ n. n < 10 ^ 13) numbers
  pub fields_are : fields ≡ map decimal numbers

-- why bytes are no line of k numbers: they are more than 511, or one of the k fields is wrong or missing, or there is one too many
abbrev pub WrongNumberLine : ℕ → List ℕ → LineError → Type 0
WrongNumberLine k line TooLong = most_line_bytes < length line
WrongNumberLine k line (Field i) = (length line ≤ most_line_bytes) × (i < k) × WrongAt (FieldsOfNumbers k) (pieces 32 line) i
WrongNumberLine k line Surplus = (length line ≤ most_line_bytes) × WrongAt (FieldsOfNumbers k) (pieces 32 line) k

-- a line is refused just where it is wrong, and for that reason
abbrev pub RefusesWrongNumberLines : ℕ → List ℕ → Result (List ℕ) LineError → Type 0
RefusesWrongNumberLines k line r = (e : LineError) → (r ≡ Err e → WrongNumberLine k line e) × (WrongNumberLine k line e → r ≡ Err e)
