-- Lines of numbers as they are printed, and that exactly these are accepted.
use Rattle.std.specs.Prelude.{◌≡◌, ℕ, ◌-◌, ◌^◌, ◌<◌, ◌≤◌, List, [], ◌∷◌, ◌++◌, map, length, Ok, decimal, Result}
use Rattle.std.specs.List.{between, AllByRecursion}
use Rattle.lines.specs.declared.fields.LineError.{LineError}
use Rattle.lines.specs.Fields.{most_line_bytes, line_of}

-- pieces with a separator between them
abbrev pub join : ℕ → List (List ℕ) → List ℕ
join separator [] = []
join separator (p ∷ []) = p
join separator (p ∷ q ∷ ps) = p ++ separator ∷ join separator (q ∷ ps)

-- numbers in decimal, one space between them
abbrev pub printed : List ℕ → List ℕ
printed ns = join 32 (map decimal ns)

-- the same with its line feed (10)
abbrev pub number_line : List ℕ → List ℕ
number_line ns = printed ns ++ 10 ∷ []

-- the bytes are the line of these k numbers
pub record LineOfNumbers (k : ℕ) (ns bytes : List ℕ) : Type 0 where
  pub count : length ns ≡ k
  pub digits : AllByRecursion (λ n. n < 10 ^ 13) ns
  pub bytes_are : bytes ≡ printed ns
  pub short : length bytes ≤ most_line_bytes

-- numbers are read just where the bytes are their line
abbrev pub AcceptsWhatIsPrinted : ℕ → List ℕ → Result (List ℕ) LineError → Type 0
AcceptsWhatIsPrinted k bytes r = (ns : List ℕ) → (r ≡ Ok ns → LineOfNumbers k ns bytes) × (LineOfNumbers k ns bytes → r ≡ Ok ns)

-- numbers that a line can hold
pub record FitOneLine (ns : List ℕ) : Type 0 where
  pub some_number : 0 < length ns
  pub digits : AllByRecursion (λ n. n < 10 ^ 13) ns
  pub short : length (printed ns) ≤ most_line_bytes

-- a line of these numbers that stands in a buffer between two places reads, without its line feed, as these numbers
abbrev pub ReadsBack : List ℕ → List ℕ → ℕ → ℕ → Type 0
ReadsBack ns buffer from end = line_of (length ns) (between from (end - 1) buffer) ≡ Ok ns
