-- The line that a report prints for a source: a label, and its reading or its fault.
use Rattle.std.specs.Prelude.{ℕ, List, ◌++◌, ℤ, Ok, Err, codes, decimal, Result}
use Rattle.std.specs.Fmt.{signed_decimal}
use Rattle.faults.specs.Refusals.{fault_text}
use Rattle.faults.specs.declared.Fault.{Fault}
use Rattle.sources.specs.declared.reading.Reading.{Reading}

abbrev pub reading_text : ℤ → ℕ → List ℕ
reading_text kilograms grade = signed_decimal kilograms ++ (codes " kg, grade " ++ decimal grade)

abbrev pub outcome_text : Result Reading Fault → List ℕ
outcome_text (Ok r) = reading_text r.kilograms r.grade
outcome_text (Err f) = fault_text f

abbrev pub line_of : List ℕ → Result Reading Fault → List ℕ
line_of label outcome = label ++ (codes ": " ++ outcome_text outcome)
