-- What is printed for a bill: a line for each item and two for the totals, or one line that says why there are none.
use Rattle.std.specs.Prelude.{ℕ, ◌+◌, cond, List, [], ◌∷◌, ◌++◌, codes, decimal, ◌==◌}
use Rattle.faults.specs.declared.Fault.{Fault}
use Rattle.faults.specs.Refusals.{number_of}
use Rattle.grading.specs.Hundredths.{two_decimals}
use Rattle.lines.specs.declared.fields.LineError.{LineError}
use Rattle.lines.specs.declared.fields.LineError.TheVariants as line
use Rattle.operations.specs.declared.items.Item.{Item}
use Rattle.operations.specs.declared.items.Totals.{Totals}
use Rattle.bills.specs.declared.answer.Outcome.{Outcome}
use Rattle.bills.specs.declared.answer.Outcome.TheVariants.{Statement, Refused, Malformed}
use Rattle.bills.specs.declared.reading.Malformed as reading
use Rattle.bills.specs.declared.reading.Malformed.TheVariants.{TooLong, Unended, Line}

-- a line of the text, with its line feed
abbrev pub ended : List ℕ → List ℕ
ended bytes = bytes ++ 10 ∷ []

-- the n-th item
abbrev pub item_line : ℕ → Item → List ℕ
item_line n x =
    codes "item " ++ (decimal n ++ (codes ": row " ++ (decimal x.activity.row ++ (codes ", quantity " ++ (decimal x.activity.quantity
    ++ (codes ", grade " ++ (decimal x.grade ++ (codes ": " ++ (decimal x.kilograms ++ codes " kg")))))))))

-- the items, the first of which is the n-th
abbrev pub item_lines : ℕ → List Item → List ℕ
item_lines n [] = []
item_lines n (x ∷ xs) = ended (item_line n x) ++ item_lines (n + 1) xs

abbrev pub total_line : Totals → List ℕ
total_line t = codes "total: " ++ (decimal t.kilograms ++ codes " kg")

abbrev pub grade_line : Totals → List ℕ
grade_line t = codes "mean grade: " ++ two_decimals t.grade

abbrev pub statement_of : List Item → Totals → List ℕ
statement_of xs t = item_lines 1 xs ++ (ended (total_line t) ++ ended (grade_line t))

-- what a refusal says of the item at a place, from 1, or of the whole table at place 0
abbrev pub cause_at : ℕ → List ℕ
cause_at place =
    cond (place == 0) (codes ": more than 64 items")
    (codes " at item " ++ (decimal place ++ codes ": its row, quantity or grade is out of range, or it passes 10^12 kg"))

abbrev pub refusal_line : Fault → List ℕ
refusal_line f = codes "refusal " ++ (decimal (number_of f.refusal) ++ cause_at f.place)

-- what a field of an item's line is, from 0
abbrev pub field_name : ℕ → List ℕ
field_name i = cond (i == 0) (codes "row") (cond (i == 1) (codes "quantity") (codes "grade"))

-- why the n-th line is not an item
abbrev pub line_message : ℕ → LineError → List ℕ
line_message n line.TooLong = codes "line " ++ (decimal n ++ codes ": longer than 512 bytes")
line_message n (line.Field i) = codes "line " ++ (decimal n ++ (codes ": the " ++ (field_name i ++ codes " is not a number of 1 to 13 digits without leading zeros")))
line_message n line.Surplus = codes "line " ++ (decimal n ++ codes ": more than the three fields row, quantity and grade")

abbrev pub message_of : reading.Malformed → List ℕ
message_of TooLong = codes "the bill is longer than 65536 bytes"
message_of (Unended n) = codes "line " ++ (decimal n ++ codes ": not ended by a line feed")
message_of (Line n e) = line_message n e

-- what is printed for a bill
abbrev pub outcome_text : Outcome → List ℕ
outcome_text (Statement items totals) = statement_of items.items totals
outcome_text (Refused f) = ended (refusal_line f)
outcome_text (Malformed m) = ended (message_of m)
