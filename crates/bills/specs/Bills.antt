-- A bill is a text of lines, each of them three numbers: row, quantity and grade of an item.
use Rattle.arrayvec.specs.ArrayVec.{ArrayVec}
use Rattle.std.specs.Prelude.{ℕ, ◌+◌, cond, List, [], ◌∷◌, length, take, Ok, Err, Result, ◌==◌, nat_lt, slice_index}
use Rattle.lines.specs.declared.fields.LineError.{LineError}
use Rattle.lines.specs.Fields.{pieces, line_of}
use Rattle.operations.specs.declared.items.Item.{Item}
use Rattle.operations.specs.Items.{item_of}
use Rattle.bills.specs.declared.reading.Malformed.{Malformed}
use Rattle.bills.specs.declared.reading.Malformed.TheVariants.{TooLong, Unended, Line}

abbrev from_numbers : Result (List ℕ) LineError → Result Item LineError
from_numbers (Ok ns) = Ok (item_of (slice_index ns 0) (slice_index ns 1) (slice_index ns 2))
from_numbers (Err e) = Err e

-- the item of a line
abbrev pub item_in : List ℕ → Result Item LineError
item_in line = from_numbers (line_of 3 line)

-- the item of the n-th line in front of those after it
abbrev pub in_front : ℕ → Result Item LineError → Result (List Item) Malformed → Result (List Item) Malformed
in_front n (Err e) rest = Err (Line n e)
in_front n (Ok x) (Err m) = Err m
in_front n (Ok x) (Ok xs) = Ok (x ∷ xs)

-- the items of pieces between line feeds, the first of which is the n-th line; nothing may stand behind the last line feed
abbrev pub items_of : ℕ → List (List ℕ) → Result (List Item) Malformed
items_of n [] = Ok []
items_of n (p ∷ []) = cond (length p == 0) (Ok []) (Err (Unended n))
items_of n (p ∷ q ∷ ps) = in_front n (item_in p) (items_of (n + 1) (q ∷ ps))

-- the items of a text, line by line from the top
abbrev pub items_in : List ℕ → Result (List Item) Malformed
items_in text = cond (nat_lt 65536 (length text)) (Err TooLong) (items_of 1 (pieces 10 text))

-- ---- the same as a program holds them

-- one more than a table may have
abbrev pub most_held : ℕ
most_held = 65

-- the first items, as many as there is room for
abbrev pub held : Result (List Item) Malformed → Result (ArrayVec Item) Malformed
held (Ok xs) = Ok (record { items = take most_held xs })
held (Err m) = Err m
