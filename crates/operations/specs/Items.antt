-- One item of a lender's own operations: an activity, the grade of its data, and the kilograms that working out writes.
use Rattle.std.specs.Prelude.{ℕ, Bool, cond, ◌&&◌, is_some, Some, None, Option, nat_le}
use Rattle.factors.specs.Factors.{kilograms_of}
use Rattle.operations.specs.declared.items.Item.{Item}

-- an item that has not been worked out
abbrev pub item_of : ℕ → ℕ → ℕ → Item
item_of row quantity grade = record { activity = record { row = row; quantity = quantity }; grade = grade; kilograms = 0 }

-- the most items of a table
abbrev pub most_items : ℕ
most_items = 64

-- the most kilograms of an item
abbrev pub most_kilograms : ℕ
most_kilograms = 1000000000000

-- nothing where a number is above the limit
abbrev pub at_most : ℕ → Option ℕ → Option ℕ
at_most limit None = None
at_most limit (Some n) = cond (nat_le n limit) (Some n) None

-- what the item comes to, by itself; nothing where its row, quantity or grade is out of range or it passes 10^12 kilograms
abbrev pub kilograms_in : Item → Option ℕ
kilograms_in x = cond (nat_le 1 x.grade && nat_le x.grade 5) (at_most most_kilograms (kilograms_of x.activity)) None

abbrev pub acceptable : Item → Bool
acceptable x = is_some (kilograms_in x)

abbrev pub with_kilograms : Item → Option ℕ → Item
with_kilograms x None = x
with_kilograms x (Some k) = record { activity = x.activity; grade = x.grade; kilograms = k }

-- the item with its kilograms; nothing else of it changes
abbrev pub worked : Item → Item
worked x = with_kilograms x (kilograms_in x)
