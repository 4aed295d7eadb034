-- The lines of items, one after another.
use Rattle.std.proofs.Common.{◌≡◌, ℕ, ◌+◌, ◌<◌, List, ◌++◌, length, get_or, drop}
use Rattle.std.proofs.lemmas.List.{at_drop_more}
use Rattle.operations.specs.declared.items.Item.{Item}
use Rattle.bills.specs.Layout.{ended, item_line, item_lines}

pub lines-more : (n : ℕ) (xs : List Item) (i : ℕ) (x : Item) → i < length xs → item_lines n (drop i xs) ≡ ended (item_line n (get_or xs i x)) ++ item_lines (n + 1) (drop (i + 1) xs)
lines-more n xs i x lt = at_drop_more (item_lines n) xs i x lt
