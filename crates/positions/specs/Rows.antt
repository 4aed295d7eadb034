-- The rows that a table of positions keeps, as positions of a plain book.
use Rattle.std.specs.Prelude.{ℕ, List, [], ◌∷◌, map, filter, drop, nat_eq, Some, None, Option}
use Rattle.plain.specs.PlainBook.{PlainPosition}
use Rattle.positions.specs.declared.PositionRow.{PositionRow}

abbrev pub plain_position : PositionRow → PlainPosition
plain_position q = record { branch = q.branch; id = q.id; balances = q.balances }

abbrev pub plain_positions : List PositionRow → List PlainPosition
plain_positions qs = map plain_position qs

abbrev pub ids_of : List PositionRow → List ℕ
ids_of rows = map (λ row. row.id) rows

-- the rows on the investee of an id
abbrev pub rows_on : ℕ → List PositionRow → List PositionRow
rows_on id rows = filter (λ row. nat_eq row.id id) rows

-- the first of some rows, and those after it on the same investee
abbrev pub with_first : List PositionRow → List PositionRow
with_first [] = []
with_first (row ∷ rows) = row ∷ rows_on row.id rows

-- the row at a place, if there is one, and those after it on the same investee
abbrev pub rows_from : List PositionRow → Option ℕ → List PositionRow
rows_from rows None = []
rows_from rows (Some at) = with_first (drop at rows)
