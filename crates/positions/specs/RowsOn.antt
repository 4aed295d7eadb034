-- The rows that a walk over the positions on an investee has still to give.
use Rattle.std.specs.Prelude.{List}
use Rattle.positions.specs.Rows.{rows_from}
use Rattle.positions.specs.declared.PositionRow.{PositionRow}
use Rattle.positions.specs.declared.rows_on.RowsOn.{RowsOn}

abbrev pub rows_left : RowsOn → List PositionRow
rows_left walk = rows_from walk.table.now.rows.items walk.next
