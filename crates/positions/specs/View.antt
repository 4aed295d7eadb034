-- Which positions of a plain book a table stands for.
use Rattle.std.specs.Prelude.{List}
use Rattle.plain.specs.PlainBook.{PlainPosition}
use Rattle.positions.specs.declared.Positions.{Positions}
use Rattle.positions.specs.Rows.{plain_positions}

abbrev pub positions_in : Positions → List PlainPosition
positions_in table = plain_positions table.rows.items
