-- The rows that a book keeps, as rows of a plain book: a reduction that was not set is 0 there.
use Rattle.std.specs.Prelude.{List, map, pos, is_some, unwrap_or}
use Rattle.rules.specs.Seen.{plain_profile}
use Rattle.plain.specs.PlainBook.{PlainInvestee, PlainBook}
use Rattle.positions.specs.View.{positions_in}
use Rattle.positions.specs.declared.Positions.{Positions}
use Rattle.book.specs.declared.rows.InvesteeRow.{InvesteeRow}

abbrev pub plain_investee : InvesteeRow → PlainInvestee
plain_investee x = record {
  profile = plain_profile x.profile;
  kilograms = x.reading.kilograms;
  grade = x.reading.grade;
  reduction = unwrap_or x.reduction (pos 0);
  reduced = is_some x.reduction;
}

abbrev pub plain_investees : List InvesteeRow → List PlainInvestee
plain_investees xs = map plain_investee xs

-- with the positions of a table
abbrev pub plain_rows : List InvesteeRow → Positions → PlainBook
plain_rows xs table = record { investees = plain_investees xs; positions = positions_in table }
