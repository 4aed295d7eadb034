-- A rule that counts nobody.
use Rattle.std.proofs.Common.{lit≤}
use Rattle.std.specs.Prelude.{Ok}
use Rattle.rules.specs.declared.figures.Base.TheVariants.{Whole}
use Rattle.rules.specs.Tables.{Tables, Lawful}

abbrev pub nobody_tables : Tables
nobody_tables = record { bases = λ kind figures. Ok Whole; reasons = λ financing. 9 }

pub nobody-lawful : Lawful nobody_tables
nobody-lawful = record {
  bases_in_range = λ kind figures within. tt;
  reasons_in_range = λ financing asked. lit≤ tt;
}
