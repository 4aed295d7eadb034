-- A rule that divides everything by total assets, and leaves out exposures of a million wan or more.
use Rattle.std.specs.Prelude.{ℕ, ◌≤◌, ◌/◌, min}
use Rattle.std.proofs.Common.{arith}
use Rattle.rules.specs.Figures.{given}
use Rattle.rules.specs.Investees.{most_exposure}
use Rattle.rules.specs.Lawful.{given-in-range}
use Rattle.rules.specs.Tables.{Tables, Lawful}

abbrev pub asset_tables : Tables
asset_tables = record {
  bases = λ kind figures. given figures.total_assets;
  reasons = λ financing. min (financing.exposure / 1000000) 255;
}

-- the largest exposure is nine millions
millions : (n : ℕ) → n ≤ most_exposure → min (n / 1000000) 255 ≤ 9
millions n h = omega arith

-- a figure within its limit is an amount in range, or is not given
pub assets-lawful : Lawful asset_tables
assets-lawful = record {
  bases_in_range = λ kind figures within. given-in-range figures.total_assets within.total_assets;
  reasons_in_range = λ financing asked. millions financing.exposure asked.exposure_to;
}
