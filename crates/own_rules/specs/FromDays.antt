-- A rule whose parameter is the days from which an investee is counted.
use Rattle.std.specs.Prelude.{ℕ, ◌≤◌, Bool, true, false, cond, nat_lt}
use Rattle.std.proofs.Common.{lit≤}
use Rattle.rules.specs.Figures.{given_or_whole}
use Rattle.rules.specs.Lawful.{whole_in_range}
use Rattle.rules.specs.Tables.{Tables, Lawful}

abbrev pub from_days_tables : ℕ → Tables
from_days_tables least = record {
  bases = λ kind figures. given_or_whole figures.revenue;
  reasons = λ financing. cond (nat_lt financing.days least) 1 0;
}

one-or-none : (b : Bool) → cond b 1 0 ≤ 9
one-or-none true = lit≤ tt
one-or-none false = lit≤ tt

pub from-days-lawful : (least : ℕ) → Lawful (from_days_tables least)
from-days-lawful least = record {
  bases_in_range = λ kind figures within. whole_in_range figures.revenue within.revenue;
  reasons_in_range = λ financing asked. one-or-none (nat_lt financing.days least);
}
