-- A rule over any rule, which asks for more days.
use Rattle.std.specs.Prelude.{ℕ, ◌≤◌, Bool, true, false, cond, nat_lt}
use Rattle.std.proofs.Common.{lit≤}
use Rattle.rules.specs.Tables.{Tables, Lawful}

abbrev pub stricter_tables : ℕ → Tables → Tables
stricter_tables least t = record {
  bases = t.bases;
  reasons = λ financing. cond (nat_lt financing.days least) 5 (t.reasons financing);
}

five-or-less : (b : Bool) (n : ℕ) → n ≤ 9 → cond b 5 n ≤ 9
five-or-less true n h = lit≤ tt
five-or-less false n h = h

pub stricter-lawful : (least : ℕ) (t : Tables) → Lawful t → Lawful (stricter_tables least t)
stricter-lawful least t law = record {
  bases_in_range = law.bases_in_range;
  reasons_in_range = λ financing asked. five-or-less (nat_lt financing.days least) (t.reasons financing) (law.reasons_in_range financing asked);
}
