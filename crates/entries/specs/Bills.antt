-- The terms of an energy bill in a table of fixed size.
use Rattle.std.specs.Prelude.{ℕ, ◌+◌, min, List, ◌++◌, length, take, replicate, slice_set}
use Rattle.factors.specs.declared.Activity.{Activity}
use Rattle.entries.specs.declared.method.Bill.{Bill}

-- one more than a bill may have
abbrev pub most_held : ℕ
most_held = 17

abbrev pub no_term : Activity
no_term = record { row = 0; quantity = 0 }

-- the first terms, as many as the table has places for; the places after them are empty
abbrev pub bill_of : List Activity → Bill
bill_of terms = record { terms = take most_held (terms ++ replicate most_held no_term); count = min (length terms) most_held }

-- the terms that a bill holds
abbrev pub terms_in : Bill → List Activity
terms_in bill = take (min bill.count most_held) bill.terms

-- one term more, at the first empty place
abbrev pub with_term : Bill → Activity → Bill
with_term bill term = record { terms = slice_set bill.terms bill.count term; count = bill.count + 1 }
