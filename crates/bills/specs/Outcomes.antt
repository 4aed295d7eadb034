-- What comes of a bill: its items worked out, or why there are none.
use Rattle.std.specs.Prelude.{ℕ, List, Ok, Err, Result}
use Rattle.faults.specs.declared.Fault.{Fault}
use Rattle.operations.specs.declared.items.Item.{Item}
use Rattle.operations.specs.declared.items.Totals.{Totals}
use Rattle.operations.specs.Tables.{worked_out, table_after}
use Rattle.bills.specs.declared.answer.Outcome.{Outcome}
use Rattle.bills.specs.declared.answer.Outcome.TheVariants.{Statement, Refused, Malformed}
use Rattle.bills.specs.declared.reading.Malformed as reading
use Rattle.bills.specs.Bills.{items_in}

-- what comes of a table that was worked out, and now holds these items
abbrev pub worked_outcome : Result Totals Fault → List Item → Outcome
worked_outcome (Ok totals) items = Statement (record { items = items }) totals
worked_outcome (Err f) items = Refused f

abbrev pub worked : List Item → Outcome
worked xs = worked_outcome (worked_out xs) (table_after xs)

abbrev pub bill_answer : Result (List Item) reading.Malformed → Outcome
bill_answer (Ok xs) = worked xs
bill_answer (Err m) = Malformed m

-- what comes of a text
abbrev pub answer_to : List ℕ → Outcome
answer_to text = bill_answer (items_in text)
