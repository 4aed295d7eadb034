-- The calls on a book, with a source's meaning in place of the source, and numbers as a caller sends them.
use Rattle.std.specs.Prelude.{ℕ, Result}
use Rattle.faults.specs.declared.Fault.{Fault}
use Rattle.rules.specs.declared.investees.InvesteeFields.{InvesteeFields}
use Rattle.sources.specs.Readings.{WithinLimits}
use Rattle.sources.specs.declared.reading.Reading.{Reading}

-- one reading or one fault
abbrev pub Meaning : Type 0
Meaning = Result Reading Fault

-- what a book is asked, of both measures
pub data Query : Type 0 where
  -- what falls to one branch for one investee
  for_part : (id branch : ℕ) → Query
  -- what falls to all branches for one investee
  for_total : (id : ℕ) → Query
  -- what falls to one branch for all investees
  for_sheet : (branch : ℕ) → Query
  -- what falls to all branches for all investees
  for_book_total : Query

pub data Step : Type 0 where
  -- opens an investee with a reading of its emissions
  enter : (fields : InvesteeFields) (meaning : Meaning) → Step
  -- replaces the reading
  restate : (id : ℕ) (meaning : Meaning) → Step
  -- sets the reduction
  reduce : (id : ℕ) (meaning : Meaning) → Step
  -- enters the balance of a month that has none
  post : (branch id month balance : ℕ) → Step
  -- replaces the balance of a month that has one
  amend : (branch id month balance : ℕ) → Step
  -- changes nothing
  ask : Query → Step

-- the meaning of the call's source is within the limits that every source keeps to
abbrev pub WithinSourceLimits : Step → Type 0
WithinSourceLimits (enter fields meaning) = WithinLimits meaning
WithinSourceLimits (restate id meaning) = WithinLimits meaning
WithinSourceLimits (reduce id meaning) = WithinLimits meaning
WithinSourceLimits (post branch id month balance) = Unit {0}
WithinSourceLimits (amend branch id month balance) = Unit {0}
WithinSourceLimits (ask query) = Unit {0}
