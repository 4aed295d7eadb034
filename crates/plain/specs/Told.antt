-- What a single call tells its caller, as the answer that a run of calls would give.
use Rattle.std.specs.Prelude.{Ok, Err, Result}
use Rattle.faults.specs.declared.Fault.{Fault}
use Rattle.plain.specs.declared.answers.Answer.{Answer}
use Rattle.plain.specs.declared.answers.Answer.TheVariants.{Done, Declined}

-- a fault is told as it is, and anything else as the kind of answer that the call gives
abbrev pub told : {X : Type 0} → (X → Answer) → Result X Fault → Answer
told kind (Ok x) = kind x
told kind (Err f) = Declined f

-- the answer of a call that changes the book
abbrev pub done : Unit {0} → Answer
done _ = Done
