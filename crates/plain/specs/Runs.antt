-- One call on a plain book, and a run of calls.
use Rattle.std.specs.Prelude.{◌≡◌, List, [], ◌∷◌, Some, None, fold, Option}
use Rattle.std.specs.List.{AllByRecursion}
use Rattle.faults.specs.declared.Fault.{Fault}
use Rattle.rules.specs.Tables.{Tables}
use Rattle.plain.specs.declared.answers.Answer.{Answer}
use Rattle.plain.specs.declared.answers.Answer.TheVariants.{Declined}
use Rattle.plain.specs.Changes.{changed}
use Rattle.plain.specs.PlainBook.{PlainBook, empty}
use Rattle.plain.specs.Readings.{gives}
use Rattle.plain.specs.Refused.{declined}
use Rattle.plain.specs.Steps.{Query, Step, ask, WithinSourceLimits}

-- x, unless the call is declined
abbrev pub unless : {X : Type 0} → Option Fault → X → (Fault → X) → X
unless None x otherwise = x
unless (Some f) x otherwise = otherwise f

-- a declined call changes nothing
abbrev pub after : Tables → PlainBook → Step → PlainBook
after t p c = unless (declined t p c) (changed p c) (λ f. p)

-- what one call is answered
abbrev pub answer : Tables → PlainBook → Step → Answer
answer t p c = unless (declined t p c) (gives t p c) Declined

-- what one query is answered
abbrev pub answer_to : Tables → PlainBook → Query → Answer
answer_to t p query = answer t p (ask query)

-- one call after the other
abbrev pub run : Tables → PlainBook → List Step → PlainBook
run t p cs = fold (after t) p cs

-- what the calls of a run are answered, in their order
abbrev pub answered : Tables → PlainBook → List Step → List Answer
answered t p [] = []
answered t p (c ∷ cs) = answer t p c ∷ answered t (after t p c) cs

-- every call of the run is accepted
unfoldable pub AllAccepted : Tables → PlainBook → List Step → Type 0
AllAccepted t p [] = Unit {0}
AllAccepted t p (c ∷ cs) = (declined t p c ≡ None) × AllAccepted t (after t p c) cs

-- some run from the empty book has come to p
abbrev pub ReachedByARun : Tables → PlainBook → Type 0
ReachedByARun t p = (calls : List Step) × AllByRecursion WithinSourceLimits calls × (run t empty calls ≡ p)
