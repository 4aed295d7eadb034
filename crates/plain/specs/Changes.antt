-- What an accepted call does to a plain book. A query changes nothing.
use Rattle.std.specs.Prelude.{ℕ, true, false, cond, List, [], ◌∷◌, ◌++◌, pos, is_some, Ok, Err, Result}
use Rattle.faults.specs.declared.Fault.{Fault}
use Rattle.rules.specs.Investees.{PlainProfile, profile_of}
use Rattle.sources.specs.declared.reading.Reading.{Reading}
use Rattle.plain.specs.Lists.{change_first}
use Rattle.plain.specs.PlainBook.{PlainInvestee, PlainPosition, PlainBook, with_investees, with_positions, has_id, is_of, position_of, new_position, with_balance}
use Rattle.plain.specs.Steps.{Meaning, Step, enter, restate, reduce, post, amend, ask}

-- ---- investees

-- an opened investee has a reduction of 0 that was not set
abbrev pub opened : PlainProfile → Reading → PlainInvestee
opened x r = record { profile = x; kilograms = r.kilograms; grade = r.grade; reduction = pos 0; reduced = false }

-- a restatement replaces the reading, and leaves the reduction
abbrev pub restated : Reading → PlainInvestee → PlainInvestee
restated r x = record { profile = x.profile; kilograms = r.kilograms; grade = r.grade; reduction = x.reduction; reduced = x.reduced }

-- the grade stays that of the emissions
abbrev pub reduced_by : Reading → PlainInvestee → PlainInvestee
reduced_by r x = record { profile = x.profile; kilograms = x.kilograms; grade = x.grade; reduction = r.kilograms; reduced = true }

-- a fault leaves everything as it is
abbrev pub added : Result PlainProfile Fault → Meaning → List PlainInvestee → List PlainInvestee
added (Ok x) (Ok r) xs = xs ++ opened x r ∷ []
added (Ok x) (Err f) xs = xs
added (Err f) meaning xs = xs

-- a reading changes the investee, and a fault leaves it as it is
abbrev pub read_into : (Reading → PlainInvestee → PlainInvestee) → Meaning → PlainInvestee → PlainInvestee
read_into change (Ok r) x = change r x
read_into change (Err f) x = x

-- ---- positions

-- a new position stands at the end
abbrev pub with_position : ℕ → ℕ → List PlainPosition → List PlainPosition
with_position b id qs = cond (is_some (position_of b id qs)) qs (qs ++ new_position b id ∷ [])

-- month m of branch b on the investee has the balance v, in place of what it had
abbrev pub amended : ℕ → ℕ → ℕ → ℕ → List PlainPosition → List PlainPosition
amended b id m v qs = change_first (is_of b id) (with_balance m v) qs

-- the branch has a position on the investee, old or new, and month m of it the balance v
abbrev pub posted : ℕ → ℕ → ℕ → ℕ → List PlainPosition → List PlainPosition
posted b id m v qs = amended b id m v (with_position b id qs)

-- ---- the book

-- what each call that is accepted makes of the book
abbrev pub changed : PlainBook → Step → PlainBook
changed p (enter fields meaning) = with_investees p (added (profile_of fields) meaning p.investees)
changed p (restate id meaning) = with_investees p (change_first (has_id id) (read_into restated meaning) p.investees)
changed p (reduce id meaning) = with_investees p (change_first (has_id id) (read_into reduced_by meaning) p.investees)
changed p (post branch id month balance) = with_positions p (posted branch id month balance p.positions)
changed p (amend branch id month balance) = with_positions p (amended branch id month balance p.positions)
changed p (ask query) = p
