-- What a plain book's positions say of one investee, given its kind and its id, and of one branch.
use Rattle.std.specs.Prelude.{ℕ, ◌+◌, ◌-◌, Bool, cond, List, [], ◌∷◌, map, reverse, length, is_some, Some, None, sum_by, Option, ◌==◌, nat_eq, slice_index_or, slice_set}
use Rattle.std.specs.Option.{unwrap_or}
use Rattle.rules.specs.declared.kinds.Kind.{Kind}
use Rattle.plain.specs.Branches.{branches}
use Rattle.plain.specs.Exposures.{closing_of, positions_on, lent_by}
use Rattle.plain.specs.Lists.{first_of}
use Rattle.plain.specs.Parts.{Lent, exposures, exposure_at, exposure_before}
use Rattle.plain.specs.PlainBook.{PlainPosition}
use Rattle.plain.specs.Refused.{branch_out_of_range}
use Rattle.positions.specs.declared.lending.Lending.{Lending}
use Rattle.positions.specs.declared.lending.Turn.{Turn}

-- what the branches have lent
abbrev pub lent_on : Kind → ℕ → List PlainPosition → List Lent
lent_on kind id qs = map (lent_by kind) (positions_on id qs)

-- of all branches together
abbrev pub lending_of : Kind → ℕ → List PlainPosition → Lending
lending_of kind id qs = record { positions = length (positions_on id qs); exposure = exposures (lent_on kind id qs); closing = sum_by closing_of (positions_on id qs) }

-- of branch b, in the order of the first posts
abbrev pub turn_of : Kind → ℕ → ℕ → List PlainPosition → Turn
turn_of kind id b qs = record { before = exposure_before (lent_on kind id qs) b; exposure = exposure_at (lent_on kind id qs) b }

-- the turn of branch b in what was lent, after s; none where it has lent nothing
unfoldable pub turn_from : ℕ → List Lent → ℕ → Option Turn
turn_from s [] b = None
turn_from s (l ∷ ls) b = cond (l.branch == b) (Some (record { before = s; exposure = l.exposure })) (turn_from (s + l.exposure) ls b)

-- of all branches, from branch 1 on
abbrev pub turns_of : Kind → ℕ → List PlainPosition → List (Option Turn)
turns_of kind id qs = map (turn_from 0 (lent_on kind id qs)) (reverse branches)

-- branch b has lent to some investee
abbrev pub branch_in : ℕ → List PlainPosition → Bool
branch_in b qs = is_some (first_of (λ q. nat_eq q.branch b) qs)

-- a turn is written at the place of its branch, unless there is one
abbrev pub noted : ℕ → Turn → List (Option Turn) → List (Option Turn)
noted b turn turns = cond (branch_out_of_range b) turns (slice_set turns (b - 1) (Some (unwrap_or (slice_index_or turns (b - 1) None) turn)))
