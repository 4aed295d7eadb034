-- What an iterator over pieces gives.
use Rattle.std.specs.Prelude.{◌≡◌, ℕ, List, Option}
use Rattle.std.specs.Borrow.{Bor}
use Rattle.std.specs.Iterator.{YieldsFirstRef}
use Rattle.lines.specs.Fields.{pieces_left}
use Rattle.lines.specs.declared.pieces.Pieces.{Pieces}

-- the pieces that are still to come
abbrev pub left_in : Pieces → List (List ℕ)
left_in p = pieces_left p.separator p.rest

-- a call gave the first piece that was left, or `None` where none was left, and then none is; the separator stays
abbrev pub GivesFirst : Pieces → Option (Bor (List ℕ)) → Pieces → Type 0
GivesFirst p r q = YieldsFirstRef left_in p r q × (q.separator ≡ p.separator)
