-- What the layout of a file speaks of: its lines, its limits, and where it stops.
--   piece    what stands between two line feeds (10)
--   line     a piece that a line feed ends
--   stop     the number of a line, from 1, and the fault found there
use Rattle.std.specs.Prelude.{ℕ, List, [], ◌∷◌, Some, None, Option}
use Rattle.entries.specs.Stops.{stop_at}
use Rattle.entries.specs.declared.stop.Stop.{Stop}
use Rattle.faults.specs.Refusals.{fault}
use Rattle.faults.specs.declared.Refusal.TheVariants.{FieldNotAsLaidOut, FileBeyondLimits, LineMissing}

-- the first of some pieces if that is a line, and the pieces after it
abbrev pub next_line : List (List ℕ) → Option (List ℕ × List (List ℕ))
next_line [] = None
next_line (p ∷ []) = None
next_line (p ∷ q ∷ ps) = Some (p, q ∷ ps)

-- the most investees, posts and bytes of a file
abbrev pub most_investees : ℕ
most_investees = 200

abbrev pub most_posts : ℕ
most_posts = 1000

abbrev pub most_bytes : ℕ
most_bytes = 65536

-- a line is missing or not ended, or bytes stand where none may
abbrev pub missing : ℕ → Stop
missing line = stop_at line (fault LineMissing 0 0)

-- a line is wrong at the field of this place, or as a whole where that is 0
abbrev pub not_laid_out : (line place : ℕ) → Stop
not_laid_out line place = stop_at line (fault FieldNotAsLaidOut place 0)

-- the file or its first line is beyond the limits
abbrev pub beyond_limits : Stop
beyond_limits = stop_at 1 (fault FileBeyondLimits 0 0)
