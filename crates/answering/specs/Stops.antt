-- The line that says where a file stops.
use Rattle.std.specs.Prelude.{ℕ, List, [], ◌∷◌, map, codes, decimal}
use Rattle.entries.specs.declared.stop.Stop.{Stop}
use Rattle.faults.specs.Refusals.{number_of}
use Rattle.pages.specs.Page.{line}

-- the line, and the fault found there: its refusal, its place and its source
abbrev pub stop_numbers : Stop → List ℕ
stop_numbers s = s.line ∷ number_of s.fault.refusal ∷ s.fault.place ∷ s.fault.source ∷ []

-- `X line refusal place source`
abbrev pub stop_line : Stop → List ℕ
stop_line s = line (codes "X" ∷ map decimal (stop_numbers s))
