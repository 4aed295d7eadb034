use Rattle.std.proofs.Common.{[], ◌∷◌, subst}
use Rattle.lines.specs.Render.{number_line}
use Rattle.lines.specs.Writing.{Wrote}
use Rattle.lines.proofs.Writes.{wrote_then}
use Rattle.answering.proofs.stops.put_stop.Goals as goal

pub returns-clause-line : goal.returns-clause-line
returns-clause-line c =
    wrote_then (88 ∷ 32 ∷ []) _ c.in_ok-put.ensures.wrote
    (subst (λ ns. Wrote c.put.new.self (number_line ns) c.put_numbers.new.self c.put_numbers.result) c.stop_numbers-numbers.ensures.value c.put_numbers.ensures.wrote)
