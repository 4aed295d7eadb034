use Rattle.std.proofs.Common.{[], ◌∷◌}
use Rattle.lines.proofs.Writes.{wrote_then}
use Rattle.pages.proofs.writers.put_head.Goals as goal

pub returns : goal.returns
returns c = wrote_then (70 ∷ 69 ∷ 32 ∷ []) _ c.in_ok-put.ensures.wrote c.put_field.ensures
