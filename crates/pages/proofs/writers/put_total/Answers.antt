use Rattle.std.proofs.Common.{[], ◌∷◌, rules}
use Rattle.lines.proofs.Writes.{wrote_then}
use Rattle.pages.proofs.Pieces.{as-handed, field}
use Rattle.pages.proofs.writers.put_total.Goals as goal

pub returns : goal.returns
returns c = wrote_then (84 ∷ 32 ∷ []) _ c.in_ok-put.ensures.wrote (as-handed (field 10) c.args.total (search rules) c.put_field.ensures)
