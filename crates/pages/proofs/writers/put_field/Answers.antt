use Rattle.lines.proofs.Writes.{wrote_then}
use Rattle.pages.proofs.writers.put_field.Goals as goal

pub returns : goal.returns
returns g c = wrote_then (g.I.Integer.text c.args.n) _ c.in_ok-put_number.ensures.wrote c.put_byte.ensures.wrote
