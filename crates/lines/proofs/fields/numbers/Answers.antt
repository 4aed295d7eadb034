use Rattle.std.proofs.Common.{◌∙◌, arith}
use Rattle.lines.proofs.Rows.{more}
use Rattle.lines.proofs.fields.numbers.Goals as goal

pub loop-i-preserved : goal.loop-i-preserved
loop-i-preserved g c = (
  more g.row.K 0 c.loop-i.i c.in_ok-n.field-0 _ c.loop-i.n-items _ _ _ (omega arith) c.loop-i.invariant.0 c.next_number.ensures.read c.in_ok-n.ensures.ok_part,
  c.next_number.ensures.separator ∙ c.loop-i.invariant.1,
)
