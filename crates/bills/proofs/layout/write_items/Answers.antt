use Rattle.std.proofs.Common.{◌+◌, ◌++◌, rules, sym, ap, ◌∙◌, append_assoc}
use Rattle.std.proofs.Output.{has_written_append}
use Rattle.bills.proofs.Lines.{lines-more}
use Rattle.bills.proofs.layout.write_items.Goals as goal

pub loop-i-preserved : goal.loop-i-preserved
loop-i-preserved g c = λ plain.
    let so_far = c.loop-i.invariant plain in
    let line = c.in_ok-writeln.ensures.writes so_far.1.plain (search rules) in (
      _,
      has_written_append _ _ _ _ _ _ so_far.1 line,
      append_assoc so_far.0 _ _ ∙ ap (λ l. so_far.0 ++ l) (sym (lines-more (c.loop-i.i + 1) c.args.items.now c.loop-i.i _ c.loop-i-test.true)) ∙ so_far.2,
    )
