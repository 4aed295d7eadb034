use Rattle.std.proofs.Common.{◌∷◌, ap, sym, ◌∙◌, length, arith}
use Rattle.bills.proofs.Sofar.{sofar-more, sofar-wrong, sofar-last, sofar-end, some-pieces, left-some, left-none}
use Rattle.bills.proofs.reading.read_lines.Goals as goal

pub returns-then-is_empty : goal.returns-then-is_empty
returns-then-is_empty c =
    sym (sofar-last _ _ _ _ c.loop-line.invariant _ (c.in-Some.ensures.steps.0 ∙ ap (λ l. c.in-Some.line.now ∷ l) (left-none _ _ c.if-is_none.ensures)) c.if-is_empty.ensures)

pub returns-in-Err : goal.returns-in-Err
returns-in-Err c =
    sym (sofar-wrong _ _ _ _ c.loop-line.invariant _ _ c.in-Err.error c.in-Some.ensures.steps.0 (left-some _ _ c.if-is_none.ensures) c.in-Err.ensures)

pub overflow_add-number : goal.overflow_add-number
overflow_add-number c =
    omega (arith, c.requires, c.loop-line.invariant.count, ap length c.in-Some.ensures.steps.0, (some-pieces 10 c.args.text.now).1)

pub loop-line-preserved : goal.loop-line-preserved
loop-line-preserved c =
    sofar-more _ _ _ _ c.loop-line.invariant _ _ c.in-Ok.item _ c.in-Some.ensures.steps.0 (left-some _ _ c.if-is_none.ensures) c.in-Ok.ensures c.keep.ensures

pub returns : goal.returns
returns c = sym (sofar-end _ _ _ _ c.loop-line.invariant c.in_default.ensures.steps.0.0)
