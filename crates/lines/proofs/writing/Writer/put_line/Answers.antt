use Rattle.std.proofs.Common.{[], ◌∷◌, decimal, get_or}
use Rattle.lines.proofs.NumberLines.{left-first, left_next, left_end}
use Rattle.lines.proofs.Writes.{left-more, left-stop}
use Rattle.lines.proofs.writing.Writer.put_line.Goals as goal

pub loop-n-init : goal.loop-n-init
loop-n-init c = left-first _ _ _ c.in-Some.ensures.cases.0 c.in_ok-put_number.ensures.wrote

pub returns-in_err-put_byte : goal.returns-in_err-put_byte
returns-in_err-put_byte c =
    left-stop (32 ∷ []) _ (left_next _ _ _ c.loop-n-test.true c.loop-n.invariant) c.from_residual-in_err-put_byte.ensures c.in_err-put_byte.ensures.wrote

pub returns-in_err-put_number-2 : goal.returns-in_err-put_number-2
returns-in_err-put_number-2 c =
    left-stop (decimal (get_or c.in-Some.rest.now c.loop-n.n-index 0)) _
    (left-more (32 ∷ []) _ (left_next _ _ _ c.loop-n-test.true c.loop-n.invariant) c.in_ok-put_byte.ensures.wrote)
    c.from_residual-in_err-put_number-2.ensures c.in_err-put_number-2.ensures.wrote

pub loop-n-preserved : goal.loop-n-preserved
loop-n-preserved c =
    left-more (decimal (get_or c.in-Some.rest.now c.loop-n.n-index 0)) _
    (left-more (32 ∷ []) _ (left_next _ _ _ c.loop-n-test.true c.loop-n.invariant) c.in_ok-put_byte.ensures.wrote)
    c.in_ok-put_number-2.ensures.wrote

pub returns : goal.returns
returns c = (left_end _ _ _ c.loop-n-test.false c.loop-n.invariant).completes _ _ c.put_byte-2.ensures.wrote
