use Rattle.std.proofs.Common.{arith}
use Rattle.lines.proofs.Numbers.{step, room, stops}
use Rattle.lines.proofs.numerals.value.Goals as goal

pub returns-then-not-is_ascii_digit : goal.returns-then-not-is_ascii_digit
returns-then-not-is_ascii_digit c = stops c.args.field.now c.loop-b.b-index (omega arith) (λ h. grind arith)

pub overflow_mul-n : goal.overflow_mul-n
overflow_mul-n c =
    let r = room c.args.field.now c.loop-b.b-index c.loop-b.n (omega arith) (omega arith) c.loop-b.invariant.0 c.loop-b.invariant.1 in
    omega arith

pub overflow_add-n : goal.overflow_add-n
overflow_add-n c =
    let r = room c.args.field.now c.loop-b.b-index c.loop-b.n (omega arith) (omega arith) c.loop-b.invariant.0 c.loop-b.invariant.1 in
    omega arith

pub loop-b-preserved : goal.loop-b-preserved
loop-b-preserved c =
    let s = step c.args.field.now c.loop-b.b-index c.loop-b.n (omega arith) (omega arith) c.loop-b.invariant.0 c.loop-b.invariant.1 c.if-not-is_ascii_digit.ensures.cases in
    (s.0, omega (arith, s.1))
