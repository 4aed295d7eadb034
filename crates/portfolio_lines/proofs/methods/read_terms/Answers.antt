use Rattle.std.proofs.Common.{ap, arith}
use Rattle.std.proofs.lemmas.Result.{err_from_is_err_and}
use Rattle.portfolio_lines.specs.Counted.{fields_left}
use Rattle.portfolio_lines.specs.Methods.{held_bill}
use Rattle.portfolio_lines.proofs.Terms.{sofar-more, sofar-wrong}
use Rattle.portfolio_lines.proofs.methods.read_terms.Goals as goal

pub loop-preserved : goal.loop-preserved
loop-preserved c =
    sofar-more c.args.count c.loop.counter (fields_left c.args.fields.now) c.loop.bill c.add.new.self (fields_left c.loop.fields) (fields_left c.numbers.new.self) _ (omega arith) c.loop.invariant c.in_ok-row.ensures c.add.ensures.bill

pub returns-in_err-row : goal.returns-in_err-row
returns-in_err-row c =
    let p = err_from_is_err_and c.from_residual.result c.from_residual.ensures.1 in
    rw (p.1, p.2) (ap held_bill (sofar-wrong c.args.count c.loop.counter (fields_left c.args.fields.now) c.loop.bill (fields_left c.loop.fields) _ c.loop-test.true c.loop.invariant c.in_err-row.ensures))
