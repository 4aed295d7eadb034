use Rattle.portfolio_lines.specs.Counted.{fields_left}
use Rattle.std.proofs.lemmas.Result.{err_from_is_err_and}
use Rattle.portfolio_lines.proofs.Held.{entry-wrong}
use Rattle.portfolio_lines.proofs.investee.read_entry.Goals as goal

pub returns-in_err-method : goal.returns-in_err-method
returns-in_err-method c =
    let p = err_from_is_err_and c.from_residual-in_err-method.result c.from_residual-in_err-method.ensures.1 in
    rw (p.1, p.2) (entry-wrong (fields_left c.args.fields.now) (fields_left c.numbers.new.self) _ _ c.in_ok-head.ensures c.in_err-method.ensures)
