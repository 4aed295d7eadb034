use Rattle.std.proofs.Common.{Err, sym, ap, ◌∙◌, arith}
use Rattle.portfolio_lines.proofs.Counts.{by_places, line-by-places, place-fits}
use Rattle.portfolio_lines.proofs.Places.{row-refuses}
use Rattle.portfolio_lines.proofs.row.read_row.Goals as goal

pub misread-requires : goal.misread-requires
misread-requires g c = omega (arith, place-fits g.row.K c.args.line.now c.in-Err.error (sym c.in-Err.ensures.value))

pub returns-in-Ok-clause-value : goal.returns-in-Ok-clause-value
returns-in-Ok-clause-value g c = ap (by_places g.row.K) c.in-Ok.ensures.value ∙ sym (line-by-places g.row.K c.args.line.now)

pub returns-in-Err-clause-value : goal.returns-in-Err-clause-value
returns-in-Err-clause-value g c = ap Err c.misread.ensures ∙ ap (by_places g.row.K) c.in-Err.ensures.value ∙ sym (line-by-places g.row.K c.args.line.now)

pub returns-in-Ok-clause-refuses : goal.returns-in-Ok-clause-refuses
returns-in-Ok-clause-refuses g c = row-refuses g.row.K c.args.line.now _ (returns-in-Ok-clause-value g c)

pub returns-in-Err-clause-refuses : goal.returns-in-Err-clause-refuses
returns-in-Err-clause-refuses g c = row-refuses g.row.K c.args.line.now _ (returns-in-Err-clause-value g c)
