use Rattle.portfolio_lines.specs.Counted.{fields_left}
use Rattle.portfolio_lines.proofs.Terms.{Sofar}
use Rattle.portfolio_lines.proofs.methods.read_terms.Given as goal

abbrev pub invariant-loop : goal.invariant-loop
invariant-loop l = Sofar l.count l.counter (fields_left l.initial.fields) l.bill (fields_left l.fields)
