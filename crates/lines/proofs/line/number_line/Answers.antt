use Rattle.std.proofs.Common.{rules}
use Rattle.lines.proofs.Places.{refuses}
use Rattle.lines.proofs.Printed.{accepts}
use Rattle.lines.proofs.line.number_line.Goals as goal

pub returns-in_err-ns-clause-accepts : goal.returns-in_err-ns-clause-accepts
returns-in_err-ns-clause-accepts g c = λ some. accepts _ _ _ some (search rules)

pub returns-then-is_some-clause-accepts : goal.returns-then-is_some-clause-accepts
returns-then-is_some-clause-accepts g c = λ some. accepts _ _ _ some (search rules)

pub returns-clause-accepts : goal.returns-clause-accepts
returns-clause-accepts g c = λ some. accepts _ _ _ some (search rules)

pub returns-in_err-ns-clause-refuses : goal.returns-in_err-ns-clause-refuses
returns-in_err-ns-clause-refuses g c = refuses _ _ _ (search rules)

pub returns-then-is_some-clause-refuses : goal.returns-then-is_some-clause-refuses
returns-then-is_some-clause-refuses g c = refuses _ _ _ (search rules)

pub returns-clause-refuses : goal.returns-clause-refuses
returns-clause-refuses g c = refuses _ _ _ (search rules)
