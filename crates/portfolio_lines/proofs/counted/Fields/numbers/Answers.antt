use Rattle.std.proofs.Common.{arith}
use Rattle.portfolio_lines.proofs.Counts.{numbers-count, numbers-wrong, numbers-read, numbers-refused}
use Rattle.portfolio_lines.proofs.counted.Fields.numbers.Goals as goal

-- as many fields fewer as were read
pub invariant_of-self : goal.invariant_of-self
invariant_of-self g c = record { countable = omega (arith, numbers-count g.row.K _ _ c.in-Ok.ensures.read, c.args.self.now.countable) }

pub overflow_cast-self : goal.overflow_cast-self
overflow_cast-self g c = omega (arith, numbers-count g.row.K _ _ c.in-Ok.ensures.read, c.args.self.now.countable)

pub overflow_add-self : goal.overflow_add-self
overflow_add-self g c = omega (arith, numbers-count g.row.K _ _ c.in-Ok.ensures.read, c.args.self.now.countable)

pub overflow_cast-result : goal.overflow_cast-result
overflow_cast-result g c = omega (arith, numbers-wrong g.row.K _ _ c.in-Err.ensures.read, c.args.self.now.countable)

pub overflow_add-result : goal.overflow_add-result
overflow_add-result g c = omega (arith, numbers-wrong g.row.K _ _ c.in-Err.ensures.read, c.args.self.now.countable)

pub returns-in-Ok : goal.returns-in-Ok
returns-in-Ok g c = numbers-read g.row.K c.args.self.now.place _ _ c.in-Ok.ensures.read

pub returns-in-Err : goal.returns-in-Err
returns-in-Err g c = numbers-refused g.row.K c.args.self.now.place _ _ c.in-Err.ensures.read
