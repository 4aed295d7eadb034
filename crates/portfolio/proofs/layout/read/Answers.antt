use Rattle.std.proofs.Common.{Err, arith}
use Rattle.std.proofs.lemmas.Grind.{common_steps}
use Rattle.portfolio.proofs.Laws.{accepts}
use Rattle.portfolio.proofs.Refusing.{refuses-rightly, has-one-stop}
use Rattle.portfolio.proofs.layout.read.Goals as goal

pub returns-then-bytes-gt-MOST_BYTES-clause-refused : goal.returns-then-bytes-gt-MOST_BYTES-clause-refused
returns-then-bytes-gt-MOST_BYTES-clause-refused c = refuses-rightly c.args.bytes.now (Err c.file_beyond.result) (grind (arith, common_steps))

pub returns-in_err-line-clause-refused : goal.returns-in_err-line-clause-refused
returns-in_err-line-clause-refused c = refuses-rightly c.args.bytes.now _ (grind (arith, common_steps))

pub returns-in_err-line-clause-texts : goal.returns-in_err-line-clause-texts
returns-in_err-line-clause-texts c = accepts c.args.bytes.now _ (grind (arith, common_steps))

pub returns-in_err-head-clause-refused : goal.returns-in_err-head-clause-refused
returns-in_err-head-clause-refused c = refuses-rightly c.args.bytes.now _ (grind (arith, common_steps))

pub returns-in_err-head-clause-texts : goal.returns-in_err-head-clause-texts
returns-in_err-head-clause-texts c = accepts c.args.bytes.now _ (grind (arith, common_steps))

pub returns-clause-refused : goal.returns-clause-refused
returns-clause-refused c = refuses-rightly c.args.bytes.now _ (grind (arith, common_steps))

pub returns-clause-texts : goal.returns-clause-texts
returns-clause-texts c = accepts c.args.bytes.now _ (grind (arith, common_steps))

pub returns-then-bytes-gt-MOST_BYTES-clause-stops : goal.returns-then-bytes-gt-MOST_BYTES-clause-stops
returns-then-bytes-gt-MOST_BYTES-clause-stops c = has-one-stop c.args.bytes.now

pub returns-in_err-line-clause-stops : goal.returns-in_err-line-clause-stops
returns-in_err-line-clause-stops c = has-one-stop c.args.bytes.now

pub returns-in_err-head-clause-stops : goal.returns-in_err-head-clause-stops
returns-in_err-head-clause-stops c = has-one-stop c.args.bytes.now

pub returns-clause-stops : goal.returns-clause-stops
returns-clause-stops c = has-one-stop c.args.bytes.now
