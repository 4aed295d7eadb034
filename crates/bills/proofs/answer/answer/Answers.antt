use Rattle.std.proofs.Common.{◌∙◌}
use Rattle.bills.specs.Bills.{items_in}
use Rattle.bills.proofs.Kept.{kept-answer}
use Rattle.bills.proofs.answer.answer.Goals as goal

pub returns-in-Ok : goal.returns-in-Ok
returns-in-Ok c = c.worked.ensures ∙ kept-answer (items_in c.args.bill.now) c.in-Ok.items c.in-Ok.ensures
