use Rattle.pages.proofs.AddUp.{page-adds-up}
use Rattle.pages.proofs.page.page.Goals as goal

pub returns-in_err-check_room-clause-adds_up : goal.returns-in_err-check_room-clause-adds_up
returns-in_err-check_room-clause-adds_up g c = page-adds-up _ _

pub returns-clause-adds_up : goal.returns-clause-adds_up
returns-clause-adds_up g c = page-adds-up _ _
