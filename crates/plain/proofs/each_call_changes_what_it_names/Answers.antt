use Rattle.plain.proofs.EachCall.{each-call-changes}
use Rattle.plain.proofs.each_call_changes_what_it_names.Goals as goal

pub returns : goal.returns
returns c = each-call-changes
