use Rattle.plain.proofs.Again.{profile-again}
use Rattle.plain.proofs.Bonds.{closing-alone}
use Rattle.plain.proofs.Kept.{kept-at-first, kept-by-a-call}
use Rattle.plain.proofs.OnOne.{each-on-one}
use Rattle.plain.proofs.UnderRule.{ruled-at-first, ruled-by-a-call}
use Rattle.plain.proofs.kept_by_each_call.Goals as goal

pub returns : goal.returns
returns c = record {
  at_first = kept-at-first;
  by_a_call = kept-by-a-call;
  at_first_under_rule = ruled-at-first;
  by_a_call_under_rule = ruled-by-a-call;
  a_bond's_balances_are_closing_balances = closing-alone;
  each_position_on_one_investee = each-on-one;
  fields_describe_the_profile = profile-again;
}
