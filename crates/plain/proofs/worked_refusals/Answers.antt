use Rattle.std.proofs.Common.{sym, refl, subst, lit≤}
use Rattle.rules.specs.National.{national_tables}
use Rattle.plain.specs.Lists.{first_of, change_first}
use Rattle.plain.specs.Parts.{exposures}
use Rattle.plain.specs.Sums.{down_from}
use Rattle.plain.specs.WorkedRefusals.{DeclinedWith, posts_at_499, posts_in_a_full_book}
use Rattle.plain.proofs.WorkedRefusals.{with-posts}
use Rattle.plain.proofs.worked_refusals.Goals as goal

pub returns : goal.returns
unfolding exposures first_of change_first down_from
returns c = record {
  when_opening = refl;
  investees_held = refl;
  when_opening_at_199 = refl;
  when_opening_at_200 = refl;
  when_restating = refl;
  when_posting = refl;
  positions_held = rw (with-posts 497 (lit≤ tt), with-posts 498 (lit≤ tt)) refl;
  when_posting_at_499 = subst (λ p. DeclinedWith national_tables p posts_at_499) (sym (with-posts 497 (lit≤ tt))) refl;
  when_posting_at_500 = subst (λ p. DeclinedWith national_tables p posts_in_a_full_book) (sym (with-posts 498 (lit≤ tt))) refl;
  when_posting_on_a_bond = refl;
  when_amending = refl;
  when_amending_a_bond = refl;
  when_amending_a_lent_bond = refl;
  when_asking = refl;
  a_source's_fault_unchanged = refl;
}
