use Rattle.std.proofs.Common.{subst}
use Rattle.std.specs.Option.{option_to_list}
use Rattle.std.proofs.lemmas.Iterator.{YieldsList, YieldsList-from_slice}
use Rattle.std.proofs.lemmas.Iterator.Adapters.{YieldsList-from_flatten}
use Rattle.std.proofs.lemmas.Iterator.Consumers.{YieldsList-at}
use Rattle.lines.proofs.Writes.{left-all, left-more, left-stop, wrote_within}
use Rattle.pages.specs.Page.{account_line, given}
use Rattle.pages.proofs.Rows.{held-one, given-flat, coming-one, coming-none}
use Rattle.pages.proofs.tables.put_accounts.Goals as goal

pub loop-account-init : goal.loop-account-init
loop-account-init c =
    let flat = c.flatten-account-items.ensures in
    record {
      rest = given c.args.accounts.now;
      yields =
          YieldsList-at c.into_iter-account-iterator.ensures.into_iter_gives
          (subst (YieldsList _ _ _) (given-flat c.args.accounts.now)
          (YieldsList-from_flatten _ _ (λ a. a.now) option_to_list (λ x j becomes. held-one x.now becomes.0 becomes.1)
          (YieldsList-at flat.source (YieldsList-from_slice c.args.accounts.now c.iter.ensures.rest)) flat.front flat.back flat.done));
      left = left-all _ _;
      within = c.requires;
    }

pub returns-in_err-put_account : goal.returns-in_err-put_account
returns-in_err-put_account c =
    let one = coming-one c.loop-account.invariant c.in-Some.account _ c.in-Some.ensures.steps in
    left-stop (account_line c.in-Some.account.now) _ one.2 c.from_residual.ensures c.in_err-put_account.ensures

pub loop-account-preserved : goal.loop-account-preserved
loop-account-preserved c =
    let one = coming-one c.loop-account.invariant c.in-Some.account _ c.in-Some.ensures.steps in
    record { rest = one.0; yields = one.1; left = left-more (account_line c.in-Some.account.now) _ one.2 c.in_ok-put_account.ensures; within = wrote_within _ c.in_ok-put_account.ensures }

pub returns : goal.returns
returns c = coming-none c.loop-account.invariant _ c.in-None.ensures.steps
