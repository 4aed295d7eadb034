use Rattle.std.proofs.Common.{subst}
use Rattle.std.specs.Option.{option_to_list}
use Rattle.std.proofs.lemmas.Iterator.{YieldsList, YieldsList-from_slice}
use Rattle.std.proofs.lemmas.Iterator.Adapters.{YieldsList-from_flatten}
use Rattle.std.proofs.lemmas.Iterator.Consumers.{YieldsList-at, count_from_yields_List}
use Rattle.pages.proofs.Rows.{held-one, given-flat}
use Rattle.pages.proofs.tables.held.Goals as goal

pub returns : goal.returns
returns c =
    let flat = c.flatten.ensures in
    count_from_yields_List c.flatten.result _ c.count.ensures.ran
    (subst (YieldsList _ _ _) (given-flat c.args.accounts.now)
    (YieldsList-from_flatten _ _ (λ a. a.now) option_to_list (λ x j becomes. held-one x.now becomes.0 becomes.1)
    (YieldsList-at flat.source (YieldsList-from_slice c.args.accounts.now c.iter.ensures.rest)) flat.front flat.back flat.done))
