use Rattle.std.proofs.Common.{rules, ◌≡◌, ◌≤◌, length, true, false}
use Rattle.std.proofs.lemmas.Iterator.{YieldsList-from_slice, IsFirst-from_position}
use Rattle.operations.specs.Items.{acceptable, most_items}
use Rattle.operations.proofs.Causes.{refused-for, refusal-from-first}
use Rattle.operations.proofs.work.checked.Goals as goal

pub returns-in-Some-clause-value : goal.returns-in-Some-clause-value
returns-in-Some-clause-value c =
    let first = IsFirst-from_position _ _ _ (λ x. acceptable x ≡ false) (λ x. acceptable x ≡ true) c.position.ensures.ran (YieldsList-from_slice c.args.items.now c.iter.ensures.rest) (λ x q k. search rules) (λ x q k. search rules) in
    let few : length c.args.items.now ≤ most_items = search rules in
    let refusal = refusal-from-first c.args.items.now c.position.result few first in
    search rules

pub returns-in-None-clause-value : goal.returns-in-None-clause-value
returns-in-None-clause-value c =
    let first = IsFirst-from_position _ _ _ (λ x. acceptable x ≡ false) (λ x. acceptable x ≡ true) c.position.ensures.ran (YieldsList-from_slice c.args.items.now c.iter.ensures.rest) (λ x q k. search rules) (λ x q k. search rules) in
    let few : length c.args.items.now ≤ most_items = search rules in
    let refusal = refusal-from-first c.args.items.now c.position.result few first in
    search rules

pub returns-in-Some-clause-cause : goal.returns-in-Some-clause-cause
returns-in-Some-clause-cause c = refused-for c.args.items.now _ (returns-in-Some-clause-value c)
