use Rattle.std.proofs.Common.{◌≡◌, ◌<◌, Some, length, set, is_some, sym, ap, ◌∙◌}
use Rattle.std.proofs.lemmas.List.{get_or_default}
use Rattle.key_index.specs.Buckets.{link_at, led_on}
use Rattle.key_index.proofs.pushing.lead_on.Goals as goal

pub returns-in-Some-get_mut : goal.returns-in-Some-get_mut
returns-in-Some-get_mut g c =
    let rows = c.args.links.now.items in
    let there : c.in-Some.from < length rows = c.get_mut.ensures.variant.0 (ap is_some c.in-Some-get_mut.is) in
    let link : c.in-Some-get_mut.link.now ≡ link_at rows c.in-Some.from = c.in-Some-get_mut.ensures.value ∙ get_or_default rows c.in-Some.from _ _ there in
    ap (λ l. set rows c.in-Some.from (record { key = l.key; next = Some c.args.to })) link
    ∙ ap (λ o. led_on o c.args.to rows) (sym c.in-Some.is)
