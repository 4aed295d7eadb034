use Rattle.std.proofs.Common.{◌≡◌, ◌<◌, ◌∙◌, length, get_or, sym, ap, arith}
use Rattle.std.proofs.lemmas.Bool.{ltb-true}
use Rattle.std.proofs.lemmas.List.{get_or_default}
use Rattle.key_index.specs.Buckets.{keys_of, link_at}
use Rattle.key_index.specs.Chains.{found_from}
use Rattle.key_index.proofs.Chains.{next-in-chain, next-place-is}
use Rattle.key_index.proofs.KeyIndex.after.Goals as goal

pub find-requires : goal.find-requires
find-requires g c =
    let rows = c.args.self.now.links.items in
    let there : c.args.at < length rows = rw (sym c.as_slice.ensures.value) (ltb-true _ _ (sym c.in_ok-link.ensures.lookup.0)) in
    let link : c.in_ok-link.link.now ≡ link_at rows c.args.at = c.in_ok-link.ensures.lookup.1 ∙ ap (λ ls. get_or ls c.args.at c.in_ok-link.link.now) c.as_slice.ensures.value ∙ get_or_default rows c.args.at _ _ there in
    (omega arith, rw link (next-in-chain rows c.args.self.now.chained c.args.at there))

pub returns : goal.returns
returns g c =
    let rows = c.args.self.now.links.items in
    let there : c.args.at < length rows = rw (sym c.as_slice.ensures.value) (ltb-true _ _ (sym c.in_ok-link.ensures.lookup.0)) in
    let link : c.in_ok-link.link.now ≡ link_at rows c.args.at = c.in_ok-link.ensures.lookup.1 ∙ ap (λ ls. get_or ls c.args.at c.in_ok-link.link.now) c.as_slice.ensures.value ∙ get_or_default rows c.args.at _ _ there in
    let found = next-place-is rows c.args.self.now.chained c.args.at there in
    c.find.ensures ∙ ap (λ l. found_from l.key (keys_of rows) l.next) link ∙ found
