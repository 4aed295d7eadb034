use Rattle.std.proofs.Common.{◌≡◌, ◌<◌, leb, Some, None, ◌∷◌, [], ◌++◌, length, get_or, set, sym, ap, ◌∙◌, arith}
use Rattle.std.proofs.lemmas.Bool.{cond-false, lt-leb}
use Rattle.std.proofs.lemmas.List.{length-map}
use Rattle.std.specs.Option.{option_or}
use Rattle.key_index.specs.Buckets.{bucket_of, bucket_count, last_in, keys_of}
use Rattle.key_index.specs.Keys.{keys_in}
use Rattle.key_index.proofs.Growing.{pushed, chained-grown, keys-grown, firsts-grown, lasts-grown}
use Rattle.key_index.proofs.KeyIndex.push.Goals as goal

pub invariant_of-self-clause-chained : goal.invariant_of-self-clause-chained
invariant_of-self-clause-chained g c =
    let index = c.args.self.now in
    let links = index.links.items in
    let now = pushed links index.chained c.args.key _ _ _ _ c.len-at.ensures.value c.lead_on.ensures c.push.ensures.items in
    let last = index.ended.1 c.bucket_of-bucket.result c.bucket_of-bucket.ensures.within ∙ ap (λ b. last_in b (keys_of links)) c.bucket_of-bucket.ensures.value in
    rw now (chained-grown links index.chained c.args.key _ (sym last))

pub invariant_of-self-clause-begun : goal.invariant_of-self-clause-begun
invariant_of-self-clause-begun g c =
    let index = c.args.self.now in
    let links = index.links.items in
    let now = pushed links index.chained c.args.key _ _ _ _ c.len-at.ensures.value c.lead_on.ensures c.push.ensures.items in
    let within : bucket_of c.args.key < bucket_count = rw (sym c.bucket_of-bucket.ensures.value) c.bucket_of-bucket.ensures.within in
    let own = c.or.ensures ∙ ap (λ n. option_or (get_or index.firsts c.bucket_of-bucket.result None) (Some n)) c.len-at.ensures.value in
    let firsts : set index.firsts c.bucket_of-bucket.result c.or.result ≡ set index.firsts (bucket_of c.args.key) (option_or (get_or index.firsts (bucket_of c.args.key) None) (Some (length links))) =
    ap (set index.firsts c.bucket_of-bucket.result) own ∙ ap (λ b. set index.firsts b (option_or (get_or index.firsts b None) (Some (length links)))) c.bucket_of-bucket.ensures.value in
    rw firsts (rw now (firsts-grown links index.chained c.args.key _ within index.firsts index.begun))

pub invariant_of-self-clause-ended : goal.invariant_of-self-clause-ended
invariant_of-self-clause-ended g c =
    let index = c.args.self.now in
    let links = index.links.items in
    let now = pushed links index.chained c.args.key _ _ _ _ c.len-at.ensures.value c.lead_on.ensures c.push.ensures.items in
    let within : bucket_of c.args.key < bucket_count = rw (sym c.bucket_of-bucket.ensures.value) c.bucket_of-bucket.ensures.within in
    let lasts : set index.lasts c.bucket_of-bucket.result (Some c.len-at.result) ≡ set index.lasts (bucket_of c.args.key) (Some (length links)) =
    ap (λ b. set index.lasts b (Some c.len-at.result)) c.bucket_of-bucket.ensures.value ∙ ap (λ n. set index.lasts (bucket_of c.args.key) (Some n)) c.len-at.ensures.value in
    rw lasts (rw now (lasts-grown links index.chained c.args.key _ within index.lasts index.ended))

pub returns-clause-keys : goal.returns-clause-keys
returns-clause-keys g c =
    let index = c.args.self.now in
    let links = index.links.items in
    let keys = keys_in index in
    let not-full = lt-leb g.row.MOST (length links) (omega (arith, c.if-at.false, c.len-at.ensures.value)) in
    let now = pushed links index.chained c.args.key _ _ _ _ c.len-at.ensures.value c.lead_on.ensures c.push.ensures.items in
    ap keys_of now
    ∙ keys-grown links index.chained c.args.key _
    ∙ sym (cond-false _ keys (keys ++ c.args.key ∷ []) (ap (leb g.row.MOST) (length-map links (λ l. l.key)) ∙ not-full))
