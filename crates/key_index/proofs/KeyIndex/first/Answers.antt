use Rattle.std.proofs.Common.{◌≡◌, ◌∙◌, None, Option, ℕ, slice_index_or, ap, arith}
use Rattle.key_index.specs.Buckets.{is_in, bucket_of}
use Rattle.key_index.specs.Keys.{keys_in}
use Rattle.std.specs.List.{position_from}
use Rattle.key_index.proofs.Chains.{start-in-chain, start-finds}
use Rattle.key_index.proofs.KeyIndex.first.Goals as goal

pub find-requires : goal.find-requires
find-requires g c =
    let keys = keys_in c.args.self.now in
    let first : ◌≡◌ {A = Option ℕ} (slice_index_or c.args.self.now.firsts c.bucket_of.result None) (position_from (is_in (bucket_of c.args.key)) 0 keys) =
    c.args.self.now.begun.1 c.bucket_of.result c.bucket_of.ensures.within ∙ ap (λ b. position_from (is_in b) 0 keys) c.bucket_of.ensures.value in
    (omega arith, start-in-chain c.args.key keys _ first)

pub returns : goal.returns
returns g c =
    let keys = keys_in c.args.self.now in
    let first : ◌≡◌ {A = Option ℕ} (slice_index_or c.args.self.now.firsts c.bucket_of.result None) (position_from (is_in (bucket_of c.args.key)) 0 keys) =
    c.args.self.now.begun.1 c.bucket_of.result c.bucket_of.ensures.within ∙ ap (λ b. position_from (is_in b) 0 keys) c.bucket_of.ensures.value in
    c.find.ensures ∙ start-finds c.args.key keys _ first
