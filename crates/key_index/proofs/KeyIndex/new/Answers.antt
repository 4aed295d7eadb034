use Rattle.std.proofs.Common.{ap, length, sym, ◌∙◌, get_or, None, Option, ℕ, arith}
use Rattle.std.proofs.lemmas.List.{get_or-replicate, length-replicate}
use Rattle.key_index.specs.Buckets.{bucket_count, is_in, keys_of, last_in}
use Rattle.std.specs.List.{position_from}
use Rattle.key_index.proofs.KeyIndex.new.Goals as goal

pub invariant_of-result-clause-chained : goal.invariant_of-result-clause-chained
invariant_of-result-clause-chained g c = λ i h. absurd (omega (arith, ap length c.new.ensures))

pub invariant_of-result-clause-begun : goal.invariant_of-result-clause-begun
invariant_of-result-clause-begun g c = (ap length c.no_places.ensures ∙ length-replicate {A = Option ℕ} bucket_count None, λ b h. ap (λ ps. get_or ps b None) c.no_places.ensures ∙ get_or-replicate bucket_count b None None h ∙ sym (ap (λ ls. position_from (is_in b) 0 (keys_of ls)) c.new.ensures))

pub invariant_of-result-clause-ended : goal.invariant_of-result-clause-ended
unfolding last_in
invariant_of-result-clause-ended g c = (ap length c.no_places-2.ensures ∙ length-replicate {A = Option ℕ} bucket_count None, λ b h. ap (λ ps. get_or ps b None) c.no_places-2.ensures ∙ get_or-replicate bucket_count b None None h ∙ sym (ap (λ ls. last_in b (keys_of ls)) c.new.ensures))
