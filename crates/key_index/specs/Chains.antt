-- Looking for a key along the chain of its bucket.
use Rattle.std.specs.Prelude.{◌≡◌, ℕ, ◌<◌, List, length, drop, get_or, Some, None, Option, IfSome, ◌==◌}
use Rattle.key_index.specs.Buckets.{bucket_of}
use Rattle.std.specs.List.{position_from}

-- a place, if there is one, holds a key of this key's bucket
abbrev pub InChain : ℕ → List ℕ → Option ℕ → Type 0
InChain key keys from = IfSome from (λ at. (at < length keys) × (bucket_of (get_or keys at 0) ≡ bucket_of key))

-- where a key stands first from such a place on
abbrev pub found_from : ℕ → List ℕ → Option ℕ → Option ℕ
found_from key keys None = None
found_from key keys (Some at) = position_from (λ k. k == key) at (drop at keys)
