-- The keys that an index holds.
use Rattle.std.specs.Prelude.{ℕ, List}
use Rattle.key_index.specs.declared.KeyIndex.{KeyIndex}
use Rattle.key_index.specs.Buckets.{keys_of}

abbrev pub keys_in : {most : ℕ} → KeyIndex most → List ℕ
keys_in index = keys_of index.links.items
