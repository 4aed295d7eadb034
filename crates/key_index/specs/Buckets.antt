-- Buckets: keys with the same remainder, chained in their order.
use Rattle.std.specs.Prelude.{◌≡◌, ℕ, suc, ◌+◌, ◌%◌, ◌<◌, Bool, cond, List, [], ◌∷◌, map, length, drop, Some, None, Option, ◌==◌, slice_index_or, slice_set}
use Rattle.std.specs.List.{position_from}
use Rattle.key_index.specs.declared.Link.{Link}

-- a prime
abbrev pub bucket_count : ℕ
bucket_count = 251

-- the bucket of a key
abbrev pub bucket_of : ℕ → ℕ
bucket_of key = key % bucket_count

-- a key is in bucket b
abbrev pub is_in : ℕ → ℕ → Bool
is_in b key = bucket_of key == b

-- the keys of some links, in their order
abbrev pub keys_of : List Link → List ℕ
keys_of links = map (λ l. l.key) links

-- the link at a place
abbrev pub link_at : List Link → ℕ → Link
link_at links i = slice_index_or links i (record { key = 0; next = None })

-- each link tells where the next key of its bucket stands
abbrev pub Chained : List Link → Type 0
Chained links = (i : ℕ) → i < length links → (link_at links i).next ≡ position_from (is_in (bucket_of (link_at links i).key)) (i + 1) (drop (i + 1) (keys_of links))

-- a place counted from one key further to the front, or else another
abbrev pub later : Option ℕ → Option ℕ → Option ℕ
later (Some n) o = Some (suc n)
later None o = o

-- the place of the last key of bucket b
unfoldable pub last_in : ℕ → List ℕ → Option ℕ
last_in b [] = None
last_in b (k ∷ ks) = later (last_in b ks) (cond (is_in b k) (Some 0) None)

-- the first places of all buckets
abbrev pub FirstsOf : List Link → List (Option ℕ) → Type 0
FirstsOf links firsts = (length firsts ≡ bucket_count) × ((b : ℕ) → b < bucket_count → slice_index_or firsts b None ≡ position_from (is_in b) 0 (keys_of links))

-- the last places of all buckets
abbrev pub LastsOf : List Link → List (Option ℕ) → Type 0
LastsOf links lasts = (length lasts ≡ bucket_count) × ((b : ℕ) → b < bucket_count → slice_index_or lasts b None ≡ last_in b (keys_of links))

-- the link at a place, if there is one, leads on to another place
abbrev pub led_on : Option ℕ → ℕ → List Link → List Link
led_on None to links = links
led_on (Some from) to links = slice_set links from (record { key = (link_at links from).key; next = Some to })
