-- Where keys stand in a list. Places are counted from 0.
use Rattle.std.specs.Prelude.{ℕ, ◌+◌, List, [], ◌∷◌, drop, None, Option, ◌==◌}
use Rattle.std.specs.List.{position, position_from}

-- where a key stands first
abbrev pub first_place : ℕ → List ℕ → Option ℕ
first_place key keys = position (λ k. k == key) keys

-- where the key that stands at place n, the first of the list, stands next
abbrev pub again_from : ℕ → List ℕ → Option ℕ
again_from n [] = None
again_from n (k ∷ ks) = position_from (λ l. l == k) (n + 1) ks

-- where the key that stands at a place stands next; nowhere past the end
abbrev pub next_place : ℕ → List ℕ → Option ℕ
next_place at keys = again_from at (drop at keys)
