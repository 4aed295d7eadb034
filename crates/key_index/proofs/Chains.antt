-- Along a chain: the key that is looked for is found, and each step goes on to a later place.
use Rattle.std.proofs.Common.{◌≡◌, ℕ, suc, ◌+◌, ◌-◌, ◌<◌, Bool, true, false, eqb, List, [], ◌∷◌, length, get_or, drop, Some, None, Option, sym, refl, ap, ◌∙◌, arith}
use Rattle.std.proofs.lemmas.List.{length-map, get_or-map, get_or-drop, length-drop, drop_more}
use Rattle.std.proofs.lemmas.Bool.{eq-eqb, eqb-true, ne_eqb, cond-true, cond-false}
use Rattle.std.proofs.lemmas.Option.{none-some, same_Some}
use Rattle.key_index.specs.Buckets.{bucket_of, is_in, keys_of, link_at, Chained}
use Rattle.key_index.specs.Chains.{InChain, found_from}
use Rattle.std.specs.List.{position_from}
use Rattle.std.proofs.lemmas.Iterator.Adapters.{position_from-zero}
use Rattle.key_index.proofs.Firsts.{first-here, first-past, seen_from, wider-first}
use Rattle.key_index.specs.Places.{first_place, again_from, next_place}
use Rattle.key_index.specs.declared.Link.{Link}

-- ---- the first place that passes a test

-- it lies in the list, and passes
pub record Stands (test : ℕ → Bool) (n : ℕ) (ks : List ℕ) (p : ℕ) : Type 0 where
  pub offset : ℕ
  pub at : p ≡ n + offset
  pub within : offset < length ks
  pub passes : test (get_or ks offset 0) ≡ true

pub first-stands : (test : ℕ → Bool) (n : ℕ) (ks : List ℕ) (p : ℕ) → position_from test n ks ≡ Some p → Stands test n ks p
first-stands test n [] p e = absurd (none-some p e)
first-stands test n (k ∷ ks) p e = by (test k) refl (first-stands test (n + 1) ks p)
  where
    by : (t : Bool) → test k ≡ t → (position_from test (n + 1) ks ≡ Some p → Stands test (n + 1) ks p) → Stands test n (k ∷ ks) p
    by true passes further = record { offset = 0; at = omega (arith, same_Some p n (sym e ∙ cond-true (test k) _ _ passes)); within = omega arith; passes = passes }
    by false fails further =
        let rest = further (sym (cond-false (test k) (Some n) (position_from test (n + 1) ks) fails) ∙ e) in
        record { offset = suc rest.offset; at = omega (arith, rest.at); within = omega (arith, rest.within); passes = rest.passes }

-- ---- a key lies in its own bucket

same-bucket : (k key : ℕ) → eqb k key ≡ true → is_in (bucket_of key) k ≡ true
same-bucket k key e = eq-eqb (bucket_of k) (bucket_of key) (ap bucket_of (eqb-true k key e))

-- so in its chain it is found as in the list
pub chain-finds : (key : ℕ) (keys : List ℕ) (n : ℕ) (ks : List ℕ) → drop n keys ≡ ks → found_from key keys (position_from (is_in (bucket_of key)) n ks) ≡ position_from (λ k. eqb k key) n ks
chain-finds key keys n ks e = seen (position_from (is_in (bucket_of key)) n ks) ∙ wider-first (λ k. eqb k key) (is_in (bucket_of key)) (λ k. same-bucket k key) keys n ks e
  where
    seen : (o : Option ℕ) → found_from key keys o ≡ seen_from (λ k. eqb k key) keys o
    seen None = refl
    seen (Some at) = refl

-- a place found among the keys from place n on, among all keys
pub in-chain : (key : ℕ) (keys : List ℕ) (n : ℕ) → InChain key keys (position_from (is_in (bucket_of key)) n (drop n keys))
in-chain key keys n = by (position_from (is_in (bucket_of key)) n (drop n keys)) refl
  where
    by : (o : Option ℕ) → position_from (is_in (bucket_of key)) n (drop n keys) ≡ o → InChain key keys o
    by None e = tt
    by (Some p) e =
        let stands = first-stands (is_in (bucket_of key)) n (drop n keys) p e in
        let place : get_or (drop n keys) stands.offset 0 ≡ get_or keys p 0 = get_or-drop n keys stands.offset 0 ∙ ap (λ i. get_or keys i 0) (sym stands.at) in
        (omega (arith, stands.at, stands.within, length-drop n keys), sym (ap bucket_of place) ∙ eqb-true _ _ stands.passes)

-- ---- one link of an index

module _ (links : List Link) (chained : Chained links) (at : ℕ) (h : at < length links) where
  abbrev keys : List ℕ
  keys = keys_of links

  abbrev link : Link
  link = link_at links at

  pub key-is : get_or keys at 0 ≡ link.key
  key-is = get_or-map (λ l. l.key) links at (record { key = 0; next = None }) 0 h

  pub keys-at : drop at keys ≡ link.key ∷ drop (at + 1) keys
  keys-at = drop_more keys at 0 (omega (arith, length-map links (λ l. l.key))) ∙ ap (λ k. k ∷ drop (at + 1) keys) key-is

  pub next-in-chain : InChain link.key keys link.next
  next-in-chain = rw (chained at h) (in-chain link.key keys (at + 1))

  -- looking on from here for the same key
  pub next-finds : found_from link.key keys link.next ≡ position_from (λ k. eqb k link.key) (at + 1) (drop (at + 1) keys)
  next-finds = ap (found_from link.key keys) (chained at h) ∙ chain-finds link.key keys (at + 1) (drop (at + 1) keys) refl

  -- so it gives where the key stands next
  pub next-place-is : found_from link.key keys link.next ≡ next_place at keys
  next-place-is = next-finds ∙ ap (again_from at) (sym keys-at)

  pub next-later : (p : ℕ) → link.next ≡ Some p → at < p
  next-later p e =
      let stands = first-stands (is_in (bucket_of link.key)) (at + 1) (drop (at + 1) keys) p (sym (chained at h) ∙ e) in
      omega (arith, stands.at)

-- ---- looking along a chain

-- the key is found from here as from the start
pub record Looking (key : ℕ) (links : List Link) (from now : Option ℕ) : Type 0 where
  pub same : found_from key (keys_of links) now ≡ found_from key (keys_of links) from
  pub in_chain : InChain key (keys_of links) now

-- how many places are left from a place on
abbrev pub left_from : ℕ → Option ℕ → ℕ
left_from long None = 0
left_from long (Some at) = long - at

module _ (key : ℕ) (links : List Link) (chained : Chained links) (from : Option ℕ) (at : ℕ) (looking : Looking key links from (Some at)) where
  pub place-within : at < length links
  place-within = omega (arith, looking.in_chain.0, length-map links (λ l. l.key))

  abbrev here : Link
  here = link_at links at

  abbrev ahead : List ℕ
  ahead = drop (at + 1) (keys_of links)

  same-chain : bucket_of here.key ≡ bucket_of key
  same-chain = ap bucket_of (sym (key-is links chained at place-within)) ∙ looking.in_chain.1

  pub found-here : here.key ≡ key → Some at ≡ found_from key (keys_of links) from
  found-here e =
      sym (first-here (λ k. eqb k key) at here.key ahead (eq-eqb here.key key e))
      ∙ ap (position_from (λ k. eqb k key) at) (sym (keys-at links chained at place-within))
      ∙ looking.same

  pub look-on : (here.key ≡ key → ⊥) → Looking key links from here.next
  look-on other =
      let on : here.next ≡ position_from (is_in (bucket_of key)) (at + 1) ahead = chained at place-within ∙ ap (λ b. position_from (is_in b) (at + 1) ahead) same-chain in
      record {
        same =
            ap (found_from key (keys_of links)) on
            ∙ chain-finds key (keys_of links) (at + 1) ahead refl
            ∙ sym (first-past (λ k. eqb k key) at here.key ahead (ne_eqb here.key key other))
            ∙ ap (position_from (λ k. eqb k key) at) (sym (keys-at links chained at place-within))
            ∙ looking.same;
        in_chain = rw on (in-chain key (keys_of links) (at + 1));
      }

  pub look-shorter : left_from (length links) here.next < left_from (length links) (Some at)
  look-shorter = by here.next refl
    where
      by : (o : Option ℕ) → here.next ≡ o → left_from (length links) o < left_from (length links) (Some at)
      by None e = omega (arith, place-within)
      by (Some p) e = omega (arith, place-within, next-later links chained at place-within p e)

-- from the first key of its bucket on, a key is looked for in the whole list
module _ (key : ℕ) (keys : List ℕ) (from : Option ℕ) (first : from ≡ position_from (is_in (bucket_of key)) 0 keys) where
  pub start-in-chain : InChain key keys from
  start-in-chain = rw first (in-chain key keys 0)

  pub start-finds : found_from key keys from ≡ first_place key keys
  start-finds = ap (found_from key keys) first ∙ chain-finds key keys 0 keys refl ∙ sym (position_from-zero (λ k. eqb k key) keys)
