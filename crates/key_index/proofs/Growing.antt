-- One key more: the chain of its bucket leads on to it, and every other chain stays.
use Rattle.std.proofs.Common.{◌≡◌, ℕ, zero, suc, ◌+◌, ◌-◌, ◌<◌, ◌≤◌, Bool, true, false, cond, List, [], ◌∷◌, ◌++◌, length, get_or, set, drop, Some, None, Option, sym, refl, ap, ◌∙◌, ⊎_elim, arith}
use Rattle.std.proofs.lemmas.List.{length-map, length_push, get_or_push, get_or_append_left, get_or-drop, length-drop, drop-append-le, get_or-set_same, get_or-set_other, set-get_or, length-set, map-set, map_push}
use Rattle.std.proofs.Math.ListN.{get_or-map, drop_of_length-le}
use Rattle.std.proofs.lemmas.Bool.{eq-eqb, eqb-true, ne_eqb, cond-true, cond-false, true≢false, cases_lt, cases_eq}
use Rattle.std.proofs.lemmas.Option.{none-some, same_Some}
use Rattle.std.specs.Option.{option_or}
use Rattle.key_index.specs.Buckets.{bucket_count, bucket_of, is_in, keys_of, link_at, Chained, later, last_in, FirstsOf, LastsOf, led_on}
use Rattle.std.specs.List.{position_from}
use Rattle.key_index.specs.declared.Link.{Link}
use Rattle.key_index.proofs.Firsts.{first-here}

or_none : (o : Option ℕ) → option_or o None ≡ o
or_none None = refl
or_none (Some p) = refl

-- ---- the first place that passes a test

pub first-push : (test : ℕ → Bool) (n : ℕ) (ks : List ℕ) (k : ℕ) → position_from test n (ks ++ k ∷ []) ≡ option_or (position_from test n ks) (cond (test k) (Some (n + length ks)) None)
first-push test n [] k =
    let e : n ≡ n + 0 = omega arith in
    ap (λ m. cond (test k) (Some m) None) e
first-push test n (x ∷ ks) k = by (test x) (first-push test (n + 1) ks k)
  where
    by : (t : Bool) → position_from test (n + 1) (ks ++ k ∷ []) ≡ option_or (position_from test (n + 1) ks) (cond (test k) (Some (n + 1 + length ks)) None)
        → cond t (Some n) (position_from test (n + 1) (ks ++ k ∷ [])) ≡ option_or (cond t (Some n) (position_from test (n + 1) ks)) (cond (test k) (Some (n + suc (length ks))) None)
    by true further = refl
    by false further =
        let e : n + 1 + length ks ≡ n + suc (length ks) = omega arith in
        further ∙ ap (λ m. option_or (position_from test (n + 1) ks) (cond (test k) (Some m) None)) e

pub first-none : (test : ℕ → Bool) (n : ℕ) (ks : List ℕ) → ((i : ℕ) → i < length ks → test (get_or ks i 0) ≡ false) → position_from test n ks ≡ None
first-none test n [] fails = refl
first-none test n (k ∷ ks) fails = cond-false (test k) (Some n) (position_from test (n + 1) ks) (fails 0 (omega arith)) ∙ first-none test (n + 1) ks (λ i h. fails (suc i) (omega (arith, h)))

-- where one passes, another is never taken in its place
pub first-kept : (test : ℕ → Bool) (n : ℕ) (ks : List ℕ) (i : ℕ) → i < length ks → test (get_or ks i 0) ≡ true → (o : Option ℕ) → option_or (position_from test n ks) o ≡ position_from test n ks
first-kept test n [] i h passes o = absurd (omega arith)
first-kept test n (k ∷ ks) zero h passes o =
    let here : position_from test n (k ∷ ks) ≡ Some n = first-here test n k ks passes in
    ap (λ f. option_or f o) here ∙ sym here
first-kept test n (k ∷ ks) (suc i) h passes o = by (test k) (first-kept test (n + 1) ks i (omega (arith, h)) passes o)
  where
    by : (t : Bool) → option_or (position_from test (n + 1) ks) o ≡ position_from test (n + 1) ks → option_or (cond t (Some n) (position_from test (n + 1) ks)) o ≡ cond t (Some n) (position_from test (n + 1) ks)
    by true further = refl
    by false further = further

-- ---- the last place of a bucket

pub last-push : (b : ℕ) (ks : List ℕ) (k : ℕ) → last_in b (ks ++ k ∷ []) ≡ cond (is_in b k) (Some (length ks)) (last_in b ks)
unfolding last_in
last-push b [] k = refl
last-push b (x ∷ ks) k = ap (λ o. later o (cond (is_in b x) (Some 0) None)) (last-push b ks k) ∙ by (is_in b k)
  where
    by : (t : Bool) → later (cond t (Some (length ks)) (last_in b ks)) (cond (is_in b x) (Some 0) None) ≡ cond t (Some (suc (length ks))) (later (last_in b ks) (cond (is_in b x) (Some 0) None))
    by true = refl
    by false = refl

later-none : (o r : Option ℕ) → later o r ≡ None → (o ≡ None) × (r ≡ None)
later-none None r e = (refl, e)
later-none (Some n) r e = absurd (none-some (suc n) (sym e))

cond-none : (t : Bool) → ◌≡◌ {A = Option ℕ} (cond t (Some 0) None) None → t ≡ false
cond-none true e = absurd (none-some 0 (sym e))
cond-none false e = refl

pub last-none : (b : ℕ) (ks : List ℕ) → last_in b ks ≡ None → (i : ℕ) → i < length ks → is_in b (get_or ks i 0) ≡ false
unfolding last_in
last-none b [] e i h = absurd (omega arith)
last-none b (k ∷ ks) e zero h = cond-none (is_in b k) (later-none (last_in b ks) (cond (is_in b k) (Some 0) None) e).1
last-none b (k ∷ ks) e (suc i) h = last-none b ks (later-none (last_in b ks) (cond (is_in b k) (Some 0) None) e).0 i (omega (arith, h))

-- it is in the bucket, and none after it is
pub record IsLast (b : ℕ) (ks : List ℕ) (l : ℕ) : Type 0 where
  pub within : l < length ks
  pub has : is_in b (get_or ks l 0) ≡ true
  pub none_after : (i : ℕ) → l < i → i < length ks → is_in b (get_or ks i 0) ≡ false

pub last-some : (b : ℕ) (ks : List ℕ) (l : ℕ) → last_in b ks ≡ Some l → IsLast b ks l
unfolding last_in
last-some b [] l e = absurd (none-some l e)
last-some b (k ∷ ks) l e = by (last_in b ks) refl (last-some b ks) (last-none b ks) (is_in b k) refl e
  where
    by : (o : Option ℕ) → last_in b ks ≡ o → ((m : ℕ) → last_in b ks ≡ Some m → IsLast b ks m) → (last_in b ks ≡ None → (i : ℕ) → i < length ks → is_in b (get_or ks i 0) ≡ false)
        → (t : Bool) → is_in b k ≡ t → later o (cond t (Some 0) None) ≡ Some l → IsLast b (k ∷ ks) l
    by (Some m) is further none t here e =
        let last = further m is in
        let at : l ≡ suc m = same_Some l (suc m) (sym e) in
        rw at (record {
          within = omega (arith, last.within);
          has = last.has;
          none_after = λ i after h. past last i after h;
        })
      where
        past : IsLast b ks m → (i : ℕ) → suc m < i → i < suc (length ks) → is_in b (get_or (k ∷ ks) i 0) ≡ false
        past last zero after h = absurd (omega arith)
        past last (suc i) after h = last.none_after i (omega (arith, after)) (omega (arith, h))
    by None is further none true here e =
        let at : l ≡ 0 = same_Some l 0 (sym e) in
        rw at (record {
          within = omega arith;
          has = here;
          none_after = λ i after h. past i after h;
        })
      where
        past : (i : ℕ) → 0 < i → i < suc (length ks) → is_in b (get_or (k ∷ ks) i 0) ≡ false
        past zero after h = absurd (omega arith)
        past (suc i) after h = none is i (omega (arith, h))
    by None is further none false here e = absurd (none-some l e)

-- ---- one link leads on

pub keys-led_on : (o : Option ℕ) (to : ℕ) (links : List Link) → keys_of (led_on o to links) ≡ keys_of links
keys-led_on None to links = refl
keys-led_on (Some l) to links =
    map-set (λ x. x.key) links l (record { key = (link_at links l).key; next = Some to })
    ∙ ap (set (keys_of links) l) (sym (get_or-map (λ x. x.key) links l (record { key = 0; next = None })))
    ∙ set-get_or (keys_of links) l 0

length-led_on : (o : Option ℕ) (to : ℕ) (links : List Link) → length (led_on o to links) ≡ length links
length-led_on None to links = refl
length-led_on (Some l) to links = length-set links l _

-- ---- a key is added

module _ (links : List Link) (chained : Chained links) (key : ℕ) where
  abbrev keys : List ℕ
  keys = keys_of links

  abbrev bucket : ℕ
  bucket = bucket_of key

  abbrev new : Link
  new = record { key = key; next = None }

  -- the links afterwards, where the last place of the bucket is o
  abbrev pub grown : Option ℕ → List Link
  grown o = led_on o (length links) links ++ new ∷ []

  -- what a push to a table that is not full makes of them
  pub pushed : (o : Option ℕ) (n : ℕ) (led now : List Link) → n ≡ length links → led ≡ led_on o n links → now ≡ led ++ new ∷ [] → now ≡ grown o
  pushed o n led now long is e = e ∙ ap (λ ls. ls ++ new ∷ []) (is ∙ ap (λ m. led_on o m links) long)

  pub keys-grown : (o : Option ℕ) → keys_of (grown o) ≡ keys ++ key ∷ []
  keys-grown o = map_push (λ l. l.key) (led_on o (length links) links) new ∙ ap (λ ks. ks ++ key ∷ []) (keys-led_on o (length links) links)

  module _ (i : ℕ) (h : i < length links) where
    abbrev ahead : List ℕ
    ahead = drop (i + 1) keys

    abbrev test : ℕ → Bool
    test = is_in (bucket_of (link_at links i).key)

    key-here : get_or keys i 0 ≡ (link_at links i).key
    key-here = get_or-map (λ l. l.key) links i (record { key = 0; next = None })

    ahead-grown : drop (i + 1) (keys ++ key ∷ []) ≡ ahead ++ key ∷ []
    ahead-grown = drop-append-le (i + 1) keys (key ∷ []) (omega (arith, h, length-map links (λ l. l.key)))

    ahead-long : i + 1 + length ahead ≡ length links
    ahead-long = omega (arith, h, length-drop (i + 1) keys, length-map links (λ l. l.key))

    first-grown : position_from test (i + 1) (drop (i + 1) (keys ++ key ∷ [])) ≡ option_or (position_from test (i + 1) ahead) (cond (test key) (Some (length links)) None)
    first-grown =
        ap (position_from test (i + 1)) ahead-grown
        ∙ first-push test (i + 1) ahead key
        ∙ ap (λ n. option_or (position_from test (i + 1) ahead) (cond (test key) (Some n) None)) ahead-long

    -- a link of another bucket, or before another key of this bucket, stays
    stays : ((test key ≡ true → option_or (position_from test (i + 1) ahead) (Some (length links)) ≡ position_from test (i + 1) ahead)) → (link_at links i).next ≡ position_from test (i + 1) (drop (i + 1) (keys ++ key ∷ []))
    stays same = chained i h ∙ sym (first-grown ∙ by (test key) refl)
      where
        by : (t : Bool) → test key ≡ t → option_or (position_from test (i + 1) ahead) (cond t (Some (length links)) None) ≡ position_from test (i + 1) ahead
        by true e = same e
        by false e = or_none (position_from test (i + 1) ahead)

  other-bucket : (i : ℕ) (h : i < length links) → is_in bucket (get_or keys i 0) ≡ false → is_in (bucket_of (link_at links i).key) key ≡ true → ⊥
  other-bucket i h outside e =
      let same : bucket_of (get_or keys i 0) ≡ bucket = ap bucket_of (key-here i h) ∙ sym (eqb-true bucket (bucket_of (link_at links i).key) e) in
      true≢false (sym (eq-eqb (bucket_of (get_or keys i 0)) bucket same) ∙ outside)

  own-bucket : (i : ℕ) (h : i < length links) → is_in bucket (get_or keys i 0) ≡ true → bucket_of (link_at links i).key ≡ bucket
  own-bucket i h e = sym (ap bucket_of (key-here i h)) ∙ eqb-true (bucket_of (get_or keys i 0)) bucket e

  -- the last link of the bucket leads on to the new key
  last-link : (l : ℕ) (h : l < length links) → IsLast bucket keys l → Some (length links) ≡ position_from (is_in (bucket_of (link_at links l).key)) (l + 1) (drop (l + 1) (keys ++ key ∷ []))
  last-link l h last = sym (
      first-grown l h
      ∙ ap (λ b. option_or (position_from (is_in b) (l + 1) (ahead l h)) (cond (is_in b key) (Some (length links)) None)) (own-bucket l h last.has)
      ∙ ap (λ o. option_or o (cond (is_in bucket key) (Some (length links)) None)) nothing
      ∙ cond-true (is_in bucket key) (Some (length links)) None (eq-eqb bucket bucket refl)
      )
    where
      nothing : position_from (is_in bucket) (l + 1) (ahead l h) ≡ None
      nothing = first-none (is_in bucket) (l + 1) (ahead l h) (λ j within.
          ap (is_in bucket) (get_or-drop (l + 1) keys j 0)
          ∙ last.none_after (l + 1 + j) (omega arith) (omega (arith, within, length-drop (l + 1) keys)))

  -- an earlier link of the bucket leads on to an earlier key
  earlier-link : (l : ℕ) → IsLast bucket keys l → (i : ℕ) (h : i < length links) → (i ≡ l → ⊥) → is_in (bucket_of (link_at links i).key) key ≡ true
      → option_or (position_from (is_in (bucket_of (link_at links i).key)) (i + 1) (ahead i h)) (Some (length links)) ≡ position_from (is_in (bucket_of (link_at links i).key)) (i + 1) (ahead i h)
  earlier-link l last i h other e =
      let same : bucket ≡ bucket_of (link_at links i).key = eqb-true bucket (bucket_of (link_at links i).key) e in
      let has : is_in bucket (get_or keys i 0) ≡ true = eq-eqb (bucket_of (get_or keys i 0)) bucket (ap bucket_of (key-here i h) ∙ sym same) in
      let before : i < l = ⊎_elim (λ below. below) (λ past. absurd (true≢false (sym has ∙ last.none_after i (past-other l i past other) (omega (arith, h, length-map links (λ l. l.key)))))) (cases_lt i l) in
      let at : i + 1 + (l - (i + 1)) ≡ l = omega (arith, before) in
      first-kept (is_in (bucket_of (link_at links i).key)) (i + 1) (ahead i h) (l - (i + 1)) (omega (arith, before, last.within, length-drop (i + 1) keys))
      (ap (is_in (bucket_of (link_at links i).key)) (get_or-drop (i + 1) keys (l - (i + 1)) 0 ∙ ap (λ j. get_or keys j 0) at)
      ∙ ap (λ b. is_in b (get_or keys l 0)) (sym same)
      ∙ last.has)
      (Some (length links))
    where
      past-other : (l i : ℕ) → l ≤ i → (i ≡ l → ⊥) → l < i
      past-other l i past other = ⊎_elim (λ h. h) (λ h. absurd (other (omega (arith, h, past)))) (cases_lt l i)

  -- what a link of the old list says, whatever the last place of the bucket is
  old-link : (o : Option ℕ) → last_in bucket keys ≡ o → (i : ℕ) (h : i < length links) → (link_at (led_on o (length links) links) i).next ≡ position_from (is_in (bucket_of (link_at links i).key)) (i + 1) (drop (i + 1) (keys ++ key ∷ []))
  old-link None is i h =
      stays i h (λ e. absurd (other-bucket i h (last-none bucket keys is i (omega (arith, h, length-map links (λ l. l.key)))) e))
  old-link (Some l) is i h =
      ⊎_elim
      (λ at. let there : l < length links = omega (arith, at, h) in
      rw at (ap (λ x. x.next) (get_or-set_same links l (record { key = (link_at links l).key; next = Some (length links) }) (record { key = 0; next = None }) there) ∙ last-link l there (last-some bucket keys l is)))
      (λ other. ap (λ x. x.next) (get_or-set_other links l i (record { key = (link_at links l).key; next = Some (length links) }) (record { key = 0; next = None }) other)
      ∙ stays i h (earlier-link l (last-some bucket keys l is) i h other))
      (cases_eq i l)

  key-old : (o : Option ℕ) (i : ℕ) → (link_at (led_on o (length links) links) i).key ≡ (link_at links i).key
  key-old o i =
      sym (get_or-map (λ l. l.key) (led_on o (length links) links) i (record { key = 0; next = None }))
      ∙ ap (λ ks. get_or ks i 0) (keys-led_on o (length links) links)
      ∙ get_or-map (λ l. l.key) links i (record { key = 0; next = None })

  pub chained-grown : (o : Option ℕ) → last_in bucket keys ≡ o → Chained (grown o)
  chained-grown o is i h =
      ⊎_elim
      (λ old. let link = get_or_append_left (led_on o (length links) links) (new ∷ []) (record { key = 0; next = None }) i (omega (arith, old, length-led_on o (length links) links)) in
      ap (λ l. l.next) link
      ∙ old-link o is i old
      ∙ ap (λ k. position_from (is_in (bucket_of k)) (i + 1) (drop (i + 1) (keys ++ key ∷ []))) (sym (ap (λ l. l.key) link ∙ key-old o i))
      ∙ ap (λ ks. position_from (is_in (bucket_of (link_at (grown o) i).key)) (i + 1) (drop (i + 1) ks)) (sym (keys-grown o)))
      (λ end. let long : length (grown o) ≡ length links + 1 = length_push (led_on o (length links) links) new ∙ ap (λ n. n + 1) (length-led_on o (length links) links) in
      let link = get_or_push (led_on o (length links) links) new (record { key = 0; next = None }) i (omega (arith, end, h, long, length-led_on o (length links) links)) in
      ap (λ l. l.next) link
      ∙ sym (ap (position_from (is_in (bucket_of (link_at (grown o) i).key)) (i + 1)) (drop_of_length-le (keys_of (grown o)) {i = i + 1} (omega (arith, end, long, length-map (grown o) (λ l. l.key))))))
      (cases_lt i (length links))

  module _ (o : Option ℕ) (within : bucket < bucket_count) where
    pub firsts-grown : (firsts : List (Option ℕ)) → FirstsOf links firsts → FirstsOf (grown o) (set firsts bucket (option_or (get_or firsts bucket None) (Some (length links))))
    firsts-grown firsts old = (length-set firsts bucket _ ∙ old.0, λ b h. now b h ∙ sym (ap (position_from (is_in b) 0) (keys-grown o) ∙ first-push (is_in b) 0 keys key))
      where
        own : position_from (is_in bucket) 0 keys ≡ get_or firsts bucket None
        own = sym (old.1 bucket within)

        end : 0 + length keys ≡ length links
        end = omega (arith, length-map links (λ l. l.key))

        now : (b : ℕ) → b < bucket_count → get_or (set firsts bucket (option_or (get_or firsts bucket None) (Some (length links)))) b None ≡ option_or (position_from (is_in b) 0 keys) (cond (is_in b key) (Some (0 + length keys)) None)
        now b h =
            ⊎_elim
            (λ same. rw same (
            get_or-set_same firsts bucket _ None (omega (arith, within, old.0))
            ∙ ap (λ f. option_or f (Some (length links))) (sym own)
            ∙ ap (option_or (position_from (is_in bucket) 0 keys)) (ap Some (sym end) ∙ sym (cond-true (is_in bucket key) (Some (0 + length keys)) None (eq-eqb bucket bucket refl)))))
            (λ other. get_or-set_other firsts bucket b _ None other
            ∙ old.1 b h
            ∙ sym (or_none (position_from (is_in b) 0 keys))
            ∙ ap (option_or (position_from (is_in b) 0 keys)) (sym (cond-false (is_in b key) (Some (0 + length keys)) None (ne_eqb bucket b (λ e. other (sym e))))))
            (cases_eq b bucket)

    pub lasts-grown : (lasts : List (Option ℕ)) → LastsOf links lasts → LastsOf (grown o) (set lasts bucket (Some (length links)))
    lasts-grown lasts old = (length-set lasts bucket _ ∙ old.0, λ b h. now b h ∙ sym (ap (last_in b) (keys-grown o) ∙ last-push b keys key))
      where
        now : (b : ℕ) → b < bucket_count → get_or (set lasts bucket (Some (length links))) b None ≡ cond (is_in b key) (Some (length keys)) (last_in b keys)
        now b h =
            ⊎_elim
            (λ same. rw same (
            get_or-set_same lasts bucket _ None (omega (arith, within, old.0))
            ∙ ap Some (sym (length-map links (λ l. l.key)))
            ∙ sym (cond-true (is_in bucket key) (Some (length keys)) (last_in bucket keys) (eq-eqb bucket bucket refl))))
            (λ other. get_or-set_other lasts bucket b _ None other
            ∙ old.1 b h
            ∙ sym (cond-false (is_in b key) (Some (length keys)) (last_in b keys) (ne_eqb bucket b (λ e. other (sym e)))))
            (cases_eq b bucket)
