-- What a post and an amendment do to the exposure of their investee.
use Rattle.std.proofs.Common.{◌≡◌, ℕ, ◌+◌, ◌-◌, ◌*◌, ◌<◌, ◌≤◌, Bool, true, false, cond, not, ◌&&◌, eqb, List, [], ◌∷◌, ◌++◌, map, length, length-set, get_or, set, is_some, Some, None, sum_by, Option, unwrap_or, sym, refl, ap, ◌∙◌, ⊎_elim, arith}
use Rattle.std.specs.List.{AllByRecursion}
use Rattle.std.proofs.lemmas.List.{get_or-set_same, get_or-replicate}
use Rattle.std.proofs.lemmas.List.Sums.{sum_by-set, sum_by_push}
use Rattle.std.proofs.lemmas.Bool.{eq-eqb, eqb-true, and_parts, and_from, not-false, cond-true, cond-false, cases_lt}
use Rattle.rules.specs.Months.{months}
use Rattle.rules.specs.declared.kinds.Kind.{Kind}
use Rattle.plain.specs.Changes.{with_position, amended, posted}
use Rattle.plain.specs.Exposures.{is_bond, closing_of, exposure_of, lent_by, positions_on}
use Rattle.plain.specs.Lists.{first_of}
use Rattle.plain.specs.Parts.{exposures}
use Rattle.plain.specs.PlainBook.{PlainPosition, is_of, position_of, new_position, balance_of, with_balance, posted_in, is_posted}
use Rattle.plain.proofs.Exposures.{adds, exposures-sum}
use Rattle.plain.proofs.Lists.{place_of, first_passes, first-all, first-at, first_past, none_passes, change-at}
use Rattle.positions.specs.Entries.{balance_in}
use Rattle.book.specs.Entries.{counted}

first-last : {X : Type 0} (test : X → Bool) (xs : List X) (y : X) → AllByRecursion (λ x. test x ≡ false) xs → test y ≡ true → first_of test (xs ++ y ∷ []) ≡ Some y
unfolding first_of
first-last test [] y none here = cond-true (test y) (Some y) None here
first-last test (x ∷ xs) y none here = cond-false (test x) (Some x) (first_of test (xs ++ y ∷ [])) none.0 ∙ first-last test xs y none.1 here

-- ---- one position's exposure

pub posted-alike : (m : ℕ) (o : Option PlainPosition) → is_some (balance_in m o) ≡ posted_in m o
posted-alike m None = refl
posted-alike m (Some q) = refl

pub none-counts : (kind : Kind) → counted kind 0 ≡ 0
none-counts kind = by (is_bond kind)
  where
    by : (bond : Bool) → cond bond (months * 0) 0 ≡ 0
    by true = refl
    by false = refl

-- a month of the year, the last for a bond, goes from one balance to another
exposure-moved : (kind : Kind) (q : PlainPosition) (m v : ℕ) → length q.balances ≡ months → 1 ≤ m → m ≤ months → (is_bond kind && not (eqb m months)) ≡ false
    → exposure_of kind (with_balance m v q) + counted kind (unwrap_or (balance_of m q) 0) ≡ exposure_of kind q + counted kind v
exposure-moved kind q m v long low high closing = by (is_bond kind) closing
  where
    short : m - 1 < length q.balances
    short = omega arith

    by : (bond : Bool) → (bond && not (eqb m months)) ≡ false
        → cond bond (length (set q.balances (m - 1) (Some v)) * closing_of (with_balance m v q)) (sum_by (λ n. unwrap_or n 0) (set q.balances (m - 1) (Some v))) + cond bond (months * unwrap_or (balance_of m q) 0) (unwrap_or (balance_of m q) 0)
        ≡ cond bond (length q.balances * closing_of q) (sum_by (λ n. unwrap_or n 0) q.balances) + cond bond (months * v) v
    by true e =
        let last : m ≡ months = eqb-true m months (not-false (eqb m months) e) in
        let at_end : length (set q.balances (m - 1) (Some v)) ≡ m = length-set q.balances (m - 1) (Some v) ∙ long ∙ sym last in
        let counts : length (with_balance m v q).balances ≡ months = at_end ∙ last in
        let new : closing_of (with_balance m v q) ≡ v = ap (λ n. unwrap_or (get_or (set q.balances (m - 1) (Some v)) (n - 1) None) 0) at_end ∙ ap (λ n. unwrap_or n 0) (get_or-set_same q.balances (m - 1) (Some v) None short) in
        let old : unwrap_or (balance_of m q) 0 ≡ closing_of q = ap (λ n. unwrap_or (balance_of n q) 0) (last ∙ sym long) in
        let was : length q.balances * closing_of q ≡ months * closing_of q = ap (λ n. n * closing_of q) long in
        let is : length (set q.balances (m - 1) (Some v)) * closing_of (with_balance m v q) ≡ months * closing_of (with_balance m v q) = ap (λ n. n * closing_of (with_balance m v q)) counts in
        omega (arith, new, old, was, is)
    by false e = sum_by-set (λ n. unwrap_or n 0) q.balances (m - 1) (Some v) None short

-- ---- all exposures to the investee

module _ (kind : Kind) (b id m v : ℕ) (low : 1 ≤ m) (high : m ≤ months) (closing : (is_bond kind && not (eqb m months)) ≡ false) where
  pub lent-amended : (qs : List PlainPosition) (q : PlainPosition) → position_of b id qs ≡ Some q → length q.balances ≡ months
      → exposures (map (lent_by kind) (positions_on id (amended b id m v qs))) + counted kind (unwrap_or (balance_of m q) 0) ≡ exposures (map (lent_by kind) (positions_on id qs)) + counted kind v
  lent-amended qs q found long =
      let near : place_of (is_of b id) qs < length qs = ⊎_elim (λ h. h) (λ h. let z : ◌≡◌ {A = ℕ} 0 1 = cc (found, first_past (is_of b id) qs h) in absurd (omega arith)) (cases_lt (place_of (is_of b id) qs) (length qs)) in
      let is : Some q ≡ Some (get_or qs (place_of (is_of b id) qs) q) = sym found ∙ first-at (is_of b id) qs q near in
      let same : q ≡ get_or qs (place_of (is_of b id) qs) q = cc in
      let on : eqb q.id id ≡ true = (and_parts (eqb q.branch b) (eqb q.id id) (first_passes (is_of b id) qs q found)).1 in
      let set-it = ap (sum_by (adds kind id)) (change-at (is_of b id) (with_balance m v) qs q near) in
      let swap = sum_by-set (adds kind id) qs (place_of (is_of b id) qs) (with_balance m v (get_or qs (place_of (is_of b id) qs) q)) q near in
      let old = ap (adds kind id) (sym same) ∙ cond-true (eqb q.id id) (exposure_of kind q) 0 on in
      let new = ap (λ r. adds kind id (with_balance m v r)) (sym same) ∙ cond-true (eqb q.id id) (exposure_of kind (with_balance m v q)) 0 on in
      omega (arith, exposures-sum kind id (amended b id m v qs), exposures-sum kind id qs, set-it, swap, old, new, exposure-moved kind q m v long low high closing)

  -- a month that has no balance
  pub lent-posted : (qs : List PlainPosition) → AllByRecursion (λ q. length q.balances ≡ months) qs → is_posted b id m qs ≡ false
      → exposures (map (lent_by kind) (positions_on id (posted b id m v qs))) ≡ exposures (map (lent_by kind) (positions_on id qs)) + counted kind v
  lent-posted qs long free = by (position_of b id qs) refl free
    where
      new-adds : adds kind id (new_position b id) ≡ 0
      new-adds = at (eqb id id) (is_bond kind)
        where
          at : (own bond : Bool) → cond own (cond bond (months * closing_of (new_position b id)) (sum_by (λ n. unwrap_or n 0) (new_position b id).balances)) 0 ≡ 0
          at true true = refl
          at true false = refl
          at false bond = refl

      unposted : (o : Option ℕ) → is_some o ≡ false → unwrap_or o 0 ≡ 0
      unposted None e = refl
      unposted (Some n) e = absurd cc

      by : (o : Option PlainPosition) → position_of b id qs ≡ o → posted_in m o ≡ false
          → exposures (map (lent_by kind) (positions_on id (posted b id m v qs))) ≡ exposures (map (lent_by kind) (positions_on id qs)) + counted kind v
      by (Some q) e free =
          let there : with_position b id qs ≡ qs = cond-true (is_some (position_of b id qs)) qs (qs ++ new_position b id ∷ []) (ap is_some e) in
          let same = ap (λ rs. exposures (map (lent_by kind) (positions_on id (amended b id m v rs)))) there in
          let moved = lent-amended qs q e (first-all (λ q. length q.balances ≡ months) (is_of b id) qs q e long) in
          let old = ap (counted kind) (unposted (balance_of m q) free) in
          omega (arith, same, moved, old, none-counts kind)
      by None e free =
          let none : is_some (position_of b id qs) ≡ false = ap is_some e in
          let own : is_of b id (new_position b id) ≡ true = and_from (eqb b b) (eqb id id) (eq-eqb b b refl) (eq-eqb id id refl) in
          let there : with_position b id qs ≡ qs ++ new_position b id ∷ [] = cond-false (is_some (position_of b id qs)) qs (qs ++ new_position b id ∷ []) none in
          let same = ap (λ rs. exposures (map (lent_by kind) (positions_on id (amended b id m v rs)))) there in
          let moved = lent-amended (qs ++ new_position b id ∷ []) (new_position b id) (first-last (is_of b id) qs (new_position b id) (none_passes (is_of b id) qs none) own) refl in
          let old = ap (λ (n : Option ℕ). counted kind (unwrap_or n 0)) (get_or-replicate {A = Option ℕ} months (m - 1) None None (omega arith)) in
          let grown = exposures-sum kind id (qs ++ new_position b id ∷ []) ∙ sum_by_push (adds kind id) qs (new_position b id) in
          omega (arith, same, moved, old, none-counts kind, grown, exposures-sum kind id qs, new-adds)
