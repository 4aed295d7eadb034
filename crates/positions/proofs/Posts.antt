-- What a post and an amendment do to the positions of a table.
use Rattle.std.proofs.Common.{◌≡◌, ℕ, Bool, true, false, cond, not, ◌&&◌, eqb, leb, List, [], ◌∷◌, ◌++◌, length, is_some, Some, None, sym, refl, ap, ◌∙◌}
use Rattle.std.proofs.lemmas.Bool.{eq-eqb, and_from, cond-true, cond-false}
use Rattle.plain.specs.Changes.{amended, posted}
use Rattle.plain.specs.Limits.{most_positions}
use Rattle.plain.specs.Lists.{change_first}
use Rattle.plain.specs.PlainBook.{PlainPosition, is_of, position_of, new_position, with_balance}
use Rattle.plain.proofs.Lists.{none_passes, change-last}
use Rattle.positions.specs.Entries.{written, can_enter}
use Rattle.positions.specs.Places.{first_place, change_at}
use Rattle.positions.specs.Years.{in_year}
use Rattle.positions.proofs.Places.{found_alike, first-idle, change-at-place, change-nowhere}

module _ (b id m v : ℕ) (qs : List PlainPosition) where
  -- the position is there
  pub there : (k : ℕ) → Some k ≡ first_place (is_of b id) qs → is_some (position_of b id qs) ≡ true
  there k e = sym (found_alike (is_of b id) qs) ∙ sym (ap is_some e)

  pub nowhere : None ≡ first_place (is_of b id) qs → is_some (position_of b id qs) ≡ false
  nowhere e = sym (found_alike (is_of b id) qs) ∙ sym (ap is_some e)

  pub can-enter-there : in_year m ≡ true → is_some (position_of b id qs) ≡ true → true ≡ can_enter b id m qs
  can-enter-there year found = λ i. sym year i && not (not (sym found i) && leb most_positions (length qs))

  pub can-enter-new : in_year m ≡ true → is_some (position_of b id qs) ≡ false → not (leb most_positions (length qs)) ≡ can_enter b id m qs
  can-enter-new year none = λ i. sym year i && not (not (sym none i) && leb most_positions (length qs))

  in-year : (k : ℕ) → in_year m ≡ true → change_at k (written m v) qs ≡ change_at k (with_balance m v) qs
  in-year k e = ap (λ t. change_at k (λ q. cond t (with_balance m v q) q) qs) e

  pub posted-there : (k : ℕ) → Some k ≡ first_place (is_of b id) qs → in_year m ≡ true → change_at k (written m v) qs ≡ posted b id m v qs
  posted-there k e year =
      in-year k year
      ∙ change-at-place (is_of b id) (with_balance m v) qs k e (new_position b id)
      ∙ ap (amended b id m v) (sym (cond-true (is_some (position_of b id qs)) qs (qs ++ new_position b id ∷ []) (there k e)))

  -- it is a new one
  pub posted-new : None ≡ first_place (is_of b id) qs → in_year m ≡ true → qs ++ written m v (new_position b id) ∷ [] ≡ posted b id m v qs
  posted-new e year =
      let new = new_position b id in
      let none = nowhere e in
      let own : is_of b id new ≡ true = and_from (eqb b b) (eqb id id) (eq-eqb b b refl) (eq-eqb id id refl) in
      ap (λ t. qs ++ cond t (with_balance m v new) new ∷ []) year
      ∙ sym (change-last (is_of b id) (with_balance m v) qs new (none_passes (is_of b id) qs none) own)
      ∙ ap (amended b id m v) (sym (cond-false (is_some (position_of b id qs)) qs (qs ++ new ∷ []) none))

  -- an amendment
  pub amended-there : (k : ℕ) → Some k ≡ first_place (is_of b id) qs → change_at k (written m v) qs ≡ cond (in_year m) (amended b id m v qs) qs
  amended-there k e = change-at-place (is_of b id) (written m v) qs k e (new_position b id) ∙ by (in_year m) qs
    where
      by : (t : Bool) (rs : List PlainPosition) → change_first (is_of b id) (λ q. cond t (with_balance m v q) q) rs ≡ cond t (change_first (is_of b id) (with_balance m v) rs) rs
      by true rs = refl
      by false rs = first-idle (is_of b id) rs

  pub amended-nowhere : None ≡ first_place (is_of b id) qs → qs ≡ cond (in_year m) (amended b id m v qs) qs
  amended-nowhere e = by (in_year m) (sym (change-nowhere (is_of b id) (with_balance m v) qs (none_passes (is_of b id) qs (nowhere e))))
    where
      by : (t : Bool) → qs ≡ amended b id m v qs → qs ≡ cond t (amended b id m v qs) qs
      by true e = e
      by false e = refl
