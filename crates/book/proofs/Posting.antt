-- Posts and amendments, from the tests that they share and those of their own.
use Rattle.std.proofs.Common.{◌≡◌, ℕ, ◌+◌, ◌≤◌, Bool, true, false, cond, not, leb, List, Some, None, Ok, Err, Option, Result, unwrap_or, sym, refl, ap, ◌∙◌, subst, arith}
use Rattle.grading.proofs.EachElement.{All-weaker}
use Rattle.std.proofs.lemmas.Bool.{eqb-true, le-leb, and_from, cond-true}
use Rattle.faults.specs.Refusals.{fault}
use Rattle.faults.specs.declared.Fault.{Fault}
use Rattle.faults.specs.declared.Refusal.TheVariants.{EntryOutOfRange, BondOutsideClosingMonth, MonthAlreadyPosted, MonthNotPosted, PositionsFull}
use Rattle.rules.specs.Months.{months}
use Rattle.rules.specs.Tables.{Tables}
use Rattle.plain.specs.Changes.{amended, posted}
use Rattle.plain.specs.Exposures.{exposure_to}
use Rattle.plain.specs.Kept.{KeptByEveryRun}
use Rattle.plain.specs.Limits.{most_exposure}
use Rattle.plain.specs.PlainBook.{PlainInvestee, PlainPosition, PlainBook, with_positions, id_of, has_id, investee_of, position_of, is_posted}
use Rattle.plain.specs.Refused.{refuse, if_open, entry_out_of_range, bond_outside_closing, no_room_for, too_much_lent, declined}
use Rattle.plain.specs.Runs.{after}
use Rattle.plain.specs.Steps.{post, amend}
use Rattle.plain.proofs.Accepted.{EntryInRange, entry-within}
use Rattle.plain.proofs.Lists.{first_passes, first-all}
use Rattle.positions.specs.Entries.{balance_in, can_enter}
use Rattle.positions.specs.Years.{in_year}
use Rattle.book.specs.Entries.{entry_on, entry_for, EntryFor, counted, failing, post_fault, amend_fault}
use Rattle.book.proofs.Entries.{lent-amended, lent-posted}
use Rattle.plain.proofs.Runs.{after-accepted}

-- ---- the tests that they share

then_entry : Result PlainInvestee Fault → (PlainInvestee → Option Fault) → Option Fault
then_entry (Ok x) next = next x
then_entry (Err f) next = Some f

module _ (p : PlainBook) (b id m v : ℕ) where
  shared : (next : PlainInvestee → Option Fault) → refuse (entry_out_of_range b m v) EntryOutOfRange (if_open (investee_of id p) (λ x. refuse (bond_outside_closing x m) BondOutsideClosingMonth (next x))) ≡ then_entry (entry_for p b id m v) next
  unfolding then_entry
  shared next = range (entry_out_of_range b m v)
    where
      bond : (x : PlainInvestee) (outside : Bool) → refuse outside BondOutsideClosingMonth (next x) ≡ then_entry (cond outside (Err (fault BondOutsideClosingMonth 0 0)) (Ok x)) next
      bond x true = refl
      bond x false = refl

      on : (o : Option PlainInvestee) → if_open o (λ x. refuse (bond_outside_closing x m) BondOutsideClosingMonth (next x)) ≡ then_entry (entry_on o m) next
      on None = refl
      on (Some x) = bond x (bond_outside_closing x m)

      range : (out : Bool) → refuse out EntryOutOfRange (if_open (investee_of id p) (λ x. refuse (bond_outside_closing x m) BondOutsideClosingMonth (next x))) ≡ then_entry (cond out (Err (fault EntryOutOfRange 0 0)) (entry_on (investee_of id p) m)) next
      range true = refl
      range false = on (investee_of id p)

  -- what passing them says
  pub entry-for : (x : PlainInvestee) → Ok x ≡ entry_for p b id m v → EntryFor p b m v x × (id_of x ≡ id)
  entry-for x e = range (entry_out_of_range b m v) refl e
    where
      found_as : (y : PlainInvestee) → investee_of id p ≡ Some y → id_of y ≡ id
      found_as y e = eqb-true (id_of y) id (first_passes (has_id id) p.investees y e)

      bond : (y : PlainInvestee) (outside : Bool) → bond_outside_closing y m ≡ outside → entry_out_of_range b m v ≡ false → investee_of id p ≡ Some y → Ok x ≡ cond outside (Err (fault BondOutsideClosingMonth 0 0)) (Ok y) → EntryFor p b m v x × (id_of x ≡ id)
      bond y true c r f e = absurd cc
      bond y false c r f e =
          let same : y ≡ x = cc in
          let entry : EntryFor p b m v y × (id_of y ≡ id) = (record { in_range = r; found = ap (λ j. investee_of j p) (found_as y f) ∙ f; in_closing_month = c }, found_as y f) in
          subst (λ (z : PlainInvestee). EntryFor p b m v z × (id_of z ≡ id)) same entry

      on : (o : Option PlainInvestee) → investee_of id p ≡ o → entry_out_of_range b m v ≡ false → Ok x ≡ entry_on o m → EntryFor p b m v x × (id_of x ≡ id)
      on None f r e = absurd cc
      on (Some y) f r e = bond y (bond_outside_closing y m) refl r f e

      range : (out : Bool) → entry_out_of_range b m v ≡ out → Ok x ≡ cond out (Err (fault EntryOutOfRange 0 0)) (entry_on (investee_of id p) m) → EntryFor p b m v x × (id_of x ≡ id)
      range true r e = absurd cc
      range false r e = on (investee_of id p) refl r e

  -- ---- the calls

  module _ (t : Tables) where
    -- the tests of their own, for an investee of the id j
    abbrev post_tests : ℕ → PlainInvestee → Option Fault
    post_tests j x = refuse (is_posted b j m p.positions) MonthAlreadyPosted (refuse (no_room_for b j p.positions) PositionsFull (too_much_lent t p x (posted b j m v p.positions)))

    abbrev amend_tests : ℕ → PlainInvestee → Option Fault
    amend_tests j x = refuse (not (is_posted b j m p.positions)) MonthNotPosted (too_much_lent t p x (amended b j m v p.positions))

    pub post-not-entered : (f : Fault) → Err f ≡ entry_for p b id m v → declined t p (post b id m v) ≡ Some f
    unfolding then_entry
    post-not-entered f e = shared (post_tests id) ∙ ap (λ r. then_entry r (post_tests id)) (sym e)

    pub amend-not-entered : (f : Fault) → Err f ≡ entry_for p b id m v → declined t p (amend b id m v) ≡ Some f
    unfolding then_entry
    amend-not-entered f e = shared (amend_tests id) ∙ ap (λ r. then_entry r (amend_tests id)) (sym e)

    pub post-entered : (x : PlainInvestee) → Ok x ≡ entry_for p b id m v → declined t p (post b id m v) ≡ post_fault t p x b m v
    unfolding then_entry
    post-entered x e = shared (post_tests id) ∙ ap (λ r. then_entry r (post_tests id)) (sym e) ∙ ap (λ j. post_tests j x) (sym (entry-for x e).1)

    pub amend-entered : (x : PlainInvestee) → Ok x ≡ entry_for p b id m v → declined t p (amend b id m v) ≡ amend_fault t p x b m v
    unfolding then_entry
    amend-entered x e = shared (amend_tests id) ∙ ap (λ r. then_entry r (amend_tests id)) (sym e) ∙ ap (λ j. amend_tests j x) (sym (entry-for x e).1)

-- ---- the table of positions

module _ (p : PlainBook) (b m v : ℕ) (x : PlainInvestee) (entry : EntryFor p b m v x) where
  pub entry-in-year : in_year m ≡ true
  entry-in-year =
      let range = entry-within b m v entry.in_range in
      and_from (leb 1 m) (leb m months) (le-leb 1 m range.month-from) (le-leb m months range.month-to)

  pub entry-enters : (t : Tables) → post_fault t p x b m v ≡ None → can_enter b (id_of x) m p.positions ≡ true
  entry-enters t e = and_from (in_year m) (not (no_room_for b (id_of x) p.positions)) entry-in-year (by (is_posted b (id_of x) m p.positions) (no_room_for b (id_of x) p.positions) e)
    where
      by : (taken full : Bool) → refuse taken MonthAlreadyPosted (refuse full PositionsFull (too_much_lent t p x (posted b (id_of x) m v p.positions))) ≡ None → not full ≡ true
      by true full e = absurd cc
      by false true e = absurd cc
      by false false e = refl

-- ---- what a test that may fail says

pub refused : (o : Option Fault) (f : Fault) → Err f ≡ failing o → o ≡ Some f
refused None f e = absurd cc
refused (Some g) f e = let same : f ≡ g = cc in ap Some (sym same)

pub allowed : (o : Option Fault) → Ok tt ≡ failing o → o ≡ None
allowed None e = refl
allowed (Some g) e = absurd cc

-- ---- the book after the call

module _ (t : Tables) (p : PlainBook) (b id m v : ℕ) (x : PlainInvestee) (e : Ok x ≡ entry_for p b id m v) (qs : List PlainPosition) where
  pub book-posted : post_fault t p x b m v ≡ None → (entered : Bool) → entered ≡ can_enter b (id_of x) m p.positions → qs ≡ cond entered (posted b (id_of x) m v p.positions) p.positions → with_positions p qs ≡ after t p (post b id m v)
  book-posted none entered is now =
      let entry = entry-for p b id m v x e in
      ap (with_positions p) (now ∙ cond-true entered _ _ (is ∙ entry-enters p b m v x entry.0 t none))
      ∙ ap (λ j. with_positions p (posted b j m v p.positions)) entry.1
      ∙ sym (after-accepted t p (post b id m v) (post-entered p b id m v t x e ∙ none))

  pub book-amended : amend_fault t p x b m v ≡ None → qs ≡ cond (in_year m) (amended b (id_of x) m v p.positions) p.positions → with_positions p qs ≡ after t p (amend b id m v)
  book-amended none now =
      let entry = entry-for p b id m v x e in
      ap (with_positions p) (now ∙ cond-true (in_year m) _ _ (entry-in-year p b m v x entry.0))
      ∙ ap (λ j. with_positions p (amended b j m v p.positions)) entry.1
      ∙ sym (after-accepted t p (amend b id m v) (amend-entered p b id m v t x e ∙ none))

-- ---- exposures

module _ (p : PlainBook) (ok : KeptByEveryRun p) (b m v : ℕ) (x : PlainInvestee) (entry : EntryFor p b m v x) where
  pub entry-range : EntryInRange b m v
  entry-range = entry-within b m v entry.in_range

  pub entry-exposure : exposure_to x p.positions ≤ most_exposure
  entry-exposure = first-all (λ y. exposure_to y p.positions ≤ most_exposure) (has_id (id_of x)) p.investees x entry.found ok.exposures_within_limit

  pub exposure-posted : is_posted b (id_of x) m p.positions ≡ false → exposure_to x (posted b (id_of x) m v p.positions) ≡ exposure_to x p.positions + counted x.profile.kind v
  exposure-posted free =
      lent-posted x.profile.kind b (id_of x) m v entry-range.month-from entry-range.month-to entry.in_closing_month p.positions
      (All-weaker _ _ (λ q h. h.a_place_for_each_month) p.positions ok.positions_in_range) free

  pub exposure-amended : (old : ℕ) → Some old ≡ balance_in m (position_of b (id_of x) p.positions) → exposure_to x (amended b (id_of x) m v p.positions) + counted x.profile.kind old ≡ exposure_to x p.positions + counted x.profile.kind v
  exposure-amended old e = by (position_of b (id_of x) p.positions) refl e
    where
      by : (o : Option PlainPosition) → position_of b (id_of x) p.positions ≡ o → Some old ≡ balance_in m o → exposure_to x (amended b (id_of x) m v p.positions) + counted x.profile.kind old ≡ exposure_to x p.positions + counted x.profile.kind v
      by None f e = absurd cc
      by (Some q) f e =
          let moved = lent-amended x.profile.kind b (id_of x) m v entry-range.month-from entry-range.month-to entry.in_closing_month p.positions q f (first-all _ _ p.positions q f ok.positions_in_range).a_place_for_each_month in
          let was = ap (λ o. counted x.profile.kind (unwrap_or o 0)) e in
          omega (arith, moved, was)
