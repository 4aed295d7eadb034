-- What a post and an amendment leave of the positions.
use Rattle.std.proofs.Common.{◌≡◌, ℕ, ◌-◌, ◌≤◌, true, false, eqb, ◌≢◌, List, [], ◌∷◌, ◌++◌, length, replicate, is_some, Some, None, Option, unwrap_or, sym, refl, ap, ◌∙◌, arith, length-set}
use lib.ListN.{length-replicate}
use Rattle.std.specs.List.{AllByRecursion}
use Rattle.std.proofs.lemmas.List.Elements.{filter-append, All-replicate, recursion_from_All}
use Rattle.grading.proofs.EachElement.{All-push, All-set, All-weaker}
use Rattle.std.proofs.lemmas.List.{append-nil, length_push}
use Rattle.std.proofs.lemmas.Bool.Decides.{nat_tests}
use Rattle.std.proofs.lemmas.Bool.{ne_eqb, cond-false, cond_both}
use Rattle.rules.specs.Months.{months}
use Rattle.plain.specs.Branches.{Branch}
use Rattle.plain.specs.Changes.{with_position, amended, posted}
use Rattle.plain.specs.Exposures.{positions_on}
use Rattle.plain.specs.Kept.{PositionInRange}
use Rattle.plain.specs.Limits.{most_positions, most_balance}
use Rattle.plain.specs.Lists.{Pairwise}
use Rattle.plain.specs.PlainBook.{PlainPosition, is_of, position_of, new_position, with_balance}
use Rattle.plain.specs.Refused.{no_room_for}
use Rattle.plain.proofs.Accepted.{EntryInRange}
use Rattle.plain.proofs.Lists.{none_passes, length-change, all-change, pairwise-change, pairwise-push, kept-changed, change-last}

-- a branch has one position on an investee
abbrev pub Differ : PlainPosition → PlainPosition → Type 0
Differ q r = r.id ≡ q.id → r.branch ≢ q.branch

-- ---- a new position at the end

module _ (b id : ℕ) (qs : List PlainPosition) where
  -- a fact of the positions that a new one has too
  pub all-with-position : (P : PlainPosition → Type 0) → AllByRecursion P qs → P (new_position b id) → AllByRecursion P (with_position b id qs)
  all-with-position P old new = cond_both (is_some (position_of b id qs)) _ _ (AllByRecursion P) (λ e. old) (λ e. All-push P qs (new_position b id) old new)

  pub length-with-position : no_room_for b id qs ≡ false → length qs ≤ most_positions → length (with_position b id qs) ≤ most_positions
  length-with-position room few = grind (arith, nat_tests, length_push)

  pub differ-with-position : Pairwise Differ qs → Pairwise Differ (with_position b id qs)
  differ-with-position ok =
      cond_both (is_some (position_of b id qs)) _ _ (Pairwise Differ) (λ e. ok)
      (λ e. pairwise-push Differ qs (new_position b id) ok (All-weaker _ _ other qs (none_passes (is_of b id) qs e)))
    where
      other : (q : PlainPosition) → is_of b id q ≡ false → Differ q (new_position b id)
      other q e i n = grind (arith, nat_tests)

  pub others-with-position : (j : ℕ) → j ≢ id → positions_on j (with_position b id qs) ≡ positions_on j qs
  others-with-position j ne =
      cond_both (is_some (position_of b id qs)) _ _ (λ rs. positions_on j rs ≡ positions_on j qs) (λ e. refl)
      (λ e. filter-append (λ q. eqb q.id j) qs (new_position b id ∷ []) ∙ ap (λ rs. positions_on j qs ++ rs) (cond-false (eqb id j) _ _ (ne_eqb id j (λ h. ne (sym h)))) ∙ append-nil (positions_on j qs))

pub new-in-range : (b id : ℕ) → Branch b → PositionInRange (new_position b id)
new-in-range b id h = record {
  branch_in_range = h;
  a_place_for_each_month = length-replicate {A = Option ℕ} months None;
  balances_within_limit = recursion_from_All (λ v. unwrap_or v 0 ≤ most_balance) (replicate months None) (All-replicate (λ v. unwrap_or v 0 ≤ most_balance) months None (omega arith));
}

-- ---- one balance

module _ (b id m v : ℕ) where
  pub length-amended : (qs : List PlainPosition) → length (amended b id m v qs) ≡ length qs
  length-amended qs = length-change (is_of b id) (with_balance m v) qs

  pub differ-amended : (qs : List PlainPosition) → Pairwise Differ qs → Pairwise Differ (amended b id m v qs)
  differ-amended qs ok = pairwise-change (is_of b id) (with_balance m v) Differ (λ q r h. h) (λ q r h. h) qs ok

  pub in-range-amended : EntryInRange b m v → (qs : List PlainPosition) → AllByRecursion PositionInRange qs → AllByRecursion PositionInRange (amended b id m v qs)
  in-range-amended entry qs all = all-change (is_of b id) (with_balance m v) PositionInRange keeps qs all
    where
      keeps : (q : PlainPosition) → is_of b id q ≡ true → PositionInRange q → PositionInRange (with_balance m v q)
      keeps q e h = record {
        branch_in_range = h.branch_in_range;
        a_place_for_each_month = length-set q.balances (m - 1) (Some v) ∙ h.a_place_for_each_month;
        balances_within_limit = All-set _ q.balances (m - 1) (Some v) entry.balance h.balances_within_limit;
      }

  -- what holds of branch and id is kept
  pub all-amended : (P : PlainPosition → Type 0) → ((q : PlainPosition) → P q → P (with_balance m v q)) → (qs : List PlainPosition) → AllByRecursion P qs → AllByRecursion P (amended b id m v qs)
  all-amended P keeps qs all = all-change (is_of b id) (with_balance m v) P (λ q e. keeps q) qs all

  pub others-amended : (j : ℕ) → j ≢ id → (qs : List PlainPosition) → positions_on j (amended b id m v qs) ≡ positions_on j qs
  others-amended j ne qs = kept-changed (is_of b id) (with_balance m v) (λ q. eqb q.id j) apart (λ q. refl) qs
    where
      apart : (q : PlainPosition) → is_of b id q ≡ true → eqb q.id j ≡ false
      apart q e = grind (arith, nat_tests)

  pub others-posted : (j : ℕ) → j ≢ id → (qs : List PlainPosition) → positions_on j (posted b id m v qs) ≡ positions_on j qs
  others-posted j ne qs = others-amended j ne (with_position b id qs) ∙ others-with-position b id qs j ne

  -- a first post stands at the end
  pub posted-new : (qs : List PlainPosition) → is_some (position_of b id qs) ≡ false → posted b id m v qs ≡ qs ++ with_balance m v (new_position b id) ∷ []
  posted-new qs none =
      ap (amended b id m v) (cond-false (is_some (position_of b id qs)) qs (qs ++ new_position b id ∷ []) none)
      ∙ change-last (is_of b id) (with_balance m v) qs (new_position b id) (none_passes (is_of b id) qs none) itself
    where
      itself : is_of b id (new_position b id) ≡ true
      itself = grind (arith, nat_tests)
