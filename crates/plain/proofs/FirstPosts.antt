-- First posts on a book, each of which adds a position at the end.
use Rattle.std.proofs.Common.{◌≡◌, ℕ, zero, suc, ◌+◌, ◌/◌, ◌%◌, ◌<◌, ◌≤◌, Bool, false, eqb, List, [], ◌∷◌, ◌++◌, map, length, is_some, Some, None, Option, sym, refl, ap, ◌∙◌, subst, append_assoc, arith}
use Rattle.std.specs.List.{AllByRecursion}
use Rattle.grading.proofs.EachElement.{All-push, All-weaker, All-append, All-map}
use Rattle.std.proofs.lemmas.List.{append-nil, map-append, length-map, length-append, length_push}
use Rattle.std.proofs.lemmas.Bool.Decides.{nat_tests}
use Rattle.std.proofs.lemmas.Bool.{cond-false, cond_both, eqb-true}
use Rattle.rules.specs.National.{national_tables}
use Rattle.rules.specs.Tables.{Tables}
use Rattle.rules.specs.declared.kinds.Kind.{Kind}
use Rattle.rules.specs.declared.kinds.Kind.TheVariants.{GeneralLoan}
use Rattle.plain.specs.Branches.{branch_count}
use Rattle.plain.specs.Changes.{posted}
use Rattle.plain.specs.Exposures.{exposure_of, exposure_to, lent_by, positions_on}
use Rattle.plain.specs.Limits.{most_positions}
use Rattle.plain.specs.Lists.{first_of}
use Rattle.plain.specs.Parts.{exposures}
use Rattle.plain.specs.PlainBook.{PlainInvestee, PlainPosition, PlainBook, with_positions, id_of, has_id, investee_of, is_of, position_of, new_position, with_balance, posted_in}
use Rattle.plain.specs.Refused.{entry_out_of_range, bond_outside_closing, no_room_for, too_much_lent, declined}
use Rattle.plain.specs.Runs.{unless, after, run}
use Rattle.plain.specs.Steps.{post}
use Rattle.plain.specs.Sums.{down_from}
use Rattle.plain.specs.WorkedRefusals.{first_post}
use Rattle.plain.proofs.Lists.{first_passes}
use Rattle.plain.proofs.Positions.{posted-new}

-- ---- one first post

none-found : {X : Type 0} (test : X → Bool) (xs : List X) → AllByRecursion (λ x. test x ≡ false) xs → is_some (first_of test xs) ≡ false
unfolding first_of
none-found test [] none = refl
none-found test (x ∷ xs) none = ap is_some (cond-false (test x) (Some x) (first_of test xs) none.0) ∙ none-found test xs none.1

module _ (b id m v : ℕ) where
  unposted : (o : Option PlainPosition) → is_some o ≡ false → posted_in m o ≡ false
  unposted None e = refl
  unposted (Some q) e = absurd cc

  room : (qs : List PlainPosition) → length qs < most_positions → no_room_for b id qs ≡ false
  room qs few = grind (arith, nat_tests)

  -- a branch's first post on an investee adds a position with one balance
  after-new : (t : Tables) (p : PlainBook) (x : PlainInvestee) → entry_out_of_range b m v ≡ false → investee_of id p ≡ Some x → bond_outside_closing x m ≡ false → is_some (position_of b id p.positions) ≡ false → length p.positions < most_positions
      → too_much_lent t p x (p.positions ++ with_balance m v (new_position b id) ∷ []) ≡ None → after t p (post b id m v) ≡ with_positions p (p.positions ++ with_balance m v (new_position b id) ∷ [])
  after-new t p x range found last none few small =
      ap (λ o. unless o (with_positions p (posted b id m v p.positions)) (λ f. p)) accepted ∙ ap (with_positions p) (posted-new b id m v p.positions none)
    where
      accepted : declined t p (post b id m v) ≡ None
      accepted = rw (range, found, last, unposted (position_of b id p.positions) none, room p.positions few, posted-new b id m v p.positions none) small

-- ---- a run of them

-- what the post of number k adds
abbrev pub position : ℕ → PlainPosition
position k = with_balance 1 0 (new_position (1 + k % branch_count) (1001 + k / branch_count))

-- positions without exposure add up to none
none-lent : (kind : Kind) (id : ℕ) (qs : List PlainPosition) → AllByRecursion (λ q. q.id ≡ id → exposure_of kind q ≡ 0) qs → exposures (map (lent_by kind) (positions_on id qs)) ≡ 0
unfolding exposures
none-lent kind id [] none = refl
none-lent kind id (q ∷ qs) none =
    cond_both (eqb q.id id) (q ∷ positions_on id qs) (positions_on id qs) (λ rs. exposures (map (lent_by kind) rs) ≡ 0)
    (λ e. omega (arith, none.0 (eqb-true q.id id e), none-lent kind id qs none.1)) (λ e. none-lent kind id qs none.1)

-- a book whose positions are on ids below 1,000, and in which other general loans are open
module _ (p : PlainBook) (below : AllByRecursion (λ q. q.id < 1000) p.positions)
    (lent-open : (k : ℕ) → 0 < k → k ≤ 498 → (x : PlainInvestee) × (investee_of (1001 + k / branch_count) p ≡ Some x) × (x.profile.kind ≡ GeneralLoan)) where
  -- the book after the posts of these numbers
  abbrev pub table : List ℕ → PlainBook
  table ks = with_positions p (p.positions ++ map position ks)

  -- posts of other numbers are of another branch or on another investee
  none-yet : (ks : List ℕ) (k : ℕ) → AllByRecursion (λ j. k < j) ks → is_some (position_of (1 + k % branch_count) (1001 + k / branch_count) (p.positions ++ map position ks)) ≡ false
  none-yet ks k later =
      none-found (is_of (1 + k % branch_count) (1001 + k / branch_count)) (p.positions ++ map position ks)
      (All-append _ p.positions (map position ks) (All-weaker _ _ (λ q h. elsewhere q h) p.positions below) (All-map _ position ks (All-weaker _ _ (λ j h. another j h) ks later)))
    where
      elsewhere : (q : PlainPosition) → q.id < 1000 → is_of (1 + k % branch_count) (1001 + k / branch_count) q ≡ false
      elsewhere q h = grind (arith, nat_tests)

      another : (j : ℕ) → k < j → is_of (1 + k % branch_count) (1001 + k / branch_count) (position j) ≡ false
      another j h = grind (arith, nat_tests)

  -- nothing is lent to the investee, so nothing is too much
  nothing-more : (x : PlainInvestee) → 1000 < id_of x → x.profile.kind ≡ GeneralLoan → (ks : List ℕ) → too_much_lent national_tables p x (p.positions ++ map position ks) ≡ None
  nothing-more x high loan ks =
      let nothing : exposure_to x (p.positions ++ map position ks) ≡ 0 =
      none-lent x.profile.kind (id_of x) (p.positions ++ map position ks)
      (All-append _ p.positions (map position ks) (All-weaker _ _ (λ q h same. absurd (omega (arith, h, same, high))) p.positions below) (All-map _ position ks (all-nothing ks))) in
      rw (nothing, loan) refl
    where
      all-nothing : (ks : List ℕ) → AllByRecursion (λ j. (position j).id ≡ id_of x → exposure_of x.profile.kind (position j) ≡ 0) ks
      all-nothing [] = tt
      all-nothing (j ∷ ks) = ((λ same. ap (λ kind. exposure_of kind (position j)) loan), all-nothing ks)

  next : (ks : List ℕ) (k : ℕ) → 0 < k → k ≤ 498 → AllByRecursion (λ j. k < j) ks → length p.positions + length ks < most_positions → after national_tables (table ks) (first_post k) ≡ table (ks ++ k ∷ [])
  next ks k from to later few =
      let investee = lent-open k from to in
      after-new (1 + k % branch_count) (1001 + k / branch_count) 1 0 national_tables (table ks) investee.0
      in_range investee.1 (last investee.0 investee.2) (none-yet ks k later) (omega (arith, length-append p.positions (map position ks), length-map ks position))
      (subst (λ (qs : List PlainPosition). too_much_lent national_tables p investee.0 qs ≡ None) (sym more) (nothing-more investee.0 (high investee.0 investee.1) investee.2 (ks ++ k ∷ [])))
      ∙ ap (with_positions p) more
    where
      in_range : entry_out_of_range (1 + k % branch_count) 1 0 ≡ false
      in_range = grind (arith, nat_tests)

      last : (x : PlainInvestee) → x.profile.kind ≡ GeneralLoan → bond_outside_closing x 1 ≡ false
      last x loan = rw loan refl

      high : (x : PlainInvestee) → investee_of (1001 + k / branch_count) p ≡ Some x → 1000 < id_of x
      high x found = let same : id_of x ≡ 1001 + k / branch_count = eqb-true (id_of x) (1001 + k / branch_count) (first_passes (has_id (1001 + k / branch_count)) p.investees x found) in omega arith

      more : (p.positions ++ map position ks) ++ position k ∷ [] ≡ p.positions ++ map position (ks ++ k ∷ [])
      more = append_assoc p.positions (map position ks) (position k ∷ []) ∙ ap (λ qs. p.positions ++ qs) (sym (map-append position ks (k ∷ [])))

  -- the numbers n to 1, after numbers above n
  pub filled : (n : ℕ) (ks : List ℕ) → n ≤ 498 → AllByRecursion (λ j. n < j) ks → length p.positions + length ks + n ≤ most_positions → run national_tables (table ks) (map first_post (down_from n)) ≡ table (ks ++ down_from n)
  unfolding down_from
  filled zero ks to later few = ap table (sym (append-nil ks))
  filled (suc n) ks to later few =
      ap (λ q. run national_tables q (map first_post (down_from n))) (next ks (suc n) (omega arith) to later (omega arith))
      ∙ filled n (ks ++ suc n ∷ []) (omega arith) (All-push (λ j. n < j) ks (suc n) (All-weaker _ _ (λ j h. omega arith) ks later) (omega arith)) (omega (arith, length_push ks (suc n)))
      ∙ ap table (append_assoc ks (suc n ∷ []) (down_from n))
