-- What every run keeps: the empty book has it, and each call keeps it.
use Rattle.std.proofs.Common.{◌≡◌, ℕ, ◌<◌, ◌≤◌, Bool, true, false, eqb, ◌≢◌, List, [], ◌∷◌, ◌++◌, map, length, pos, ◌≤ℤ◌, is_some, None, Ok, Result, sym, refl, ap, ◌∙◌, subst, ap₂, arith, rules}
use Rattle.std.specs.List.{AllByRecursion}
use Rattle.grading.proofs.EachElement.{All-push, All-weaker}
use Rattle.std.proofs.lemmas.List.{length_push}
use Rattle.std.proofs.lemmas.Int.{ints}
use Rattle.std.proofs.lemmas.Bool.Decides.{nat_tests}
use Rattle.std.proofs.lemmas.Bool.{eqb-false, leb-false}
use Rattle.faults.specs.declared.Fault.{Fault}
use Rattle.rules.specs.Investees.{PlainProfile, ProfileInRange}
use Rattle.rules.specs.Tables.{Tables}
use Rattle.rules.proofs.Ranges.{accepted-in-range}
use Rattle.sources.specs.Readings.{WithinLimits, InLimits}
use Rattle.sources.specs.declared.reading.Reading.{Reading}
use Rattle.plain.specs.Changes.{opened, restated, reduced_by, read_into, added, with_position, amended, changed}
use Rattle.plain.specs.Exposures.{exposure_to, lent_by, positions_on}
use Rattle.plain.specs.Kept.{InvesteeInRange, PositionInRange, PostedAtClosingOnly, HasPost, KeptByEveryRun}
use Rattle.plain.specs.Limits.{most_investees, most_positions, most_exposure}
use Rattle.plain.specs.Lists.{change_first, Pairwise}
use Rattle.plain.specs.Parts.{exposures}
use Rattle.plain.specs.PlainBook.{PlainInvestee, PlainPosition, PlainBook, empty, with_investees, with_positions, id_of, has_id, investee_of, is_open}
use Rattle.plain.specs.Refused.{declined, too_much_lent, below_zero}
use Rattle.plain.specs.Runs.{after}
use Rattle.plain.specs.Steps.{Meaning, Step, enter, restate, reduce, post, amend, ask, WithinSourceLimits}
use Rattle.plain.proofs.Accepted.{by-a-call, Entered, if_open-none, if_read-none, opened-none, posted-none, amended-none}
use Rattle.plain.proofs.Again.{posts-amended, posts-posted}
use Rattle.plain.proofs.Bonds.{new-at-closing, bonds-opened, bonds-read, bonds-entered}
use Rattle.plain.proofs.Changing.{no-positions, no-position-yet, same-profile, all-profiles, exposures-entered}
use Rattle.plain.proofs.Lists.{none_passes, still-found, found-changed, length-change, all-change, pairwise-change, pairwise-push}
use Rattle.plain.proofs.Positions.{Differ, all-with-position, length-with-position, differ-with-position, new-in-range, length-amended, differ-amended, in-range-amended, all-amended, others-amended, others-posted}

pub kept-at-first : KeptByEveryRun empty
unfolding Pairwise
kept-at-first = search rules

-- ---- openings

not-below-zero : (r : Reading) → below_zero r ≡ None → pos 0 ≤ℤ r.kilograms
not-below-zero r e = grind (arith, ints)

read-limits : (m : Meaning) (r : Reading) → m ≡ Ok r → WithinLimits m → InLimits r
read-limits m r e h = subst WithinLimits e h

opened-in-range : (x : PlainProfile) (r : Reading) → ProfileInRange x → InLimits r → below_zero r ≡ None → InvesteeInRange (opened x r)
opened-in-range x r figures limits e = search (rules, not-below-zero)

-- a new id is that of no investee and of no position
other-ids : (id : ℕ) (p : PlainBook) → is_open id p ≡ false → AllByRecursion (λ x. id ≢ id_of x) p.investees
other-ids id p e = All-weaker _ _ (λ x h i. eqb-false (id_of x) id h (sym i)) p.investees (none_passes (has_id id) p.investees e)

nothing_lent : exposures [] ≤ most_exposure
unfolding exposures
nothing_lent = omega arith

kept-opened : (p : PlainBook) (x : PlainProfile) (r : Reading) → KeptByEveryRun p → is_open x.id p ≡ false → length p.investees < most_investees → ProfileInRange x → InLimits r → below_zero r ≡ None
    → KeptByEveryRun (with_investees p (p.investees ++ opened x r ∷ []))
kept-opened p x r ok is-new room figures limits below = record {
  investees_within_limit = omega (arith, length_push p.investees (opened x r));
  positions_within_limit = ok.positions_within_limit;
  investees_in_range = All-push _ p.investees (opened x r) ok.investees_in_range (opened-in-range x r figures limits below);
  positions_in_range = ok.positions_in_range;
  ids_differ = pairwise-push _ p.investees (opened x r) ok.ids_differ (other-ids x.id p is-new);
  positions_on_open_investees = All-weaker _ _ (λ q h. still-found (has_id q.id) p.investees (opened x r) h) p.positions ok.positions_on_open_investees;
  positions_differ = ok.positions_differ;
  exposures_within_limit = All-push (λ y. exposure_to y p.positions ≤ most_exposure) p.investees (opened x r) ok.exposures_within_limit
      (subst (λ (qs : List PlainPosition). exposures (map (lent_by x.kind) qs) ≤ most_exposure) (sym (no-positions x.id p.positions (no-position-yet x.id p ok is-new))) nothing_lent);
  bonds_at_closing_only = bonds-opened p x r ok is-new;
  positions_have_posts = ok.positions_have_posts;
}

-- ---- restatements and reductions

restated-in-range : (r : Reading) (x : PlainInvestee) → InLimits r → below_zero r ≡ None → InvesteeInRange x → InvesteeInRange (restated r x)
restated-in-range r x limits e h = search (rules, not-below-zero)

reduced-in-range : (r : Reading) (x : PlainInvestee) → InLimits r → InvesteeInRange x → InvesteeInRange (reduced_by r x)
reduced-in-range r x limits h = record {
  profile_in_range = h.profile_in_range;
  kilograms_within_limit = h.kilograms_within_limit;
  kilograms_not_below_zero = h.kilograms_not_below_zero;
  reduction_within_limit = limits.size;
  unset_reduction_is_zero = λ unset. absurd cc;
  grade_from = h.grade_from;
  grade_to = h.grade_to;
}

kept_read : (p : PlainBook) (id : ℕ) (change : PlainInvestee → PlainInvestee) → ((x : PlainInvestee) → (change x).profile ≡ x.profile) → ((x : PlainInvestee) → InvesteeInRange x → InvesteeInRange (change x))
    → KeptByEveryRun p → KeptByEveryRun (with_investees p (change_first (has_id id) change p.investees))
kept_read p id change same in_range ok = record {
  investees_within_limit = omega (arith, length-change (has_id id) change p.investees, ok.investees_within_limit);
  positions_within_limit = ok.positions_within_limit;
  investees_in_range = all-change (has_id id) change InvesteeInRange (λ x e. in_range x) p.investees ok.investees_in_range;
  positions_in_range = ok.positions_in_range;
  ids_differ = pairwise-change (has_id id) change (λ x y. id_of y ≢ id_of x) (λ x y h e. h (e ∙ same_id x)) (λ x y h e. h (sym (same_id y) ∙ e)) p.investees ok.ids_differ;
  positions_on_open_investees = All-weaker _ _ (λ q h. found-changed (has_id id) change (has_id q.id) (λ x. ap (λ n. eqb n q.id) (same_id x)) p.investees ∙ h) p.positions ok.positions_on_open_investees;
  positions_differ = ok.positions_differ;
  exposures_within_limit = all-profiles id change same (λ x. exposures (map (lent_by x.kind) (positions_on x.id p.positions)) ≤ most_exposure) p.investees ok.exposures_within_limit;
  bonds_at_closing_only = bonds-read p id change same ok;
  positions_have_posts = ok.positions_have_posts;
}
  where
    same_id : (x : PlainInvestee) → id_of (change x) ≡ id_of x
    same_id x = ap (λ (y : PlainProfile). y.id) (same x)

-- ---- posts and amendments

within_limit : (t : Tables) (p : PlainBook) (x : PlainInvestee) (qs : List PlainPosition) → too_much_lent t p x qs ≡ None → exposure_to x qs ≤ most_exposure
within_limit t p x qs e = grind (arith, nat_tests)

-- an entry on positions that have what the book's own have
kept-entered : (t : Tables) (p : PlainBook) (b id m v : ℕ) (was : Bool) (qs : List PlainPosition) → KeptByEveryRun p → Entered t p b id m v was (amended b id m v qs)
    → length qs ≤ most_positions → AllByRecursion PositionInRange qs → AllByRecursion (λ q. is_open q.id p ≡ true) qs → Pairwise Differ qs → ((j : ℕ) → j ≢ id → positions_on j (amended b id m v qs) ≡ positions_on j p.positions)
    → ((j : ℕ) → AllByRecursion (λ q. q.id ≡ j → PostedAtClosingOnly q) p.positions → AllByRecursion (λ q. q.id ≡ j → PostedAtClosingOnly q) qs) → AllByRecursion HasPost (amended b id m v qs)
    → KeptByEveryRun (with_positions p (amended b id m v qs))
kept-entered t p b id m v was qs ok entry few in_range all_open differ others at_closing posts = record {
  investees_within_limit = ok.investees_within_limit;
  positions_within_limit = omega (arith, length-amended b id m v qs);
  investees_in_range = ok.investees_in_range;
  positions_in_range = in-range-amended b id m v entry.in_range qs in_range;
  ids_differ = ok.ids_differ;
  positions_on_open_investees = all-amended b id m v (λ q. is_open q.id p ≡ true) (λ q h. h) qs all_open;
  positions_differ = differ-amended b id m v qs differ;
  exposures_within_limit =
      exposures-entered p id entry.investee (amended b id m v qs) ok entry.found others
      (λ y s. s ≤ most_exposure) ok.exposures_within_limit (within_limit t p entry.investee _ entry.not-too-much);
  bonds_at_closing_only = bonds-entered t p b id m v was qs ok entry in_range at_closing others;
  positions_have_posts = posts;
}

kept-posted : (t : Tables) (p : PlainBook) (b id m v : ℕ) → KeptByEveryRun p → declined t p (post b id m v) ≡ None → KeptByEveryRun (changed p (post b id m v))
kept-posted t p b id m v ok e =
    let accepted = posted-none t p b id m v e in
    let entry = accepted.0 in
    kept-entered t p b id m v false (with_position b id p.positions) ok entry
    (length-with-position b id p.positions accepted.1 ok.positions_within_limit)
    (all-with-position b id p.positions PositionInRange ok.positions_in_range (new-in-range b id entry.in_range.branch))
    (all-with-position b id p.positions (λ q. is_open q.id p ≡ true) ok.positions_on_open_investees (ap is_some entry.found))
    (differ-with-position b id p.positions ok.positions_differ) (λ j ne. others-posted b id m v j ne p.positions)
    (λ j all. all-with-position b id p.positions (λ q. q.id ≡ j → PostedAtClosingOnly q) all (λ same. new-at-closing b id)) (posts-posted b id m v entry.in_range p.positions ok.positions_in_range ok.positions_have_posts)

kept-amended : (t : Tables) (p : PlainBook) (b id m v : ℕ) → KeptByEveryRun p → declined t p (amend b id m v) ≡ None → KeptByEveryRun (changed p (amend b id m v))
kept-amended t p b id m v ok e =
    let entry = amended-none t p b id m v e in
    kept-entered t p b id m v true p.positions ok entry
    ok.positions_within_limit ok.positions_in_range ok.positions_on_open_investees ok.positions_differ (λ j ne. others-amended b id m v j ne p.positions)
    (λ j all. all) (posts-amended b id m v entry.in_range p.positions ok.positions_in_range ok.positions_have_posts)

-- ---- each call

kept-changed-book : (t : Tables) (p : PlainBook) (c : Step) → WithinSourceLimits c → KeptByEveryRun p → declined t p c ≡ None → KeptByEveryRun (changed p c)
kept-changed-book t p (enter fields meaning) limits ok e =
    let o = opened-none t p fields meaning e in
    subst (λ xs. KeptByEveryRun (with_investees p xs)) (sym (ap₂ (λ (x : Result PlainProfile Fault) (r : Meaning). added x r p.investees) o.in_range o.read))
    (kept-opened p o.profile o.reading ok o.is-new (leb-false most_investees (length p.investees) o.room) (accepted-in-range fields o.profile o.in_range) (read-limits meaning o.reading o.read limits) o.not_below)
kept-changed-book t p (restate id meaning) limits ok e =
    let o = if_open-none (investee_of id p) _ e in
    let r = if_read-none meaning below_zero o.2 in
    kept_read p id (read_into restated meaning) (same-profile restated (λ r x. refl) meaning)
    (λ x h. subst (λ (m : Meaning). InvesteeInRange (read_into restated m x)) (sym r.1) (restated-in-range r.0 x (read-limits meaning r.0 r.1 limits) r.2 h)) ok
kept-changed-book t p (reduce id meaning) limits ok e =
    let o = if_open-none (investee_of id p) _ e in
    let r = if_read-none meaning _ o.2 in
    kept_read p id (read_into reduced_by meaning) (same-profile reduced_by (λ r x. refl) meaning)
    (λ x h. subst (λ (m : Meaning). InvesteeInRange (read_into reduced_by m x)) (sym r.1) (reduced-in-range r.0 x (read-limits meaning r.0 r.1 limits) h)) ok
kept-changed-book t p (post b id m v) limits ok e = kept-posted t p b id m v ok e
kept-changed-book t p (amend b id m v) limits ok e = kept-amended t p b id m v ok e
kept-changed-book t p (ask query) limits ok e = ok

pub kept-by-a-call : (t : Tables) (p : PlainBook) (c : Step) → WithinSourceLimits c → KeptByEveryRun p → KeptByEveryRun (after t p c)
kept-by-a-call t p c limits ok = by-a-call t p c KeptByEveryRun ok (kept-changed-book t p c limits ok)
