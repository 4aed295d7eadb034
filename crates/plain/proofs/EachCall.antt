-- What each call makes of a book, by lookups.
use Rattle.std.proofs.Common.{◌≡◌, ℕ, ◌-◌, ◌≤◌, Bool, true, false, cond, eqb, ◌≢◌, List, [], ◌∷◌, ◌++◌, map, is_some, Some, None, Ok, Option, Result, sym, refl, ap, ◌∙◌, subst, ap₂, ⊎_elim, arith}
use Rattle.std.specs.List.{AllByRecursion}
use Rattle.std.specs.Option.{option_or}
use Rattle.std.proofs.lemmas.List.{get_or-set_same, get_or-set_other, map-append}
use Rattle.std.proofs.lemmas.List.Folds.{find-append}
use Rattle.std.proofs.lemmas.Bool.Decides.{nat_tests}
use Rattle.std.proofs.lemmas.Bool.{cases_eq, eq-eqb, ne_eqb, cond-true, cond-false, cond_both}
use Rattle.faults.specs.declared.Fault.{Fault}
use Rattle.rules.specs.Months.{months}
use Rattle.rules.specs.Tables.{Tables}
use Rattle.rules.specs.declared.investees.InvesteeFields.{InvesteeFields}
use Rattle.rules.specs.Investees.{PlainProfile}
use Rattle.rules.proofs.Ranges.{within-accepted}
use Rattle.sources.specs.declared.reading.Reading.{Reading}
use Rattle.plain.specs.declared.answers.Answer.{Answer}
use Rattle.plain.specs.declared.answers.Answer.TheVariants.{Declined}
use Rattle.plain.specs.Changes.{opened, restated, reduced_by, read_into, added, with_position, amended, changed}
use Rattle.plain.specs.EachCall.{ids, branch_and_id, balance_in, OtherInvesteesAsBefore, Enters, HasReading, HasReduction, ReadsInto, Posts, Amends, ChangesWhatItNames, OneCall, EachCallChangesWhatItNames}
use Rattle.plain.specs.Kept.{PositionInRange, KeptByEveryRun}
use Rattle.plain.specs.Lists.{first_of, change_first}
use Rattle.plain.specs.PlainBook.{PlainInvestee, PlainPosition, PlainBook, with_investees, id_of, has_id, investee_of, is_open, is_of, position_of, new_position, balance_of, with_balance, posted_in}
use Rattle.plain.specs.Readings.{of_investee, reply, gives}
use Rattle.plain.specs.Refused.{declined, below_zero}
use Rattle.plain.specs.Runs.{unless, after, answer, ReachedByARun}
use Rattle.plain.specs.Steps.{Meaning, Query, for_part, for_total, for_sheet, for_book_total, Step, enter, restate, reduce, post, amend, ask, WithinSourceLimits}
use Rattle.plain.proofs.Accepted.{EntryInRange, if_open-none, if_read-none, opened-none, posted-none, amended-none}
use Rattle.plain.proofs.Changing.{same-profile}
use Rattle.plain.proofs.Bonds.{none-anywhere}
use Rattle.plain.proofs.Lists.{is_find, first-all, found-changed}
use Rattle.plain.proofs.Positions.{all-with-position, new-in-range}
use Rattle.plain.proofs.Runs.{run-accepted, reached-after}

-- ---- looking up, after one change

module _ {X : Type 0} (test : X → Bool) (change : X → X) where
  first-changed : ((x : X) → test (change x) ≡ test x) → (xs : List X) (x : X) → first_of test xs ≡ Some x → first_of test (change_first test change xs) ≡ Some (change x)
  unfolding change_first first_of
  first-changed same [] x e = absurd cc
  first-changed same (y ∷ xs) x e =
      cond_both (test y) (change y ∷ xs) (y ∷ change_first test change xs) (λ ys. first_of test ys ≡ Some (change x))
      (λ h. let is : y ≡ x = cc (sym (cond-true (test y) (Some y) (first_of test xs) h) ∙ e) in
      cond-true (test (change y)) _ _ (same y ∙ h) ∙ ap (λ z. Some (change z)) is)
      (λ h. cond-false (test y) _ _ h ∙ first-changed same xs x (sym (cond-false (test y) (Some y) (first_of test xs) h) ∙ e))

  -- another test that passes none of those that may be changed
  others-unchanged : (other : X → Bool) → ((x : X) → test x ≡ true → other x ≡ false) → ((x : X) → test x ≡ true → other (change x) ≡ false) → (xs : List X) → first_of other (change_first test change xs) ≡ first_of other xs
  unfolding change_first first_of
  others-unchanged other was is [] = refl
  others-unchanged other was is (x ∷ xs) =
      cond_both (test x) (change x ∷ xs) (x ∷ change_first test change xs) (λ ys. first_of other ys ≡ first_of other (x ∷ xs))
      (λ h. cond-false (other (change x)) _ _ (is x h) ∙ sym (cond-false (other x) _ _ (was x h)))
      (λ h. ap (λ o. cond (other x) (Some x) o) (others-unchanged other was is xs))

  -- in order
  map-changed : {Y : Type 0} (key : X → Y) → ((x : X) → key (change x) ≡ key x) → (xs : List X) → map key (change_first test change xs) ≡ map key xs
  unfolding change_first
  map-changed key same [] = refl
  map-changed key same (x ∷ xs) =
      cond_both (test x) (change x ∷ xs) (x ∷ change_first test change xs) (λ ys. map key ys ≡ map key (x ∷ xs))
      (λ h. ap (λ k. k ∷ map key xs) (same x)) (λ h. ap (λ ks. key x ∷ ks) (map-changed key same xs))

first-push : {X : Type 0} (test : X → Bool) (xs : List X) (y : X) → first_of test (xs ++ y ∷ []) ≡ option_or (first_of test xs) (first_of test (y ∷ []))
first-push test xs y = is_find test (xs ++ y ∷ []) ∙ find-append test xs (y ∷ []) ∙ sym (ap₂ option_or (is_find test xs) (is_find test (y ∷ [])))

first-of-one : {X : Type 0} (test : X → Bool) (y : X) → first_of test (y ∷ []) ≡ cond (test y) (Some y) None
unfolding first_of
first-of-one test y = refl

none-found : {X : Type 0} (o : Option X) → is_some o ≡ false → o ≡ None
none-found None e = refl
none-found (Some x) e = absurd cc

some-found : {X : Type 0} (o : Option X) → is_some o ≡ true → (x : X) × (o ≡ Some x)
some-found None e = absurd cc
some-found (Some x) e = (x, refl)

or-none : {X : Type 0} (o : Option X) → option_or o None ≡ o
or-none None = refl
or-none (Some x) = refl

-- ---- openings

module _ (p : PlainBook) (x : PlainProfile) (r : Reading) where
  found-last : is_open x.id p ≡ false → investee_of x.id (with_investees p (p.investees ++ opened x r ∷ [])) ≡ Some (opened x r)
  found-last is-new =
      first-push (has_id x.id) p.investees (opened x r)
      ∙ ap₂ option_or (none-found (investee_of x.id p) is-new) (first-of-one (has_id x.id) (opened x r) ∙ cond-true (eqb x.id x.id) _ _ (eq-eqb x.id x.id refl))

  others-found : OtherInvesteesAsBefore x.id p (with_investees p (p.investees ++ opened x r ∷ []))
  others-found j ne =
      first-push (has_id j) p.investees (opened x r)
      ∙ ap (option_or (investee_of j p)) (first-of-one (has_id j) (opened x r) ∙ cond-false (eqb x.id j) _ _ (ne_eqb x.id j (λ e. ne (sym e))))
      ∙ or-none (investee_of j p)

enters : (t : Tables) (p : PlainBook) (fields : InvesteeFields) (meaning : Meaning) → declined t p (enter fields meaning) ≡ None → Enters fields meaning p (changed p (enter fields meaning))
enters t p fields meaning e =
    let o = opened-none t p fields meaning e in
    let numbers = (within-accepted fields o.profile o.in_range).1 in
    let made : with_investees p (p.investees ++ opened o.profile o.reading ∷ []) ≡ changed p (enter fields meaning) =
    sym (ap₂ (λ (x : Result PlainProfile Fault) (r : Meaning). with_investees p (added x r p.investees)) o.in_range o.read) in
    subst (Enters fields meaning p) made (record {
      investee = (
        o.reading,
        opened o.profile o.reading,
        o.read,
        subst (λ n. investee_of n (with_investees p (p.investees ++ opened o.profile o.reading ∷ [])) ≡ Some (opened o.profile o.reading)) numbers.same_id (found-last p o.profile o.reading o.is-new),
        record { numbers = numbers; kilograms = refl; grade = refl; reduction = refl; not_reduced = refl },
      );
      others = subst (λ n. OtherInvesteesAsBefore n p (with_investees p (p.investees ++ opened o.profile o.reading ∷ []))) numbers.same_id (others-found p o.profile o.reading);
      stands_last = map-append id_of p.investees (opened o.profile o.reading ∷ []) ∙ ap (λ n. ids p ++ n ∷ []) numbers.same_id;
      positions = refl;
    })

-- ---- restatements and reductions

reads : (Becomes : Reading → PlainInvestee → PlainInvestee → Type 0) (change : Reading → PlainInvestee → PlainInvestee) → ((r : Reading) (x : PlainInvestee) → Becomes r x (change r x))
    → ((r : Reading) (x : PlainInvestee) → (change r x).profile ≡ x.profile)
    → (p : PlainBook) (id : ℕ) (meaning : Meaning) (r : Reading) (x : PlainInvestee) → meaning ≡ Ok r → investee_of id p ≡ Some x
    → ReadsInto Becomes id meaning p (with_investees p (change_first (has_id id) (read_into change meaning) p.investees))
reads Becomes change becomes same p id meaning r x read found = record {
  investee = (
    r,
    x,
    change r x,
    read,
    found,
    first-changed (has_id id) (read_into change meaning) (λ y. ap (λ n. eqb n id) (same_id y)) p.investees x found ∙ ap (λ (m : Meaning). Some (read_into change m x)) read,
    becomes r x,
  );
  others = λ j ne. others-unchanged (has_id id) (read_into change meaning) (has_id j) (λ y e. apart j ne y e) (λ y e. ap (λ n. eqb n j) (same_id y) ∙ apart j ne y e) p.investees;
  in_order = map-changed (has_id id) (read_into change meaning) id_of same_id p.investees;
  positions = refl;
}
  where
    same_id : (y : PlainInvestee) → id_of (read_into change meaning y) ≡ id_of y
    same_id y = ap (λ (z : PlainProfile). z.id) (same-profile change same meaning y)

    apart : (j : ℕ) → j ≢ id → (y : PlainInvestee) → has_id id y ≡ true → has_id j y ≡ false
    apart j ne y e = grind (arith, nat_tests)

-- ---- posts and amendments

new-empty : (b id n : ℕ) → balance_of n (new_position b id) ≡ None
new-empty b id n = none-anywhere months (n - 1)

-- a new position has no balance yet
balances-with-position : (b id : ℕ) (qs : List PlainPosition) (c j n : ℕ) → balance_in n (position_of c j (with_position b id qs)) ≡ balance_in n (position_of c j qs)
balances-with-position b id qs c j n =
    cond_both (is_some (position_of b id qs)) qs (qs ++ new_position b id ∷ []) (λ rs. balance_in n (position_of c j rs) ≡ balance_in n (position_of c j qs)) (λ e. refl)
    (λ e. ap (balance_in n) (first-push (is_of c j) qs (new_position b id)) ∙ ap (λ o. balance_in n (option_or (position_of c j qs) o)) (first-of-one (is_of c j) (new_position b id)) ∙ by (position_of c j qs) (is_of c j (new_position b id)))
  where
    by : (o : Option PlainPosition) (test : Bool) → balance_in n (option_or o (cond test (Some (new_position b id)) None)) ≡ balance_in n o
    by (Some q) test = refl
    by None true = new-empty b id n
    by None false = refl

has-position : (b id : ℕ) (qs : List PlainPosition) → is_some (position_of b id (with_position b id qs)) ≡ true
has-position b id qs =
    cond_both (is_some (position_of b id qs)) qs (qs ++ new_position b id ∷ []) (λ rs. is_some (position_of b id rs) ≡ true) (λ e. e)
    (λ e. ap is_some (first-push (is_of b id) qs (new_position b id) ∙ ap₂ option_or (none-found (position_of b id qs) e) (first-of-one (is_of b id) (new_position b id))) ∙ ap is_some (cond-true (is_of b id (new_position b id)) (Some (new_position b id)) None own))
  where
    own : is_of b id (new_position b id) ≡ true
    own = grind (arith, nat_tests)

module _ (b id m v : ℕ) (entry : EntryInRange b m v) (qs : List PlainPosition) (all : AllByRecursion PositionInRange qs) where
  written : is_some (position_of b id qs) ≡ true → balance_in m (position_of b id (amended b id m v qs)) ≡ Some v
  written e =
      let q = some-found (position_of b id qs) e in
      ap (balance_in m) (first-changed (is_of b id) (with_balance m v) (λ r. refl) qs q.0 q.1)
      ∙ get_or-set_same q.0.balances (m - 1) (Some v) None (omega (arith, entry.month-from, entry.month-to, (first-all PositionInRange (is_of b id) qs q.0 q.1 all).a_place_for_each_month))

  not-written : (c j n : ℕ) → 1 ≤ n → ((c ≡ b) × (j ≡ id) × (n ≡ m) → ⊥) → balance_in n (position_of c j (amended b id m v qs)) ≡ balance_in n (position_of c j qs)
  not-written c j n low other =
      ⊎_elim
      (λ same. ⊎_elim (λ same-id. own same same-id) (λ ne. ap (balance_in n) (apart (λ q e. grind (arith, nat_tests)))) (cases_eq j id))
      (λ ne. ap (balance_in n) (apart (λ q e. grind (arith, nat_tests))))
      (cases_eq c b)
    where
      apart : ((q : PlainPosition) → is_of b id q ≡ true → is_of c j q ≡ false) → position_of c j (amended b id m v qs) ≡ position_of c j qs
      apart h = others-unchanged (is_of b id) (with_balance m v) (is_of c j) h h qs

      by : (o : Option PlainPosition) → position_of b id qs ≡ o → n ≢ m → balance_in n (position_of b id (amended b id m v qs)) ≡ balance_in n o
      by None none ne = ap (balance_in n) (none-found (position_of b id (amended b id m v qs)) (found-changed (is_of b id) (with_balance m v) (is_of b id) (λ r. refl) qs ∙ ap is_some none))
      by (Some q) found ne =
          ap (balance_in n) (first-changed (is_of b id) (with_balance m v) (λ r. refl) qs q found)
          ∙ get_or-set_other q.balances (m - 1) (n - 1) (Some v) None (λ e. ne (omega (arith, entry.month-from)))

      own : c ≡ b → j ≡ id → balance_in n (position_of c j (amended b id m v qs)) ≡ balance_in n (position_of c j qs)
      own same-branch same-id =
          subst (λ c. balance_in n (position_of c j (amended b id m v qs)) ≡ balance_in n (position_of c j qs)) (sym same-branch)
          (subst (λ j. balance_in n (position_of b j (amended b id m v qs)) ≡ balance_in n (position_of b j qs)) (sym same-id)
          (by (position_of b id qs) refl (λ e. other (same-branch, same-id, e))))

posted-is-some : (m : ℕ) (o : Option PlainPosition) → posted_in m o ≡ true → is_some o ≡ true
posted-is-some m None e = absurd cc
posted-is-some m (Some q) e = refl

-- the branch and the id of each position stay
holders-amended : (b id m v : ℕ) (qs : List PlainPosition) → map branch_and_id (amended b id m v qs) ≡ map branch_and_id qs
holders-amended b id m v qs = map-changed (is_of b id) (with_balance m v) branch_and_id (λ q. refl) qs

posts : (t : Tables) (p : PlainBook) (b id m v : ℕ) → KeptByEveryRun p → declined t p (post b id m v) ≡ None → Posts b id m v p (changed p (post b id m v))
posts t p b id m v kept e =
    let entry = (posted-none t p b id m v e).0.in_range in
    let qs = with_position b id p.positions in
    let all = all-with-position b id p.positions PositionInRange kept.positions_in_range (new-in-range b id entry.branch) in
    record {
      writes = record {
        balance = written b id m v entry qs all (has-position b id p.positions);
        others = λ c j n low other. not-written b id m v entry qs all c j n low other ∙ balances-with-position b id p.positions c j n;
        investees = refl;
      };
      in_order = λ h. holders-amended b id m v qs ∙ ap (map branch_and_id) (cond-true (is_some (position_of b id p.positions)) p.positions (p.positions ++ new_position b id ∷ []) h);
      new_stands_last = λ h.
          holders-amended b id m v qs ∙ ap (map branch_and_id) (cond-false (is_some (position_of b id p.positions)) p.positions (p.positions ++ new_position b id ∷ []) h)
          ∙ map-append branch_and_id p.positions (new_position b id ∷ []);
    }

amends : (t : Tables) (p : PlainBook) (b id m v : ℕ) → KeptByEveryRun p → declined t p (amend b id m v) ≡ None → Amends b id m v p (changed p (amend b id m v))
amends t p b id m v kept e =
    let accepted = amended-none t p b id m v e in
    record {
      writes = record {
        balance = written b id m v accepted.in_range p.positions kept.positions_in_range (posted-is-some m (position_of b id p.positions) accepted.was-posted);
        others = not-written b id m v accepted.in_range p.positions kept.positions_in_range;
        investees = refl;
      };
      in_order = holders-amended b id m v p.positions;
    }

-- ---- each call

changes : (t : Tables) (p : PlainBook) (c : Step) → KeptByEveryRun p → declined t p c ≡ None → ChangesWhatItNames c p (changed p c)
changes t p (enter fields meaning) kept e = enters t p fields meaning e
changes t p (restate id meaning) kept e =
    let o = if_open-none (investee_of id p) _ e in
    let r = if_read-none meaning below_zero o.2 in
    reads HasReading restated (λ r x. record { kilograms = refl; grade = refl; profile = refl; reduction = refl; reduced = refl }) (λ r x. refl) p id meaning r.0 o.0 r.1 o.1
changes t p (reduce id meaning) kept e =
    let o = if_open-none (investee_of id p) _ e in
    let r = if_read-none meaning _ o.2 in
    reads HasReduction reduced_by (λ r x. record { reduction = refl; reduced = refl; profile = refl; kilograms = refl; grade = refl }) (λ r x. refl) p id meaning r.0 o.0 r.1 o.1
changes t p (post b id m v) kept e = posts t p b id m v kept e
changes t p (amend b id m v) kept e = amends t p b id m v kept e
changes t p (ask query) kept e = refl

where-accepted : (t : Tables) (p : PlainBook) (c : Step) → KeptByEveryRun p → ((f : Fault) → answer t p c ≢ Declined f) → ChangesWhatItNames c p (after t p c)
where-accepted t p c kept accepted = by (declined t p c) refl
  where
    by : (o : Option Fault) → declined t p c ≡ o → ChangesWhatItNames c p (after t p c)
    by None e = subst (λ o. ChangesWhatItNames c p (unless o (changed p c) (λ f. p))) (sym e) (changes t p c kept e)
    by (Some f) e = absurd (accepted f (ap (λ o. unless o (gives t p c) Declined) e))

-- no accepted call gives a refusal
of-investee-given : (o : Option PlainInvestee) (k : PlainInvestee → Answer) → ((x : PlainInvestee) (f : Fault) → k x ≢ Declined f) → (f : Fault) → of_investee o k ≢ Declined f
of-investee-given None k given f e = absurd cc
of-investee-given (Some x) k given f e = given x f e

no-refusal-replied : (t : Tables) (p : PlainBook) (query : Query) (f : Fault) → reply t p query ≢ Declined f
no-refusal-replied t p (for_part id b) f e = of-investee-given (investee_of id p) _ (λ x g h. absurd cc) f e
no-refusal-replied t p (for_total id) f e = of-investee-given (investee_of id p) _ (λ x g h. absurd cc) f e
no-refusal-replied t p (for_sheet b) f e = absurd cc
no-refusal-replied t p for_book_total f e = absurd cc

no-refusal-given : (t : Tables) (p : PlainBook) (c : Step) (f : Fault) → gives t p c ≢ Declined f
no-refusal-given t p (enter fields meaning) f e = absurd cc
no-refusal-given t p (restate id meaning) f e = absurd cc
no-refusal-given t p (reduce id meaning) f e = absurd cc
no-refusal-given t p (post b id m v) f e = absurd cc
no-refusal-given t p (amend b id m v) f e = absurd cc
no-refusal-given t p (ask query) f e = no-refusal-replied t p query f e

where-declined : (t : Tables) (p : PlainBook) (c : Step) (f : Fault) → answer t p c ≡ Declined f → after t p c ≡ p
where-declined t p c f e = by (declined t p c) refl
  where
    by : (o : Option Fault) → declined t p c ≡ o → after t p c ≡ p
    by None none = absurd (no-refusal-given t p c f (sym (ap (λ o. unless o (gives t p c) Declined) none) ∙ e))
    by (Some g) some = ap (λ o. unless o (changed p c) (λ f. p)) some

-- a call with the book and the answer that the definitions give
pub one-call : (t : Tables) (p : PlainBook) (c : Step) (a : Answer) (q : PlainBook) → WithinSourceLimits c → KeptByEveryRun p → a ≡ answer t p c → q ≡ after t p c → OneCall t p c a q
one-call t p c a q within kept told e = record {
  changes = λ accepted. subst (ChangesWhatItNames c p) (sym e) (where-accepted t p c kept (λ f same. accepted f (told ∙ same)));
  stays = λ f same. e ∙ where-declined t p c f (sym told ∙ same);
  reached = λ reached. subst (ReachedByARun t) (sym e) (reached-after t p c within reached);
}

pub each-call-changes : EachCallChangesWhatItNames
each-call-changes = record {
  where_accepted = where-accepted;
  where_declined = where-declined;
  run_of_accepted = run-accepted;
  as_one_call = λ t p c within kept. one-call t p c (answer t p c) (after t p c) within kept refl refl;
}
