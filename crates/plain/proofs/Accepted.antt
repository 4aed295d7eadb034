-- What is known of a call that is not declined.
use Rattle.std.proofs.Common.{◌≡◌, ℕ, ◌≤◌, Bool, true, false, not, leb, List, length, Some, None, Ok, Err, Option, Result, refl, arith}
use Rattle.std.proofs.lemmas.Bool.Decides.{nat_tests}
use Rattle.std.proofs.lemmas.Bool.{not-false}
use Rattle.faults.specs.declared.Fault.{Fault}
use Rattle.faults.specs.declared.Refusal.{Refusal}
use Rattle.rules.specs.Months.{months}
use Rattle.rules.specs.Tables.{Tables}
use Rattle.rules.specs.declared.figures.Base.{Base}
use Rattle.rules.specs.declared.investees.InvesteeFields.{InvesteeFields}
use Rattle.rules.specs.Investees.{PlainProfile, profile_of}
use Rattle.sources.specs.declared.reading.Reading.{Reading}
use Rattle.plain.specs.Branches.{Branch}
use Rattle.plain.specs.Changes.{posted, amended, changed}
use Rattle.plain.specs.Limits.{most_investees, most_balance}
use Rattle.plain.specs.PlainBook.{PlainInvestee, PlainPosition, PlainBook, investee_of, is_open, is_posted}
use Rattle.plain.specs.Refused.{refuse, if_open, if_in_range, if_based, if_read, entry_out_of_range, bond_outside_closing, no_room_for, too_much_lent, below_zero, declined}
use Rattle.plain.specs.Runs.{unless, after}
use Rattle.plain.specs.Steps.{Meaning, Step, enter, post, amend}

-- ---- one refusal

pub refuse-none : (test : Bool) (refusal : Refusal) (next : Option Fault) → refuse test refusal next ≡ None → (test ≡ false) × (next ≡ None)
refuse-none true refusal next e = absurd cc
refuse-none false refusal next e = (refl, e)

pub if_open-none : (o : Option PlainInvestee) (next : PlainInvestee → Option Fault) → if_open o next ≡ None → (x : PlainInvestee) × (o ≡ Some x) × (next x ≡ None)
if_open-none None next e = absurd cc
if_open-none (Some x) next e = (x, refl, e)

pub if_in_range-none : (o : Result PlainProfile Fault) (next : PlainProfile → Option Fault) → if_in_range o next ≡ None → (x : PlainProfile) × (o ≡ Ok x) × (next x ≡ None)
if_in_range-none (Ok x) next e = (x, refl, e)
if_in_range-none (Err f) next e = absurd cc

pub if_based-none : (o : Result Base Refusal) (next : Option Fault) → if_based o next ≡ None → (b : Base) × (o ≡ Ok b) × (next ≡ None)
if_based-none (Ok b) next e = (b, refl, e)
if_based-none (Err f) next e = absurd cc

pub if_read-none : (o : Meaning) (next : Reading → Option Fault) → if_read o next ≡ None → (r : Reading) × (o ≡ Ok r) × (next r ≡ None)
if_read-none (Ok r) next e = (r, refl, e)
if_read-none (Err f) next e = absurd cc

-- what an accepted call keeps, every call keeps
pub by-a-call : (t : Tables) (p : PlainBook) (c : Step) (P : PlainBook → Type 0) → P p → (declined t p c ≡ None → P (changed p c)) → P (after t p c)
by-a-call t p c P ok accepted = by (declined t p c) refl
  where
    by : (o : Option Fault) → declined t p c ≡ o → P (unless o (changed p c) (λ f. p))
    by None e = accepted e
    by (Some f) e = ok

-- ---- ranges

pub record EntryInRange (b m v : ℕ) : Type 0 where
  pub branch : Branch b
  pub month-from : 1 ≤ m
  pub month-to : m ≤ months
  pub balance : v ≤ most_balance

pub entry-within : (b m v : ℕ) → entry_out_of_range b m v ≡ false → EntryInRange b m v
entry-within b m v e = grind (arith, nat_tests)

-- ---- the calls

pub record Opened (t : Tables) (p : PlainBook) (fields : InvesteeFields) (meaning : Meaning) : Type 0 where
  pub profile : PlainProfile
  pub reading : Reading
  pub base : Base
  pub in_range : profile_of fields ≡ Ok profile
  pub is-new : is_open profile.id p ≡ false
  pub room : leb most_investees (length p.investees) ≡ false
  pub based : t.bases profile.kind profile.figures ≡ Ok base
  pub read : meaning ≡ Ok reading
  pub not_below : below_zero reading ≡ None

pub opened-none : (t : Tables) (p : PlainBook) (fields : InvesteeFields) (meaning : Meaning) → declined t p (enter fields meaning) ≡ None → Opened t p fields meaning
opened-none t p fields meaning e =
    let one = if_in_range-none (profile_of fields) _ e in
    let x = one.0 in
    let two = refuse-none (is_open x.id p) _ _ one.2 in
    let three = refuse-none (leb most_investees (length p.investees)) _ _ two.1 in
    let four = if_based-none (t.bases x.kind x.figures) _ three.1 in
    let five = if_read-none meaning below_zero four.2 in
    record { profile = x; reading = five.0; base = four.0; in_range = one.1; is-new = two.0; room = three.0; based = four.1; read = five.1; not_below = five.2 }

pub record Entered (t : Tables) (p : PlainBook) (b id m v : ℕ) (is_posted_already : Bool) (qs : List PlainPosition) : Type 0 where
  pub investee : PlainInvestee
  pub in_range : EntryInRange b m v
  pub found : investee_of id p ≡ Some investee
  pub in_closing_month : bond_outside_closing investee m ≡ false
  pub was-posted : is_posted b id m p.positions ≡ is_posted_already
  pub not-too-much : too_much_lent t p investee qs ≡ None

pub posted-none : (t : Tables) (p : PlainBook) (b id m v : ℕ) → declined t p (post b id m v) ≡ None → Entered t p b id m v false (posted b id m v p.positions) × (no_room_for b id p.positions ≡ false)
posted-none t p b id m v e =
    let one = refuse-none (entry_out_of_range b m v) _ _ e in
    let two = if_open-none (investee_of id p) _ one.1 in
    let three = refuse-none (bond_outside_closing two.0 m) _ _ two.2 in
    let four = refuse-none (is_posted b id m p.positions) _ _ three.1 in
    let five = refuse-none (no_room_for b id p.positions) _ _ four.1 in
    (record { investee = two.0; in_range = entry-within b m v one.0; found = two.1; in_closing_month = three.0; was-posted = four.0; not-too-much = five.1 }, five.0)

pub amended-none : (t : Tables) (p : PlainBook) (b id m v : ℕ) → declined t p (amend b id m v) ≡ None → Entered t p b id m v true (amended b id m v p.positions)
amended-none t p b id m v e =
    let one = refuse-none (entry_out_of_range b m v) _ _ e in
    let two = if_open-none (investee_of id p) _ one.1 in
    let three = refuse-none (bond_outside_closing two.0 m) _ _ two.2 in
    let four = refuse-none (not (is_posted b id m p.positions)) _ _ three.1 in
    record { investee = two.0; in_range = entry-within b m v one.0; found = two.1; in_closing_month = three.0; was-posted = not-false _ four.0; not-too-much = four.1 }
