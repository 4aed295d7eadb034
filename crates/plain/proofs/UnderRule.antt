-- What every run keeps under its rule: bases, amounts above zero, and bonds within their denominators.
use Rattle.std.proofs.Common.{◌≡◌, ℕ, Bool, true, false, ◌≢◌, ◌&&◌, List, [], ◌∷◌, ◌++◌, map, is_ok, None, Ok, Err, Result, sym, refl, ap, subst, ap₂, arith}
use Rattle.grading.proofs.EachElement.{All-push}
use Rattle.std.proofs.lemmas.Bool.Decides.{nat_tests}
use Rattle.std.proofs.lemmas.Bool.{le-ltb, and_right}
use Rattle.faults.specs.declared.Fault.{Fault}
use Rattle.faults.specs.declared.Refusal.{Refusal}
use Rattle.rules.specs.Figures.{WithinLimits}
use Rattle.rules.specs.Tables.{Tables, Lawful, BaseInRange}
use Rattle.rules.specs.declared.figures.Base.{Base}
use Rattle.rules.specs.declared.figures.Base.TheVariants.{Amount, Whole}
use Rattle.rules.specs.Investees.{PlainProfile}
use Rattle.rules.proofs.Ranges.{accepted-in-range}
use Rattle.sources.specs.declared.reading.Reading.{Reading}
use Rattle.plain.specs.Changes.{opened, restated, reduced_by, read_into, added, changed}
use Rattle.plain.specs.Exposures.{is_bond, exposure_to, lent_by, positions_on, denominator_from, denominator_of}
use Rattle.plain.specs.Kept.{KeptByEveryRun, KeptUnderRule}
use Rattle.plain.specs.Lists.{change_first}
use Rattle.plain.specs.Parts.{Denominator, at_least, whole, AboveZero, exposures}
use Rattle.plain.specs.PlainBook.{PlainInvestee, PlainPosition, PlainBook, empty, with_investees, with_positions, has_id, is_open}
use Rattle.plain.specs.Refused.{declined, too_much_lent, passes}
use Rattle.plain.specs.Runs.{after}
use Rattle.plain.specs.Steps.{Meaning, Step, enter, restate, reduce, post, amend, ask, WithinSourceLimits}
use Rattle.plain.proofs.Accepted.{by-a-call, Entered, opened-none, posted-none, amended-none}
use Rattle.plain.proofs.Changing.{all-profiles, no-positions, no-position-yet, exposures-entered, same-profile}
use Rattle.plain.proofs.Positions.{others-amended, others-posted}

-- a bond's exposure does not pass its denominator
abbrev Bounded : Tables → PlainBook → PlainInvestee → ℕ → Type 0
Bounded t p x s = (is_bond x.profile.kind && passes s (denominator_of t p x)) ≡ false

pub ruled-at-first : (t : Tables) → KeptUnderRule t empty
ruled-at-first t = record { bases_given = tt; amounts_above_zero = tt; bonds_within_denominator = tt }

pub above_zero : (r : Result Base Refusal) → BaseInRange r → AboveZero (denominator_from r)
above_zero (Ok (Amount n)) h = omega arith
above_zero (Ok Whole) h = tt
above_zero (Err e) h = tt

nothing-passes : (d : Denominator) → passes (exposures []) d ≡ false
unfolding exposures
nothing-passes (at_least w) = le-ltb w 0 (omega arith)
nothing-passes whole = refl

ruled-opened : (t : Tables) → Lawful t → (p : PlainBook) (x : PlainProfile) (r : Reading) (b : Base) → KeptByEveryRun p → KeptUnderRule t p → is_open x.id p ≡ false → WithinLimits x.figures → t.bases x.kind x.figures ≡ Ok b
    → KeptUnderRule t (with_investees p (p.investees ++ opened x r ∷ []))
ruled-opened t lawful p x r b kept ok is-new figures based = record {
  bases_given = All-push (λ y. is_ok (t.bases y.profile.kind y.profile.figures) ≡ true) p.investees (opened x r) ok.bases_given (ap is_ok based);
  amounts_above_zero = All-push (λ y. AboveZero (denominator_of t p y)) p.investees (opened x r) ok.amounts_above_zero (above_zero (t.bases x.kind x.figures) (lawful.bases_in_range x.kind x.figures figures));
  bonds_within_denominator = All-push (λ y. Bounded t p y (exposure_to y p.positions)) p.investees (opened x r) ok.bonds_within_denominator
      (subst (λ (qs : List PlainPosition). Bounded t p (opened x r) (exposures (map (lent_by x.kind) qs))) (sym (no-positions x.id p.positions (no-position-yet x.id p kept is-new)))
      (and_right (is_bond x.kind) _ (nothing-passes (denominator_of t p (opened x r)))));
}

-- a change that leaves the profile as it is
ruled-read : (t : Tables) (p : PlainBook) (id : ℕ) (change : PlainInvestee → PlainInvestee) → ((x : PlainInvestee) → (change x).profile ≡ x.profile) → KeptUnderRule t p → KeptUnderRule t (with_investees p (change_first (has_id id) change p.investees))
ruled-read t p id change same ok = record {
  bases_given = all-profiles id change same (λ x. is_ok (t.bases x.kind x.figures) ≡ true) p.investees ok.bases_given;
  amounts_above_zero = all-profiles id change same (λ x. AboveZero (denominator_from (t.bases x.kind x.figures))) p.investees ok.amounts_above_zero;
  bonds_within_denominator =
      all-profiles id change same (λ x. (is_bond x.kind && passes (exposures (map (lent_by x.kind) (positions_on x.id p.positions))) (denominator_from (t.bases x.kind x.figures))) ≡ false)
      p.investees ok.bonds_within_denominator;
}

bounded : (t : Tables) (p : PlainBook) (x : PlainInvestee) (qs : List PlainPosition) → too_much_lent t p x qs ≡ None → Bounded t p x (exposure_to x qs)
bounded t p x qs e = grind (arith, nat_tests)

ruled-entered : (t : Tables) (p : PlainBook) (b id m v : ℕ) (was : Bool) (qs : List PlainPosition) → KeptByEveryRun p → KeptUnderRule t p → Entered t p b id m v was qs → ((j : ℕ) → j ≢ id → positions_on j qs ≡ positions_on j p.positions)
    → KeptUnderRule t (with_positions p qs)
ruled-entered t p b id m v was qs kept ok entry others = record {
  bases_given = ok.bases_given;
  amounts_above_zero = ok.amounts_above_zero;
  bonds_within_denominator = exposures-entered p id entry.investee qs kept entry.found others (Bounded t p) ok.bonds_within_denominator (bounded t p entry.investee qs entry.not-too-much);
}

ruled-changed : (t : Tables) → Lawful t → (p : PlainBook) (c : Step) → KeptByEveryRun p → KeptUnderRule t p → declined t p c ≡ None → KeptUnderRule t (changed p c)
ruled-changed t lawful p (enter fields meaning) kept ok e =
    let o = opened-none t p fields meaning e in
    subst (λ xs. KeptUnderRule t (with_investees p xs)) (sym (ap₂ (λ (x : Result PlainProfile Fault) (r : Meaning). added x r p.investees) o.in_range o.read))
    (ruled-opened t lawful p o.profile o.reading o.base kept ok o.is-new (accepted-in-range fields o.profile o.in_range).figures_to o.based)
ruled-changed t lawful p (restate id meaning) kept ok e = ruled-read t p id (read_into restated meaning) (same-profile restated (λ r x. refl) meaning) ok
ruled-changed t lawful p (reduce id meaning) kept ok e = ruled-read t p id (read_into reduced_by meaning) (same-profile reduced_by (λ r x. refl) meaning) ok
ruled-changed t lawful p (post b id m v) kept ok e = ruled-entered t p b id m v false _ kept ok (posted-none t p b id m v e).0 (λ j ne. others-posted b id m v j ne p.positions)
ruled-changed t lawful p (amend b id m v) kept ok e = ruled-entered t p b id m v true _ kept ok (amended-none t p b id m v e) (λ j ne. others-amended b id m v j ne p.positions)
ruled-changed t lawful p (ask query) kept ok e = ok

pub ruled-by-a-call : (t : Tables) → Lawful t → (p : PlainBook) (c : Step) → WithinSourceLimits c → KeptByEveryRun p → KeptUnderRule t p → KeptUnderRule t (after t p c)
ruled-by-a-call t lawful p c limits kept ok = by-a-call t p c (KeptUnderRule t) ok (ruled-changed t lawful p c kept ok)
