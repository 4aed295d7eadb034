-- An opening, from its two halves.
use Rattle.std.proofs.Common.{◌≡◌, ◌<◌, Bool, true, false, cond, leb, List, [], ◌∷◌, ◌++◌, length, pos, Some, None, Ok, Err, Option, Result, sym, refl, ap, ◌∙◌, ap₂}
use lib.Signed.{lt_z}
use Rattle.std.proofs.lemmas.List.{map_push}
use Rattle.std.proofs.lemmas.Bool.{leb-false}
use Rattle.faults.specs.Refusals.{fault}
use Rattle.faults.specs.declared.Fault.{Fault}
use Rattle.faults.specs.declared.Refusal.{Refusal}
use Rattle.faults.specs.declared.Refusal.TheVariants.{ReadingBelowZero, AlreadyOpen, InvesteesFull}
use Rattle.rules.specs.Investees.{PlainProfile, profile_of}
use Rattle.rules.specs.Tables.{Tables}
use Rattle.rules.specs.declared.figures.Base.{Base}
use Rattle.rules.specs.declared.investees.InvesteeFields.{InvesteeFields}
use Rattle.sources.specs.declared.reading.Reading.{Reading}
use Rattle.plain.specs.Changes.{opened, added, changed}
use Rattle.plain.specs.Limits.{most_investees}
use Rattle.plain.specs.PlainBook.{PlainBook, with_investees, is_open}
use Rattle.plain.specs.Refused.{refuse, if_in_range, if_based, if_read, below_zero, declined}
use Rattle.plain.specs.Runs.{after}
use Rattle.plain.specs.Steps.{Meaning, enter}
use Rattle.plain.proofs.Accepted.{opened-none}
use Rattle.book.specs.declared.rows.InvesteeRow.{InvesteeRow}
use Rattle.book.specs.Openings.{emissions_in, based_on, taken_as, taken_by}
use Rattle.positions.specs.declared.Positions.{Positions}
use Rattle.book.specs.Rows.{plain_investee, plain_investees, plain_rows}
use Rattle.plain.proofs.Runs.{after-accepted}

-- ---- emissions

pub emissions-err : (m : Meaning) (f : Fault) → Err f ≡ emissions_in m → if_read m below_zero ≡ Some f
emissions-err (Err e) f h = let same : e ≡ f = cc in ap Some same
emissions-err (Ok r) f h = by (lt_z r.kilograms (pos 0)) h
  where
    by : (t : Bool) → Err f ≡ cond t (Err (fault ReadingBelowZero 0 0)) (Ok r) → refuse t ReadingBelowZero None ≡ Some f
    by true h = let same : fault ReadingBelowZero 0 0 ≡ f = cc in ap Some same
    by false h = absurd cc

pub emissions-ok : (m : Meaning) (x : Reading) → Ok x ≡ emissions_in m → (m ≡ Ok x) × (if_read m below_zero ≡ None)
emissions-ok (Err e) x h = absurd cc
emissions-ok (Ok r) x h = by (lt_z r.kilograms (pos 0)) h
  where
    by : (t : Bool) → Ok x ≡ cond t (Err (fault ReadingBelowZero 0 0)) (Ok r) → (◌≡◌ {A = Meaning} (Ok r) (Ok x)) × (refuse t ReadingBelowZero None ≡ None)
    by true h = absurd cc
    by false h = (sym h, refl)

-- ---- the halves

then_read : Result PlainProfile Fault → Meaning → Option Fault
then_read (Ok x) m = if_read m below_zero
then_read (Err f) m = Some f

module _ (t : Tables) (p : PlainBook) (fields : InvesteeFields) (m : Meaning) where
  halves : declined t p (enter fields m) ≡ then_read (taken_by t p fields) m
  unfolding then_read
  halves = at (profile_of fields)
    where
      based : (x : PlainProfile) (b : Result Base Refusal) → if_based b (if_read m below_zero) ≡ then_read (based_on b x) m
      based x (Ok b) = refl
      based x (Err e) = refl

      held : (x : PlainProfile) (full : Bool) → refuse full InvesteesFull (if_based (t.bases x.kind x.figures) (if_read m below_zero)) ≡ then_read (cond full (Err (fault InvesteesFull 0 0)) (based_on (t.bases x.kind x.figures) x)) m
      held x true = refl
      held x false = based x (t.bases x.kind x.figures)

      known : (x : PlainProfile) (is_here full : Bool) → refuse is_here AlreadyOpen (refuse full InvesteesFull (if_based (t.bases x.kind x.figures) (if_read m below_zero))) ≡ then_read (cond is_here (Err (fault AlreadyOpen 0 0)) (cond full (Err (fault InvesteesFull 0 0)) (based_on (t.bases x.kind x.figures) x))) m
      known x true full = refl
      known x false full = held x full

      at : (o : Result PlainProfile Fault) → if_in_range o (λ x. refuse (is_open x.id p) AlreadyOpen (refuse (leb most_investees (length p.investees)) InvesteesFull (if_based (t.bases x.kind x.figures) (if_read m below_zero)))) ≡ then_read (taken_as t p o) m
      at (Err f) = refl
      at (Ok x) = known x (is_open x.id p) (leb most_investees (length p.investees))

  -- an accepted profile is the fields' own
  taken-profile : (x : PlainProfile) → Ok x ≡ taken_by t p fields → profile_of fields ≡ Ok x
  taken-profile x e = at (profile_of fields) e
    where
      based : (y : PlainProfile) (b : Result Base Refusal) → Ok x ≡ based_on b y → ◌≡◌ {A = Result PlainProfile Fault} (Ok y) (Ok x)
      based y (Ok b) e = sym e
      based y (Err f) e = absurd cc

      tests : (y : PlainProfile) (is_here full : Bool) → Ok x ≡ cond is_here (Err (fault AlreadyOpen 0 0)) (cond full (Err (fault InvesteesFull 0 0)) (based_on (t.bases y.kind y.figures) y)) → ◌≡◌ {A = Result PlainProfile Fault} (Ok y) (Ok x)
      tests y true full e = absurd cc
      tests y false true e = absurd cc
      tests y false false e = based y (t.bases y.kind y.figures) e

      at : (o : Result PlainProfile Fault) → Ok x ≡ taken_as t p o → o ≡ Ok x
      at (Err f) e = absurd cc
      at (Ok y) e = tests y (is_open y.id p) (leb most_investees (length p.investees)) e

  pub not_taken : (f : Fault) → Err f ≡ taken_by t p fields → declined t p (enter fields m) ≡ Some f
  unfolding then_read
  not_taken f e = halves ∙ ap (λ o. then_read o m) (sym e)

  pub not-read : (x : PlainProfile) (f : Fault) → Ok x ≡ taken_by t p fields → Err f ≡ emissions_in m → declined t p (enter fields m) ≡ Some f
  unfolding then_read
  not-read x f e h = halves ∙ ap (λ o. then_read o m) (sym e) ∙ emissions-err m f h

  pub record Entered (x : PlainProfile) (r : Reading) : Type 0 where
    pub accepted : declined t p (enter fields m) ≡ None
    pub enters : changed p (enter fields m) ≡ with_investees p (p.investees ++ opened x r ∷ [])
    pub room : length p.investees < most_investees

  pub entered : (x : PlainProfile) (r : Reading) → Ok x ≡ taken_by t p fields → Ok r ≡ emissions_in m → Entered x r
  unfolding then_read
  entered x r e h =
      let read = emissions-ok m r h in
      let none = halves ∙ ap (λ o. then_read o m) (sym e) ∙ read.1 in
      record {
        accepted = none;
        enters = ap₂ (λ (o : Result PlainProfile Fault) (n : Meaning). with_investees p (added o n p.investees)) (taken-profile x e) read.0;
        room = leb-false most_investees (length p.investees) (opened-none t p fields m none).room;
      }

-- the row is entered at the end
pub opened_rows : (t : Tables) (xs ys : List InvesteeRow) (qs : Positions) (fields : InvesteeFields) (m : Meaning) (x : PlainProfile) (r : Reading) (row : InvesteeRow) → Entered t (plain_rows xs qs) fields m x r → ys ≡ xs ++ row ∷ [] → plain_investee row ≡ opened x r → plain_rows ys qs ≡ after t (plain_rows xs qs) (enter fields m)
opened_rows t xs ys qs fields m x r row a e is =
    ap (λ zs. with_investees (plain_rows xs qs) zs) (ap plain_investees e ∙ map_push plain_investee xs row ∙ ap (λ y. plain_investees xs ++ y ∷ []) is)
    ∙ sym (after-accepted t (plain_rows xs qs) (enter fields m) a.accepted ∙ a.enters)
