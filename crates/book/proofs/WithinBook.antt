-- That every product of a reading fits, from what a book keeps.
use Rattle.std.proofs.Common.{◌≡◌, ℕ, ◌+◌, ◌*◌, ◌<◌, ◌≤◌, max, List, [], ◌∷◌, map, length, get_or, nat_abs, None, Some, Ok, Err, ok_or, Option, Result, sym, ap, subst, arith}
use Rattle.std.specs.List.{AllByRecursion}
use Rattle.grading.proofs.EachElement.{All-get_or, All-weaker}
use Rattle.faults.specs.Refusals.{fault}
use Rattle.faults.specs.declared.Fault.{Fault}
use Rattle.faults.specs.declared.Refusal.{Refusal}
use Rattle.faults.specs.declared.Refusal.TheVariants.{NotOpen}
use Rattle.rules.specs.Figures.{most_figure}
use Rattle.rules.specs.Months.{months}
use Rattle.rules.specs.Tables.{Tables, Lawful, BaseInRange}
use Rattle.rules.specs.declared.figures.Base.{Base}
use Rattle.rules.specs.declared.figures.Base.TheVariants.{Amount, Whole}
use Rattle.sources.specs.Limits.{most_kilograms}
use Rattle.plain.specs.Exposures.{exposure_to, denominator_from, denominator_of, lent_to, Measure, emissions, reductions, figure_of}
use Rattle.plain.specs.Kept.{InvesteeInRange, KeptByEveryRun}
use Rattle.plain.specs.Limits.{most_exposure}
use Rattle.plain.specs.Parts.{base_of}
use Rattle.plain.specs.PlainBook.{PlainInvestee, PlainBook, has_id, investee_of}
use Rattle.plain.proofs.Lists.{all_both, first-all}
use Rattle.plain.proofs.Parts.{base-holds}
use Rattle.plain.proofs.Sizes.{running-within}
use Rattle.positions.specs.Lending.{turn_of}
use Rattle.positions.specs.View.{positions_in}
use Rattle.book.specs.Rows.{plain_investee, plain_rows}
use Rattle.book.specs.Shares.{Sizes}
use Rattle.book.specs.Standings.{standing_of, whole_turn, Fair, WithinBook}
use Rattle.positions.specs.declared.lending.Turn.{Turn}
use Rattle.book.specs.declared.rows.InvesteeRow.{InvesteeRow}
use Rattle.positions.specs.declared.Positions.{Positions}
use Rattle.book.specs.declared.book.readings.Standing.{Standing}
use Rattle.book.proofs.Propositions.{kept_of}

base-within : (r : Result Base Refusal) (s : ℕ) → BaseInRange r → s ≤ most_exposure → max 1 (base_of (denominator_from r) s) ≤ months * most_figure
base-within (Ok (Amount n)) s range h = omega arith
base-within (Ok Whole) s range h = omega arith
base-within (Err e) s range h = omega arith

module _ (t : Tables) (lawful : Lawful t) (p : PlainBook) (x : PlainInvestee) (ok : WithinBook p.positions x) where
  within : (m : Measure) → nat_abs (figure_of m x) ≤ most_kilograms
  within emissions = ok.in_range.kilograms_within_limit
  within reductions = ok.in_range.reduction_within_limit

  sizes : (m : Measure) (c : ℕ) → c ≤ exposure_to x p.positions → Sizes (figure_of m x) c (standing_of t p x).base
  sizes m c h = record {
    figure_within_limit = within m;
    exposure_within_limit = omega (arith, ok.exposure_within_limit);
    exposure_within_base = omega (arith, base-holds (denominator_of t p x) (exposure_to x p.positions));
    base_above_zero = omega arith;
    base_within_limit = base-within (t.bases x.profile.kind x.profile.figures) (exposure_to x p.positions) (lawful.bases_in_range x.profile.kind x.profile.figures ok.in_range.profile_in_range.figures_to) ok.exposure_within_limit;
  }

  fair : (turn : Turn) → turn.before + turn.exposure ≤ exposure_to x p.positions → Fair (standing_of t p x) turn x
  fair turn h = record { emissions = sizes emissions _ h; reductions = sizes reductions _ h }

  pub fair-turn : (s : Standing) (turn : Turn) (b : ℕ) → s ≡ standing_of t p x → turn ≡ turn_of x.profile.kind x.profile.id b p.positions → Fair s turn x
  fair-turn s turn b is-s is-turn =
      subst (λ (s : Standing). Fair s turn x) (sym is-s)
      (subst (λ (turn : Turn). Fair (standing_of t p x) turn x) (sym is-turn)
      (fair (turn_of x.profile.kind x.profile.id b p.positions) (running-within (lent_to x p.positions) b)))

  pub fair-whole : (s : Standing) → s ≡ standing_of t p x → Fair s (whole_turn s) x
  fair-whole s is = subst (λ (s : Standing). Fair s (whole_turn s) x) (sym is) (fair (whole_turn (standing_of t p x)) (omega arith))

pub within-book : (p : PlainBook) → KeptByEveryRun p → (id : ℕ) (x : PlainInvestee) → Ok x ≡ ok_or (investee_of id p) (fault NotOpen 0 0) → WithinBook p.positions x
within-book p kept id x e =
    let found = ok_of_ok_or _ _ x e in
    record {
      in_range = first-all InvesteeInRange (has_id id) p.investees x found kept.investees_in_range;
      exposure_within_limit = first-all (λ y. exposure_to y p.positions ≤ most_exposure) (has_id id) p.investees x found kept.exposures_within_limit;
    }
  where
    ok_of_ok_or : (o : Option PlainInvestee) (f : Fault) (x : PlainInvestee) → Ok x ≡ ok_or o f → o ≡ Some x
    ok_of_ok_or None f x e = absurd cc
    ok_of_ok_or (Some y) f x e = let same : x ≡ y = cc in ap Some (sym same)

-- ---- each investee of a book

all-viewed : {X Y : Type 0} (P : Y → Type 0) (view : X → Y) (xs : List X) → AllByRecursion P (map view xs) → AllByRecursion (λ x. P (view x)) xs
all-viewed P view [] all = tt
all-viewed P view (x ∷ xs) all = (all.0, all-viewed P view xs all.1)

pub all-within : (p : PlainBook) → KeptByEveryRun p → AllByRecursion (WithinBook p.positions) p.investees
all-within p kept =
    All-weaker _ _ (λ x h. record { in_range = h.0; exposure_within_limit = h.1 }) p.investees
    (all_both InvesteeInRange (λ x. exposure_to x p.positions ≤ most_exposure) p.investees kept.investees_in_range kept.exposures_within_limit)

-- as a loop over them reads them
pub rows-within : (rows : List InvesteeRow) (qs : Positions) → ∥ KeptByEveryRun (plain_rows rows qs) ∥₁ → (read : List InvesteeRow) → read ≡ rows → AllByRecursion (λ row. WithinBook (positions_in qs) (plain_investee row)) read
rows-within rows qs held read same =
    let p = plain_rows rows qs in
    subst (AllByRecursion (λ row. WithinBook (positions_in qs) (plain_investee row))) (sym same)
    (all-viewed (WithinBook p.positions) plain_investee rows (all-within p (kept_of p held)))

-- the row at a place of them
pub row-within : (rows : List InvesteeRow) (qs : Positions) → ∥ KeptByEveryRun (plain_rows rows qs) ∥₁ → (read : List InvesteeRow) → read ≡ rows → (k : ℕ) (row : InvesteeRow) → k < length read → row ≡ get_or read k row → WithinBook (positions_in qs) (plain_investee row)
row-within rows qs held read same k row inside is =
    subst (λ (r : InvesteeRow). WithinBook (positions_in qs) (plain_investee r)) (sym is)
    (All-get_or (λ r. WithinBook (positions_in qs) (plain_investee r)) read k row inside (rows-within rows qs held read same))
