-- Each call is declined with the first refusal that is due.
use Rattle.std.proofs.Common.{◌≡◌, ℕ, ◌<◌, ◌≤◌, Bool, true, false, not, eqb, ltb, leb, ◌≢◌, ◌⊎◌, List, [], ◌∷◌, length, ℤ, pos, ◌<ℤ◌, is_some, Some, None, Ok, Err, Option, Result, sym, refl, ap, ◌∙◌, subst, ap₂, inl, inr, ⊎_elim, arith}
use lib.Signed.{lt_z}
use Rattle.std.proofs.lemmas.Int.{ints}
use Rattle.std.specs.Bool.{Decides}
use Rattle.std.proofs.lemmas.Bool.{both_ways, cases_Bool, cond-true, cond-false, ltb-true, lt-ltb, leb-true, le-leb, eqb-true, eq-eqb, not-true, not_from_false}
use Rattle.std.proofs.lemmas.Bool.Decides.{Decides-like, Decides-not, Decides-and, Decides-or, Decides-ltb}
use Rattle.faults.specs.Refusals.{fault}
use Rattle.faults.specs.declared.Fault.{Fault}
use Rattle.faults.specs.declared.Refusal.{Refusal}
use Rattle.faults.specs.declared.Refusal.TheVariants.{KindNotCovered, FigureNotGiven, FieldOutOfRange, ReadingBelowZero, AlreadyOpen, InvesteesFull, NotOpen, EntryOutOfRange, BondOutsideClosingMonth, MonthAlreadyPosted, MonthNotPosted, PositionsFull, ExposureTooLarge, BondAboveDenominator}
use Rattle.rules.specs.Investees.{PlainProfile, profile_of, WithinRanges, SameNumbers}
use Rattle.rules.specs.Kinds.{kind_numbered}
use Rattle.rules.specs.Months.{months}
use Rattle.rules.specs.Tables.{Tables, BaseInRange}
use Rattle.rules.specs.declared.figures.Base.{Base}
use Rattle.rules.specs.declared.investees.InvesteeFields.{InvesteeFields}
use Rattle.rules.specs.declared.kinds.Kind.{Kind}
use Rattle.rules.specs.declared.kinds.Kind.TheVariants.{Project, PropertyDevelopment, PropertyPurchase, Vehicle, GeneralLoan, Bond}
use Rattle.rules.proofs.Ranges.{accepted-in-range, accepted-within, within-or-refused}
use Rattle.sources.specs.declared.reading.Reading.{Reading}
use Rattle.plain.specs.Branches.{branch_count}
use Rattle.plain.specs.Changes.{posted, amended}
use Rattle.plain.specs.Due.{Case, FirstDue, ◌due_if◌, source_fault, BelowZero, NoBranch, NoEntry, OfOpen, IsBond, BondPasses, RuleRefuses, RefusedWhenDue, query_cases}
use Rattle.plain.specs.Exposures.{is_bond, exposure_to, denominator_of}
use Rattle.plain.specs.Limits.{most_investees, most_positions, most_balance, most_exposure}
use Rattle.plain.specs.Parts.{Denominator, at_least, whole}
use Rattle.plain.specs.PlainBook.{PlainInvestee, PlainPosition, PlainBook, investee_of, is_open, position_of}
use Rattle.plain.specs.Refused.{refuse, if_in_range, if_based, if_open, if_read, branch_out_of_range, entry_out_of_range, bond_outside_closing, no_room_for, passes, too_much_lent, below_zero, declined_query}
use Rattle.plain.specs.Steps.{Query, for_part, for_total, for_sheet, for_book_total, Meaning, enter, restate, reduce, post, amend, ask}
use Rattle.plain.proofs.Again.{numbered}

-- ---- one place of the order

pub none-due : FirstDue [] None
unfolding FirstDue
none-due = refl

-- a test that passes just where the refusal is due
pub due-refuse : {Holds : Type 0} {test : Bool} (refusal : Refusal) (next : Option Fault) (later : List Case) → Decides test Holds → (test ≡ false → FirstDue later next)
    → FirstDue ((refusal due_if Holds) ∷ later) (refuse test refusal next)
unfolding FirstDue
due-refuse {Holds} {test} refusal next later decides rest = (
  λ f h. cond-true test _ _ (decides.1 h.0) ∙ ap Some (sym h.1),
  λ none. ⊎_elim
      (λ e. absurd (none (fault refusal 0 0) (decides.0 e, refl)))
      (λ e. subst (FirstDue later) (sym (cond-false test _ _ e)) (rest e))
      (cases_Bool test),
)

due-open : (id : ℕ) (p : PlainBook) (next : PlainInvestee → Option Fault) (later : List Case) → ((x : PlainInvestee) → investee_of id p ≡ Some x → FirstDue later (next x))
    → FirstDue ((NotOpen due_if (is_open id p ≡ false)) ∷ later) (if_open (investee_of id p) next)
unfolding FirstDue
due-open id p next later rest = by (investee_of id p) refl
  where
    by : (o : Option PlainInvestee) → investee_of id p ≡ o → FirstDue ((NotOpen due_if (is_open id p ≡ false)) ∷ later) (if_open o next)
    by None e = (λ f h. ap Some (sym h.1), λ none. absurd (none (fault NotOpen 0 0) (ap is_some e, refl)))
    by (Some x) e = (λ f h. absurd (both_ways (is_open id p) h.0 (ap is_some e)), λ none. rest x e)

due-source : (meaning : Meaning) (next : Reading → Option Fault) (later : List Case) → ((r : Reading) → meaning ≡ Ok r → FirstDue later (next r)) → FirstDue (source_fault meaning ∷ later) (if_read meaning next)
unfolding FirstDue
due-source (Ok r) next later rest = (λ f e. absurd cc, λ none. rest r refl)
due-source (Err g) next later rest = (λ f e. let same : g ≡ f = cc in ap Some same, λ none. absurd (none g refl))

due_below : (meaning : Meaning) (r : Reading) → meaning ≡ Ok r → FirstDue ((ReadingBelowZero due_if BelowZero meaning) ∷ []) (below_zero r)
due_below meaning r e =
    due-refuse ReadingBelowZero None []
    (λ t. (r, e, over r.kilograms t), λ h. let same : h.0 ≡ r = cc in subst (λ (x : Reading). lt_z x.kilograms (pos 0) ≡ true) same (under h.0.kilograms h.2))
    (λ _. none-due)
  where
    under : (k : ℤ) → k <ℤ pos 0 → lt_z k (pos 0) ≡ true
    under k h = grind (arith, ints)

    over : (k : ℤ) → lt_z k (pos 0) ≡ true → k <ℤ pos 0
    over k h = grind (arith, ints)

-- ---- what the tests decide

branch-out : (b : ℕ) → Decides (branch_out_of_range b) (NoBranch b)
branch-out b = Decides-or (ltb b 1) (ltb branch_count b) (Decides-ltb b 1) (Decides-ltb branch_count b)

entry-out : (b m v : ℕ) → Decides (entry_out_of_range b m v) (NoEntry b m v)
entry-out b m v =
    Decides-or (branch_out_of_range b) _ (branch-out b)
    (Decides-or _ (ltb most_balance v) (Decides-or (ltb m 1) (ltb months m) (Decides-ltb m 1) (Decides-ltb months m)) (Decides-ltb most_balance v))

bond-is : (k : Kind) → Decides (is_bond k) (k ≡ Bond)
bond-is Project = (λ e. absurd cc, λ e. absurd cc)
bond-is PropertyDevelopment = (λ e. absurd cc, λ e. absurd cc)
bond-is PropertyPurchase = (λ e. absurd cc, λ e. absurd cc)
bond-is Vehicle = (λ e. absurd cc, λ e. absurd cc)
bond-is GeneralLoan = (λ e. absurd cc, λ e. absurd cc)
bond-is Bond = (λ e. refl, λ e. refl)

full : (b id : ℕ) (qs : List PlainPosition) → Decides (no_room_for b id qs) ((is_some (position_of b id qs) ≡ false) × (most_positions ≤ length qs))
full b id qs =
    Decides-and (not (is_some (position_of b id qs))) (leb most_positions (length qs))
    (not-true _, not_from_false _) (leb-true most_positions (length qs), le-leb most_positions (length qs))

passed : (s : ℕ) (d : Denominator) → Decides (passes s d) ((w : ℕ) × (d ≡ at_least w) × (w < s))
passed s (at_least v) = (λ e. (v, refl, ltb-true v s e), λ h. let same : v ≡ h.0 = cc h.1 in lt-ltb v s (omega (arith, h.2)))
passed s whole = (λ e. absurd cc, λ h. absurd (cc h.1))

-- ---- of an open investee

module _ (id : ℕ) (p : PlainBook) (x : PlainInvestee) (found : investee_of id p ≡ Some x) where
  -- what holds of the investee that was found, and of no other
  same-one : (P : PlainInvestee → Type 0) → OfOpen id p P → P x
  same-one P h =
      let one : Some h.0 ≡ Some x = sym h.1 ∙ found in
      let is : h.0 ≡ x = cc in
      subst P is h.2

  due-found : (P : PlainInvestee → Type 0) {test : Bool} (refusal : Refusal) (next : Option Fault) (later : List Case) → Decides test (P x) → FirstDue later next
      → FirstDue ((refusal due_if OfOpen id p P) ∷ later) (refuse test refusal next)
  due-found P {test} refusal next later decides rest = due-refuse refusal next later (Decides-like test (λ h. (x, found, h)) (same-one P) decides) (λ _. rest)

  due-outside : (m : ℕ) (next : Option Fault) (later : List Case) → FirstDue later next
      → FirstDue ((BondOutsideClosingMonth due_if OfOpen id p (λ y. IsBond y × (m ≢ months))) ∷ later) (refuse (bond_outside_closing x m) BondOutsideClosingMonth next)
  due-outside m next later rest =
      due-found (λ y. IsBond y × (m ≢ months)) BondOutsideClosingMonth next later
      (Decides-and (is_bond x.profile.kind) (not (eqb m months)) (bond-is x.profile.kind) (Decides-not (eqb m months) (eqb-true m months, eq-eqb m months))) rest

  due-lent : (t : Tables) (qs : List PlainPosition)
      → FirstDue ((ExposureTooLarge due_if OfOpen id p (λ y. most_exposure < exposure_to y qs)) ∷ (BondAboveDenominator due_if OfOpen id p (BondPasses t p qs)) ∷ []) (too_much_lent t p x qs)
  due-lent t qs =
      due-found (λ y. most_exposure < exposure_to y qs) ExposureTooLarge _ _ (Decides-ltb most_exposure (exposure_to x qs))
      (due-found (BondPasses t p qs) BondAboveDenominator None []
      (Decides-and (is_bond x.profile.kind) (passes (exposure_to x qs) (denominator_of t p x)) (bond-is x.profile.kind) (passed (exposure_to x qs) (denominator_of t p x))) none-due)

-- ---- openings

due-fields : (f : InvesteeFields) (next : PlainProfile → Option Fault) (later : List Case) → ((x : PlainProfile) → profile_of f ≡ Ok x → SameNumbers f x → FirstDue later (next x))
    → FirstDue ((FieldOutOfRange due_if (WithinRanges f → ⊥)) ∷ later) (if_in_range (profile_of f) next)
unfolding FirstDue
due-fields f next later rest =
    ⊎_elim
    (λ w. let one = accepted-within f w in
    rw one.1 (λ g h. absurd (h.0 w), λ none. rest one.0 one.1 one.2))
    (λ r. rw r (
      λ g h. ap Some (sym h.1),
      λ none. absurd (none (fault FieldOutOfRange 0 0) (λ w. let one = (accepted-within f w).1 in absurd cc, refl)),
    ))
    (within-or-refused f)

due-based : (r : Result Base Refusal) (Refuses : Refusal → Type 0) (next : Option Fault) (later : List Case) → BaseInRange r
    → ((e : Refusal) → Refuses e → r ≡ Err e) → ((e : Refusal) → r ≡ Err e → Refuses e) → FirstDue later next
    → FirstDue ((KindNotCovered due_if Refuses KindNotCovered) ∷ (FigureNotGiven due_if Refuses FigureNotGiven) ∷ later) (if_based r next)
unfolding FirstDue
due-based (Ok b) Refuses next later range to from rest = (
  λ f h. let e = to KindNotCovered h.0 in absurd cc,
  λ _. (λ f h. let e = to FigureNotGiven h.0 in absurd cc, λ _. rest),
)
due-based (Err e) Refuses next later range to from rest = by range
  where
    by : (e ≡ KindNotCovered) ⊎ (e ≡ FigureNotGiven) → FirstDue ((KindNotCovered due_if Refuses KindNotCovered) ∷ (FigureNotGiven due_if Refuses FigureNotGiven) ∷ later) (Some (fault e 0 0))
    by (inl k) = (λ f h. ap Some (ap (λ r. fault r 0 0) k ∙ sym h.1), λ none. absurd (none (fault KindNotCovered 0 0) (from KindNotCovered (ap Err k), refl)))
    by (inr k) = (
      λ f h. let wrong : Err e ≡ Err KindNotCovered = to KindNotCovered h.0 in absurd cc,
      λ _. (λ f h. ap Some (ap (λ r. fault r 0 0) k ∙ sym h.1), λ none. absurd (none (fault FigureNotGiven 0 0) (from FigureNotGiven (ap Err k), refl))),
    )

-- the rule refuses the fields just where its table refuses the profile
rule-refuses : (t : Tables) (f : InvesteeFields) (x : PlainProfile) (refusal : Refusal) → SameNumbers f x → RuleRefuses t f refusal → t.bases x.kind x.figures ≡ Err refusal
rule-refuses t f x refusal has h =
    let one : Some h.0 ≡ Some x.kind = sym (numbered h.0) ∙ ap kind_numbered (h.1 ∙ sym has.same_kind) ∙ numbered x.kind in
    let kind : h.0 ≡ x.kind = cc in
    ap₂ t.bases (sym kind) has.same_figures ∙ h.2

refuses-rule : (t : Tables) (f : InvesteeFields) (x : PlainProfile) (refusal : Refusal) → SameNumbers f x → t.bases x.kind x.figures ≡ Err refusal → RuleRefuses t f refusal
refuses-rule t f x refusal has e = (x.kind, has.same_kind, ap (t.bases x.kind) (sym has.same_figures) ∙ e)

-- ---- the calls

due-query : (p : PlainBook) (query : Query) → FirstDue (query_cases p query) (declined_query p query)
due-query p (for_part id b) = due-refuse EntryOutOfRange _ _ (branch-out b) (λ _. due-open id p _ _ (λ x found. none-due))
due-query p (for_total id) = due-open id p _ _ (λ x found. none-due)
due-query p (for_sheet b) = due-refuse EntryOutOfRange _ _ (branch-out b) (λ _. none-due)
due-query p for_book_total = none-due

pub refused-when-due : RefusedWhenDue
refused-when-due t lawful p (enter f meaning) =
    due-fields f _ _ (λ x ok has.
    due-refuse AlreadyOpen _ _ (λ h. ap (λ id. is_open id p) (sym has.same_id) ∙ h, λ h. ap (λ id. is_open id p) has.same_id ∙ h) (λ _.
    due-refuse InvesteesFull _ _ (leb-true most_investees (length p.investees), le-leb most_investees (length p.investees)) (λ _.
    due-based (t.bases x.kind x.figures) (RuleRefuses t f) _ _ (lawful.bases_in_range x.kind x.figures (accepted-in-range f x ok).figures_to) (λ e h. rule-refuses t f x e has h) (λ e h. refuses-rule t f x e has h)
    (due-source meaning below_zero _ (λ r e. due_below meaning r e)))))
refused-when-due t lawful p (restate id meaning) = due-open id p _ _ (λ x found. due-source meaning below_zero _ (λ r e. due_below meaning r e))
refused-when-due t lawful p (reduce id meaning) = due-open id p _ _ (λ x found. due-source meaning (λ r. None) _ (λ r e. none-due))
refused-when-due t lawful p (post b id m v) =
    due-refuse EntryOutOfRange _ _ (entry-out b m v) (λ _.
    due-open id p _ _ (λ x found.
    due-outside id p x found m _ _
    (due-refuse MonthAlreadyPosted _ _ (λ h. h, λ h. h) (λ _.
    due-refuse PositionsFull _ _ (full b id p.positions) (λ _.
    due-lent id p x found t (posted b id m v p.positions))))))
refused-when-due t lawful p (amend b id m v) =
    due-refuse EntryOutOfRange _ _ (entry-out b m v) (λ _.
    due-open id p _ _ (λ x found.
    due-outside id p x found m _ _
    (due-refuse MonthNotPosted _ _ (not-true _, not_from_false _) (λ _.
    due-lent id p x found t (amended b id m v p.positions)))))
refused-when-due t lawful p (ask query) = due-query p query
