-- What every run keeps of bonds: each position on one has a balance in the last month only.
use Rattle.std.proofs.Common.{◌≡◌, ℕ, zero, suc, ◌-◌, Bool, true, false, eqb, ◌≢◌, List, [], ◌∷◌, ◌++◌, length, length-set, get_or, set, replicate, Some, None, Option, sum_by, unwrap_or, sym, refl, ap, ◌∙◌, subst, arith}
use Rattle.std.specs.List.{AllByRecursion}
use Rattle.grading.proofs.EachElement.{All-push, All-weaker, all_kept_by, kept_by_passes}
use Rattle.std.proofs.lemmas.List.{get_or-set_other}
use Rattle.std.proofs.lemmas.List.Sums.{sum_by-cons}
use Rattle.std.proofs.lemmas.Bool.Decides.{nat_tests}
use Rattle.std.proofs.lemmas.Bool.{both_ways, cond_both, eq-eqb, eqb-true}
use Rattle.rules.specs.Months.{months}
use Rattle.rules.specs.Tables.{Tables}
use Rattle.rules.specs.Investees.{PlainProfile}
use Rattle.sources.specs.declared.reading.Reading.{Reading}
use Rattle.plain.specs.Changes.{opened, amended}
use Rattle.plain.specs.Exposures.{is_bond, closing_of, positions_on}
use Rattle.plain.specs.Kept.{PositionInRange, PostedAtClosingOnly, BondAtClosing, KeptByEveryRun}
use Rattle.plain.specs.Lists.{change_first}
use Rattle.plain.specs.PlainBook.{PlainInvestee, PlainPosition, PlainBook, with_investees, with_positions, id_of, has_id, is_open, new_position, with_balance}
use Rattle.plain.specs.Refused.{bond_outside_closing}
use Rattle.plain.proofs.Accepted.{Entered}
use Rattle.plain.proofs.Changing.{all-profiles, no-positions, no-position-yet, all-entered}
use Rattle.plain.proofs.Lists.{first-all, all_both}
use Rattle.plain.proofs.Positions.{all-amended}

-- ---- the positions on an investee, among all positions

module _ (P : PlainPosition → Type 0) (id : ℕ) where
  all-of-on : (qs : List PlainPosition) → AllByRecursion P (positions_on id qs) → AllByRecursion (λ q. q.id ≡ id → P q) qs
  all-of-on [] all = tt
  all-of-on (q ∷ qs) all =
      cond_both (eqb q.id id) (q ∷ positions_on id qs) (positions_on id qs) (λ rs. AllByRecursion P rs → (q.id ≡ id → P q) × AllByRecursion (λ q. q.id ≡ id → P q) qs)
      (λ e h. ((λ same. h.0), all-of-on qs h.1)) (λ e h. ((λ same. absurd (both_ways (eqb q.id id) e (eq-eqb q.id id same))), all-of-on qs h)) all

  on-of-all : (qs : List PlainPosition) → AllByRecursion (λ q. q.id ≡ id → P q) qs → AllByRecursion P (positions_on id qs)
  on-of-all qs all =
      All-weaker _ _ (λ q h. h.0 (eqb-true q.id id h.1)) (positions_on id qs)
      (all_both _ _ (positions_on id qs) (all_kept_by (λ q. eqb q.id id) (λ q. q.id ≡ id → P q) qs all) (kept_by_passes (λ q. eqb q.id id) qs))

-- ---- one position

pub none-anywhere : (n i : ℕ) → get_or (replicate {A = Option ℕ} n None) i None ≡ None
none-anywhere zero i = refl
none-anywhere (suc n) zero = refl
none-anywhere (suc n) (suc i) = none-anywhere n i

pub new-at-closing : (b id : ℕ) → PostedAtClosingOnly (new_position b id)
new-at-closing b id m other = none-anywhere months (m - 1)

balanced-at-closing : (m v : ℕ) → m ≡ months → (q : PlainPosition) → length q.balances ≡ months → PostedAtClosingOnly q → PostedAtClosingOnly (with_balance m v q)
balanced-at-closing m v last q long h n other =
    let same : length (set q.balances (m - 1) (Some v)) ≡ length q.balances = length-set q.balances (m - 1) (Some v) in
    let not_last : n ≢ length q.balances = λ e. other (e ∙ sym same) in
    get_or-set_other q.balances (m - 1) (n - 1) (Some v) None (λ e. not_last (omega arith)) ∙ h n not_last

-- a year of balances, none of which is posted, and one of which is
none-posted : (vs : List (Option ℕ)) → ((i : ℕ) → get_or vs i None ≡ None) → sum_by (λ v. unwrap_or v 0) vs ≡ 0
none-posted [] none = refl
none-posted (v ∷ vs) none = omega (arith, sum_by-cons (λ (v : Option ℕ). unwrap_or v 0) v vs, ap (λ v. unwrap_or v 0) (none 0), none-posted vs (λ i. none (suc i)))

one-posted : (vs : List (Option ℕ)) (k : ℕ) → ((i : ℕ) → i ≢ k → get_or vs i None ≡ None) → sum_by (λ v. unwrap_or v 0) vs ≡ unwrap_or (get_or vs k None) 0
one-posted [] k none = refl
one-posted (v ∷ vs) zero none = omega (arith, sum_by-cons (λ (v : Option ℕ). unwrap_or v 0) v vs, none-posted vs (λ i. none (suc i) (λ e. omega arith)))
one-posted (v ∷ vs) (suc k) none = omega (arith, sum_by-cons (λ (v : Option ℕ). unwrap_or v 0) v vs, ap (λ v. unwrap_or v 0) (none 0 (λ e. omega arith)), one-posted vs k (λ i ne. none (suc i) (λ e. ne (omega arith))))

pub closing-alone : (q : PlainPosition) → PostedAtClosingOnly q → sum_by (λ v. unwrap_or v 0) q.balances ≡ closing_of q
closing-alone q h =
    one-posted q.balances (length q.balances - 1) (λ i ne.
    let before : suc i - 1 ≡ i = omega arith in
    subst (λ j. get_or q.balances j None ≡ None) before (h (suc i) (λ e. ne (omega arith))))

-- a bond's entry is accepted in the last month only
closing : (x : PlainInvestee) (m : ℕ) → bond_outside_closing x m ≡ false → is_bond x.profile.kind ≡ true → m ≡ months
closing x m e bond = grind (arith, nat_tests)

-- ---- the calls: all bonds of a book with these investees and positions

abbrev pub BondsAtClosing : PlainBook → Type 0
BondsAtClosing p = AllByRecursion (λ x. BondAtClosing x (positions_on (id_of x) p.positions)) p.investees

pub bonds-opened : (p : PlainBook) (x : PlainProfile) (r : Reading) → KeptByEveryRun p → is_open x.id p ≡ false → BondsAtClosing (with_investees p (p.investees ++ opened x r ∷ []))
bonds-opened p x r kept is-new =
    All-push (λ y. BondAtClosing y (positions_on (id_of y) p.positions)) p.investees (opened x r) kept.bonds_at_closing_only
    (λ e. subst (AllByRecursion PostedAtClosingOnly) (sym (no-positions x.id p.positions (no-position-yet x.id p kept is-new))) tt)

pub bonds-read : (p : PlainBook) (id : ℕ) (change : PlainInvestee → PlainInvestee) → ((x : PlainInvestee) → (change x).profile ≡ x.profile) → KeptByEveryRun p → BondsAtClosing (with_investees p (change_first (has_id id) change p.investees))
bonds-read p id change same kept =
    all-profiles id change same (λ x. is_bond x.kind ≡ true → AllByRecursion PostedAtClosingOnly (positions_on x.id p.positions)) p.investees kept.bonds_at_closing_only

-- an entry on positions among which those on each bond have what the book's own have
pub bonds-entered : (t : Tables) (p : PlainBook) (b id m v : ℕ) (was : Bool) (qs : List PlainPosition) → KeptByEveryRun p → Entered t p b id m v was (amended b id m v qs)
    → AllByRecursion PositionInRange qs
    → ((j : ℕ) → AllByRecursion (λ q. q.id ≡ j → PostedAtClosingOnly q) p.positions → AllByRecursion (λ q. q.id ≡ j → PostedAtClosingOnly q) qs)
    → ((j : ℕ) → j ≢ id → positions_on j (amended b id m v qs) ≡ positions_on j p.positions)
    → BondsAtClosing (with_positions p (amended b id m v qs))
bonds-entered t p b id m v was qs kept entry in_range more others =
    all-entered p id x (amended b id m v qs) kept entry.found others BondAtClosing kept.bonds_at_closing_only own
  where
    x : PlainInvestee
    x = entry.investee

    before : BondAtClosing x (positions_on (id_of x) p.positions)
    before = first-all (λ y. BondAtClosing y (positions_on (id_of y) p.positions)) (has_id id) p.investees x entry.found kept.bonds_at_closing_only

    own : BondAtClosing x (positions_on (id_of x) (amended b id m v qs))
    own bond =
        on-of-all PostedAtClosingOnly (id_of x) (amended b id m v qs)
        (All-weaker _ _ (λ q h. h.1) (amended b id m v qs)
        (all-amended b id m v (λ q. (length q.balances ≡ months) × (q.id ≡ id_of x → PostedAtClosingOnly q)) (λ q h. (length-set q.balances (m - 1) (Some v) ∙ h.0, λ same. balanced-at-closing m v (closing x m entry.in_closing_month bond) q h.0 (h.1 same))) qs
        (all_both _ _ qs (All-weaker _ _ (λ q h. h.a_place_for_each_month) qs in_range) (more (id_of x) (all-of-on PostedAtClosingOnly (id_of x) p.positions (before bond))))))
