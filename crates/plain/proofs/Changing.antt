-- What holds of each investee of a book, and of the positions on it, along the changes that calls make.
use Rattle.std.proofs.Common.{◌≡◌, ℕ, true, false, eqb, ◌≢◌, List, [], ◌∷◌, map, Some, Ok, Err, sym, refl, ap, ◌∙◌, subst, ⊎_elim}
use Rattle.std.specs.List.{AllByRecursion}
use Rattle.grading.proofs.EachElement.{All-weaker}
use Rattle.std.proofs.lemmas.Bool.{both_ways, cases_eq, ne_eqb, cond-false}
use Rattle.rules.specs.Investees.{PlainProfile}
use Rattle.sources.specs.declared.reading.Reading.{Reading}
use Rattle.plain.specs.Changes.{read_into}
use Rattle.plain.specs.Exposures.{exposure_to, lent_by, positions_on}
use Rattle.plain.specs.Kept.{KeptByEveryRun}
use Rattle.plain.specs.Lists.{first_of, change_first}
use Rattle.plain.specs.Parts.{exposures}
use Rattle.plain.specs.PlainBook.{PlainInvestee, PlainPosition, PlainBook, id_of, has_id, investee_of, is_open}
use Rattle.plain.specs.Steps.{Meaning}
use Rattle.plain.proofs.Lists.{found-by-key, all-change, all_both}

-- ---- openings

-- an investee without positions has no exposure
pub no-positions : (id : ℕ) (qs : List PlainPosition) → AllByRecursion (λ q. q.id ≢ id) qs → positions_on id qs ≡ []
no-positions id [] h = refl
no-positions id (q ∷ qs) h = cond-false (eqb q.id id) _ _ (ne_eqb q.id id h.0) ∙ no-positions id qs h.1

pub no-position-yet : (id : ℕ) (p : PlainBook) → KeptByEveryRun p → is_open id p ≡ false → AllByRecursion (λ q. q.id ≢ id) p.positions
no-position-yet id p ok e = All-weaker _ _ (λ q h i. both_ways (is_open id p) e (subst (λ j. is_open j p ≡ true) i h)) p.positions ok.positions_on_open_investees

-- ---- restatements and reductions

pub same-profile : (change : Reading → PlainInvestee → PlainInvestee) → ((r : Reading) (x : PlainInvestee) → (change r x).profile ≡ x.profile) → (meaning : Meaning) (x : PlainInvestee) → (read_into change meaning x).profile ≡ x.profile
same-profile change same (Ok r) x = same r x
same-profile change same (Err f) x = refl

-- a change that leaves the profile as it is keeps what holds of it
pub all-profiles : (id : ℕ) (change : PlainInvestee → PlainInvestee) → ((x : PlainInvestee) → (change x).profile ≡ x.profile) → (P : PlainProfile → Type 0) (xs : List PlainInvestee) → AllByRecursion (λ x. P x.profile) xs
    → AllByRecursion (λ x. P x.profile) (change_first (has_id id) change xs)
all-profiles id change same P xs all = all-change (has_id id) change (λ x. P x.profile) (λ x e h. subst P (sym (same x)) h) xs all

-- ---- posts and amendments

-- what holds of each investee and the positions on it: of the investee's own as it is shown, and of the others' as before
pub all-entered : (p : PlainBook) (id : ℕ) (x : PlainInvestee) (qs : List PlainPosition) → KeptByEveryRun p → investee_of id p ≡ Some x → ((j : ℕ) → j ≢ id → positions_on j qs ≡ positions_on j p.positions)
    → (P : PlainInvestee → List PlainPosition → Type 0) → AllByRecursion (λ y. P y (positions_on (id_of y) p.positions)) p.investees → P x (positions_on (id_of x) qs) → AllByRecursion (λ y. P y (positions_on (id_of y) qs)) p.investees
all-entered p id x qs ok found others P before own =
    All-weaker _ _ each p.investees (all_both _ _ p.investees before (found-by-key id_of p.investees ok.ids_differ))
  where
    each : (y : PlainInvestee) → P y (positions_on (id_of y) p.positions) × (first_of (has_id (id_of y)) p.investees ≡ Some y) → P y (positions_on (id_of y) qs)
    each y h =
        ⊎_elim
        (λ e. let same : Some x ≡ Some y = sym found ∙ ap (λ j. first_of (has_id j) p.investees) (sym e) ∙ h.1 in
        let is : x ≡ y = cc in
        subst (λ (z : PlainInvestee). P z (positions_on (id_of z) qs)) is own)
        (λ ne. subst (P y) (sym (others (id_of y) ne)) h.0)
        (cases_eq (id_of y) id)

-- so too of their exposures
pub exposures-entered : (p : PlainBook) (id : ℕ) (x : PlainInvestee) (qs : List PlainPosition) → KeptByEveryRun p → investee_of id p ≡ Some x → ((j : ℕ) → j ≢ id → positions_on j qs ≡ positions_on j p.positions) → (P : PlainInvestee → ℕ → Type 0)
    → AllByRecursion (λ y. P y (exposure_to y p.positions)) p.investees → P x (exposure_to x qs) → AllByRecursion (λ y. P y (exposure_to y qs)) p.investees
exposures-entered p id x qs ok found others P before own = all-entered p id x qs ok found others (λ y rs. P y (exposures (map (lent_by y.profile.kind) rs))) before own
