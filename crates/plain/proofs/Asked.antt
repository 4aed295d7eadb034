-- What a book asks its rule is in range: a closing balance is at most the exposure, and that is within its limit.
use Rattle.std.proofs.Common.{◌≡◌, ℕ, zero, suc, ◌-◌, ◌*◌, ◌≤◌, eqb, List, [], ◌∷◌, map, length, get_or, None, Option, sum_by, unwrap_or, ap, arith}
use Rattle.std.specs.List.{AllByRecursion}
use Rattle.grading.proofs.EachElement.{All-weaker, all_kept_by}
use Rattle.std.proofs.lemmas.Bool.{cond_both}
use Rattle.std.proofs.lemmas.List.Sums.{sum_by-cons}
use Rattle.rules.specs.Investees.{financing_of, ProfileInRange}
use Rattle.rules.specs.Months.{months}
use Rattle.rules.specs.Tables.{Tables, Lawful, reason_for}
use Rattle.rules.specs.declared.kinds.Kind.{Kind}
use Rattle.plain.specs.Exposures.{is_bond, closing_of, exposure_of, lent_by, positions_on, exposure_to, closing_to}
use Rattle.plain.specs.Kept.{PositionInRange}
use Rattle.plain.specs.Limits.{most_exposure}
use Rattle.plain.specs.Parts.{exposures}
use Rattle.plain.specs.PlainBook.{PlainInvestee, PlainPosition, id_of}

-- one balance is at most the sum of all
one-of : (vs : List (Option ℕ)) (i : ℕ) → unwrap_or (get_or vs i None) 0 ≤ sum_by (λ v. unwrap_or v 0) vs
one-of [] i = omega arith
one-of (v ∷ vs) zero = omega (arith, sum_by-cons (λ (v : Option ℕ). unwrap_or v 0) v vs)
one-of (v ∷ vs) (suc i) = omega (arith, sum_by-cons (λ (v : Option ℕ). unwrap_or v 0) v vs, one-of vs i)

closing-of-one : (kind : Kind) (q : PlainPosition) → length q.balances ≡ months → closing_of q ≤ exposure_of kind q
closing-of-one kind q long =
    cond_both (is_bond kind) (length q.balances * closing_of q) (sum_by (λ v. unwrap_or v 0) q.balances) (λ n. closing_of q ≤ n)
    (λ _. let e : length q.balances * closing_of q ≡ months * closing_of q = ap (λ n. n * closing_of q) long in omega arith)
    (λ _. one-of q.balances (length q.balances - 1))

closing-of-all : (kind : Kind) (qs : List PlainPosition) → AllByRecursion (λ q. length q.balances ≡ months) qs → sum_by closing_of qs ≤ exposures (map (lent_by kind) qs)
unfolding exposures
closing-of-all kind [] all = omega arith
closing-of-all kind (q ∷ qs) all = omega (arith, sum_by-cons closing_of q qs, closing-of-one kind q all.0, closing-of-all kind qs all.1)

pub closing-within : (x : PlainInvestee) (qs : List PlainPosition) → AllByRecursion PositionInRange qs → closing_to x qs ≤ exposure_to x qs
closing-within x qs all =
    closing-of-all x.profile.kind (positions_on (id_of x) qs)
    (all_kept_by (λ q. eqb q.id (id_of x)) (λ q. length q.balances ≡ months) qs (All-weaker _ _ (λ q h. h.a_place_for_each_month) qs all))

-- so a lawful rule's reason is a digit
pub reason-in-range : (t : Tables) → Lawful t → (x : PlainInvestee) (qs : List PlainPosition) → ProfileInRange x.profile → AllByRecursion PositionInRange qs → exposure_to x qs ≤ most_exposure
    → reason_for t (financing_of x.profile (exposure_to x qs) (closing_to x qs)) ≤ 9
reason-in-range t lawful x qs profile positions most =
    lawful.reasons_in_range _ (record { days_to = profile.days_to; exposure_to = most; closing_to = omega (arith, closing-within x qs positions, most) })
