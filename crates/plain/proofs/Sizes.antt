-- How large parts and their sums can become, for the words that an engine keeps them in.
use Rattle.std.proofs.Common.{ℕ, ◌+◌, ◌*◌, ◌≤◌, Bool, true, false, cond, eqb, List, [], ◌∷◌, length, ℤ, nat_abs, arith}
use Rattle.std.specs.List.{AllByRecursion}
use Rattle.std.proofs.lemmas.Bool.{cond_both}
use Rattle.plain.specs.Parts.{Lent, Apportionment, exposures, exposure_at, exposure_before, base, part}
use Rattle.plain.specs.Sums.{sum_over}
use Rattle.plain.proofs.Integers.{size-add}
use Rattle.plain.proofs.Parts.{base-pos, base-holds}
use Rattle.plain.proofs.Rounding.{rounded-between}

-- the running exposure never passes the whole
pub running-within : (ls : List Lent) (b : ℕ) → exposure_before ls b + exposure_at ls b ≤ exposures ls
unfolding exposures exposure_at exposure_before
running-within [] b = omega arith
running-within (l ∷ ls) b = by (eqb l.branch b) (running-within ls b)
  where
    by : (t : Bool) → exposure_before ls b + exposure_at ls b ≤ exposures ls → cond t 0 (l.exposure + exposure_before ls b) + cond t l.exposure (exposure_at ls b) ≤ l.exposure + exposures ls
    by true rest = omega arith
    by false rest = omega arith

-- a part is no larger in size than the figure
pub part-within : (a : Apportionment) (b : ℕ) → nat_abs (part a b) ≤ nat_abs a.figure
part-within a b =
    cond_both a.counted _ _ (λ n. nat_abs n ≤ nat_abs a.figure)
    (λ _. rounded-between a.figure (exposure_before a.lent b) (exposure_at a.lent b) (base a) (base-pos a) (omega (arith, running-within a.lent b, base-holds a.denominator (exposures a.lent))))
    (λ _. omega arith)

-- nor is a sum, for each of its terms
pub sum-within : {X : Type 0} (xs : List X) (f : X → ℤ) (m : ℕ) → AllByRecursion (λ x. nat_abs (f x) ≤ m) xs → nat_abs (sum_over xs f) ≤ length xs * m
unfolding sum_over
sum-within [] f m all = omega arith
sum-within (x ∷ xs) f m all = omega (arith, size-add (f x) (sum_over xs f), sum-within xs f m all.1, all.0)
