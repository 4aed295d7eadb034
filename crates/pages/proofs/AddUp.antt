-- The lines of the branches add up to the total, and so do those of the investees.
use Rattle.std.proofs.Common.{◌≡◌, ℕ, Bool, true, false, cond, eqb, ◌≢◌, List, [], ◌∷◌, reverse, ℤ, pos, ◌+ℤ◌, Some, None, sym, refl, ◌∙◌, arith}
use mathlib.Core.List.{reverse_aux}
use lib.IntN.{+ℤ_idr}
use Rattle.grading.proofs.EachElement.{All-weaker, All-map, all_kept_by}
use Rattle.std.proofs.lemmas.Bool.{eqb-false}
use Rattle.rules.specs.Tables.{Tables}
use Rattle.plain.specs.Branches.{branches}
use Rattle.plain.specs.Exposures.{positions_on, lent_by, lent_to, emissions, apportionment, apportionments}
use Rattle.plain.specs.Parts.{part, total, sheet, exposure_at}
use Rattle.plain.specs.PlainBook.{PlainInvestee, PlainPosition, PlainBook, id_of}
use Rattle.plain.specs.Readings.{account_of, accounts_of, has_position, sheet_of, sheet_if_any, sheets_of, book_total_of}
use Rattle.plain.specs.Sums.{sum_over}
use Rattle.plain.proofs.Integers.{linear}
use Rattle.plain.proofs.Lists.{none_passes}
use Rattle.plain.proofs.Parts.{part_none, exposure-none}
use Rattle.plain.proofs.Sums.{sum_same, sum-zero, sum-swap, sum-map}
use Rattle.pages.specs.Placed.{on_line, PageAddsUp}

-- in the other order
sum-reverse : {X : Type 0} (xs ys : List X) (f : X → ℤ) → sum_over (reverse_aux xs ys) f ≡ sum_over xs f +ℤ sum_over ys f
unfolding sum_over
sum-reverse [] ys f = omega (arith, linear)
sum-reverse (x ∷ xs) ys f = sum-reverse xs (x ∷ ys) f ∙ regroup (sum_over xs f) (f x) (sum_over ys f)
  where
    regroup : (a b c : ℤ) → a +ℤ (b +ℤ c) ≡ (b +ℤ a) +ℤ c
    regroup a b c = omega (arith, linear)

pub sum-reversed : {X : Type 0} (xs : List X) (f : X → ℤ) → sum_over (reverse xs) f ≡ sum_over xs f
unfolding sum_over
sum-reversed xs f = sum-reverse xs [] f ∙ +ℤ_idr (sum_over xs f)

module _ (t : Tables) (p : PlainBook) (b : ℕ) (none : has_position p b ≡ false) where
  no-exposure : (x : PlainInvestee) → exposure_at (lent_to x p.positions) b ≡ 0
  no-exposure x =
      exposure-none (lent_to x p.positions) b
      (All-map (λ l. l.branch ≢ b) (lent_by x.profile.kind) (positions_on (id_of x) p.positions)
      (all_kept_by (λ q. eqb q.id (id_of x)) (λ q. q.branch ≢ b) p.positions
      (All-weaker _ _ (λ q h. eqb-false q.branch b h) p.positions (none_passes (λ (q : PlainPosition). eqb q.branch b) p.positions none))))

  -- a branch without a position has a sheet of 0
  no-sheet : sheet (apportionments t p emissions) b ≡ pos 0
  no-sheet =
      sum-map (apportionment t p emissions) p.investees (λ a. part a b)
      ∙ sum_same p.investees _ (λ x. pos 0) (λ x. part_none (apportionment t p emissions x) b (no-exposure x)) ∙ sum-zero p.investees

on-line : (t : Tables) (p : PlainBook) (b : ℕ) → on_line (sheet_if_any t p b) ≡ sheet (apportionments t p emissions) b
on-line t p b = by (has_position p b) refl
  where
    by : (h : Bool) → has_position p b ≡ h → on_line (cond h (Some (sheet_of t p b)) None) ≡ sheet (apportionments t p emissions) b
    by true e = refl
    by false e = sym (no-sheet t p b e)

module _ (t : Tables) (p : PlainBook) where
  pub branches-add-up : sum_over (sheets_of t p) on_line ≡ (book_total_of t p).all.kilograms.emissions
  branches-add-up =
      sum-map (sheet_if_any t p) (reverse branches) on_line ∙ sum_same (reverse branches) _ (sheet (apportionments t p emissions)) (on-line t p)
      ∙ sum-reversed branches (sheet (apportionments t p emissions)) ∙ sum-swap branches (apportionments t p emissions) (λ b a. part a b)

  pub investees-add-up : sum_over (accounts_of t p) (λ a. a.total.kilograms.emissions) ≡ (book_total_of t p).all.kilograms.emissions
  investees-add-up =
      sum-map (account_of t p) p.investees (λ a. a.total.kilograms.emissions) ∙ sym (sum-map (apportionment t p emissions) p.investees total)

  pub page-adds-up : PageAddsUp t p
  page-adds-up = record { branches_add_up_to_total = branches-add-up; investees_add_up_to_total = investees-add-up }
