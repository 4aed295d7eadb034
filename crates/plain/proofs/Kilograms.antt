-- Answers that are worked out as defined gain and lose no kilogram.
use Rattle.std.proofs.Common.{◌≡◌, ℕ, cond, List, [], ◌∷◌, ℤ, sym, ◌∙◌, subst}
use Rattle.std.specs.List.{AllByRecursion}
use Rattle.grading.proofs.EachElement.{All-weaker}
use Rattle.std.proofs.lemmas.List.Sums.{sum_by-cons}
use Rattle.plain.specs.Branches.{Branch, branches}
use Rattle.plain.specs.Fractions.{sum_of_fractions}
use Rattle.plain.specs.Kilograms.{PartsMakeTheTotal, NoKilogramGainedOrLost}
use Rattle.plain.specs.Parts.{Apportionment, Orderly, share, all_shares, exact_sum, counted_in, part, total, sheet, book_total}
use Rattle.plain.specs.Rounding.{PartNearShare, TotalNearExactSum}
use Rattle.plain.specs.Sums.{sum_over}
use Rattle.plain.proofs.Parts.{part-near, part_none, part-uncounted, total-within, total-whole, total-near}
use Rattle.plain.proofs.Rounding.{no-total-near, totals-near}
use Rattle.plain.proofs.Sums.{sum-swap, sum-all, sum-branches}

-- the book total of the definitions
pub book-near : (all : List Apportionment) → AllByRecursion Orderly all → TotalNearExactSum (counted_in all) (book_total all) (exact_sum all)
unfolding sum_over sum_of_fractions
book-near [] ok = no-total-near 1
book-near (a ∷ all) ok =
    rw (sum_by-cons (λ a. cond a.counted 1 0) a all)
    (totals-near (cond a.counted 1 0) (counted_in all) (total a) (book_total all) (all_shares a) (exact_sum all) (total-near a ok.0.once_per_branch) (book-near all ok.1))

module _ (a : Apportionment) (ok : Orderly a) (part_of : ℕ → ℤ) (total_is : ℤ) (parts : (b : ℕ) → Branch b → part_of b ≡ part a b) (is-total : total_is ≡ total a) where
  of_one : PartsMakeTheTotal a part_of total_is
  of_one = record {
    part_near_exact_share = λ b h. subst (λ n. PartNearShare n (share a b)) (sym (parts b h)) (part-near a b);
    nothing_without_exposure = λ b h e. parts b h ∙ part_none a b e;
    nothing_unless_counted = λ b h e. parts b h ∙ part-uncounted a b e;
    parts_add_up_to_total = sum-branches part_of (part a) parts ∙ sym is-total;
    total_near_exact_sum = rw is-total (total-near a ok.once_per_branch);
    total_within_figure = rw is-total (total-within a ok.once_per_branch);
    total_is_figure_iff_exposures_reach = λ counts n. rw is-total (total-whole a ok counts n);
  }

each : (all : List Apportionment) (part_of : ℕ → ℕ → ℤ) (total_of : ℕ → ℤ) → AllByRecursion Orderly all → AllByRecursion (λ a. (b : ℕ) → Branch b → part_of a.id b ≡ part a b) all → AllByRecursion (λ a. total_of a.id ≡ total a) all
    → AllByRecursion (λ a. PartsMakeTheTotal a (part_of a.id) (total_of a.id)) all
each [] part_of total_of ok parts totals = tt
each (a ∷ all) part_of total_of ok parts totals =
    (of_one a ok.0 (part_of a.id) (total_of a.id) parts.0 totals.0, each all part_of total_of ok.1 parts.1 totals.1)

-- these answers are what the definitions of parts, totals, sheets and the book total give
pub record AnsweredAsDefined (all : List Apportionment) (part_of : ℕ → ℕ → ℤ) (total_of : ℕ → ℤ) (sheet_of : ℕ → ℤ) (book_total_is : ℤ) : Type 0 where
  pub parts : AllByRecursion (λ a. (b : ℕ) → Branch b → part_of a.id b ≡ part a b) all
  pub totals : AllByRecursion (λ a. total_of a.id ≡ total a) all
  pub sheets : (b : ℕ) → Branch b → sheet_of b ≡ sheet all b
  pub book_total : book_total_is ≡ book_total all

pub kilograms-kept : (all : List Apportionment) → AllByRecursion Orderly all → (part_of : ℕ → ℕ → ℤ) (total_of sheet_of : ℕ → ℤ) (book_total_is : ℤ)
    → AnsweredAsDefined all part_of total_of sheet_of book_total_is → NoKilogramGainedOrLost all part_of total_of sheet_of book_total_is
kilograms-kept all ok part_of total_of sheet_of book_total_is as-defined = record {
  of_each_investee = each all part_of total_of ok as-defined.parts as-defined.totals;
  parts_add_up_to_sheet = λ b h. sum-all all _ _ (All-weaker _ _ (λ a p. p b h) all as-defined.parts) ∙ sym (as-defined.sheets b h);
  sheets_add_up_to_book_total = sum-branches sheet_of (sheet all) as-defined.sheets ∙ sum-swap branches all (λ b a. part a b) ∙ sym as-defined.book_total;
  totals_add_up_to_book_total = sum-all all _ _ as-defined.totals ∙ sym as-defined.book_total;
  book_total_near_exact_sum = rw as-defined.book_total (book-near all ok);
}
