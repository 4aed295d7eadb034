-- A sheet, as the sum of parts over the rows of a book.
use Rattle.std.proofs.Common.{◌≡◌, ℕ, ◌<◌, ◌≤◌, List, length, get_or, take, sym, ◌∙◌, arith}
use Rattle.std.specs.List.{AllByRecursion}
use Rattle.grading.proofs.EachElement.{All-take, All-weaker, All-get_or}
use Rattle.std.proofs.lemmas.List.{length-take}
use Rattle.rules.specs.Tables.{Tables}
use Rattle.plain.specs.declared.answers.Kilograms.{Kilograms}
use Rattle.plain.specs.Exposures.{Measure, emissions, reductions, apportionment, apportionments}
use Rattle.plain.specs.Parts.{part, sheet}
use Rattle.plain.specs.PlainBook.{PlainInvestee, PlainBook}
use Rattle.plain.specs.Readings.{part_of, sheet_of}
use Rattle.plain.specs.Sums.{sum_over}
use Rattle.plain.proofs.Sizes.{part-within}
use Rattle.plain.proofs.Sums.{sum-map}
use Rattle.book.specs.Rows.{plain_investee, plain_investees, plain_rows}
use Rattle.book.specs.Shares.{AtMostFigures}
use Rattle.book.specs.Standings.{WithinBook}
use Rattle.book.specs.declared.rows.InvesteeRow.{InvesteeRow}
use Rattle.positions.specs.declared.Positions.{Positions}
use Rattle.book.proofs.Adding.{summed, summed-within}

module _ (t : Tables) (p : PlainBook) (b : ℕ) where
  pub part-figure : (x : PlainInvestee) → WithinBook p.positions x → AtMostFigures 1 (part_of t p b x)
  part-figure x ok = record {
    of_emissions = omega (arith, part-within (apportionment t p emissions x) b, ok.in_range.kilograms_within_limit);
    of_reductions = omega (arith, part-within (apportionment t p reductions x) b, ok.in_range.reduction_within_limit);
  }

  -- the part of a row
  abbrev pub row_part : InvesteeRow → Kilograms
  row_part row = part_of t p b (plain_investee row)

  module _ (rows : List InvesteeRow) (all : AllByRecursion (λ row. WithinBook p.positions (plain_investee row)) rows) (k : ℕ) (h : k < length rows) where
    pub parts-sofar-within : (n : ℕ) (s : Kilograms) → length rows ≤ n → s ≡ summed row_part (take k rows) → AtMostFigures n s
    parts-sofar-within n s few is =
        rw is (summed-within row_part (take k rows) n (omega (arith, length-take k rows)) (All-weaker _ _ (λ row ok. part-figure (plain_investee row) ok) (take k rows) (All-take _ k rows all)))

    pub next-part-within : (d : InvesteeRow) (y : Kilograms) → y ≡ row_part (get_or rows k d) → AtMostFigures 1 y
    next-part-within d y is = rw is (part-figure (plain_investee (get_or rows k d)) (All-get_or _ rows k d h all))

pub sheet-rows : (t : Tables) (rows : List InvesteeRow) (qs : Positions) (b : ℕ) → summed (row_part t (plain_rows rows qs) b) rows ≡ sheet_of t (plain_rows rows qs) b
sheet-rows t rows qs b = λ i. record { emissions = by emissions i; reductions = by reductions i }
  where
    by : (m : Measure) → sum_over rows (λ row. part (apportionment t (plain_rows rows qs) m (plain_investee row)) b) ≡ sheet (apportionments t (plain_rows rows qs) m) b
    by m = sym (sum-map (apportionment t (plain_rows rows qs) m) (plain_investees rows) (λ a. part a b) ∙ sum-map plain_investee rows (λ x. part (apportionment t (plain_rows rows qs) m x) b))
