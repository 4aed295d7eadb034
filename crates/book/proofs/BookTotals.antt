-- The book total, from the lines of a book.
use Rattle.std.proofs.Common.{◌≡◌, ℕ, ◌+◌, ◌*◌, ◌≤◌, Bool, true, false, cond, eqb, List, [], ◌∷◌, map, length, ℤ, pos, ◌+ℤ◌, sum_by, filter, sym, refl, ap, ◌∙◌, ap₂, arith}
use mathlib.Core.Path.{fun_ext}
use lib.IntN.{+ℤ_idl}
use Rattle.std.specs.List.{AllByRecursion}
use Rattle.grading.proofs.EachElement.{All-map, All-weaker}
use Rattle.std.proofs.lemmas.List.{length-map}
use Rattle.std.proofs.lemmas.List.Sums.{sum_by-cons, length-filter, count_by-le-length}
use Rattle.grading.specs.Mean.{mean_of, nearest_hundredths}
use Rattle.rules.specs.Tables.{Tables}
use Rattle.plain.specs.Exposures.{positions_on, exposure_to, is_counted, Measure, emissions, reductions, apportionment}
use Rattle.plain.specs.Kept.{KeptByEveryRun}
use Rattle.plain.specs.Limits.{most_investees}
use Rattle.plain.specs.Parts.{total, book_total}
use Rattle.plain.specs.PlainBook.{PlainInvestee, PlainBook, id_of}
use Rattle.plain.specs.Readings.{positions_on_all, covers, hundredths, subtotal_of, book_total_of}
use Rattle.plain.specs.Sums.{sum_over}
use Rattle.plain.proofs.EveryRun.{once_per_branch}
use Rattle.plain.proofs.Exposures.{sum_kept, mean-kept}
use Rattle.plain.proofs.Parts.{total-within}
use Rattle.plain.proofs.Sums.{sum-map, sum_same}
use Rattle.book.specs.Lines.{no_line, line_of, covered, weight_of, grade_of, takes, taken, sums_of, subtotal_from, book_total_from, LineWithinLimits}
use Rattle.plain.specs.EveryRun.{measured}
use Rattle.book.specs.Standings.{WithinBook}
use Rattle.book.specs.declared.book.readings.lines.Group.{Group}
use Rattle.book.specs.declared.book.readings.lines.Group.TheVariants.{Projects, Rest}
use Rattle.book.specs.declared.book.readings.lines.Group.TheVariants as group
use Rattle.book.specs.declared.book.readings.lines.Line.{Line}
use Rattle.positions.proofs.Sums.{sum_view}

-- ---- sums

kept-over : {X : Type 0} (test : X → Bool) (f : X → ℤ) (xs : List X) → sum_over (filter test xs) f ≡ sum_over xs (λ x. cond (test x) (f x) (pos 0))
unfolding sum_over
kept-over test f [] = refl
kept-over {X} test f (x ∷ xs) = by (test x) (kept-over test f xs)
  where
    by : (t : Bool) → sum_over (filter test xs) f ≡ sum_over xs (λ x. cond (test x) (f x) (pos 0)) → sum_over (cond t (x ∷ filter test xs) (filter test xs)) f ≡ cond t (f x) (pos 0) +ℤ sum_over xs (λ x. cond (test x) (f x) (pos 0))
    by true rest = ap (λ z. f x +ℤ z) rest
    by false rest = rest ∙ sym (+ℤ_idl (sum_over xs (λ x. cond (test x) (f x) (pos 0))))

sums_same : {X : Type 0} (f g : X → ℕ) (xs : List X) → AllByRecursion (λ x. f x ≡ g x) xs → sum_by f xs ≡ sum_by g xs
sums_same f g [] all = refl
sums_same f g (x ∷ xs) all = sum_by-cons f x xs ∙ ap₂ ◌+◌ all.0 (sums_same f g xs all.1) ∙ sym (sum_by-cons g x xs)

all-kept : {X : Type 0} (xs : List X) → filter (λ x. true) xs ≡ xs
all-kept [] = refl
all-kept (x ∷ xs) = ap (λ l. x ∷ l) (all-kept xs)

module _ (t : Tables) (p : PlainBook) where
  -- ---- one group

  module _ (g : Group) (xs : List PlainInvestee) where
    abbrev mine : PlainInvestee → Bool
    mine x = takes g (line_of t p x)

    kilograms-lines : (m : Measure) → sum_over (map (line_of t p) xs) (λ l. measured m (taken g l).kilograms) ≡ book_total (map (apportionment t p m) (filter mine xs))
    kilograms-lines m =
        sum-map (line_of t p) xs (λ l. measured m (taken g l).kilograms)
        ∙ sum_same xs _ _ (λ x. by m x (mine x))
        ∙ sym (sum-map (apportionment t p m) (filter mine xs) total ∙ kept-over mine (λ x. total (apportionment t p m x)) xs)
      where
        by : (m : Measure) (x : PlainInvestee) (b : Bool) → measured m (cond b (line_of t p x) no_line).kilograms ≡ cond b (total (apportionment t p m x)) (pos 0)
        by emissions x true = refl
        by emissions x false = refl
        by reductions x true = refl
        by reductions x false = refl

    positions-lines : sum_by (λ l. (taken g l).positions) (map (line_of t p) xs) ≡ positions_on_all p (filter mine xs)
    positions-lines =
        sum_view (line_of t p) (λ l. (taken g l).positions) xs
        ∙ ap (λ f. sum_by f xs) (fun_ext (λ x. by x (mine x)))
        ∙ sym (sum_kept mine (λ x. length (positions_on (id_of x) p.positions)) xs)
      where
        by : (x : PlainInvestee) (b : Bool) → (cond b (line_of t p x) no_line).positions ≡ cond b (length (positions_on (id_of x) p.positions)) 0
        by x true = refl
        by x false = refl

    covered-lines : (m : Measure) → sum_by (λ l. covered m (taken g l)) (map (line_of t p) xs) ≡ positions_on_all p (filter (covers t p m) (filter mine xs))
    covered-lines m =
        sum_view (line_of t p) (λ l. covered m (taken g l)) xs
        ∙ ap (λ f. sum_by f xs) (fun_ext (λ x. by m x (mine x)))
        ∙ sym (sum_kept (covers t p m) (λ x. length (positions_on (id_of x) p.positions)) (filter mine xs) ∙ sum_kept mine (λ x. cond (covers t p m x) (length (positions_on (id_of x) p.positions)) 0) xs)
      where
        by : (m : Measure) (x : PlainInvestee) (b : Bool) → covered m (cond b (line_of t p x) no_line) ≡ cond b (cond (covers t p m x) (length (positions_on (id_of x) p.positions)) 0) 0
        by emissions x true = refl
        by emissions x false = refl
        by reductions x true = refl
        by reductions x false = refl

    subtotal-lines : subtotal_from (sums_of g (map (line_of t p) xs)) ≡ subtotal_of t p (filter mine xs)
    subtotal-lines = λ i. record {
      kilograms = record { emissions = kilograms-lines emissions i; reductions = kilograms-lines reductions i };
      emissions_cover = hundredths (covered-lines emissions i) (positions-lines i);
      reductions_cover = hundredths (covered-lines reductions i) (positions-lines i);
    }

  -- ---- the mean grade

  module _ (xs : List PlainInvestee) (all : AllByRecursion (WithinBook p.positions) xs) where
    weight-line : (x : PlainInvestee) → WithinBook p.positions x → weight_of (line_of t p x) ≡ cond (is_counted t p x) (exposure_to x p.positions) 0
    weight-line x ok = ap (λ n. cond (is_counted t p x) n 0) (omega (arith, ok.exposure_within_limit))

    grade-line : (x : PlainInvestee) → WithinBook p.positions x → grade_of (line_of t p x) ≡ x.grade
    grade-line x ok = omega (arith, ok.in_range.grade_to)

    mean-lines : mean_of weight_of grade_of (map (line_of t p) xs) ≡ mean_of (λ x. exposure_to x p.positions) (λ x. x.grade) (filter (is_counted t p) xs)
    mean-lines =
        ap₂ nearest_hundredths
        (sum_view (line_of t p) (λ l. weight_of l * grade_of l) xs ∙ sums_same _ _ xs (All-weaker _ _ (λ x ok. ap₂ ◌*◌ (weight-line x ok) (grade-line x ok)) xs all))
        (sum_view (line_of t p) weight_of xs ∙ sums_same _ _ xs (All-weaker _ _ weight-line xs all))
        ∙ sym (mean-kept (is_counted t p) (λ x. exposure_to x p.positions) (λ x. x.grade) xs)

  -- ---- the whole book

  pub book-total-lines : AllByRecursion (WithinBook p.positions) p.investees → book_total_from (map (line_of t p) p.investees) ≡ book_total_of t p
  book-total-lines all =
      let xs = p.investees in
      let everyone = subtotal-lines group.All xs ∙ ap (subtotal_of t p) (all-kept xs) in
      λ i. record {
        projects = subtotal-lines Projects xs i;
        rest = subtotal-lines Rest xs i;
        all = everyone i;
        mean_grade = mean-lines xs all i;
      }

  pub line-within : KeptByEveryRun p → (x : PlainInvestee) → WithinBook p.positions x → LineWithinLimits (line_of t p x)
  line-within kept x ok = record {
    kilograms_within_limit = record {
      of_emissions = omega (arith, total-within (apportionment t p emissions x) (once_per_branch p kept x), ok.in_range.kilograms_within_limit);
      of_reductions = omega (arith, total-within (apportionment t p reductions x) (once_per_branch p kept x), ok.in_range.reduction_within_limit);
    };
    positions_within_limit = omega (arith, length-filter (λ q. eqb q.id (id_of x)) p.positions, count_by-le-length (λ q. eqb q.id (id_of x)) p.positions, kept.positions_within_limit);
    exposure_within_limit = ok.exposure_within_limit;
    grade_within_limit = ok.in_range.grade_to;
  }

-- ---- the table of lines

-- a slice of the table of lines is read as the lines of the book
module _ (t : Tables) (p : PlainBook) (kept : KeptByEveryRun p) (lines : List Line) (is : lines ≡ map (line_of t p) p.investees) where
  pub lines-within : AllByRecursion (WithinBook p.positions) p.investees → (length lines ≤ most_investees) × AllByRecursion LineWithinLimits lines
  lines-within all =
      rw is (
        omega (arith, length-map p.investees (line_of t p), kept.investees_within_limit),
        All-map LineWithinLimits (line_of t p) p.investees (All-weaker _ _ (line-within t p kept) p.investees all),
      )

  pub book-total-told : AllByRecursion (WithinBook p.positions) p.investees → book_total_from lines ≡ book_total_of t p
  book-total-told all = ap book_total_from is ∙ book-total-lines t p all
