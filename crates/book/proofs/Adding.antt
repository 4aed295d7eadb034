-- Sums over the elements read so far, and how large they are.
use Rattle.std.proofs.Common.{◌≡◌, ℕ, ◌+◌, ◌<◌, ◌≤◌, Bool, true, false, cond, List, [], ◌∷◌, ◌++◌, length, get_or, take, ℤ, pos, ◌+ℤ◌, sym, refl, ap, ◌∙◌, ap₂, arith}
use lib.IntN.{+ℤ_idl, +ℤ_idr}
use Rattle.std.specs.List.{AllByRecursion}
use Rattle.grading.proofs.EachElement.{All-get_or, All-take, All-weaker, sum_by_le}
use Rattle.std.proofs.lemmas.List.{take_more, length-take}
use Rattle.std.proofs.lemmas.List.Sums.{sum_by_more}
use Rattle.sources.specs.Limits.{most_kilograms}
use Rattle.plain.specs.declared.answers.Kilograms.{Kilograms}
use Rattle.plain.specs.Exposures.{Measure, emissions, reductions}
use Rattle.plain.specs.Limits.{most_positions}
use Rattle.plain.specs.Readings.{both}
use Rattle.plain.specs.Sums.{sum_over}
use Rattle.plain.proofs.Integers.{linear}
use Rattle.plain.proofs.Sizes.{sum-within}
use Rattle.book.specs.Lines.{no_line, covered, takes, taken, no_sums, plus_line, sums_of, LineWithinLimits, AtMostLines}
use Rattle.plain.specs.EveryRun.{measured}
use Rattle.book.specs.Shares.{no_kilograms, added, AtMostFigures}
use Rattle.book.specs.declared.book.readings.lines.Group.{Group}
use Rattle.book.specs.declared.book.readings.lines.Line.{Line}
use Rattle.book.specs.declared.book.readings.lines.Sums.{Sums}

-- ---- sums of kilograms

sum-push : {X : Type 0} (xs : List X) (y : X) (f : X → ℤ) → sum_over (xs ++ y ∷ []) f ≡ sum_over xs f +ℤ f y
unfolding sum_over
sum-push [] y f = +ℤ_idr (f y) ∙ sym (+ℤ_idl (f y))
sum-push (x ∷ xs) y f = ap (λ z. f x +ℤ z) (sum-push xs y f) ∙ regroup (f x) (sum_over xs f) (f y)
  where
    regroup : (a b c : ℤ) → a +ℤ (b +ℤ c) ≡ (a +ℤ b) +ℤ c
    regroup a b c = omega (arith, linear)

pub sum_more : {X : Type 0} (f : X → ℤ) (xs : List X) (k : ℕ) (d : X) → k < length xs → sum_over (take (k + 1) xs) f ≡ sum_over (take k xs) f +ℤ f (get_or xs k d)
sum_more f xs k d h = ap (λ l. sum_over l f) (take_more xs k d h) ∙ sum-push (take k xs) (get_or xs k d) f

-- of both measures
abbrev pub summed : {X : Type 0} → (X → Kilograms) → List X → Kilograms
summed f xs = both (λ m. sum_over xs (λ x. measured m (f x)))

pub summed-more : {X : Type 0} (f : X → Kilograms) (xs : List X) (k : ℕ) (d : X) → k < length xs → (s y : Kilograms) → s ≡ summed f (take k xs) → y ≡ f (get_or xs k d) → added s y ≡ summed f (take (k + 1) xs)
summed-more f xs k d h s y is-s is_y =
    let e = sum_more (λ x. (f x).emissions) xs k d h in
    let r = sum_more (λ x. (f x).reductions) xs k d h in
    ap₂ added is-s is_y ∙ sym (λ i. record { emissions = e i; reductions = r i })

-- what `default` gives
pub none-kilograms : (k : Kilograms) → (k.emissions ≡ pos 0) × (k.reductions ≡ pos 0) → k ≡ no_kilograms
none-kilograms k e = λ i. record { emissions = e.0 i; reductions = e.1 i }

pub none-sums : (s : Sums) → ((s.kilograms.emissions ≡ pos 0) × (s.kilograms.reductions ≡ pos 0)) × ((s.positions ≡ 0) × ((s.counted ≡ 0) × (s.reduced ≡ 0))) → s ≡ no_sums
none-sums s e = λ i. record { kilograms = none-kilograms s.kilograms e.0 i; positions = e.1.0 i; counted = e.1.1.0 i; reduced = e.1.1.1 i }

pub summed-none : {X : Type 0} (f : X → Kilograms) → record { emissions = pos 0; reductions = pos 0 } ≡ summed f []
unfolding sum_over
summed-none f = refl

-- where each is at most one figure
pub summed-within : {X : Type 0} (f : X → Kilograms) (xs : List X) (n : ℕ) → length xs ≤ n → AllByRecursion (λ x. AtMostFigures 1 (f x)) xs → AtMostFigures n (summed f xs)
summed-within f xs n h all = record {
  of_emissions = omega (arith, sum-within xs (λ x. (f x).emissions) most_kilograms (All-weaker _ _ (λ x w. omega (arith, w.of_emissions)) xs all));
  of_reductions = omega (arith, sum-within xs (λ x. (f x).reductions) most_kilograms (All-weaker _ _ (λ x w. omega (arith, w.of_reductions)) xs all));
}

-- ---- sums of lines

taken-by : (t : Bool) (l : Line) → LineWithinLimits l → LineWithinLimits (cond t l no_line)
taken-by true l ok = ok
taken-by false l ok = record {
  kilograms_within_limit = record { of_emissions = omega arith; of_reductions = omega arith };
  positions_within_limit = omega arith;
  exposure_within_limit = omega arith;
  grade_within_limit = omega arith;
}

pub taken-within : (g : Group) (l : Line) → LineWithinLimits l → LineWithinLimits (taken g l)
taken-within g l ok = taken-by (takes g l) l ok

cond-within : (t : Bool) (n m : ℕ) → n ≤ m → cond t n 0 ≤ m
cond-within true n m h = h
cond-within false n m h = omega arith

covered-within : (m : Measure) (l : Line) → LineWithinLimits l → covered m l ≤ most_positions
covered-within emissions l ok = cond-within _ _ _ ok.positions_within_limit
covered-within reductions l ok = cond-within _ _ _ ok.positions_within_limit

module _ (g : Group) where
  pub sums_none : no_sums ≡ sums_of g []
  unfolding sum_over
  sums_none = refl

  pub sums-within : (lines : List Line) (n : ℕ) → length lines ≤ n → AllByRecursion LineWithinLimits lines → AtMostLines n (sums_of g lines)
  sums-within lines n h all = record {
    kilograms_within_limit = summed-within (λ l. (taken g l).kilograms) lines n h (All-weaker _ _ (λ l ok. (taken-within g l ok).kilograms_within_limit) lines all);
    positions_within_limit = omega (arith, sum_by_le (λ l. (taken g l).positions) most_positions lines (All-weaker _ _ (λ l ok. (taken-within g l ok).positions_within_limit) lines all));
    counted_within_limit = omega (arith, sum_by_le (λ l. covered emissions (taken g l)) most_positions lines (All-weaker _ _ (λ l ok. covered-within emissions (taken g l) (taken-within g l ok)) lines all));
    reduced_within_limit = omega (arith, sum_by_le (λ l. covered reductions (taken g l)) most_positions lines (All-weaker _ _ (λ l ok. covered-within reductions (taken g l) (taken-within g l ok)) lines all));
  }

  module _ (lines : List Line) (k : ℕ) (h : k < length lines) (all : AllByRecursion LineWithinLimits lines) where
    pub sums-sofar-within : (n : ℕ) (s : Sums) → length lines ≤ n → s ≡ sums_of g (take k lines) → AtMostLines n s
    sums-sofar-within n s few is = rw is (sums-within (take k lines) n (omega (arith, length-take k lines)) (All-take LineWithinLimits k lines all))

    pub next-within : (d y : Line) → y ≡ taken g (get_or lines k d) → LineWithinLimits y
    next-within d y is = rw is (taken-within g (get_or lines k d) (All-get_or LineWithinLimits lines k d h all))

    pub sums-more : (d : Line) (s : Sums) (y : Line) → s ≡ sums_of g (take k lines) → y ≡ taken g (get_or lines k d) → plus_line s y ≡ sums_of g (take (k + 1) lines)
    sums-more d s y is-s is_y =
        let x = get_or lines k d in
        let kilograms = summed-more (λ l. (taken g l).kilograms) lines k d h s.kilograms y.kilograms (ap (λ s. s.kilograms) is-s) (ap (λ l. l.kilograms) is_y) in
        let positions = ap₂ (λ (s : Sums) (l : Line). s.positions + l.positions) is-s is_y ∙ sym (sum_by_more (λ l. (taken g l).positions) lines k d h) in
        let counted = ap₂ (λ (s : Sums) (l : Line). s.counted + covered emissions l) is-s is_y ∙ sym (sum_by_more (λ l. covered emissions (taken g l)) lines k d h) in
        let reduced = ap₂ (λ (s : Sums) (l : Line). s.reduced + covered reductions l) is-s is_y ∙ sym (sum_by_more (λ l. covered reductions (taken g l)) lines k d h) in
        λ i. record { kilograms = kilograms i; positions = positions i; counted = counted i; reduced = reduced i }
