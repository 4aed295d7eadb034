-- Totals in closed form: what falls to all exposures together.
use Rattle.std.proofs.Common.{◌≡◌, ◌+◌, Bool, true, false, cond, eqb, ℤ, pos, ◌-ℤ◌, sym, refl, ap, ◌∙◌, ap₂, zero-add}
use lib.IntN.{+ℤ_idr}
use Rattle.rules.specs.Tables.{Tables}
use Rattle.plain.specs.declared.answers.Kilograms.{Kilograms}
use Rattle.plain.specs.Exposures.{reason_of, is_counted, Measure, emissions, reductions, figure_of, apportionment}
use Rattle.plain.specs.Kept.{KeptByEveryRun}
use Rattle.plain.specs.Parts.{total}
use Rattle.plain.specs.PlainBook.{PlainInvestee, PlainBook}
use Rattle.plain.specs.Readings.{both, total_of, is_project}
use Rattle.plain.specs.Rounding.{rounded}
use Rattle.plain.proofs.EveryRun.{once_per_branch}
use Rattle.plain.proofs.Parts.{total-is}
use Rattle.plain.proofs.Rounding.{rounded-none}
use Rattle.book.specs.Lines.{line_of}
use Rattle.book.specs.Standings.{standing_of, both_fall, whole_turn, all_falls}
use Rattle.book.specs.declared.book.readings.Standing.{Standing}

both-same : (f g : Measure → ℤ) → ((m : Measure) → f m ≡ g m) → both f ≡ both g
both-same f g h = λ i. record { emissions = h emissions i; reductions = h reductions i }

pub whole-falls : (s : Standing) (x : PlainInvestee) → both_fall s (whole_turn s) x ≡ all_falls s x
whole-falls s x = both-same _ _ (λ m. by (eqb s.reason 0) (figure_of m x))
  where
    by : (t : Bool) (F : ℤ) → cond t (rounded F (0 + s.exposure) s.base -ℤ rounded F 0 s.base) (pos 0) ≡ cond t (rounded F s.exposure s.base) (pos 0)
    by true F = ap₂ (λ c z. rounded F c s.base -ℤ z) (zero-add s.exposure) (rounded-none F s.base) ∙ +ℤ_idr (rounded F s.exposure s.base)
    by false F = refl

module _ (t : Tables) (p : PlainBook) (kept : KeptByEveryRun p) (x : PlainInvestee) where
  pub totals-closed : both (λ m. total (apportionment t p m x)) ≡ all_falls (standing_of t p x) x
  totals-closed = both-same _ _ (λ m. total-is (apportionment t p m x) (once_per_branch p kept x))

  pub total-told : (s : Standing) (k : Kilograms) → s ≡ standing_of t p x → k ≡ all_falls s x → record { kilograms = k; reason = s.reason; grade = x.grade } ≡ total_of t p x
  total-told s k is-s is-k =
      let ks : k ≡ both (λ m. total (apportionment t p m x)) = is-k ∙ ap (λ s. all_falls s x) is-s ∙ sym totals-closed in
      let rs : s.reason ≡ reason_of t p x = ap (λ s. s.reason) is-s in
      λ i. record { kilograms = ks i; reason = rs i; grade = x.grade }

  -- the line of an investee
  pub line-told : (s : Standing) (k : Kilograms) (project counted reduced : Bool) → s ≡ standing_of t p x → k ≡ all_falls s x → project ≡ is_project x → counted ≡ eqb s.reason 0 → reduced ≡ x.reduced
      → record { project = project; kilograms = k; positions = s.positions; counted = counted; reduced = reduced; exposure = s.exposure; grade = x.grade } ≡ line_of t p x
  line-told s k project counted reduced is-s is-k is-project is-counted is-reduced =
      let ks : k ≡ both (λ m. total (apportionment t p m x)) = is-k ∙ ap (λ s. all_falls s x) is-s ∙ sym totals-closed in
      let cs : counted ≡ is_counted t p x = is-counted ∙ ap (λ (s : Standing). eqb s.reason 0) is-s in
      λ i. record { project = is-project i; kilograms = ks i; positions = (is-s i).positions; counted = cs i; reduced = is-reduced i; exposure = (is-s i).exposure; grade = x.grade }
