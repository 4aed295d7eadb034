-- Every meaning here is within the limits: what the sources show.
use Rattle.std.specs.Prelude.{◌≡◌, ℕ, ◌*◌, ◌≤◌, Bool, true, false, cond, ◌||◌, List, length, ℤ, pos, ◌-ℤ◌, Ok, Err, Result, ◌==◌, int_lt, nat_lt, unsigned_abs, refl}
use Rattle.std.proofs.Common.{arith}
use Rattle.std.proofs.lemmas.Int.{ints}
use Rattle.std.proofs.lemmas.Bool.{ltb-false, or_parts}
use Rattle.factors.specs.Factors.{rounded_up}
use Rattle.factors.specs.declared.Activity.{Activity}
use Rattle.faults.specs.declared.Fault.{Fault}
use Rattle.faults.specs.declared.Refusal.{Refusal}
use Rattle.faults.specs.declared.Refusal.TheVariants.{OverseasAboveReading, OffsetsAboveReading}
use Rattle.sources.specs.Bottoms.{reported_meaning, added, physical_meaning, economic_meaning}
use Rattle.sources.specs.Layers.{estimate_out_of_range, expected, estimate_meaning, overseas_meaning, offset_out_of_range, offset_sum, offset_meaning, either_meaning}
use Rattle.sources.specs.Limits.{most_kilograms, most_terms, most_output, most_mean, physical_number, economic_number, estimate_number, overseas_number, offset_number}
use Rattle.sources.specs.Readings.{InLimits, WithinLimits, worked_out, less, on_ok}
use Rattle.either.specs.declared.Either.{Either}
use Rattle.either.specs.declared.Either.TheVariants.{Left, Right}
use Rattle.sources.specs.declared.estimate.EstimateFigures.{EstimateFigures}
use Rattle.sources.specs.declared.offset.OffsetFigures.{OffsetFigures}
use Rattle.sources.specs.declared.overseas.OverseasFigures.{OverseasFigures}
use Rattle.sources.specs.declared.reading.Reading.{Reading}

-- a refusal that is tried first
pub unless-refused : (refused : Bool) (f : Fault) (m : Result Reading Fault) → (refused ≡ false → WithinLimits m) → WithinLimits (cond refused (Err f) m)
unless-refused true f m h = tt
unless-refused false f m h = h refl

worked-out-within : (kilograms : ℤ) (grade source : ℕ) → 1 ≤ grade → grade ≤ 5 → WithinLimits (worked_out kilograms grade source)
worked-out-within kilograms grade source low high =
    unless-refused (nat_lt most_kilograms (unsigned_abs kilograms)) _ _
    (λ e. record { size = ltb-false most_kilograms (unsigned_abs kilograms) e; best = low; worst = high })

on-ok-within : {A : Type 0} (k : A → Result Reading Fault) (r : Result A Fault) → ((x : A) → r ≡ Ok x → WithinLimits (k x)) → WithinLimits (on_ok k r)
on-ok-within k (Ok x) each = each x refl
on-ok-within k (Err f) each = tt

pub reported-within : (kilograms mark : ℕ) → WithinLimits (reported_meaning kilograms mark)
reported-within kilograms mark =
    unless-refused (nat_lt most_kilograms kilograms || nat_lt 2 mark) _ _
    (λ e.
    let parts = or_parts (nat_lt most_kilograms kilograms) (nat_lt 2 mark) e in
    unless-refused (mark == 0) _ _
    (λ _. record { size = ltb-false most_kilograms kilograms parts.0; best = omega arith; worst = omega arith }))

pub physical-within : (terms : List Activity) → WithinLimits (physical_meaning terms)
physical-within terms =
    unless-refused (length terms == 0 || nat_lt most_terms (length terms)) _ _
    (λ _. on-ok-within _ (added terms) (λ sum _. worked-out-within (pos (rounded_up sum)) 3 physical_number (omega arith) (omega arith)))

pub economic-within : (output mean : ℕ) → WithinLimits (economic_meaning output mean)
economic-within output mean =
    unless-refused (nat_lt most_output output || nat_lt most_mean mean) _ _
    (λ _. worked-out-within (pos (output * mean)) 5 economic_number (omega arith) (omega arith))

at_ok : (m : Result Reading Fault) (r : Reading) → m ≡ Ok r → WithinLimits m → InLimits r
at_ok m r e h = rw e at h

less-within : (part : ℕ) (refusal : Refusal) (source : ℕ) (r : Reading) → InLimits r → WithinLimits (less part refusal source r)
less-within part refusal source r h =
    unless-refused (int_lt r.kilograms (pos part)) _ _
    (λ e. record { size = omega (arith, ints); best = h.best; worst = h.worst })

pub estimate-within : (f : EstimateFigures) (below : Result Reading Fault) → WithinLimits below → WithinLimits (estimate_meaning f below)
estimate-within f below h =
    unless-refused (estimate_out_of_range f) _ _
    (λ _.
    on-ok-within _ below
    (λ r e.
    let limits = at_ok below r e h in
    worked-out-within (pos (expected f) -ℤ r.kilograms) r.grade estimate_number limits.best limits.worst))

pub overseas-within : (f : OverseasFigures) (below : Result Reading Fault) → WithinLimits below → WithinLimits (overseas_meaning f below)
overseas-within f below h =
    unless-refused (nat_lt most_kilograms f.part) _ _
    (λ _. on-ok-within _ below (λ r e. less-within f.part OverseasAboveReading overseas_number r (at_ok below r e h)))

pub offset-within : (f : OffsetFigures) (below : Result Reading Fault) → WithinLimits below → WithinLimits (offset_meaning f below)
offset-within f below h =
    unless-refused (offset_out_of_range f) _ _
    (λ _. on-ok-within _ below (λ r e. less-within (offset_sum f) OffsetsAboveReading offset_number r (at_ok below r e h)))

pub either-within : {A B : Type 0} (one : A → Result Reading Fault) (other : B → Result Reading Fault) → ((a : A) → WithinLimits (one a)) → ((b : B) → WithinLimits (other b)) → (s : Either A B) → WithinLimits (either_meaning one other s)
either-within one other p q (Left source) = p source
either-within one other p q (Right source) = q source
