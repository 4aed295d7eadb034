-- What the layers mean over any meaning below. Each tries its own figures first, passes a fault from below on as it
-- is, and keeps the grade.
--   f          the layer's figures
--   below      what the source under the layer means
--   on_ok k m   k of the reading that m is; a fault stays
use Rattle.std.specs.Prelude.{ℕ, ◌+◌, ◌*◌, ◌/◌, Bool, cond, ◌||◌, pos, ◌-ℤ◌, Err, Result, ◌==◌, nat_lt}
use Rattle.faults.specs.Refusals.{fault}
use Rattle.faults.specs.declared.Fault.{Fault}
use Rattle.faults.specs.declared.Refusal.TheVariants.{FigureOutOfRange, OverseasAboveReading, OffsetsAboveReading}
use Rattle.sources.specs.Limits.{most_kilograms, most_period_output, most_offset, estimate_number, overseas_number, offset_number}
use Rattle.sources.specs.Readings.{worked_out, less, on_ok}
use Rattle.either.specs.declared.Either.{Either}
use Rattle.either.specs.declared.Either.TheVariants.{Left, Right}
use Rattle.sources.specs.declared.estimate.EstimateFigures.{EstimateFigures}
use Rattle.sources.specs.declared.offset.OffsetFigures.{OffsetFigures}
use Rattle.sources.specs.declared.overseas.OverseasFigures.{OverseasFigures}
use Rattle.sources.specs.declared.reading.Reading.{Reading}

-- estimate: the figures; with no output in the base period there is nothing to compare with
abbrev pub estimate_out_of_range : EstimateFigures → Bool
estimate_out_of_range f =
    nat_lt most_period_output f.report_output ||
    (f.base_output == 0 || (nat_lt most_period_output f.base_output || nat_lt most_kilograms f.base_kilograms))

-- what the base period would have emitted at the output of the report period, toward zero
abbrev pub expected : EstimateFigures → ℕ
expected f = f.report_output * f.base_kilograms / f.base_output

-- estimate: what was saved against that, below 0 where more was emitted
abbrev pub estimate_meaning : EstimateFigures → Result Reading Fault → Result Reading Fault
estimate_meaning f below =
    cond (estimate_out_of_range f) (Err (fault FigureOutOfRange 0 estimate_number))
    (on_ok (λ r. worked_out (pos (expected f) -ℤ r.kilograms) r.grade estimate_number) below)

-- overseas cut: less the part that arises overseas
abbrev pub overseas_meaning : OverseasFigures → Result Reading Fault → Result Reading Fault
overseas_meaning f below =
    cond (nat_lt most_kilograms f.part) (Err (fault FigureOutOfRange 0 overseas_number))
    (on_ok (less f.part OverseasAboveReading overseas_number) below)

-- offset: the figures
abbrev pub offset_out_of_range : OffsetFigures → Bool
offset_out_of_range f =
    nat_lt most_offset f.green_power || (nat_lt most_offset f.ccer || nat_lt most_offset f.tickets)

-- what a megawatt hour of green power spares, in tenths of a kilogram
abbrev pub green_power_factor : ℕ
green_power_factor = 5703

-- kilograms offset: 570.3 for a megawatt hour of green power, toward zero, and 1,000 for a tonne cancelled
abbrev pub offset_sum : OffsetFigures → ℕ
offset_sum f = f.green_power * green_power_factor / 10 + 1000 * (f.ccer + f.tickets)

-- offset: less that sum
abbrev pub offset_meaning : OffsetFigures → Result Reading Fault → Result Reading Fault
offset_meaning f below =
    cond (offset_out_of_range f) (Err (fault FigureOutOfRange 0 offset_number))
    (on_ok (less (offset_sum f) OffsetsAboveReading offset_number) below)

-- one of two sources means what that source means
abbrev pub either_meaning : {A B : Type 0} → (A → Result Reading Fault) → (B → Result Reading Fault) → Either A B → Result Reading Fault
either_meaning one other (Left source) = one source
either_meaning one other (Right source) = other source
