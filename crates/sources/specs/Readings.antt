-- Readings, and what every source shows of its meaning.
--   reading      whole kilograms of CO2 equivalent, and a grade from 1, the best, to 5
--   meaning      one reading or one fault
use Rattle.std.specs.Prelude.{◌≡◌, ℕ, ◌+◌, ◌*◌, ◌<◌, ◌≤◌, cond, ℤ, pos, ◌+ℤ◌, ◌-ℤ◌, ◌≤ℤ◌, Ok, Err, Result, int_lt, nat_lt, unsigned_abs}
use Rattle.faults.specs.Refusals.{fault}
use Rattle.faults.specs.declared.Fault.{Fault}
use Rattle.faults.specs.declared.Refusal.{Refusal}
use Rattle.faults.specs.declared.Refusal.TheVariants.{ResultTooLarge}
use Rattle.sources.specs.Limits.{most_kilograms}
use Rattle.sources.specs.declared.reading.Reading.{Reading}

abbrev pub reading : ℤ → ℕ → Reading
reading kilograms grade = record { kilograms = kilograms; grade = grade }

-- a reading that can be added up with others
pub record InLimits (r : Reading) : Type 0 where
  pub size : unsigned_abs r.kilograms ≤ most_kilograms
  pub best : 1 ≤ r.grade
  pub worst : r.grade ≤ 5

-- a meaning that is a fault, or a reading in the limits
abbrev pub WithinLimits : Result Reading Fault → Type 0
WithinLimits (Ok r) = InLimits r
WithinLimits (Err f) = Unit {0}

-- the reading that a source works out, unless it is over 10^12 in size
abbrev pub worked_out : ℤ → ℕ → ℕ → Result Reading Fault
worked_out kilograms grade source =
    cond (nat_lt most_kilograms (unsigned_abs kilograms)) (Err (fault ResultTooLarge 0 source)) (Ok (reading kilograms grade))

-- a part of a reading is taken off, and refused where it is above the reading
abbrev pub less : ℕ → Refusal → ℕ → Reading → Result Reading Fault
less part refusal source r =
    cond (int_lt r.kilograms (pos part)) (Err (fault refusal 0 source)) (Ok (reading (r.kilograms -ℤ pos part) r.grade))

-- what is left and what was taken off are the reading together; it is not below 0, and the grade stays
pub record LeftOf (r : Reading) (part : ℕ) (left : Reading) : Type 0 where
  pub together : left.kilograms +ℤ pos part ≡ r.kilograms
  pub not_below : pos 0 ≤ℤ left.kilograms
  pub kept : left.grade ≡ r.grade

-- the quotient of two numbers, rounded toward zero
pub record TowardZero (top bottom quotient : ℕ) : Type 0 where
  pub covered : bottom * quotient ≤ top
  pub most : top < bottom * (quotient + 1)

-- what k makes of a result; a fault is passed on as it is
abbrev pub on_ok : {A : Type 0} → (A → Result Reading Fault) → Result A Fault → Result Reading Fault
on_ok k (Ok x) = k x
on_ok k (Err f) = Err f
