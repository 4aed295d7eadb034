-- An investee as a caller sends it, and as rules see it.
--   fields    any numbers
--   profile   the same numbers within their ranges, with a kind and a size by name
use Rattle.std.specs.Prelude.{◌≡◌, ℕ, ◌≤◌, Bool, cond, ◌&&◌, Some, None, Ok, Err, Option, Result, nat_le}
use Rattle.faults.specs.Refusals.{fault}
use Rattle.faults.specs.declared.Fault.{Fault}
use Rattle.faults.specs.declared.Refusal.TheVariants.{FieldOutOfRange}
use Rattle.rules.specs.declared.figures.Figures.{Figures}
use Rattle.rules.specs.declared.kinds.Kind.{Kind}
use Rattle.rules.specs.declared.kinds.Size.{Size}
use Rattle.rules.specs.declared.investees.InvesteeFields.{InvesteeFields}
use Rattle.rules.specs.declared.investees.Financing.{Financing}
use Rattle.rules.specs.Kinds.{kind_number, kind_numbered, size_number, size_numbered}
use Rattle.rules.specs.Figures.{WithinLimits, within_limits}

-- an investee as rules see it: a `Profile` of the code, without the fact that its numbers are in range
pub record PlainProfile : Type 0 where
  pub id : ℕ
  pub kind : Kind
  pub sector : ℕ
  pub size : Size
  pub days : ℕ
  pub figures : Figures

-- an id is at least 1 and at most this
abbrev pub last_id : ℕ
last_id = 4294967295

-- sectors 1 to 8 are the heavy-emitting ones, and 0 stands for every other
abbrev pub last_sector : ℕ
last_sector = 8

-- the most days that a year can have
abbrev pub most_days : ℕ
most_days = 366

-- the largest exposure to one investee, in wan, and so its largest closing balance
abbrev pub most_exposure : ℕ
most_exposure = 9000000

-- the fields that are no kind and no size are within their ranges
abbrev pub numbers_in_range : InvesteeFields → Bool
numbers_in_range f =
    nat_le 1 f.id && (nat_le f.id last_id && (nat_le f.sector last_sector && (nat_le f.days most_days && within_limits f.figures)))

abbrev pub profile : InvesteeFields → Kind → Size → PlainProfile
profile f kind size = record { id = f.id; kind = kind; sector = f.sector; size = size; days = f.days; figures = f.figures }

-- a field is outside its range
abbrev pub out_of_range : Result PlainProfile Fault
out_of_range = Err (fault FieldOutOfRange 0 0)

abbrev pub profiled : InvesteeFields → Option Kind → Option Size → Result PlainProfile Fault
profiled f (Some kind) (Some size) = cond (numbers_in_range f) (Ok (profile f kind size)) out_of_range
profiled f (Some kind) None = out_of_range
profiled f None size = out_of_range

-- the investee that the fields describe, or the refusal
abbrev pub profile_of : InvesteeFields → Result PlainProfile Fault
profile_of f = profiled f (kind_numbered f.kind) (size_numbered f.size)

-- every number of an investee is within its range
pub record ProfileInRange (x : PlainProfile) : Type 0 where
  pub id_from : 1 ≤ x.id
  pub id_to : x.id ≤ last_id
  pub sector_to : x.sector ≤ last_sector
  pub days_to : x.days ≤ most_days
  pub figures_to : WithinLimits x.figures

-- every field is within its range
pub record WithinRanges (f : InvesteeFields) : Type 0 where
  pub id_from : 1 ≤ f.id
  pub id_to : f.id ≤ last_id
  pub kind_from : 1 ≤ f.kind
  pub kind_to : f.kind ≤ 6
  pub sector_to : f.sector ≤ last_sector
  pub size_from : 1 ≤ f.size
  pub size_to : f.size ≤ 5
  pub days_to : f.days ≤ most_days
  pub figures_to : WithinLimits f.figures

-- a profile has the fields' own numbers
pub record SameNumbers (f : InvesteeFields) (p : PlainProfile) : Type 0 where
  pub same_id : p.id ≡ f.id
  pub same_kind : kind_number p.kind ≡ f.kind
  pub same_sector : p.sector ≡ f.sector
  pub same_size : size_number p.size ≡ f.size
  pub same_days : p.days ≡ f.days
  pub same_figures : p.figures ≡ f.figures

-- fields are accepted with their own numbers if every one is within its range, and refused if not
pub record Checked (f : InvesteeFields) (r : Result PlainProfile Fault) : Type 0 where
  pub accepted : WithinRanges f → (p : PlainProfile) × (r ≡ Ok p) × SameNumbers f p
  pub refused : (WithinRanges f → ⊥) → r ≡ out_of_range

-- how an investee is financed
abbrev pub financing_of : PlainProfile → ℕ → ℕ → Financing
financing_of x exposure closing = record { kind = x.kind; size = x.size; days = x.days; exposure = exposure; closing = closing }

-- days of a year, and an exposure and a closing balance that a book can hold
pub record FinancingInRange (f : Financing) : Type 0 where
  pub days_to : f.days ≤ most_days
  pub exposure_to : f.exposure ≤ most_exposure
  pub closing_to : f.closing ≤ most_exposure
