-- Decimal numbers without leading zeros, of 1 to 13 digits.
use Rattle.std.specs.Prelude.{◌≡◌, ℕ, ◌^◌, ◌<◌, Bool, cond, not, ◌&&◌, ◌||◌, List, length, Some, None, decimal, Option, ◌==◌, nat_le, nat_lt, slice_index}
use Rattle.std.specs.Str.Parse.{digits_value}
use Rattle.std.specs.Str.{all_ascii_digits}

-- 1 to 13 characters, and no zero (48) in front of another
abbrev pub well_formed : List ℕ → Bool
well_formed field = nat_lt 0 (length field) && (nat_le (length field) 13 && (not (slice_index field 0 == 48) || length field == 1))

-- the value of digits
abbrev pub value_of : List ℕ → Option ℕ
value_of field = cond (all_ascii_digits field) (Some (digits_value 10 field)) None

-- the number that a field spells
abbrev pub number_of : List ℕ → Option ℕ
number_of field = cond (well_formed field) (value_of field) None

-- the same from the number to its bytes: the field is how n is written, and n has at most 13 digits
abbrev pub Spells : List ℕ → ℕ → Type 0
Spells field n = (field ≡ decimal n) × (n < 10 ^ 13)

-- a number is read just where the field spells it
abbrev pub ReadsWhatIsSpelled : List ℕ → Option ℕ → Type 0
ReadsWhatIsSpelled field r = (n : ℕ) → (r ≡ Some n → Spells field n) × (Spells field n → r ≡ Some n)
