-- Emission factors, and what an activity emits.
--   row        a kind of energy, measured in one unit
--   factor     tenths of a gram of CO2 equivalent for one unit
--   activity   a row and a quantity in its unit
use Rattle.std.specs.Prelude.{ℕ, ◌+◌, ◌*◌, ◌/◌, ◌<◌, ◌≤◌, cond, Some, None, Option, ◌==◌, nat_lt}
use Rattle.std.specs.Option.{option_map}
use Rattle.factors.specs.declared.Activity.{Activity}
use Rattle.factors.specs.declared.Row.{Row}
use Rattle.factors.specs.declared.Row.TheVariants.{Coal, Petrol, Diesel, Gas, PowerInShanghai, PowerElsewhere}

abbrev pub factor_of : Row → ℕ
-- a tonne
factor_of Coal = 21989700
-- a litre
factor_of Petrol = 22200
-- a litre
factor_of Diesel = 27000
-- a cubic metre
factor_of Gas = 21600
-- a kilowatt hour
factor_of PowerInShanghai = 4200
-- a kilowatt hour
factor_of PowerElsewhere = 5703

abbrev pub row_numbered : ℕ → Option Row
row_numbered n =
    cond (n == 1) (Some Coal)
    (cond (n == 2) (Some Petrol)
    (cond (n == 3) (Some Diesel)
    (cond (n == 4) (Some Gas)
    (cond (n == 5) (Some PowerInShanghai)
    (cond (n == 6) (Some PowerElsewhere) None)))))

-- in tenths of a gram; nothing where the row is none of the six or the quantity is over 10^10
abbrev pub tenths_of : Activity → Option ℕ
tenths_of a = cond (nat_lt 10000000000 a.quantity) None (option_map (λ row. factor_of row * a.quantity) (row_numbered a.row))

-- tenths of a gram, rounded up to kilograms
abbrev pub rounded_up : ℕ → ℕ
rounded_up tenths = (tenths + 9999) / 10000

abbrev pub kilograms_of : Activity → Option ℕ
kilograms_of a = option_map rounded_up (tenths_of a)

-- no kilogram less would cover the emission, and none more is taken
pub record LeastWhole (tenths kilograms : ℕ) : Type 0 where
  pub covers : tenths ≤ 10000 * kilograms
  pub least : 10000 * kilograms < tenths + 10000
