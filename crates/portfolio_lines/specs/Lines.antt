-- The lines of a portfolio file, each without its line feed: what it reads as, or which is its first field that is wrong,
-- missing or surplus.
use Rattle.std.specs.Prelude.{ℕ, cond, List, length, Ok, Err, Result, nat_lt}
use Rattle.entries.specs.Entries.{PlainMethod, PlainEntry, held_entry}
use Rattle.entries.specs.declared.investee.InvesteeEntry.{InvesteeEntry}
use Rattle.entries.specs.declared.method.Method.{Method}
use Rattle.rules.specs.declared.figures.Figures.{Figures}
use Rattle.rules.specs.declared.investees.InvesteeFields.{InvesteeFields}
use Rattle.sources.specs.declared.offset.OffsetFigures.{OffsetFigures}
use Rattle.sources.specs.declared.overseas.OverseasFigures.{OverseasFigures}
use Rattle.portfolio_lines.specs.Counted.{FieldsLeft, Reading, and_then, fields_of, numbers_in, none_left}
use Rattle.portfolio_lines.specs.Methods.{method_in}
use Rattle.portfolio_lines.specs.Numbers.{number_at, numbers_before_method, id_place, kind_place, sector_place, size_place, days_place, investment_place, revenue_place, total_assets_place, initial_value_place, part_place, green_power_place, ccer_place, tickets_place, numbers_of_key, branch_place, investee_place, month_place, numbers_of_balance, balance_place}
use Rattle.portfolio_lines.specs.declared.misread.Misread.{Misread}
use Rattle.portfolio_lines.specs.declared.misread.Misread.TheVariants.{TooLong}
use Rattle.portfolio_lines.specs.declared.posts.Key.{Key}
use Rattle.lines.specs.Fields.{most_line_bytes}

-- a line that is read to its end; one of more than 511 bytes is wrong as a whole
abbrev pub whole_line : {X : Type 0} → (FieldsLeft → Reading X) → List ℕ → Result X Misread
whole_line read line = cond (nat_lt most_line_bytes (length line)) (Err TooLong) (and_then (read (fields_of line)) (λ r. none_left r.0 r.1))

-- k numbers
abbrev pub number_line : ℕ → List ℕ → Result (List ℕ) Misread
number_line k line = whole_line (numbers_in k) line

-- ---- an investee: its numbers, and the method

abbrev pub figures_in : List ℕ → Figures
figures_in ns = record { investment = number_at investment_place ns; revenue = number_at revenue_place ns; total_assets = number_at total_assets_place ns; initial_value = number_at initial_value_place ns }

abbrev pub fields_in : List ℕ → InvesteeFields
fields_in ns = record { id = number_at id_place ns; kind = number_at kind_place ns; sector = number_at sector_place ns; size = number_at size_place ns; days = number_at days_place ns; figures = figures_in ns }

abbrev pub overseas_in : List ℕ → OverseasFigures
overseas_in ns = record { part = number_at part_place ns }

abbrev pub offsets_in : List ℕ → OffsetFigures
offsets_in ns = record { green_power = number_at green_power_place ns; ccer = number_at ccer_place ns; tickets = number_at tickets_place ns }

abbrev pub entry_of : List ℕ → PlainMethod → PlainEntry
entry_of ns method = record { fields = fields_in ns; overseas = overseas_in ns; offsets = offsets_in ns; method = method }

abbrev pub entry_in : FieldsLeft → Reading PlainEntry
entry_in f = and_then (numbers_in numbers_before_method f) (λ r. and_then (method_in r.1) (λ s. Ok (entry_of r.0 s.0, s.1)))

abbrev pub investee_of : List ℕ → Result PlainEntry Misread
investee_of line = whole_line entry_in line

-- ---- a post: its key (branch, investee's id, month), and its balance

abbrev pub key_from : List ℕ → Key
key_from ns = record { branch = number_at branch_place ns; id = number_at investee_place ns; month = number_at month_place ns }

abbrev pub key_of : List ℕ → Result Key Misread
key_of line = and_then (number_line numbers_of_key line) (λ ns. Ok (key_from ns))

abbrev pub balance_of : List ℕ → Result ℕ Misread
balance_of line = and_then (number_line numbers_of_balance line) (λ ns. Ok (number_at balance_place ns))

-- ---- the same as a program holds them

abbrev pub held_over : List ℕ → Method → InvesteeEntry
held_over ns method = record { fields = fields_in ns; source = record { figures = offsets_in ns; below = record { figures = overseas_in ns; below = method } } }

abbrev pub held_in : Reading PlainEntry → Reading InvesteeEntry
held_in (Ok r) = Ok (held_entry r.0, r.1)
held_in (Err e) = Err e

abbrev pub held_line : Result PlainEntry Misread → Result InvesteeEntry Misread
held_line (Ok entry) = Ok (held_entry entry)
held_line (Err e) = Err e
