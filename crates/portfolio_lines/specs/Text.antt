-- The lines of a portfolio file as they are written, and that exactly these are read.
--   field    a number in decimal without leading zeros, or a letter
--   line     fields with one space (32) between two of them; its line feed is left out
use Rattle.std.specs.Prelude.{◌≡◌, ℕ, ◌^◌, ◌<◌, ◌≤◌, List, [], ◌∷◌, ◌++◌, map, length, Ok, decimal, Result}
use Rattle.std.specs.List.{AllByRecursion}
use Rattle.factors.specs.declared.Activity.{Activity}
use Rattle.entries.specs.Entries.{PlainMethod, PlainEntry, report, bill, sector_mean}
use Rattle.lines.specs.Render.{join, LineOfNumbers}
use Rattle.portfolio_lines.specs.Lines.{investee_of}
use Rattle.portfolio_lines.specs.Numbers.{numbers_of_key, numbers_of_balance}
use Rattle.portfolio_lines.specs.declared.misread.Misread.{Misread}
use Rattle.portfolio_lines.specs.declared.posts.Key.{Key}
use Rattle.lines.specs.Fields.{most_line_bytes}

-- each number has at most 13 digits
abbrev pub ThirteenDigits : List ℕ → Type 0
ThirteenDigits ns = AllByRecursion (λ n. n < 10 ^ 13) ns

-- ---- an investee

-- the numbers before the method: what the investee is, its figures, the overseas part, the offsets
abbrev pub head_numbers : PlainEntry → List ℕ
head_numbers e =
    e.fields.id ∷ e.fields.kind ∷ e.fields.sector ∷ e.fields.size ∷ e.fields.days
    ∷ e.fields.figures.investment ∷ e.fields.figures.revenue ∷ e.fields.figures.total_assets ∷ e.fields.figures.initial_value
    ∷ e.overseas.part ∷ e.offsets.green_power ∷ e.offsets.ccer ∷ e.offsets.tickets ∷ []

-- R, P or E
abbrev pub letter_of : PlainMethod → ℕ
letter_of (report kilograms mark) = 82
letter_of (bill terms) = 80
letter_of (sector_mean output mean) = 69

abbrev pub term_numbers : List Activity → List ℕ
term_numbers [] = []
term_numbers (t ∷ terms) = t.row ∷ t.quantity ∷ term_numbers terms

abbrev pub method_numbers : PlainMethod → List ℕ
method_numbers (report kilograms mark) = kilograms ∷ mark ∷ []
method_numbers (bill terms) = length terms ∷ term_numbers terms
method_numbers (sector_mean output mean) = output ∷ mean ∷ []

abbrev pub investee_fields : PlainEntry → List (List ℕ)
investee_fields e = map decimal (head_numbers e) ++ (letter_of e.method ∷ []) ∷ map decimal (method_numbers e.method)

abbrev pub investee_line : PlainEntry → List ℕ
investee_line e = join 32 (investee_fields e)

pub record IsInvesteeLine (e : PlainEntry) (line : List ℕ) : Type 0 where
  pub line_is : line ≡ investee_line e
  pub digits : ThirteenDigits (head_numbers e) × ThirteenDigits (method_numbers e.method)
  pub short : length line ≤ most_line_bytes

-- ---- a post

abbrev pub key_numbers : Key → List ℕ
key_numbers key = key.branch ∷ key.id ∷ key.month ∷ []

-- ---- exactly the lines that are written are read

abbrev pub ReadsRows : ℕ → List ℕ → Result (List ℕ) Misread → Type 0
ReadsRows k line r = (ns : List ℕ) → (r ≡ Ok ns → LineOfNumbers k ns line) × (LineOfNumbers k ns line → r ≡ Ok ns)

abbrev pub ReadsInvestees : List ℕ → Type 0
ReadsInvestees line = (e : PlainEntry) → (investee_of line ≡ Ok e → IsInvesteeLine e line) × (IsInvesteeLine e line → investee_of line ≡ Ok e)

abbrev pub ReadsKeys : List ℕ → Result Key Misread → Type 0
ReadsKeys line r = (key : Key) → (r ≡ Ok key → LineOfNumbers numbers_of_key (key_numbers key) line) × (LineOfNumbers numbers_of_key (key_numbers key) line → r ≡ Ok key)

abbrev pub ReadsBalances : List ℕ → Result ℕ Misread → Type 0
ReadsBalances line r = (balance : ℕ) → (r ≡ Ok balance → LineOfNumbers numbers_of_balance (balance ∷ []) line) × (LineOfNumbers numbers_of_balance (balance ∷ []) line → r ≡ Ok balance)
