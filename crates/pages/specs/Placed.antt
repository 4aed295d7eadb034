-- A text in a buffer that has to have room for every page: what a call for it answers, and what the buffer then holds. And what is so of every page.
use Rattle.std.specs.Prelude.{◌≡◌, ℕ, cond, List, ◌++◌, length, drop, ℤ, pos, Some, None, Ok, Err, Option, Result, nat_lt}
use Rattle.faults.specs.Refusals.{fault}
use Rattle.faults.specs.declared.Fault.{Fault}
use Rattle.faults.specs.declared.Refusal.TheVariants.{PageTooShort}
use Rattle.rules.specs.Tables.{Tables}
use Rattle.plain.specs.declared.answers.Kilograms.{Kilograms}
use Rattle.plain.specs.PlainBook.{PlainBook}
use Rattle.plain.specs.Readings.{accounts_of, sheets_of, book_total_of}
use Rattle.plain.specs.Sums.{sum_over}

-- a buffer of fewer bytes is too short
abbrev pub room : ℕ
room = 8192

abbrev pub room_result : List ℕ → Result (Unit {0}) Fault
room_result buffer = cond (nat_lt (length buffer) room) (Err (fault PageTooShort 0 0)) (Ok tt)

-- a text at the start of a buffer, and after it what stood there
abbrev pub placed : List ℕ → List ℕ → List ℕ
placed text buffer = text ++ drop (length text) buffer

-- how long the text is
abbrev pub text_result : List ℕ → List ℕ → Result ℕ Fault
text_result text buffer = cond (nat_lt (length buffer) room) (Err (fault PageTooShort 0 0)) (Ok (length text))

abbrev pub buffer_after : List ℕ → List ℕ → List ℕ
buffer_after text buffer = cond (nat_lt (length buffer) room) buffer (placed text buffer)

-- the kilograms on the line of a branch; without a position there is no line, and nothing on it
abbrev pub on_line : Option Kilograms → ℤ
on_line None = pos 0
on_line (Some k) = k.emissions

-- the `B` lines add up to `T`, and so do the investees' lines
pub record PageAddsUp (t : Tables) (p : PlainBook) : Type 0 where
  pub branches_add_up_to_total : sum_over (sheets_of t p) on_line ≡ (book_total_of t p).all.kilograms.emissions
  pub investees_add_up_to_total : sum_over (accounts_of t p) (λ a. a.total.kilograms.emissions) ≡ (book_total_of t p).all.kilograms.emissions
