-- What a page is made of, every account and every sheet of a book, is what its queries are answered, one by one.
use Rattle.std.specs.Prelude.{◌≡◌, ℕ, ◌-◌, true, map, length, is_some, Some, None, Option, slice_index_or}
use Rattle.std.specs.List.{AllByRecursion}
use Rattle.rules.specs.Tables.{Tables}
use Rattle.plain.specs.declared.answers.Answer.TheVariants.{Total, Sheet}
use Rattle.plain.specs.declared.answers.Kilograms.{Kilograms}
use Rattle.plain.specs.Branches.{Branch, branch_count}
use Rattle.plain.specs.EachCall.{ids}
use Rattle.plain.specs.Kept.{KeptByEveryRun}
use Rattle.plain.specs.PlainBook.{PlainBook, position_of}
use Rattle.plain.specs.Readings.{accounts_of, sheets_of}
use Rattle.plain.specs.Runs.{answer_to}
use Rattle.plain.specs.Steps.{for_total, for_sheet}

-- what the list of sheets has for branch b
abbrev pub listed_for : Tables → PlainBook → ℕ → Option Kilograms
listed_for t p b = slice_index_or (sheets_of t p) (b - 1) None

pub record ListedAsAnswered : Type 0 where
  -- investees in the order of their openings, each with its total
  pub in_order : (t : Tables) (p : PlainBook) → map (λ a. a.id) (accounts_of t p) ≡ ids p
  pub totals : (t : Tables) (p : PlainBook) → KeptByEveryRun p → AllByRecursion (λ a. answer_to t p (for_total a.id) ≡ Total a.total) (accounts_of t p)
  -- a place for each branch from 1 on: its sheet where it has a position on some investee, and nothing otherwise
  pub a_place_for_each_branch : (t : Tables) (p : PlainBook) → length (sheets_of t p) ≡ branch_count
  pub sheet_of_a_branch : (t : Tables) (p : PlainBook) (b id : ℕ) → Branch b → is_some (position_of b id p.positions) ≡ true → (s : Kilograms) × (listed_for t p b ≡ Some s) × (answer_to t p (for_sheet b) ≡ Sheet s)
  pub nothing_without_a_position : (t : Tables) (p : PlainBook) (b : ℕ) → Branch b → ((id : ℕ) → position_of b id p.positions ≡ None) → listed_for t p b ≡ None
