-- The page of a book, as text.
--   line      fields with one space (32) between them, ended by a line feed (10)
--   account   an investee's id with what falls to all branches for it, its reason and its grade
--   sheet     what falls to one branch; none for a branch without a position
use Rattle.std.specs.Prelude.{ℕ, suc, List, [], ◌∷◌, ◌++◌, length, ℤ, Some, None, codes, decimal, Option}
use Rattle.std.specs.Fmt.{signed_decimal}
use Rattle.std.specs.List.{flat_map}
use Rattle.lines.specs.Render.{join}
use Rattle.plain.specs.declared.answers.InvesteeAccount.{InvesteeAccount}
use Rattle.plain.specs.declared.answers.Kilograms.{Kilograms}
use Rattle.plain.specs.PlainBook.{PlainBook}
use Rattle.plain.specs.Readings.{accounts_of, sheets_of, book_total_of}
use Rattle.rules.specs.Tables.{Tables}

abbrev pub line : List (List ℕ) → List ℕ
line fields = join 32 fields ++ 10 ∷ []

-- `FE n`
abbrev pub head_line : ℕ → List ℕ
head_line n = line (codes "FE" ∷ decimal n ∷ [])

-- `id kilograms reason grade`
abbrev pub account_line : InvesteeAccount → List ℕ
account_line a = line (decimal a.id ∷ signed_decimal a.total.kilograms.emissions ∷ decimal a.total.reason ∷ decimal a.total.grade ∷ [])

-- `B branch kilograms`
abbrev pub branch_line : ℕ → Kilograms → List ℕ
branch_line b k = line (codes "B" ∷ decimal b ∷ signed_decimal k.emissions ∷ [])

-- `T total`
abbrev pub total_line : ℤ → List ℕ
total_line total = line (codes "T" ∷ signed_decimal total ∷ [])

-- the lines of the branches from branch b on
abbrev pub branch_lines : ℕ → List (Option Kilograms) → List ℕ
branch_lines b [] = []
branch_lines b (None ∷ sheets) = branch_lines (suc b) sheets
branch_lines b (Some k ∷ sheets) = branch_line b k ++ branch_lines (suc b) sheets

-- what a table holds, in its order
abbrev pub given : {X : Type 0} → List (Option X) → List X
given [] = []
given (None ∷ xs) = given xs
given (Some x ∷ xs) = x ∷ given xs

-- what stands on a page: accounts in the order of the openings, sheets from branch 1 on, and the book total
abbrev pub page_of : List InvesteeAccount → List (Option Kilograms) → ℤ → List ℕ
page_of accounts sheets total = head_line (length accounts) ++ (flat_map account_line accounts ++ (branch_lines 1 sheets ++ total_line total))

-- the page of a book in emissions
unfoldable pub page_text : Tables → PlainBook → List ℕ
page_text t p = page_of (accounts_of t p) (sheets_of t p) (book_total_of t p).all.kilograms.emissions
