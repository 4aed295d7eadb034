-- The text of a portfolio, and that exactly such texts are read.
use Rattle.std.specs.Prelude.{◌≡◌, ℕ, ◌≤◌, List, [], ◌∷◌, ◌++◌, map, length, Ok, Result}
use Rattle.std.specs.List.{flat_map, AllByRecursion}
use Rattle.entries.specs.Entries.{PlainEntry, PlainPortfolio}
use Rattle.entries.specs.Guides.{guide_number}
use Rattle.entries.specs.declared.investee.PostEntry.{PostEntry}
use Rattle.entries.specs.declared.stop.Stop.{Stop}
use Rattle.lines.specs.Render.{printed}
use Rattle.portfolio_lines.specs.Text.{ThirteenDigits, head_numbers, method_numbers, investee_line}
use Rattle.portfolio.specs.Files.{most_bytes, most_investees, most_posts}
use Rattle.lines.specs.Fields.{most_line_bytes}

-- line 1: the number of investees, the number of posts, the guide's number
abbrev pub head_line : PlainPortfolio → List ℕ
head_line f = printed (length f.investees ∷ length f.posts ∷ guide_number f.guide ∷ [])

abbrev pub key_line : PostEntry → List ℕ
key_line p = printed (p.branch ∷ p.id ∷ p.month ∷ [])

abbrev pub balance_line : PostEntry → List ℕ
balance_line p = printed (p.balance ∷ [])

-- a line for each investee, for each key and for each balance
abbrev pub lines_of : PlainPortfolio → List (List ℕ)
lines_of f = head_line f ∷ (map investee_line f.investees ++ (map key_line f.posts ++ map balance_line f.posts))

-- a line with its line feed (10)
abbrev pub fed : List ℕ → List ℕ
fed line = line ++ 10 ∷ []

abbrev pub text : PlainPortfolio → List ℕ
text f = flat_map fed (lines_of f)

-- each number has at most 13 digits
abbrev pub InvesteeDigits : PlainEntry → Type 0
InvesteeDigits e = ThirteenDigits (head_numbers e) × ThirteenDigits (method_numbers e.method)

abbrev pub PostDigits : PostEntry → Type 0
PostDigits p = ThirteenDigits (p.branch ∷ p.id ∷ p.month ∷ p.balance ∷ [])

-- the bytes are the text of a portfolio that is within the limits
pub record IsTextOf (f : PlainPortfolio) (bytes : List ℕ) : Type 0 where
  pub bytes_are : bytes ≡ text f
  pub investee_digits : AllByRecursion InvesteeDigits f.investees
  pub post_digits : AllByRecursion PostDigits f.posts
  pub short_lines : AllByRecursion (λ line. length line ≤ most_line_bytes) (lines_of f)
  pub few_investees : length f.investees ≤ most_investees
  pub few_posts : length f.posts ≤ most_posts
  pub short : length bytes ≤ most_bytes

-- a portfolio is read just where the bytes are its text
abbrev pub AcceptsTexts : List ℕ → Result PlainPortfolio Stop → Type 0
AcceptsTexts bytes r = (f : PlainPortfolio) → (r ≡ Ok f → IsTextOf f bytes) × (IsTextOf f bytes → r ≡ Ok f)
