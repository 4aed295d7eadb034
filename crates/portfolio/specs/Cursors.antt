-- What is left for a cursor into the bytes of a file, and what one step of it gives.
use Rattle.std.specs.Prelude.{◌≡◌, ℕ, zero, suc, List, [], ◌∷◌, Some, None, Ok, Err, Option, Result}
use Rattle.std.specs.Borrow.{Bor}
use Rattle.std.specs.Fn.{Shared, FnReturnsAt}
use Rattle.entries.specs.Entries.{PlainEntry, held_entry}
use Rattle.entries.specs.declared.investee.InvesteeEntry.{InvesteeEntry}
use Rattle.entries.specs.declared.investee.PostEntry.{PostEntry}
use Rattle.lines.specs.Fields.{pieces_left}
use Rattle.portfolio_lines.specs.Lines.{investee_of, key_of, balance_of}
use Rattle.portfolio_lines.specs.declared.misread.Misread.{Misread}
use Rattle.portfolio_lines.specs.declared.posts.Key.{Key}
use Rattle.portfolio.specs.Files.{next_line}
use Rattle.portfolio.specs.Layout.{postings}
use Rattle.portfolio.specs.declared.file.Investees.{Investees}
use Rattle.portfolio.specs.declared.file.Posts.{Posts}
use Rattle.portfolio.specs.declared.section.Section.{Section}

abbrev pub with_line : Option (List ℕ × List (List ℕ)) → (List (List ℕ) → List (List ℕ)) → List (List ℕ)
with_line None rest = []
with_line (Some r) rest = r.0 ∷ rest r.1

-- the first n lines of pieces
abbrev pub lines_in : ℕ → List (List ℕ) → List (List ℕ)
lines_in zero ps = []
lines_in (suc n) ps = with_line (next_line ps) (lines_in n)

abbrev pub lines_left : Section → List (List ℕ)
lines_left s = lines_in s.left (pieces_left s.lines.separator s.lines.rest)

abbrev pub unless_wrong : {X : Type 0} → Result X Misread → List X → List X
unless_wrong (Ok x) xs = x ∷ xs
unless_wrong (Err e) xs = []

-- what lines read as, up to the first that is wrong; in a file that is laid out none is
abbrev pub all_in : {X : Type 0} → (List ℕ → Result X Misread) → List (List ℕ) → List X
all_in read [] = []
all_in read (line ∷ lines) = unless_wrong (read line) (all_in read lines)

abbrev pub investees_left : Investees → List PlainEntry
investees_left c = all_in investee_of (lines_left c.lines)

abbrev pub keys_left : Section → List Key
keys_left s = all_in key_of (lines_left s)

abbrev pub balances_left : Section → List ℕ
balances_left s = all_in balance_of (lines_left s)

abbrev pub posts_left : Posts → List PostEntry
posts_left c = postings (keys_left c.keys) (balances_left c.balances)

-- ---- how many are left, as a cursor counts them

abbrev pub investee_count : Investees → ℕ
investee_count c = c.lines.left

abbrev pub post_count : Posts → ℕ
post_count c = c.keys.left

-- ---- steps: the first of a list as a program holds it, and those after it; nothing of an empty list

abbrev pub NextAs : {X Y : Type 0} → (X → Y) → List X → Option Y → List X → Type 0
NextAs held [] r left = (r ≡ None) × (left ≡ [])
NextAs held (x ∷ xs) r left = (r ≡ Some (held x)) × (left ≡ xs)

abbrev pub NextOf : {X : Type 0} → List X → Option X → List X → Type 0
NextOf was r left = NextAs (λ x. x) was r left

-- what a call of f at the first of some lines gives; nothing, and no line left, of no line or where that does not read
abbrev pub NextRead : {F T : Type 0} → Shared F (Bor (List ℕ) × Unit {0}) (Result T Misread) → F → List (List ℕ) → Option T → List (List ℕ) → Type 0
NextRead g f [] r left = (r ≡ None) × (left ≡ [])
NextRead g f (line ∷ lines) None left = ((e : Misread) × FnReturnsAt g f line (Err e)) × (left ≡ [])
NextRead g f (line ∷ lines) (Some x) left = FnReturnsAt g f line (Ok x) × (left ≡ lines)

abbrev pub NextEntry : List PlainEntry → Option InvesteeEntry → List PlainEntry → Type 0
NextEntry was r left = NextAs held_entry was r left

abbrev pub NextPost : List PostEntry → Option PostEntry → List PostEntry → Type 0
NextPost was r left = NextOf was r left

-- once a value is given, one fewer is counted; once none is, none is counted
abbrev pub OneFewer : {X : Type 0} → ℕ → Option X → ℕ → Type 0
OneFewer n None m = m ≡ 0
OneFewer n (Some x) m = n ≡ suc m

-- a call gave the first of the investees that were left, or nothing of none; the same of the posts
abbrev pub GivesInvestee : Investees → Option InvesteeEntry → Investees → Type 0
GivesInvestee c r d = NextEntry (investees_left c) r (investees_left d) × OneFewer (investee_count c) r (investee_count d)

abbrev pub GivesPost : Posts → Option PostEntry → Posts → Type 0
GivesPost c r d = NextPost (posts_left c) r (posts_left d) × OneFewer (post_count c) r (post_count d)
