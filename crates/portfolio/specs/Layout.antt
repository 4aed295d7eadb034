-- Which bytes are laid out as a portfolio, and where the others stop: the whole layout, from the top.
use Rattle.std.specs.Prelude.{ℕ, zero, suc, ◌+◌, Bool, cond, ◌&&◌, List, [], ◌∷◌, length, Some, None, Ok, Err, Option, Result, nat_le, nat_lt}
use Rattle.std.specs.Borrow.{Bor}
use Rattle.entries.specs.Entries.{PlainPortfolio}
use Rattle.entries.specs.Guides.{guide_numbered}
use Rattle.entries.specs.declared.guide.Guide.{Guide}
use Rattle.entries.specs.declared.investee.PostEntry.{PostEntry}
use Rattle.entries.specs.declared.stop.Stop.{Stop}
use Rattle.lines.specs.Fields.{pieces}
use Rattle.portfolio_lines.specs.Counted.{and_then}
use Rattle.portfolio_lines.specs.Lines.{number_line, investee_of, key_of, balance_of}
use Rattle.portfolio_lines.specs.Misreads.{place_of}
use Rattle.portfolio_lines.specs.Numbers.{number_at, numbers_of_first_line, investees_place, posts_place, guide_place}
use Rattle.portfolio_lines.specs.declared.misread.Misread.{Misread}
use Rattle.portfolio_lines.specs.declared.posts.Key.{Key}
use Rattle.portfolio.specs.Files.{missing, not_laid_out, beyond_limits, next_line, most_investees, most_posts, most_bytes}

-- ---- lines

-- what line l reads as, unless it is missing
abbrev pub on_line : {X : Type 0} → ℕ → Option (List ℕ × List (List ℕ)) → (List ℕ → List (List ℕ) → Result X Stop) → Result X Stop
on_line l None read = Err (missing l)
on_line l (Some r) read = read r.0 r.1

-- what line l reads as, in front of what the lines after it read as
abbrev pub in_front : {X : Type 0} → ℕ → Result X Misread → Result (List X × List (List ℕ)) Stop → Result (List X × List (List ℕ)) Stop
in_front l (Err e) rest = Err (not_laid_out l (place_of e))
in_front l (Ok x) (Err s) = Err s
in_front l (Ok x) (Ok r) = Ok (x ∷ r.0, r.1)

-- n lines of one kind, the first of which is line l: what they read as, and the pieces after them
abbrev pub section_of : {X : Type 0} → (List ℕ → Result X Misread) → (n l : ℕ) → List (List ℕ) → Result (List X × List (List ℕ)) Stop
section_of read zero l ps = Ok ([], ps)
section_of read (suc n) l ps = on_line l (next_line ps) (λ line qs. in_front l (read line) (section_of read n (suc l) qs))

-- nothing may stand after the last line feed
abbrev pub ended : {X : Type 0} → ℕ → List (List ℕ) → X → Result X Stop
ended l [] x = Err (missing l)
ended l ([] ∷ []) x = Ok x
ended l ((b ∷ bs) ∷ []) x = Err (missing l)
ended l (p ∷ q ∷ ps) x = Err (missing l)

-- ---- the file

-- how many lines of each kind follow the first, and the guide
pub record PlainHead : Type 0 where
  pub investees : ℕ
  pub posts : ℕ
  pub guide : Guide

abbrev pub within_limits : (investees posts : ℕ) → Bool
within_limits investees posts = nat_le investees most_investees && nat_le posts most_posts

abbrev pub head_by : (investees posts : ℕ) → Option Guide → Result PlainHead Stop
head_by investees posts None = Err beyond_limits
head_by investees posts (Some g) = cond (within_limits investees posts) (Ok (record { investees = investees; posts = posts; guide = g })) (Err beyond_limits)

abbrev pub head_from : Result (List ℕ) Misread → Result PlainHead Stop
head_from (Err e) = Err (not_laid_out 1 (place_of e))
head_from (Ok ns) = head_by (number_at investees_place ns) (number_at posts_place ns) (guide_numbered (number_at guide_place ns))

-- line 1: the number of investees, the number of posts, the guide; its layout, then its limits
abbrev pub head_of : List ℕ → Result PlainHead Stop
head_of line = head_from (number_line numbers_of_first_line line)

abbrev pub posting : Key → ℕ → PostEntry
posting key balance = record { branch = key.branch; id = key.id; month = key.month; balance = balance }

-- keys with their balances, in their order
abbrev pub postings : List Key → List ℕ → List PostEntry
postings [] balances = []
postings (k ∷ keys) [] = []
postings (k ∷ keys) (b ∷ balances) = posting k b ∷ postings keys balances

-- the lines after the first: investees, keys, balances
abbrev pub body_of : PlainHead → List (List ℕ) → Result PlainPortfolio Stop
body_of h ps =
    and_then (section_of investee_of h.investees 2 ps)
    (λ a. and_then (section_of key_of h.posts (2 + h.investees) a.1)
    (λ b. and_then (section_of balance_of h.posts (2 + h.investees + h.posts) b.1)
    (λ c. ended (2 + h.investees + h.posts + h.posts) c.1 (record { guide = h.guide; investees = a.0; posts = postings b.0 c.0 }))))

abbrev pub layout_of : List ℕ → Result PlainPortfolio Stop
layout_of bytes = cond (nat_lt most_bytes (length bytes)) (Err beyond_limits) (on_line 1 (next_line (pieces 10 bytes)) (λ line ps. and_then (head_of line) (λ h. body_of h ps)))

-- ---- what a program answers

-- a line that was read, with the pieces left
abbrev pub gone : Option (Bor (List ℕ)) → List (List ℕ) → Option (List ℕ × List (List ℕ))
gone None ps = None
gone (Some line) ps = Some (line.now, ps)
