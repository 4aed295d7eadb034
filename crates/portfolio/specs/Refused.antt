-- Why bytes are refused: the file is beyond its limits, or a line is the first that is not as laid out.
--   pieces   what stands between two line feeds (10); those that a line feed ends are lines
--   ps, qs   the pieces that are left from some line on
use Rattle.std.specs.Prelude.{◌≡◌, ℕ, ◌+◌, ◌≤◌, IsSome, List, [], ◌∷◌, ◌++◌, length, take, drop, replicate, Some, None, Err, Option, Result}
use Rattle.entries.specs.Entries.{PlainPortfolio}
use Rattle.entries.specs.Guides.{guide_numbered}
use Rattle.entries.specs.Stops.{stop_at}
use Rattle.entries.specs.declared.stop.Stop.{Stop}
use Rattle.faults.specs.Refusals.{fault}
use Rattle.faults.specs.declared.Fault.{Fault}
use Rattle.faults.specs.declared.Refusal.TheVariants.{FieldNotAsLaidOut, LineMissing}
use Rattle.lines.specs.Fields.{pieces}
use Rattle.lines.specs.Places.{FieldsOfNumbers}
use Rattle.lines.specs.Render.{LineOfNumbers}
use Rattle.portfolio_lines.specs.Misreads.{place_of}
use Rattle.portfolio_lines.specs.Numbers.{numbers_of_first_line, numbers_of_key, numbers_of_balance}
use Rattle.portfolio_lines.specs.Places.{FieldsOfInvestee, LineOf, WrongLine}
use Rattle.portfolio_lines.specs.declared.misread.Misread.{Misread}
use Rattle.portfolio.specs.Files.{beyond_limits, most_bytes, most_investees, most_posts, next_line}
use Rattle.portfolio.specs.Text.{IsTextOf}

-- ---- the kinds of lines

-- line 1, an investee, the key of a post, the balance of a post
pub data Kind : Type 0 where
  head : Kind
  investee : Kind
  key : Kind
  balance : Kind

-- which fields a line of a kind has
abbrev pub form_of : Kind → List (List ℕ) → Type 0
form_of head = FieldsOfNumbers numbers_of_first_line
form_of investee = FieldsOfInvestee
form_of key = FieldsOfNumbers numbers_of_key
form_of balance = FieldsOfNumbers numbers_of_balance

-- the lines after line 1: all investees, then the keys of all posts, then their balances
abbrev pub kinds_after : (investees posts : ℕ) → List Kind
kinds_after investees posts = replicate investees investee ++ (replicate posts key ++ replicate posts balance)

-- ---- lines as laid out, and the first that is not

-- there is a line, and P holds of it and of the pieces after it
abbrev pub IfLine : Option (List ℕ × List (List ℕ)) → (List ℕ → List (List ℕ) → Type 0) → Type 0
IfLine None P = ⊥
IfLine (Some r) P = P r.0 r.1

-- the pieces begin with a line of each of these kinds, in order
abbrev pub AsLaidOut : List Kind → List (List ℕ) → Type 0
AsLaidOut [] ps = Unit {0}
AsLaidOut (kind ∷ kinds) ps = IfLine (next_line ps) (λ line qs. LineOf (form_of kind) line × AsLaidOut kinds qs)

-- the line is missing or not ended; or it is wrong, and the fault has the place where it is
abbrev pub MissingOrWrong : Kind → Option (List ℕ × List (List ℕ)) → Fault → Type 0
MissingOrWrong kind None f = f ≡ fault LineMissing 0 0
MissingOrWrong kind (Some r) f = (e : Misread) × WrongLine (form_of kind) r.0 e × (f ≡ fault FieldNotAsLaidOut (place_of e) 0)

-- the line that comes next is not as laid out; where none is to come, some byte follows the last line feed
abbrev pub NotAsLaidOut : List Kind → List (List ℕ) → Fault → Type 0
NotAsLaidOut [] ps f = (ps ≡ [] ∷ [] → ⊥) × (f ≡ fault LineMissing 0 0)
NotAsLaidOut (kind ∷ kinds) ps f = MissingOrWrong kind (next_line ps) f

-- of pieces whose first is line l: so many lines are as laid out, and the one after them, where the stop is, is not
pub record StopsAtFirst (kinds : List Kind) (l : ℕ) (ps : List (List ℕ)) (s : Stop) : Type 0 where
  pub before : ℕ
  pub within : before ≤ length kinds
  pub line_is : s.line ≡ l + before
  pub each_before : AsLaidOut (take before kinds) ps
  pub this_one : NotAsLaidOut (drop before kinds) (drop before ps) s.fault

-- ---- a file

-- line 1 is as laid out: its numbers, and the pieces after it
pub record FirstLine (bytes : List ℕ) : Type 0 where
  pub line : List ℕ
  pub after : List (List ℕ)
  pub investees : ℕ
  pub posts : ℕ
  pub guide : ℕ
  pub is_there : next_line (pieces 10 bytes) ≡ Some (line, after)
  pub numbers_are : LineOfNumbers numbers_of_first_line (investees ∷ posts ∷ guide ∷ []) line

-- the bytes are few enough; and where line 1 is as laid out, its numbers are within their limits
pub record WithinLimits (bytes : List ℕ) : Type 0 where
  pub short : length bytes ≤ most_bytes
  pub few_investees : (h : FirstLine bytes) → h.investees ≤ most_investees
  pub few_posts : (h : FirstLine bytes) → h.posts ≤ most_posts
  pub some_guide : (h : FirstLine bytes) → IsSome (guide_numbered h.guide)

-- Bytes beyond the limits are refused as such. Others are refused at line 1, if that is not as laid out, and else at the first such line of those that it calls for.
pub data Refused (bytes : List ℕ) : Stop → Type 0 where
  beyond : (WithinLimits bytes → ⊥) → Refused bytes beyond_limits
  at_first_line : (f : Fault) → WithinLimits bytes → MissingOrWrong head (next_line (pieces 10 bytes)) f → Refused bytes (stop_at 1 f)
  at_later_line : (s : Stop) (h : FirstLine bytes) → WithinLimits bytes → StopsAtFirst (kinds_after h.investees h.posts) 2 h.after s → Refused bytes s

-- ---- what that says of reading

-- reading stops with s just where the bytes are refused with s
abbrev pub RefusesRightly : {X : Type 0} → List ℕ → Result X Stop → Type 0
RefusesRightly bytes r = (s : Stop) → (r ≡ Err s → Refused bytes s) × (Refused bytes s → r ≡ Err s)

-- bytes are refused with one stop at most: with none where they are the text of a portfolio, and with one where they are not
pub record OneStop (bytes : List ℕ) : Type 0 where
  pub at_most_one : (s t : Stop) → Refused bytes s → Refused bytes t → s ≡ t
  pub none_of_a_text : (f : PlainPortfolio) (s : Stop) → IsTextOf f bytes → Refused bytes s → ⊥
  pub one_of_others : ((f : PlainPortfolio) → IsTextOf f bytes → ⊥) → (s : Stop) × Refused bytes s
