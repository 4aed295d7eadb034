-- Entries tried on a plain book in their order, to the last or to the first that is declined.
--   outcome   the book with the entries before that one, and where it stands
use Rattle.std.specs.Prelude.{◌≡◌, ℕ, suc, ◌+◌, List, [], ◌∷◌, ◌++◌, map, take, drop, Some, None, Option}
use Rattle.faults.specs.declared.Fault.{Fault}
use Rattle.rules.specs.Tables.{Tables}
use Rattle.entries.specs.Entries.{PlainEntry, PlainPortfolio, entry_meaning}
use Rattle.entries.specs.Stops.{stop_at}
use Rattle.entries.specs.declared.investee.PostEntry.{PostEntry}
use Rattle.entries.specs.declared.stop.Stop.{Stop}
use Rattle.plain.specs.PlainBook.{PlainBook}
use Rattle.plain.specs.Refused.{declined}
use Rattle.plain.specs.Runs.{after, run, unless}
use Rattle.plain.specs.Steps.{Step, enter, post}

-- ---- entries as calls

abbrev pub opening : PlainEntry → Step
opening e = enter e.fields (entry_meaning e)

abbrev pub posting : PostEntry → Step
posting q = post q.branch q.id q.month q.balance

-- the investees are opened, then the posts are made
abbrev pub entries_of : PlainPortfolio → List Step
entries_of f = map opening f.investees ++ map posting f.posts

-- the k-th entry, from 0, stands in line k + 2, a post by its key: line 1 has no entry
abbrev pub first_entry_line : ℕ
first_entry_line = 2

-- ---- trying them

pub record Outcome : Type 0 where
  pub book : PlainBook
  pub stop : Option Stop

abbrev pub outcome : PlainBook → Option Stop → Outcome
outcome p stop = record { book = p; stop = stop }

-- the first of the entries stands in this line
unfoldable pub tried : Tables → ℕ → PlainBook → List Step → Outcome
tried t line p [] = outcome p None
tried t line p (c ∷ cs) = unless (declined t p c) (tried t (suc line) (after t p c) cs) (λ f. outcome p (Some (stop_at line f)))

-- ---- what that means

-- how the entries came to an end: all were accepted, or the next is declined with the fault that is told
pub data Ended (t : Tables) (p : PlainBook) : List Step → ℕ → Option Stop → Type 0 where
  all_accepted : (line : ℕ) → Ended t p [] line None
  next_declined : (c : Step) (cs : List Step) (line : ℕ) (f : Fault) → declined t p c ≡ Some f → Ended t p (c ∷ cs) line (Some (stop_at line f))

-- So many entries were accepted, each at its point; the book is that of a run of these and of no other. The first
-- of all stands in this line.
pub record TriedInOrder (t : Tables) (line : ℕ) (p : PlainBook) (entries : List Step) (o : Outcome) : Type 0 where
  pub accepted : ℕ
  pub book_of_these : o.book ≡ run t p (take accepted entries)
  pub each_accepted : (before : List Step) (c : Step) (rest : List Step) → take accepted entries ≡ before ++ c ∷ rest → declined t (run t p before) c ≡ None
  pub ended : Ended t o.book (drop accepted entries) (line + accepted) o.stop
