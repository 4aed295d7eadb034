-- What each call makes of a book, told by what can be looked up before the call and after it: it changes what it names, and
-- nothing else. Ids differ in every book, so the lookups of all ids and their order are all that there is of the investees;
-- so too of the positions.
use Rattle.std.specs.Prelude.{◌≡◌, ℕ, ◌≤◌, true, false, ◌≢◌, List, [], ◌∷◌, ◌++◌, map, fold, pos, is_some, Some, None, Ok, Option}
use Rattle.faults.specs.declared.Fault.{Fault}
use Rattle.rules.specs.Investees.{SameNumbers}
use Rattle.rules.specs.Tables.{Tables}
use Rattle.rules.specs.declared.investees.InvesteeFields.{InvesteeFields}
use Rattle.sources.specs.declared.reading.Reading.{Reading}
use Rattle.plain.specs.declared.answers.Answer.{Answer}
use Rattle.plain.specs.declared.answers.Answer.TheVariants.{Declined}
use Rattle.plain.specs.Changes.{changed}
use Rattle.plain.specs.Kept.{KeptByEveryRun}
use Rattle.plain.specs.PlainBook.{PlainInvestee, PlainPosition, PlainBook, id_of, investee_of, position_of, balance_of}
use Rattle.plain.specs.Runs.{after, answer, run, AllAccepted, ReachedByARun}
use Rattle.plain.specs.Steps.{Meaning, Step, enter, restate, reduce, post, amend, ask, WithinSourceLimits}

-- ---- what can be looked up, beside the investee of an id

-- the ids, in the order of the openings
abbrev pub ids : PlainBook → List ℕ
ids p = map id_of p.investees

-- the branch and the id of each position, in the order of the first posts
abbrev pub branch_and_id : PlainPosition → ℕ × ℕ
branch_and_id q = (q.branch, q.id)

abbrev pub holders : PlainBook → List (ℕ × ℕ)
holders p = map branch_and_id p.positions

abbrev pub balance_in : ℕ → Option PlainPosition → Option ℕ
balance_in m None = None
balance_in m (Some q) = balance_of m q

-- the balance of month m, from 1, of branch b on the investee of an id, if there is one
abbrev pub balance_at : PlainBook → ℕ → ℕ → ℕ → Option ℕ
balance_at p b id m = balance_in m (position_of b id p.positions)

-- ---- what is as before, from p to q

abbrev pub OtherInvesteesAsBefore : ℕ → PlainBook → PlainBook → Type 0
OtherInvesteesAsBefore id p q = (j : ℕ) → j ≢ id → investee_of j q ≡ investee_of j p

abbrev pub OtherBalancesAsBefore : ℕ → ℕ → ℕ → PlainBook → PlainBook → Type 0
OtherBalancesAsBefore b id m p q = (c j n : ℕ) → 1 ≤ n → ((c ≡ b) × (j ≡ id) × (n ≡ m) → ⊥) → balance_at q c j n ≡ balance_at p c j n

-- ---- the calls, from p to q

-- the investee has the profile that was sent and the reading, and no reduction is set
pub record IsNew (fields : InvesteeFields) (r : Reading) (x : PlainInvestee) : Type 0 where
  pub numbers : SameNumbers fields x.profile
  pub kilograms : x.kilograms ≡ r.kilograms
  pub grade : x.grade ≡ r.grade
  pub reduction : x.reduction ≡ pos 0
  pub not_reduced : x.reduced ≡ false

pub record Enters (fields : InvesteeFields) (meaning : Meaning) (p q : PlainBook) : Type 0 where
  pub investee : (r : Reading) × (x : PlainInvestee) × (meaning ≡ Ok r) × (investee_of fields.id q ≡ Some x) × IsNew fields r x
  pub others : OtherInvesteesAsBefore fields.id p q
  pub stands_last : ids q ≡ ids p ++ fields.id ∷ []
  pub positions : q.positions ≡ p.positions

-- x has become y: the kilograms and the grade are those of the reading
pub record HasReading (r : Reading) (x y : PlainInvestee) : Type 0 where
  pub kilograms : y.kilograms ≡ r.kilograms
  pub grade : y.grade ≡ r.grade
  pub profile : y.profile ≡ x.profile
  pub reduction : y.reduction ≡ x.reduction
  pub reduced : y.reduced ≡ x.reduced

-- x has become y: the reduction is that of the reading, be it 0, and it is set
pub record HasReduction (r : Reading) (x y : PlainInvestee) : Type 0 where
  pub reduction : y.reduction ≡ r.kilograms
  pub reduced : y.reduced ≡ true
  pub profile : y.profile ≡ x.profile
  pub kilograms : y.kilograms ≡ x.kilograms
  pub grade : y.grade ≡ x.grade

-- a reading is read into the investee of an id
pub record ReadsInto (Becomes : Reading → PlainInvestee → PlainInvestee → Type 0) (id : ℕ) (meaning : Meaning) (p q : PlainBook) : Type 0 where
  pub investee : (r : Reading) × (x : PlainInvestee) × (y : PlainInvestee) × (meaning ≡ Ok r) × (investee_of id p ≡ Some x) × (investee_of id q ≡ Some y) × Becomes r x y
  pub others : OtherInvesteesAsBefore id p q
  pub in_order : ids q ≡ ids p
  pub positions : q.positions ≡ p.positions

-- a balance is written
pub record Writes (b id m v : ℕ) (p q : PlainBook) : Type 0 where
  pub balance : balance_at q b id m ≡ Some v
  pub others : OtherBalancesAsBefore b id m p q
  pub investees : q.investees ≡ p.investees

pub record Posts (b id m v : ℕ) (p q : PlainBook) : Type 0 where
  pub writes : Writes b id m v p q
  pub in_order : is_some (position_of b id p.positions) ≡ true → holders q ≡ holders p
  pub new_stands_last : is_some (position_of b id p.positions) ≡ false → holders q ≡ holders p ++ (b, id) ∷ []

pub record Amends (b id m v : ℕ) (p q : PlainBook) : Type 0 where
  pub writes : Writes b id m v p q
  pub in_order : holders q ≡ holders p

-- of each call
abbrev pub ChangesWhatItNames : Step → PlainBook → PlainBook → Type 0
ChangesWhatItNames (enter fields meaning) p q = Enters fields meaning p q
ChangesWhatItNames (restate id meaning) p q = ReadsInto HasReading id meaning p q
ChangesWhatItNames (reduce id meaning) p q = ReadsInto HasReduction id meaning p q
ChangesWhatItNames (post b id m v) p q = Posts b id m v p q
ChangesWhatItNames (amend b id m v) p q = Amends b id m v p q
ChangesWhatItNames (ask query) p q = q ≡ p

-- One call on a book under the tables t: it has led from p to q, and was answered by a.
pub record OneCall (t : Tables) (p : PlainBook) (c : Step) (a : Answer) (q : PlainBook) : Type 0 where
  -- with no refusal for an answer, it has changed what it names and nothing else
  pub changes : ((f : Fault) → a ≢ Declined f) → ChangesWhatItNames c p q
  -- and with a refusal, nothing
  pub stays : (f : Fault) → a ≡ Declined f → q ≡ p
  -- a run has come to the book after the call, if one had come to the book before it
  pub reached : ReachedByARun t p → ReachedByARun t q

-- A call that is answered by no refusal changes what it names, in every book that a run can come to, and one that is answered
-- by a refusal changes nothing.
pub record EachCallChangesWhatItNames : Type 0 where
  pub where_accepted : (t : Tables) (p : PlainBook) (c : Step) → KeptByEveryRun p → ((f : Fault) → answer t p c ≢ Declined f) → ChangesWhatItNames c p (after t p c)
  pub where_declined : (t : Tables) (p : PlainBook) (c : Step) (f : Fault) → answer t p c ≡ Declined f → after t p c ≡ p
  -- so that a run of accepted calls makes their changes one after the other
  pub run_of_accepted : (t : Tables) (p : PlainBook) (calls : List Step) → AllAccepted t p calls → run t p calls ≡ fold changed p calls
  -- and so it is of one call, with the book and the answer that the definitions give
  pub as_one_call : (t : Tables) (p : PlainBook) (c : Step) → WithinSourceLimits c → KeptByEveryRun p → OneCall t p c (answer t p c) (after t p c)
