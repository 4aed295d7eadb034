-- The steps of a run, and what is owed at its end.
use Rattle.std.proofs.Common.{◌≡◌, ℕ, ◌+◌, ◌-◌, ◌<◌, List, [], ◌∷◌, ◌++◌, length, get_or, take, drop, set, sym, ap, ◌∙◌, subst, append_assoc, arith}
use Rattle.std.specs.List.{AllByRecursion}
use Rattle.std.proofs.lemmas.List.{map_more, drop_more, set-append_right, length-map, length-take-le}
use Rattle.rules.specs.Tables.{Tables, Lawful}
use Rattle.sources.specs.Readings.{WithinLimits}
use Rattle.plain.specs.declared.answers.Answer.{Answer}
use Rattle.plain.specs.EveryRun.{HoldsThroughout}
use Rattle.plain.specs.Kept.{KeptByEveryRun}
use Rattle.plain.specs.PlainBook.{PlainBook}
use Rattle.plain.specs.Runs.{after, answer, answered, run}
use Rattle.plain.specs.Steps.{Meaning, Step, WithinSourceLimits}
use Rattle.plain.proofs.EveryRun.{holds-throughout}
use Rattle.plain.proofs.Runs.{run-push, answered-push, length-answered}
use Rattle.book.specs.declared.calls.Call.{Call}
use Rattle.book.specs.declared.calls.Call.TheVariants.{Open, Restate, Reduce, Post, Amend, Part, Total, Sheet, BookTotal}
use Rattle.book.specs.Calls.{step_of, steps_of}

-- every source keeps to its limits, so every step does
step-within : {S : Type 0} (m : S → Meaning) → ((s : S) → WithinLimits (m s)) → (x : Call S) → WithinSourceLimits (step_of m x)
step-within m within (Open fields s) = within s
step-within m within (Restate id s) = within s
step-within m within (Reduce id s) = within s
step-within m within (Post b id n v) = tt
step-within m within (Amend b id n v) = tt
step-within m within (Part id b) = tt
step-within m within (Total id) = tt
step-within m within (Sheet b) = tt
step-within m within BookTotal = tt

steps-within : {S : Type 0} (m : S → Meaning) → ((s : S) → WithinLimits (m s)) → (xs : List (Call S)) → AllByRecursion WithinSourceLimits (steps_of m xs)
steps-within m within [] = tt
steps-within m within (x ∷ xs) = (step-within m within x, steps-within m within xs)

-- ---- one call more

-- the place i is written, after i that are
set_next : {X : Type 0} (said old : List X) (i : ℕ) (a : X) → length said ≡ i → i < length old → set (said ++ drop i old) i a ≡ (said ++ a ∷ []) ++ drop (i + 1) old
set_next said old i a long h =
    let here : i - i ≡ 0 = omega arith in
    set-append_right said (drop i old) i i a long (omega arith)
    ∙ ap (λ k. said ++ set (drop i old) k a) here
    ∙ ap (λ l. said ++ set l 0 a) (drop_more old i a h)
    ∙ sym (append_assoc said (a ∷ []) (drop (i + 1) old))

-- the first i calls are done, and their answers stand in the first i places
pub record Sofar {S : Type 0} (t : Tables) (m : S → Meaning) (from : PlainBook) (calls : List (Call S)) (old : List Answer) (i : ℕ) (p : PlainBook) (answers : List Answer) : Type 0 where
  pub book : p ≡ run t from (steps_of m (take i calls))
  pub said : answers ≡ answered t from (steps_of m (take i calls)) ++ drop i old

module _ {S : Type 0} (t : Tables) (m : S → Meaning) (from : PlainBook) (calls : List (Call S)) (old : List Answer) where
  pub sofar-more : (i : ℕ) (p q : PlainBook) (answers : List Answer) (x : Call S) (a : Answer) → i < length calls → i < length old → x ≡ get_or calls i x → q ≡ after t p (step_of m x) → a ≡ answer t p (step_of m x)
      → Sofar t m from calls old i p answers → Sofar t m from calls old (i + 1) q (set answers i a)
  sofar-more i p q answers x a h l is e v s =
      let steps : List Step = steps_of m (take i calls) in
      let next : steps ++ step_of m x ∷ [] ≡ steps_of m (take (i + 1) calls) = ap (λ y. steps ++ step_of m y ∷ []) is ∙ sym (map_more (step_of m) calls i x h) in
      let long : length (answered t from steps) ≡ i = length-answered t from steps ∙ length-map (take i calls) (step_of m) ∙ length-take-le i calls (omega arith) in
      record {
        book = e ∙ ap (λ r. after t r (step_of m x)) s.book ∙ sym (run-push t from steps (step_of m x)) ∙ ap (run t from) next;
        said =
            ap (λ l. set l i a) s.said
            ∙ set_next (answered t from steps) old i a long l
            ∙ ap (λ b. (answered t from steps ++ b ∷ []) ++ drop (i + 1) old) (v ∙ ap (λ r. answer t r (step_of m x)) s.book)
            ∙ ap (λ l. l ++ drop (i + 1) old) (sym (answered-push t from steps (step_of m x)) ∙ ap (answered t from) next);
      }

-- ---- what holds throughout

pub throughout : {S : Type 0} (t : Tables) → Lawful t → (m : S → Meaning) → ((s : S) → WithinLimits (m s)) → (p q : PlainBook) (calls : List (Call S)) → KeptByEveryRun p → q ≡ run t p (steps_of m calls) → HoldsThroughout t p (steps_of m calls) q
throughout t lawful m within p q calls ok e = subst (HoldsThroughout t p (steps_of m calls)) (sym e) (holds-throughout t lawful p ok (steps_of m calls) (steps-within m within calls))
