-- What a call that changes the book owes, where it is declined and where it is accepted.
use Rattle.std.proofs.Common.{◌≡◌, IsErrAnd, Some, Err, Result, sym, ap, ◌∙◌}
use Rattle.std.proofs.lemmas.Result.{err_from_is_err_and}
use Rattle.faults.specs.declared.Fault.{Fault}
use Rattle.rules.specs.Tables.{Tables}
use Rattle.plain.specs.declared.answers.Answer.{Answer}
use Rattle.plain.specs.EachCall.{OneCall}
use Rattle.plain.specs.Kept.{KeptByEveryRun}
use Rattle.plain.specs.PlainBook.{PlainBook}
use Rattle.plain.specs.Refused.{declined}
use Rattle.plain.specs.Runs.{after, answer}
use Rattle.plain.specs.Steps.{Step, WithinSourceLimits}
use Rattle.plain.specs.Told.{told, done}
use Rattle.plain.proofs.EachCall.{one-call}
use Rattle.plain.proofs.Runs.{after-declined, answer-declined}
use Rattle.book.proofs.Propositions.{kept_of}

module _ (t : Tables) (p : PlainBook) (c : Step) where
  pub one_call-of : (a : Answer) (q : PlainBook) → WithinSourceLimits c → ∥ KeptByEveryRun p ∥₁ → a ≡ answer t p c → q ≡ after t p c → OneCall t p c a q
  one_call-of a q within kept told e = one-call t p c a q within (kept_of p kept) told e

  -- the call fails, where the exit of a `?` passes the fault on as it is
  pub record Failed (r : Result (Unit {0}) Fault) : Type 0 where
    pub book : p ≡ after t p c
    pub says : told done r ≡ answer t p c
    pub one_call : OneCall t p c (told done r) p

  pub failed : (f : Fault) → declined t p c ≡ Some f → WithinSourceLimits c → ∥ KeptByEveryRun p ∥₁ → (r : Result (Unit {0}) Fault) → IsErrAnd r (λ y. y ≡ f) → Failed r
  failed f d within kept r h =
      let is = err_from_is_err_and r h in
      let book = sym (after-declined t p c f d) in
      let says = ap (told done) (is.1 ∙ ap Err is.2) ∙ sym (answer-declined t p c f d) in
      record { book = book; says = says; one_call = one_call-of (told done r) p within kept says book }
