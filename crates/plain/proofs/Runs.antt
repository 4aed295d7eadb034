-- One call, one call more at the end of a run, and other calls after it.
use Rattle.std.proofs.Common.{◌≡◌, suc, List, [], ◌∷◌, ◌++◌, length, Some, None, fold, Option, refl, ap, ◌∙◌, subst}
use Rattle.std.specs.List.{AllByRecursion}
use Rattle.grading.proofs.EachElement.{All-append}
use Rattle.std.proofs.lemmas.List.Sums.{fold_push}
use Rattle.faults.specs.declared.Fault.{Fault}
use Rattle.rules.specs.Tables.{Tables}
use Rattle.plain.specs.declared.answers.Answer.TheVariants.{Declined}
use Rattle.plain.specs.Changes.{changed}
use Rattle.plain.specs.PlainBook.{PlainBook, empty}
use Rattle.plain.specs.Readings.{gives}
use Rattle.plain.specs.Refused.{declined}
use Rattle.plain.specs.Runs.{unless, after, answer, run, answered, AllAccepted, ReachedByARun}
use Rattle.plain.specs.Steps.{Step, WithinSourceLimits}

-- ---- one call, declined or accepted

module _ (t : Tables) (p : PlainBook) (c : Step) where
  pub after-declined : (f : Fault) → declined t p c ≡ Some f → after t p c ≡ p
  after-declined f e = ap (λ (o : Option Fault). unless o (changed p c) (λ f. p)) e

  pub answer-declined : (f : Fault) → declined t p c ≡ Some f → answer t p c ≡ Declined f
  answer-declined f e = ap (λ (o : Option Fault). unless o (gives t p c) Declined) e

  pub after-accepted : declined t p c ≡ None → after t p c ≡ changed p c
  after-accepted e = ap (λ (o : Option Fault). unless o (changed p c) (λ f. p)) e

  pub answer-accepted : declined t p c ≡ None → answer t p c ≡ gives t p c
  answer-accepted e = ap (λ (o : Option Fault). unless o (gives t p c) Declined) e

-- ---- runs

pub run-push : (t : Tables) (p : PlainBook) (calls : List Step) (c : Step) → run t p (calls ++ c ∷ []) ≡ after t (run t p calls) c
run-push t p calls c = fold_push (after t) p calls c

pub run-append : (t : Tables) (p : PlainBook) (cs ds : List Step) → run t p (cs ++ ds) ≡ run t (run t p cs) ds
run-append t p [] ds = refl
run-append t p (c ∷ cs) ds = run-append t (after t p c) cs ds

pub answered-push : (t : Tables) (p : PlainBook) (calls : List Step) (c : Step) → answered t p (calls ++ c ∷ []) ≡ answered t p calls ++ answer t (run t p calls) c ∷ []
answered-push t p [] c = refl
answered-push t p (d ∷ calls) c = ap (λ l. answer t p d ∷ l) (answered-push t (after t p d) calls c)

pub length-answered : (t : Tables) (p : PlainBook) (calls : List Step) → length (answered t p calls) ≡ length calls
length-answered t p [] = refl
length-answered t p (c ∷ calls) = ap suc (length-answered t (after t p c) calls)

-- ---- runs of accepted calls

-- they make their changes one after the other
pub run-accepted : (t : Tables) (p : PlainBook) (calls : List Step) → AllAccepted t p calls → run t p calls ≡ fold changed p calls
unfolding AllAccepted
run-accepted t p [] all = refl
run-accepted t p (c ∷ calls) all = run-accepted t (after t p c) calls all.1 ∙ ap (λ q. fold changed q calls) (after-accepted t p c all.0)

pub accepted-parts : (t : Tables) (p : PlainBook) (cs ds : List Step) → AllAccepted t p (cs ++ ds) → AllAccepted t p cs × AllAccepted t (run t p cs) ds
unfolding AllAccepted
accepted-parts t p [] ds all = (tt, all)
accepted-parts t p (c ∷ cs) ds all = let rest = accepted-parts t (after t p c) cs ds all.1 in ((all.0, rest.0), rest.1)

pub accepted-append : (t : Tables) (p : PlainBook) (cs ds : List Step) → AllAccepted t p cs → AllAccepted t (run t p cs) ds → AllAccepted t p (cs ++ ds)
unfolding AllAccepted
accepted-append t p [] ds one two = two
accepted-append t p (c ∷ cs) ds one two = (one.0, accepted-append t (after t p c) cs ds one.1 two)

-- two runs of accepted calls, one after the other
pub both-runs : (t : Tables) (p q r : PlainBook) (cs ds : List Step) → (AllAccepted t p cs → run t p cs ≡ q) → (AllAccepted t q ds → run t q ds ≡ r) → AllAccepted t p (cs ++ ds) → run t p (cs ++ ds) ≡ r
both-runs t p q r cs ds one two all =
    let each = accepted-parts t p cs ds all in
    let same = one each.0 in
    run-append t p cs ds ∙ ap (λ u. run t u ds) same ∙ two (subst (λ u. AllAccepted t u ds) same each.1)

-- ---- books that a run has come to

pub reached-at-first : (t : Tables) → ReachedByARun t empty
reached-at-first t = ([], tt, refl)

-- by more calls
pub reached-more : (t : Tables) (p : PlainBook) (calls : List Step) → AllByRecursion WithinSourceLimits calls → ReachedByARun t p → ReachedByARun t (run t p calls)
reached-more t p calls within (before, limits, led) = (before ++ calls, All-append WithinSourceLimits before calls limits within, run-append t empty before calls ∙ ap (λ q. run t q calls) led)

pub reached-after : (t : Tables) (p : PlainBook) (c : Step) → WithinSourceLimits c → ReachedByARun t p → ReachedByARun t (after t p c)
reached-after t p c within reached = reached-more t p (c ∷ []) (within, tt) reached
