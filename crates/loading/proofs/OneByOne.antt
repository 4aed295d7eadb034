-- Entries entered one after another are tried in order.
use Rattle.std.proofs.Common.{◌≡◌, ℕ, suc, ◌+◌, List, [], ◌∷◌, length, Some, None, Ok, Err, Option, Result, sym, refl, ap, ◌∙◌, add-one, arith}
use Rattle.std.specs.Result.{result_err}
use Rattle.faults.specs.declared.Fault.{Fault}
use Rattle.rules.specs.Tables.{Tables}
use Rattle.entries.specs.Stops.{stop_at}
use Rattle.plain.specs.Changes.{changed}
use Rattle.plain.specs.PlainBook.{PlainBook}
use Rattle.plain.specs.Readings.{gives}
use Rattle.plain.specs.Refused.{declined}
use Rattle.plain.specs.Runs.{after, answer, unless}
use Rattle.plain.specs.Steps.{Step}
use Rattle.plain.specs.declared.answers.Answer.{Answer}
use Rattle.plain.specs.declared.answers.Answer.TheVariants.{Done, Declined}
use Rattle.plain.specs.Told.{told, done}
use Rattle.loading.specs.Trying.{outcome, tried}

-- ---- what a call that changes the book tells its caller

unless-done : (d : Option Fault) (u : Unit {0}) (a : Answer) → told done (Ok u) ≡ unless d a Declined → a ≡ Done → d ≡ None
unless-done None u a e is = refl
unless-done (Some f) u a e is = let z : ◌≡◌ {A = ℕ} 0 1 = cc in absurd (omega arith)

unless-declined : (d : Option Fault) (f : Fault) (a : Answer) → told done (Err f) ≡ unless d a Declined → a ≡ Done → d ≡ Some f
unless-declined None f a e is = let z : ◌≡◌ {A = ℕ} 0 1 = cc in absurd (omega arith)
unless-declined (Some g) f a e is = let same : g ≡ f = cc in ap Some same

-- the fault that a call tells is why it is declined
pub told-declined : (t : Tables) (p : PlainBook) (c : Step) (r : Result (Unit {0}) Fault) → gives t p c ≡ Done → told done r ≡ answer t p c → result_err r ≡ declined t p c
told-declined t p c (Ok u) is e = sym (unless-done (declined t p c) u (gives t p c) e is)
told-declined t p c (Err f) is e = sym (unless-declined (declined t p c) f (gives t p c) e is)

-- ---- entries, one after another

-- the entries that are left, from this line on this book, come to what all come to
pub record Entering (t₀ : Tables) (first : ℕ) (p₀ : PlainBook) (all : List Step) (t : Tables) (line : ℕ) (p : PlainBook) (left : List Step) : Type 0 where
  pub same : tried t₀ first p₀ all ≡ tried t line p left
  pub lines : line + length left ≡ first + length all

next-tried : (t : Tables) (line : ℕ) (p : PlainBook) (c : Step) (cs : List Step) → tried t line p (c ∷ cs) ≡ unless (declined t p c) (tried t (suc line) (after t p c) cs) (λ f. outcome p (Some (stop_at line f)))
unfolding tried
next-tried t line p c cs = refl

accepted-tried : (t : Tables) (line : ℕ) (p : PlainBook) (c : Step) (cs : List Step) → declined t p c ≡ None → tried t line p (c ∷ cs) ≡ tried t (suc line) (after t p c) cs
accepted-tried t line p c cs ok =
    next-tried t line p c cs ∙ ap (λ d. unless d (tried t (suc line) (after t p c) cs) (λ f. outcome p (Some (stop_at line f)))) ok

declined-tried : (t : Tables) (line : ℕ) (p : PlainBook) (c : Step) (cs : List Step) (f : Fault) → declined t p c ≡ Some f → tried t line p (c ∷ cs) ≡ outcome p (Some (stop_at line f))
declined-tried t line p c cs f refusal =
    next-tried t line p c cs ∙ ap (λ d. unless d (tried t (suc line) (after t p c) cs) (λ f. outcome p (Some (stop_at line f)))) refusal

-- a declined call changes nothing
declined-stays : (t : Tables) (p : PlainBook) (c : Step) (f : Fault) → declined t p c ≡ Some f → after t p c ≡ p
declined-stays t p c f refusal = ap (λ d. unless d (changed p c) (λ f. p)) refusal

module _ (t₀ : Tables) (first : ℕ) (p₀ : PlainBook) (all : List Step) (t : Tables) (line : ℕ) (p : PlainBook) (left : List Step) (h : Entering t₀ first p₀ all t line p left) where
  pub entering-more : (c : Step) (cs : List Step) (t' : Tables) (p' : PlainBook) → left ≡ c ∷ cs → None ≡ declined t p c → p' ≡ after t p c → t' ≡ t → Entering t₀ first p₀ all t' (line + 1) p' cs
  entering-more c cs t' p' is ok goes rule =
      record {
        same = h.same ∙ ap (tried t line p) is ∙ accepted-tried t line p c cs (sym ok) ∙ (λ i. tried (sym rule i) (sym (add-one line) i) (sym goes i) cs);
        lines = let long : length left ≡ suc (length cs) = ap length is in omega (arith, h.lines);
      }

  pub entering-stopped : (c : Step) (cs : List Step) (p' : PlainBook) (f : Fault) → left ≡ c ∷ cs → Some f ≡ declined t p c → p' ≡ after t p c → outcome p' (Some (stop_at line f)) ≡ tried t₀ first p₀ all
  entering-stopped c cs p' f is refusal goes =
      ap (λ q. outcome q (Some (stop_at line f))) (goes ∙ declined-stays t p c f (sym refusal)) ∙ sym (h.same ∙ ap (tried t line p) is ∙ declined-tried t line p c cs f (sym refusal))

  pub entering-all : left ≡ [] → outcome p None ≡ tried t₀ first p₀ all
  unfolding tried
  entering-all is = sym (h.same ∙ ap (tried t line p) is)
