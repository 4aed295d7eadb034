-- Entries tried after others.
use Rattle.std.proofs.Common.{◌≡◌, ℕ, suc, ◌+◌, List, [], ◌∷◌, ◌++◌, length, Some, None, Option, sym, ap, ◌∙◌, add-zero, arith}
use Rattle.faults.specs.declared.Fault.{Fault}
use Rattle.rules.specs.Tables.{Tables}
use Rattle.entries.specs.Stops.{stop_at}
use Rattle.entries.specs.declared.stop.Stop.{Stop}
use Rattle.plain.specs.PlainBook.{PlainBook}
use Rattle.plain.specs.Refused.{declined}
use Rattle.plain.specs.Runs.{after, unless}
use Rattle.plain.specs.Steps.{Step}
use Rattle.loading.specs.Trying.{Outcome, outcome, tried}

-- what comes of the first entry and those after it
abbrev after_first : Tables → ℕ → PlainBook → Step → List Step → Option Fault → Outcome
after_first t line p c cs d = unless d (tried t (suc line) (after t p c) cs) (λ f. outcome p (Some (stop_at line f)))

no_stop : (p q : PlainBook) (s : Stop) → outcome p None ≡ outcome q (Some s) → ⊥
no_stop p q s e = let z : ◌≡◌ {A = ℕ} 0 1 = cc (ap (λ o. o.stop) e) in omega arith

on-from : (t : Tables) (line : ℕ) (p q : PlainBook) (c : Step) (xs ys : List Step) (d : Option Fault) → outcome q None ≡ after_first t line p c xs d
    → (outcome q None ≡ tried t (suc line) (after t p c) xs → tried t (suc line) (after t p c) (xs ++ ys) ≡ tried t (suc line + length xs) q ys)
    → after_first t line p c (xs ++ ys) d ≡ tried t (line + length (c ∷ xs)) q ys
on-from t line p q c xs ys None e deep = let here : suc line + length xs ≡ line + length (c ∷ xs) = omega arith in deep e ∙ ap (λ l. tried t l q ys) here
on-from t line p q c xs ys (Some f) e deep = absurd (no_stop q p (stop_at line f) e)

-- all were accepted: the others go on from there
pub tried-on : (t : Tables) (line : ℕ) (p q : PlainBook) (xs ys : List Step) → outcome q None ≡ tried t line p xs → tried t line p (xs ++ ys) ≡ tried t (line + length xs) q ys
unfolding tried
tried-on t line p q [] ys e = λ i. tried t (sym (add-zero line) i) (sym (ap (λ o. o.book) e) i) ys
tried-on t line p q (c ∷ xs) ys e = on-from t line p q c xs ys (declined t p c) e (λ h. tried-on t (suc line) (after t p c) q xs ys h)

no-further-from : (t : Tables) (line : ℕ) (p q : PlainBook) (s : Stop) (c : Step) (xs ys : List Step) (d : Option Fault) → outcome q (Some s) ≡ after_first t line p c xs d
    → (outcome q (Some s) ≡ tried t (suc line) (after t p c) xs → outcome q (Some s) ≡ tried t (suc line) (after t p c) (xs ++ ys))
    → outcome q (Some s) ≡ after_first t line p c (xs ++ ys) d
no-further-from t line p q s c xs ys None e deep = deep e
no-further-from t line p q s c xs ys (Some f) e deep = e

-- one was declined: the others are not tried
pub tried-no-further : (t : Tables) (line : ℕ) (p q : PlainBook) (s : Stop) (xs ys : List Step) → outcome q (Some s) ≡ tried t line p xs → outcome q (Some s) ≡ tried t line p (xs ++ ys)
unfolding tried
tried-no-further t line p q s [] ys e = absurd (no_stop p q s (sym e))
tried-no-further t line p q s (c ∷ xs) ys e = no-further-from t line p q s c xs ys (declined t p c) e (λ h. tried-no-further t (suc line) (after t p c) q s xs ys h)
