-- What the cursors of a portfolio give, as entries.
use Rattle.std.proofs.Common.{◌≡◌, ℕ, List, [], ◌∷◌, map, Some, None, sym, refl, ap, ◌∙◌, arith}
use Rattle.entries.proofs.Means.{held-entry-means}
use Rattle.entries.specs.Entries.{PlainEntry, held_entry}
use Rattle.entries.specs.declared.investee.InvesteeEntry.{InvesteeEntry}
use Rattle.entries.specs.declared.investee.PostEntry.{PostEntry}
use Rattle.plain.specs.Steps.{enter}
use Rattle.portfolio.specs.Cursors.{NextEntry, NextPost, GivesInvestee, GivesPost, investees_left, posts_left}
use Rattle.loading.specs.Entering.{opening_held, GivesCalls}
use Rattle.loading.specs.Trying.{opening, posting}

-- an entry was given: it was the first of those left
record GivenEntry (was : List PlainEntry) (x : InvesteeEntry) (left : List PlainEntry) : Type 0 where
  pub entry : PlainEntry
  pub first : was ≡ entry ∷ left
  pub opens : opening_held x ≡ opening entry

entry-given : (was : List PlainEntry) (x : InvesteeEntry) (left : List PlainEntry) → NextEntry was (Some x) left → GivenEntry was x left
entry-given [] x left h = let z : ◌≡◌ {A = ℕ} 0 1 = cc h.0 in absurd (omega arith)
entry-given (e ∷ es) x left h =
    let is : x ≡ held_entry e = cc h.0 in
    record { entry = e; first = ap (λ l. e ∷ l) (sym h.1); opens = ap opening_held is ∙ ap (enter e.fields) (held-entry-means e) }

no-entry-given : (was left : List PlainEntry) → NextEntry was None left → was ≡ []
no-entry-given [] left h = refl
no-entry-given (e ∷ es) left h = let z : ◌≡◌ {A = ℕ} 0 1 = cc h.0 in absurd (omega arith)

post-given : (was : List PostEntry) (x : PostEntry) (left : List PostEntry) → NextPost was (Some x) left → was ≡ x ∷ left
post-given [] x left h = let z : ◌≡◌ {A = ℕ} 0 1 = cc h.0 in absurd (omega arith)
post-given (e ∷ es) x left h = let is : x ≡ e = cc h.0 in λ t. sym is t ∷ sym h.1 t

no-post-given : (was left : List PostEntry) → NextPost was None left → was ≡ []
no-post-given [] left h = refl
no-post-given (e ∷ es) left h = let z : ◌≡◌ {A = ℕ} 0 1 = cc h.0 in absurd (omega arith)

-- what the iterators of a portfolio give, as calls
pub investees-give : GivesCalls GivesInvestee opening_held (λ c. map opening (investees_left c))
investees-give =
    record {
      next = λ s x t h. let given = entry-given _ _ _ h.0 in ap (map opening) given.first ∙ ap (λ c. c ∷ map opening (investees_left t)) (sym given.opens);
      none = λ s t h. ap (map opening) (no-entry-given _ _ h.0);
    }

pub posts-give : GivesCalls GivesPost posting (λ c. map posting (posts_left c))
posts-give = record { next = λ s x t h. ap (map posting) (post-given _ _ _ h.0); none = λ s t h. ap (map posting) (no-post-given _ _ h.0) }
