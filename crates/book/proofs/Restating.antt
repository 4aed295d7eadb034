-- Restatements and reductions: the place of the investee, and its row written over.
use Rattle.std.proofs.Common.{◌≡◌, ℕ, ◌<◌, true, List, length, get_or, set, is_some, Some, None, Ok, Err, ok_or, Option, position, sym, refl, ap, ◌∙◌}
use Rattle.faults.specs.Refusals.{fault}
use Rattle.faults.specs.declared.Fault.{Fault}
use Rattle.faults.specs.declared.Refusal.TheVariants.{NotOpen}
use Rattle.sources.specs.declared.reading.Reading.{Reading}
use Rattle.plain.specs.Changes.{read_into}
use Rattle.plain.specs.Lists.{change_first}
use Rattle.plain.specs.PlainBook.{PlainInvestee, PlainBook, has_id, investee_of}
use Rattle.plain.specs.Refused.{if_open}
use Rattle.plain.specs.Steps.{Meaning}
use Rattle.book.specs.declared.rows.InvesteeRow.{InvesteeRow}
use Rattle.book.specs.Rows.{plain_investee, plain_investees}
use Rattle.positions.proofs.Places.{first-nowhere, found_alike, row_within, written-view, change-at-place}

-- ---- the place

-- what an answer that is no fault was made of
pub some-from : {X E : Type 0} (o : Option X) (e : E) (x : X) → Ok x ≡ ok_or o e → Some x ≡ o
some-from (Some y) e x is = let same : x ≡ y = cc in ap Some same
some-from None e x is = absurd cc

open_none : (o : Option ℕ) (f : Fault) → Err f ≡ ok_or o (fault NotOpen 0 0) → (None ≡ o) × (fault NotOpen 0 0 ≡ f)
open_none (Some j) f e = absurd cc
open_none None f e = (refl, let same : fault NotOpen 0 0 ≡ f = cc in same)

module _ (p : PlainBook) (id : ℕ) where
  pub not-open : (f : Fault) (next : PlainInvestee → Option Fault) → Err f ≡ ok_or (position (has_id id) p.investees) (fault NotOpen 0 0) → if_open (investee_of id p) next ≡ Some f
  not-open f next e =
      let none = open_none (position (has_id id) p.investees) f e in
      ap (λ o. if_open o next) (first-nowhere (has_id id) p.investees none.0) ∙ ap Some none.1

  -- what follows does not ask which investee it is
  pub is-open : (k : ℕ) (rest : Option Fault) → Ok k ≡ ok_or (position (has_id id) p.investees) (fault NotOpen 0 0) → if_open (investee_of id p) (λ x. rest) ≡ rest
  is-open k rest e =
      by (investee_of id p)
      (sym (found_alike (has_id id) p.investees) ∙ ap is_some (sym (some-from (position (has_id id) p.investees) _ k e)))
    where
      by : (o : Option PlainInvestee) → is_some o ≡ true → if_open o (λ x. rest) ≡ rest
      by None h = absurd cc
      by (Some x) h = refl

-- ---- the row

module _ (xs : List InvesteeRow) (id k : ℕ) (at : Ok k ≡ ok_or (position (has_id id) (plain_investees xs)) (fault NotOpen 0 0)) where
  pub open-within : k < length xs
  open-within = row_within plain_investee (has_id id) xs k (some-from (position (has_id id) (plain_investees xs)) _ k at)

  pub reread : (change : Reading → PlainInvestee → PlainInvestee) (m : Meaning) (r : Reading) (old new : InvesteeRow) → m ≡ Ok r → old ≡ get_or xs k old → plain_investee new ≡ change r (plain_investee old)
      → plain_investees (set xs k new) ≡ change_first (has_id id) (read_into change m) (plain_investees xs)
  reread change m r old new read is e =
      written-view plain_investee (change r) xs k old new open-within is e
      ∙ change-at-place (has_id id) (change r) (plain_investees xs) k (some-from (position (has_id id) (plain_investees xs)) _ k at) (plain_investee old)
      ∙ ap (λ n. change_first (has_id id) (read_into change n) (plain_investees xs)) (sym read)
