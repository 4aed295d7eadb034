-- Terms of an energy bill read pair by pair.
use Rattle.std.proofs.Common.{◌≡◌, ℕ, suc, ◌+◌, ◌-◌, ◌<◌, List, [], ◌∷◌, ◌++◌, Ok, Err, sym, refl, ap, ◌∙◌, append_assoc, arith}
use Rattle.factors.specs.declared.Activity.{Activity}
use Rattle.entries.specs.Bills.{bill_of}
use Rattle.entries.specs.declared.method.Bill.{Bill}
use Rattle.portfolio_lines.specs.declared.misread.Misread.{Misread}
use Rattle.portfolio_lines.specs.Counted.{FieldsLeft, Reading, and_then, numbers_in}
use Rattle.portfolio_lines.specs.Methods.{term_of, terms_in, in_front}

-- terms read before, in front of what the rest reads as
abbrev pub after : List Activity → Reading (List Activity) → Reading (List Activity)
after terms (Ok r) = Ok (terms ++ r.0, r.1)
after terms (Err p) = Err p

-- i of n terms are read of the fields `was`, and the bill holds them
abbrev pub Sofar : (n i : ℕ) (was : FieldsLeft) (held : Bill) (left : FieldsLeft) → Type 0
Sofar n i was held left = (terms : List Activity) × (held ≡ bill_of terms) × (terms_in n was ≡ after terms (terms_in (n - i) left))

after_front : (terms : List Activity) (term : Activity) (r : Reading (List Activity)) → after terms (in_front term r) ≡ after (terms ++ term ∷ []) r
after_front terms term (Ok r) = ap (λ l. Ok (l, r.1)) (sym (append_assoc terms (term ∷ []) r.0))
after_front terms term (Err p) = refl

step : (n i : ℕ) (left : FieldsLeft) → i < n → terms_in (n - i) left ≡ and_then (numbers_in 2 left) (λ r. in_front (term_of r.0) (terms_in (n - (i + 1)) r.1))
step n i left lt = let turns : n - i ≡ suc (n - (i + 1)) = omega arith in ap (λ m. terms_in m left) turns

pub sofar-more : (n i : ℕ) (was : FieldsLeft) (held grown : Bill) (left next : FieldsLeft) (ns : List ℕ) → i < n → Sofar n i was held left
    → numbers_in 2 left ≡ Ok (ns, next)
    → ((terms : List Activity) → held ≡ bill_of terms → grown ≡ bill_of (terms ++ term_of ns ∷ []))
    → Sofar n (i + 1) was grown next
sofar-more n i was held grown left next ns lt (terms, is, so) read adds = (
  terms ++ term_of ns ∷ [],
  adds terms is,
  so ∙ ap (after terms) (step n i left lt ∙ ap (λ r. and_then r (λ r. in_front (term_of r.0) (terms_in (n - (i + 1)) r.1))) read) ∙ after_front terms (term_of ns) (terms_in (n - (i + 1)) next),
)

-- a pair that reads wrong is what all the terms read as
pub sofar-wrong : (n i : ℕ) (was : FieldsLeft) (held : Bill) (left : FieldsLeft) (e : Misread) → i < n → Sofar n i was held left → numbers_in 2 left ≡ Err e → terms_in n was ≡ Err e
sofar-wrong n i was held left e lt (terms, is, so) wrong =
    so ∙ ap (after terms) (step n i left lt ∙ ap (λ r. and_then r (λ r. in_front (term_of r.0) (terms_in (n - (i + 1)) r.1))) wrong)
