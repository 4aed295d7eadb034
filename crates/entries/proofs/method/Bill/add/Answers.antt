use Rattle.std.proofs.Common.{◌≡◌, ◌+◌, ◌<◌, ◌≤◌, min, List, [], ◌∷◌, ◌++◌, length, take, set, replicate, sym, ap, ◌∙◌, arith, rules}
use Rattle.std.proofs.lemmas.List.{length_push, length-take-le, take_more_set, take_all, take-append-le}
use Rattle.factors.specs.declared.Activity.{Activity}
use Rattle.entries.specs.Bills.{bill_of, most_held, no_term, terms_in, with_term}
use Rattle.entries.specs.declared.method.Bill.{Bill}
use Rattle.entries.proofs.Tables.{set_next, full-stays}
use Rattle.entries.proofs.method.Bill.add.Goals as goal

held_next : (b : Bill) (term : Activity) (terms : List Activity) → b ≡ bill_of terms → b.count < most_held → with_term b term ≡ bill_of (terms ++ term ∷ [])
held_next b term terms is lt =
    let counted : b.count ≡ min (length terms) most_held = ap (λ b. b.count) is in
    let all : b.count ≡ length terms = omega arith in
    let more : b.count + 1 ≡ min (length (terms ++ term ∷ [])) most_held = omega (arith, length_push terms term) in
    let rows : set b.terms b.count term ≡ (bill_of (terms ++ term ∷ [])).terms = (λ t. set (is t).terms (all t) term) ∙ set_next no_term term most_held most_held terms (omega arith) (omega arith) in
    λ t. record { terms = rows t; count = more t }

held-full : (b : Bill) (term : Activity) (terms : List Activity) → b ≡ bill_of terms → most_held ≤ b.count → b ≡ bill_of (terms ++ term ∷ [])
held-full b term terms is le =
    let counted : b.count ≡ min (length terms) most_held = ap (λ b. b.count) is in
    let same : min (length terms) most_held ≡ min (length (terms ++ term ∷ [])) most_held = omega (arith, length_push terms term) in
    let rows : (bill_of terms).terms ≡ (bill_of (terms ++ term ∷ [])).terms = full-stays term most_held terms (replicate most_held no_term) (omega arith) in
    is ∙ (λ t. record { terms = rows t; count = same t })

-- the same of the terms that any bill holds
more-held : (b : Bill) (term : Activity) → length b.terms ≡ most_held → b.count < most_held → terms_in (with_term b term) ≡ take most_held (terms_in b ++ term ∷ [])
more-held b term places lt =
    let next : min (b.count + 1) most_held ≡ b.count + 1 = omega arith in
    let here : min b.count most_held ≡ b.count = omega arith in
    let front : length (take b.count b.terms) ≡ b.count = length-take-le b.count b.terms (omega arith) in
    ap (λ k. take k (set b.terms b.count term)) next ∙ take_more_set b.terms b.count term (omega arith)
    ∙ sym (take_all most_held (take b.count b.terms ++ term ∷ []) (omega (arith, length_push (take b.count b.terms) term)))
    ∙ ap (λ k. take most_held (take k b.terms ++ term ∷ [])) (sym here)

all-held : (b : Bill) (term : Activity) → length b.terms ≡ most_held → most_held ≤ b.count → terms_in b ≡ take most_held (terms_in b ++ term ∷ [])
all-held b term places le =
    let front : length (take (min b.count most_held) b.terms) ≡ min b.count most_held = length-take-le (min b.count most_held) b.terms (omega arith) in
    sym (take-append-le most_held (terms_in b) (term ∷ []) (omega arith) ∙ take_all most_held (terms_in b) (omega arith))

pub returns-then-self-lt-MOST_HELD-clause-holds : goal.returns-then-self-lt-MOST_HELD-clause-holds
returns-then-self-lt-MOST_HELD-clause-holds c =
    let places : length c.args.self.now.terms ≡ most_held = search rules in
    ap terms_in c.put.ensures ∙ more-held c.args.self.now c.args.term places c.if-self-lt-MOST_HELD.true

pub returns-else-self-lt-MOST_HELD-clause-holds : goal.returns-else-self-lt-MOST_HELD-clause-holds
returns-else-self-lt-MOST_HELD-clause-holds c =
    let places : length c.args.self.now.terms ≡ most_held = search rules in
    all-held c.args.self.now c.args.term places c.if-self-lt-MOST_HELD.false

pub returns-then-self-lt-MOST_HELD-clause-bill : goal.returns-then-self-lt-MOST_HELD-clause-bill
returns-then-self-lt-MOST_HELD-clause-bill c terms is = c.put.ensures ∙ held_next c.args.self.now c.args.term terms is c.if-self-lt-MOST_HELD.true

pub returns-else-self-lt-MOST_HELD-clause-bill : goal.returns-else-self-lt-MOST_HELD-clause-bill
returns-else-self-lt-MOST_HELD-clause-bill c terms is = held-full c.args.self.now c.args.term terms is c.if-self-lt-MOST_HELD.false
