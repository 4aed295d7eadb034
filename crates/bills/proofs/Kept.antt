-- No item after the first 65 matters.
use Rattle.arrayvec.specs.ArrayVec.{ArrayVec}
use Rattle.std.proofs.Common.{◌≡◌, ℕ, ◌<◌, ltb, List, length, take, Some, Ok, Err, Result, sym, refl, ap, ◌∙◌, ⊎_elim, arith}
use Rattle.std.proofs.lemmas.List.{take_all, length-take-le}
use Rattle.std.proofs.lemmas.Bool.{lt-ltb, cond-true, cases_lt}
use Rattle.faults.specs.Refusals.{fault}
use Rattle.faults.specs.declared.Refusal.TheVariants.{OwnItem}
use Rattle.operations.specs.declared.items.Item.{Item}
use Rattle.operations.specs.Tables.{refusal_of}
use Rattle.bills.specs.declared.answer.Outcome.TheVariants.{Refused}
use Rattle.bills.specs.declared.reading.Malformed.{Malformed}
use Rattle.bills.specs.Bills.{most_held, held}
use Rattle.bills.specs.Outcomes.{worked, bill_answer}

too-many : (xs : List Item) → 64 < length xs → worked xs ≡ Refused (fault OwnItem 0 0)
too-many xs many =
    let e : refusal_of xs ≡ Some (fault OwnItem 0 0) = cond-true (ltb 64 (length xs)) _ _ (lt-ltb 64 (length xs) many) in
    rw e refl

pub front-worked : (xs : List Item) → worked (take most_held xs) ≡ worked xs
front-worked xs =
    ⊎_elim
    (λ many. too-many (take most_held xs) (omega (arith, length-take-le most_held xs many)) ∙ sym (too-many xs many))
    (λ few. ap worked (take_all most_held xs (omega (arith, few))))
    (cases_lt 64 (length xs))

-- what is kept of a bill is worked out as the whole is
pub kept-answer : (r : Result (List Item) Malformed) (v : ArrayVec Item) → Ok v ≡ held r → worked v.items ≡ bill_answer r
kept-answer (Ok xs) v is = let same : v ≡ record { items = take most_held xs } = cc in ap (λ w. worked w.items) same ∙ front-worked xs
kept-answer (Err m) v is = let z : ◌≡◌ {A = ℕ} 0 1 = cc in absurd (omega arith)
