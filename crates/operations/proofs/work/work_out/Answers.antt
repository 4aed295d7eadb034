use Rattle.std.proofs.Common.{rules, ◌≡◌, None, Ok, map, sum_by, ap, ◌∙◌, ap₂, arith}
use Rattle.std.proofs.lemmas.Iterator.{YieldsList-from_slice, YieldsList-from_map}
use Rattle.std.proofs.lemmas.Iterator.Consumers.{YieldsList-at, fits_by_from_yields_list, sum_by_from_yields_List}
use Rattle.grading.specs.Mean.{mean_of}
use Rattle.operations.specs.declared.items.Totals.{Totals}
use Rattle.operations.specs.Items.{worked}
use Rattle.operations.specs.Tables.{refusal_of, totals_of}
use Rattle.operations.proofs.Accepted.{accepted-within, sum-small, mean-same}
use Rattle.operations.proofs.work.work_out.Goals as goal

pub sum-requires-clause-fits : goal.sum-requires-clause-fits
sum-requires-clause-fits c =
    let xs = c.args.items.now in
    let none : refusal_of xs ≡ None = search rules in
    let small = sum-small xs none in
    fits_by_from_yields_list (λ x. x.kilograms) (map worked xs) c.map.result _
    (YieldsList-from_map _ (λ x. x.kilograms) (YieldsList-at c.map.ensures.source (YieldsList-from_slice (map worked xs) (c.iter.ensures.rest ∙ c.write.ensures))) c.map.ensures.closure (λ x r q k. search rules))
    (omega (arith, small))

pub returns-clause-answer : goal.returns-clause-answer
returns-clause-answer c =
    let xs = c.args.items.now in
    let ys = map worked xs in
    let none : refusal_of xs ≡ None = search rules in
    let sum : c.sum.result ≡ sum_by (λ x. x.kilograms) ys =
    sum_by_from_yields_List (λ x. x.kilograms) ys c.map.result _ c.sum.ensures.ran
    (YieldsList-from_map _ (λ x. x.kilograms) (YieldsList-at c.map.ensures.source (YieldsList-from_slice ys (c.iter.ensures.rest ∙ c.write.ensures))) c.map.ensures.closure (λ x r q k. search rules)) in
    let mean : c.mean.result ≡ mean_of (λ x. x.kilograms) (λ x. x.grade) ys =
    rw c.write.ensures at c.mean.ensures.value ∙ mean-same ys (accepted-within xs none) in
    let totals : ◌≡◌ {A = Totals} (record { kilograms = c.sum.result; grade = c.mean.result }) (totals_of ys) = ap₂ (λ k g. record { kilograms = k; grade = g }) sum mean in
    rw none (ap Ok totals)
