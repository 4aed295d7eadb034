use Rattle.std.proofs.Common.{◌≡◌, ◌*◌, ◌≤◌, take, sum_by}
use Rattle.grading.proofs.sums.Given as goal

abbrev pub invariant-loop-record : goal.invariant-loop-record
invariant-loop-record g l =
    let m = g.T.Graded in
    (l.total ≡ sum_by m.weight (take l.record-index l.records)) ×
    (l.sum ≡ sum_by (λ x. m.weight x * m.grade x) (take l.record-index l.records)) ×
    (l.total ≤ 1000000000000 * l.record-index) ×
    (l.sum ≤ 5 * l.total)
