use Rattle.std.proofs.Common.{◌≡◌, ◌+◌, ◌*◌, ◌≤◌, take, drop, sum_by}
use Rattle.sources.specs.Bottoms.{tenths, good}
use Rattle.sources.proofs.physical.tenths_of_gram.Given as goal

abbrev pub invariant-loop-i : goal.invariant-loop-i
invariant-loop-i l =
    (l.sum ≡ sum_by tenths (take l.i l.terms)) ×
    (l.sum ≤ l.i * 219897000000000000) ×
    (l.i + good (drop l.i l.terms) ≡ good l.terms)
