use Rattle.std.proofs.Common.{◌≡◌, ◌+◌, ◌<◌, leb, length, get_or, decimal, sym, ap, arith, rules}
use Rattle.std.proofs.lemmas.List.Sums.{sum_by-drop_more}
use Rattle.std.proofs.lemmas.Bool.{eqb-true, eqb-false, le-leb, lt-leb}
use Rattle.std.proofs.lemmas.List.{at_drop_all}
use Rattle.lines.proofs.NumberLines.{bytes_of, length-line, length-no-line}
use Rattle.lines.proofs.writing.line_fits.Goals as goal

pub returns-then-is_empty : goal.returns-then-is_empty
returns-then-is_empty c = sym (ap (λ n. leb n c.args.room) (length-no-line c.args.numbers.now (eqb-true _ _ (sym c.if-is_empty.ensures))))

pub returns-then-left-count : goal.returns-then-left-count
returns-then-left-count c =
    let width : length c.format.result.now ≡ length (decimal (get_or c.args.numbers.now c.loop-n.n-index 0)) = search rules in
    sym (lt-leb _ _ (omega (
      arith,
      c.loop-n.invariant,
      length-line c.args.numbers.now (omega arith),
      width,
      sum_by-drop_more (λ n. length (decimal n) + 1) c.args.numbers.now c.loop-n.n-index 0 c.loop-n-test.true,
    )))

pub loop-n-preserved : goal.loop-n-preserved
loop-n-preserved c =
    let width : length c.format.result.now ≡ length (decimal (get_or c.args.numbers.now c.loop-n.n-index 0)) = search rules in
    omega (arith, c.loop-n.invariant, width, sum_by-drop_more (λ n. length (decimal n) + 1) c.args.numbers.now c.loop-n.n-index 0 c.loop-n-test.true)

pub returns : goal.returns
returns c =
    let some : 0 < length c.args.numbers.now = search (rules, eqb-false) in
    sym (le-leb _ _ (omega (arith, c.loop-n.invariant, length-line c.args.numbers.now some, at_drop_all bytes_of c.args.numbers.now c.loop-n.n-index c.loop-n-test.false)))
