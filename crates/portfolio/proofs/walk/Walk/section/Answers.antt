use Rattle.std.proofs.Common.{◌≡◌, suc, ◌+◌, ◌-◌, Err, sym, ap, ◌∙◌, arith}
use Rattle.std.proofs.lemmas.Result.{err_from_is_err_and}
use Rattle.lines.specs.Pieces.{left_in}
use Rattle.portfolio.specs.Layout.{gone}
use Rattle.portfolio.specs.Rows.{passed}
use Rattle.portfolio.proofs.Walks.{passed-none, passed-wrong, passed-more}
use Rattle.portfolio.proofs.walk.Walk.section.Goals as goal

pub returns-in_err-line-clause-passed : goal.returns-in_err-line-clause-passed
returns-in_err-line-clause-passed g c = λ row law.
    let p = err_from_is_err_and c.from_residual.result c.from_residual.ensures.1 in
    rw (p.1, p.2) (c.loop-number.invariant row law ∙ passed-none row _ _ _ (omega arith) c.next_line.result _ c.line_missing.result _ c.next_line.ensures c.line_missing.ensures c.in_err-line.ensures.value)

pub returns-in-Err-clause-passed : goal.returns-in-Err-clause-passed
returns-in-Err-clause-passed g c = λ row law.
    c.loop-number.invariant row law ∙ passed-wrong row _ _ _ (omega arith) c.in_ok-line.line.now _ c.in-Err.misread (c.next_line.ensures ∙ ap (λ r. gone r (left_in c.next_line.new.lines)) c.in_ok-line.ensures.ok_part) (law c.in_ok-line.line _ c.in-Err.ensures) ∙ ap Err (sym c.wrong_field.ensures)

pub loop-number-preserved : goal.loop-number-preserved
loop-number-preserved g c = λ row law.
    let fewer : (c.args.self.now.number + c.args.count) - c.loop-number.number - 1 ≡ (c.args.self.now.number + c.args.count) - (c.loop-number.number + 1) = omega arith in
    let next : suc c.loop-number.number ≡ c.loop-number.number + 1 = omega arith in
    c.loop-number.invariant row law ∙ passed-more row _ _ _ (omega arith) c.in_ok-line.line.now _ (c.next_line.ensures ∙ ap (λ r. gone r (left_in c.next_line.new.lines)) c.in_ok-line.ensures.ok_part) (law c.in_ok-line.line _ c.in_default.ensures)
    ∙ (λ t. passed row (fewer t) (next t) (left_in c.next_line.new.lines))
