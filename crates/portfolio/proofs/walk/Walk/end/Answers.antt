use Rattle.std.proofs.Common.{Err, sym, ap, ◌∙◌}
use Rattle.std.proofs.lemmas.Bool.{eqb-false}
use Rattle.portfolio.proofs.Walks.{open-bytes, open-line, open-none}
use Rattle.portfolio.proofs.walk.Walk.end.Goals as goal
use Rattle.portfolio.proofs.walk.Walk.end.Goals.{in_default-via-in-Some+then-is_empty+else-is_none, in_default-via-in-Some+else-is_empty, in_default-via-in_default}

pub returns-in_default : goal.returns-in_default
returns-in_default c =
    ap Err c.line_missing.ensures
    ∙ elim c.in_default.branch [
      | in_default-via-in-Some+then-is_empty+else-is_none w ↦ open-line tt c.args.self.now.number _ w.in-Some.piece.now c.next.new.self.separator c.next.new.self.rest w.in-Some.ensures.steps.0 w.if-is_none.ensures
      | in_default-via-in-Some+else-is_empty w ↦ open-bytes tt c.args.self.now.number _ w.in-Some.piece.now _ w.in-Some.ensures.steps.0 (eqb-false _ 0 (sym w.if-is_empty.ensures))
      | in_default-via-in_default w ↦ open-none tt c.args.self.now.number _ _ c.next.result c.next.ensures.steps.0 w.in_default.is
    ]
