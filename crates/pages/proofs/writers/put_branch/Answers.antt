use Rattle.std.proofs.Common.{[], ◌∷◌, ◌++◌, decimal, sym, subst, rules}
use Rattle.lines.specs.Writing.{Wrote}
use Rattle.lines.proofs.Writes.{wrote_then}
use Rattle.pages.proofs.Pieces.{branch-pieces, as-handed, field}
use Rattle.pages.proofs.writers.put_branch.Goals as goal

pub returns : goal.returns
returns c =
    subst (λ line. Wrote c.args.page.now line c.put_field-2.new.page c.put_field-2.result) (sym (branch-pieces c.args.branch c.args.sheet))
    (wrote_then (66 ∷ 32 ∷ []) _ c.in_ok-put.ensures.wrote
    (wrote_then (decimal c.args.branch ++ 32 ∷ []) _ c.in_ok-put_field.ensures (as-handed (field 10) c.args.sheet.emissions (search rules) c.put_field-2.ensures)))
