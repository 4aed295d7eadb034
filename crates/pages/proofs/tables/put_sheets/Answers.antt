use Rattle.std.proofs.Common.{◌+◌, sym, subst}
use Rattle.lines.proofs.Writes.{Left, left-more, left-stop, left-none, wrote_within}
use Rattle.pages.specs.Page.{branch_line}
use Rattle.pages.proofs.Rows.{SheetsLeft, branch-more-some, branch-more-none, branch-all}
use Rattle.pages.proofs.tables.put_sheets.Goals.{in-Some+in_ok-put_branch, in_default}
use Rattle.pages.proofs.tables.put_sheets.Goals as goal

pub returns-in_err-put_branch : goal.returns-in_err-put_branch
returns-in_err-put_branch c =
    left-stop (branch_line (c.loop-i.i + 1) c.in-Some.sheet) _ (subst (Left _ _ _) (branch-more-some c.args.sheets.now c.loop-i.i _ c.loop-i-test.true c.in-Some.is) c.loop-i.invariant.left)
    c.from_residual.ensures c.in_err-put_branch.ensures

pub loop-i-preserved : goal.loop-i-preserved
loop-i-preserved c =
    elim c.match-sheet.branch [
      | in-Some+in_ok-put_branch w ↦
          subst (λ p. SheetsLeft c.args.page.now p c.args.sheets.now (c.loop-i.i + 1)) (sym w.page-is) (record {
            left = left-more (branch_line (c.loop-i.i + 1) w.in-Some.sheet) _ (subst (Left _ _ _) (branch-more-some c.args.sheets.now c.loop-i.i _ c.loop-i-test.true w.in-Some.is) c.loop-i.invariant.left) w.in_ok-put_branch.ensures;
            within = wrote_within _ w.in_ok-put_branch.ensures;
          })
      | in_default w ↦
          subst (λ p. SheetsLeft c.args.page.now p c.args.sheets.now (c.loop-i.i + 1)) (sym w.page-is) (record {
            left = subst (Left _ _ _) (branch-more-none c.args.sheets.now c.loop-i.i c.loop-i-test.true w.in_default.is) c.loop-i.invariant.left;
            within = c.loop-i.invariant.within;
          })
    ]

pub returns : goal.returns
returns c = left-none (subst (Left _ _ _) (branch-all c.args.sheets.now c.loop-i.i c.loop-i-test.false) c.loop-i.invariant.left) c.loop-i.invariant.within
