use Rattle.std.proofs.Common.{Some, subst, rules}
use Rattle.std.specs.List.{flat_map}
use Rattle.lines.specs.Writing.{Wrote}
use Rattle.lines.proofs.Writes.{wrote_then}
use Rattle.pages.specs.Page.{head_line, account_line, branch_lines, total_line, given}
use Rattle.pages.proofs.Pieces.{as-handed}
use Rattle.pages.proofs.tables.put_page.Goals as goal

pub returns : goal.returns
returns c =
    wrote_then (head_line _) _ (subst (λ n. Wrote c.args.page.now (head_line n) c.put_head.new.page (Some _)) c.held.ensures c.in_ok-put_head.ensures)
    (wrote_then (flat_map account_line (given c.args.accounts.now)) _ c.in_ok-put_accounts.ensures
    (wrote_then (branch_lines 1 c.args.sheets.now) _ c.in_ok-put_sheets.ensures (as-handed total_line c.args.total (search rules) c.put_total.ensures)))
