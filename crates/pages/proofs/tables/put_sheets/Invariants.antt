use Rattle.pages.proofs.Rows.{SheetsLeft}
use Rattle.pages.proofs.tables.put_sheets.Given as goal

abbrev pub invariant-loop-i : goal.invariant-loop-i
invariant-loop-i l = SheetsLeft l.initial.page l.page l.sheets l.i
