use Rattle.std.specs.List.{flat_map}
use Rattle.pages.specs.Page.{account_line, given}
use Rattle.pages.proofs.Rows.{Coming}
use Rattle.pages.proofs.tables.put_accounts.Given as goal

abbrev pub invariant-loop-account : goal.invariant-loop-account
invariant-loop-account l = Coming (goal.iterator-loop-account).next_gives l.initial.page (flat_map account_line (given l.accounts)) l.page l.account-iterator
