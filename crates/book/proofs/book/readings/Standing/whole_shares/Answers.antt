use Rattle.std.proofs.Common.{◌∙◌}
use Rattle.book.specs.Rows.{plain_investee}
use Rattle.book.proofs.Totals.{whole-falls}
use Rattle.book.proofs.book.readings.Standing.whole_shares.Goals as goal

pub returns : goal.returns
returns c = c.shares.ensures ∙ whole-falls c.args.self (plain_investee c.args.row)
