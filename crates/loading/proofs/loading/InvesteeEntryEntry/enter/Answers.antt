use Rattle.std.proofs.Common.{refl}
use Rattle.book.specs.View.{plain}
use Rattle.loading.specs.Entering.{opening_held}
use Rattle.loading.proofs.OneByOne.{told-declined}
use Rattle.loading.proofs.loading.InvesteeEntryEntry.enter.Goals as goal

pub returns-clause-declined : goal.returns-clause-declined
returns-clause-declined g c =
    told-declined (g.R.Rule.tables c.args.book.now.rule.now) (plain c.args.book.now) (opening_held c.args.self.now) c.open.result refl c.open.ensures.told
