use Rattle.portfolio.specs.Seen.{seen}
use Rattle.answering.proofs.Portfolios.{as-laid-out, on-ok}
use Rattle.answering.proofs.answer.answer.Goals as goal

pub returns-in-Ok-clause-portfolios : goal.returns-in-Ok-clause-portfolios
returns-in-Ok-clause-portfolios c =
    let read = c.read.ensures in
    on-ok c.answer_portfolio.result _ (as-laid-out c.args.bytes.now (seen c.read.result) read.value read.refused read.texts)
