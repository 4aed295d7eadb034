use Rattle.std.proofs.Common.{rules}
use Rattle.lines.proofs.Numbers.{reads_what_is_spelled}
use Rattle.lines.proofs.numerals.number.Goals as goal

pub returns-then-not-well_formed-clause-spells : goal.returns-then-not-well_formed-clause-spells
returns-then-not-well_formed-clause-spells c = reads_what_is_spelled _ _ (search rules)

pub returns-clause-spells : goal.returns-clause-spells
returns-clause-spells c = reads_what_is_spelled _ _ (search rules)
