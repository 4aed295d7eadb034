use Rattle.std.proofs.Output.{has_written_of_eq}
use Rattle.bills.proofs.layout.MalformedDisplay.fmt.Goals as goal

pub returns-in-Field-clause-writes : goal.returns-in-Field-clause-writes
returns-in-Field-clause-writes g c p k =
    has_written_of_eq _ _ _ _ _ (simp (c.in-Line.is, c.in-Field.is, c.field_name.ensures)) (c.write-in-Field.ensures.writes p k)
