use Rattle.std.proofs.Common.{◌≤◌, nat_abs, sym, subst}
use Rattle.sources.specs.Limits.{most_kilograms}
use Rattle.book.proofs.Words.{rounded-word, rounded-small}
use Rattle.book.proofs.book.readings.rounded_of.Goals as goal

pub returns : goal.returns
returns c =
    let is = rounded-word c.args.figure c.args.exposure c.args.base c.ranges.figure c.requires in
    record { value = is; bound = subst (λ z. nat_abs z ≤ most_kilograms) (sym is) (rounded-small c.args.figure c.args.exposure c.args.base c.requires) }
