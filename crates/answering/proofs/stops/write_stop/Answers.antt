use Rattle.std.proofs.Common.{refl, rules}
use Rattle.answering.proofs.Lengths.{stop-written}
use Rattle.answering.proofs.stops.write_stop.Goals as goal

pub unwrap-requires : goal.unwrap-requires
unwrap-requires c = (stop-written c.args.stop _ refl c.requires c.put_stop.ensures.fits c.put_stop.ensures.line).some

pub returns : goal.returns
returns c =
    let line = stop-written c.args.stop _ refl c.requires c.put_stop.ensures.fits c.put_stop.ensures.line in
    record { bytes = line.bytes; within = line.within; buffer = let same = line.placed in search rules }
