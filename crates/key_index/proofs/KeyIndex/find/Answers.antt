use Rattle.std.proofs.Common.{◌<◌, length, Some, sym}
use Rattle.key_index.specs.Buckets.{link_at}
use Rattle.key_index.proofs.Chains.{Looking, found-here, look-on, look-shorter, left_from}
use Rattle.key_index.proofs.KeyIndex.find.Goals as goal

pub returns-then-link-key : goal.returns-then-link-key
returns-then-link-key g c =
    let rows = c.args.self.now.links.items in
    let looking : Looking c.args.key rows c.args.from (Some c.in-Some.at) = rw (sym c.in-Some.is) c.loop-next.invariant in
    found-here c.args.key rows c.args.self.now.chained c.args.from c.in-Some.at looking (rw (sym c.as_slice.ensures.value) c.if-link-key.true)

pub loop-next-smaller : goal.loop-next-smaller
loop-next-smaller g c =
    let rows = c.args.self.now.links.items in
    let looking : Looking c.args.key rows c.args.from (Some c.in-Some.at) = rw (sym c.in-Some.is) c.loop-next.invariant in
    let shorter : left_from (length rows) (link_at c.as_slice.result.now c.in-Some.at).next < left_from (length rows) (Some c.in-Some.at) = rw c.as_slice.ensures.value (look-shorter c.args.key rows c.args.self.now.chained c.args.from c.in-Some.at looking) in
    rw c.in-Some.is shorter

pub loop-next-preserved : goal.loop-next-preserved
loop-next-preserved g c =
    let rows = c.args.self.now.links.items in
    let looking : Looking c.args.key rows c.args.from (Some c.in-Some.at) = rw (sym c.in-Some.is) c.loop-next.invariant in
    rw c.as_slice.ensures.value (look-on c.args.key rows c.args.self.now.chained c.args.from c.in-Some.at looking (λ e. c.if-link-key.false (rw c.as_slice.ensures.value e)))
