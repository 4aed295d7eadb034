use Rattle.std.proofs.Common.{◌+◌, get_or, sym, ap, ◌∙◌, subst, arith}
use Rattle.plain.specs.Limits.{most_investees}
use Rattle.plain.specs.Readings.{part_of}
use Rattle.positions.specs.View.{positions_in}
use Rattle.book.specs.Rows.{plain_investee}
use Rattle.book.specs.Shares.{added, no_kilograms, AtMostFigures}
use Rattle.book.specs.View.{plain}
use Rattle.book.proofs.AllSheets.{AddedSofar, turn_is, turns_at, no_part, part-of-turn, added-part, no-part-added}
use Rattle.book.proofs.Propositions.{within_of}
use Rattle.book.proofs.Sheets.{part-figure}
use Rattle.book.proofs.WithinBook.{fair-turn}
use Rattle.book.proofs.book.readings.Held.add_parts.Goals as goal
use Rattle.book.proofs.book.readings.Held.add_parts.Goals.{in-Some, in_default}

pub shares-requires : goal.shares-requires
shares-requires g c =
    let book = c.args.self.now.book.now in
    let x = plain_investee c.args.self.now.row in
    let k = c.loop-k.k in
    let turn = sym (turns_at x.profile.kind x.profile.id (positions_in book.positions) c.turns-turns.result k c.turns-turns.ensures c.loop-k-test.true) ∙ c.in-Some.is in
    fair-turn (g.R.Rule.tables book.rule.now) (g.R.Rule.lawful book.rule.now) (plain book) x (within_of (positions_in book.positions) x c.args.self.now.within)
    c.standing-standing.result c.in-Some.turn (k + 1) c.standing-standing.ensures (turn_is x.profile.kind x.profile.id (k + 1) (positions_in book.positions) c.in-Some.turn turn)

pub added-requires : goal.added-requires
added-requires g c =
    let book = c.args.self.now.book.now in
    let t = g.R.Rule.tables book.rule.now in
    let x = plain_investee c.args.self.now.row in
    let k = c.loop-k.k in
    let turn = sym (turns_at x.profile.kind x.profile.id (positions_in book.positions) c.turns-turns.result k c.turns-turns.ensures c.loop-k-test.true) ∙ c.in-Some.is in
    let is = part-of-turn t (plain book) (k + 1) x c.standing-standing.result c.in-Some.turn c.shares.result c.standing-standing.ensures
    (turn_is x.profile.kind x.profile.id (k + 1) (positions_in book.positions) c.in-Some.turn turn) c.shares.ensures in (
      subst (AtMostFigures most_investees) (sym (c.loop-k.invariant.as_before k (omega arith))) (c.requires.within_limit k c.loop-k-test.true),
      subst (AtMostFigures 1) (sym is) (part-figure t (plain book) (k + 1) x (within_of (positions_in book.positions) x c.args.self.now.within)),
    )

pub loop-k-preserved : goal.loop-k-preserved
loop-k-preserved g c =
    let book = c.args.self.now.book.now in
    let t = g.R.Rule.tables book.rule.now in
    let x = plain_investee c.args.self.now.row in
    let k = c.loop-k.k in
    let now = c.loop-k.sums in
    let at = turns_at x.profile.kind x.profile.id (positions_in book.positions) c.turns-turns.result k c.turns-turns.ensures c.loop-k-test.true in
    elim c.match-turn.branch [
      | in-Some w ↦ subst (λ l. AddedSofar (λ b. part_of t (plain book) b x) c.args.sums.now l (k + 1)) (sym w.sums-is)
          (added-part (λ b. part_of t (plain book) b x) c.args.sums.now now k c.loop-k-test.true c.loop-k.invariant w.added.result
          (w.added.ensures ∙ ap (added (get_or now k no_kilograms)) (part-of-turn t (plain book) (k + 1) x c.standing-standing.result w.in-Some.turn w.shares.result c.standing-standing.ensures
          (turn_is x.profile.kind x.profile.id (k + 1) (positions_in book.positions) w.in-Some.turn (sym at ∙ w.in-Some.is)) w.shares.ensures)))
      | in_default w ↦ subst (λ l. AddedSofar (λ b. part_of t (plain book) b x) c.args.sums.now l (k + 1)) (sym w.sums-is)
          (no-part-added (λ b. part_of t (plain book) b x) c.args.sums.now now k c.loop-k-test.true c.loop-k.invariant (no_part t (plain book) (k + 1) x (sym at ∙ w.in_default.is)))
    ]
