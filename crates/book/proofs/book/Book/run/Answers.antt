use Rattle.std.proofs.Common.{◌≡◌, ◌<◌, length, take, ap, ◌∙◌, arith}
use Rattle.std.proofs.lemmas.List.{get_or-take, length-take}
use Rattle.plain.specs.Runs.{after, answer, run}
use Rattle.book.specs.Calls.{step_of, steps_of}
use Rattle.book.specs.View.{plain}
use Rattle.book.proofs.Propositions.{kept_of}
use Rattle.book.proofs.Runs.{sofar-more, throughout}
use Rattle.book.proofs.book.Book.run.Goals as goal

pub loop-i-preserved : goal.loop-i-preserved
loop-i-preserved g c =
    let same = c.loop-i.invariant.0 in
    let p = plain c.loop-i.self in
    let m = g.S.Source.meaning in
    let call = c.call-item.result in
    let t = ap (λ r. g.R.Rule.tables r.now) same in
    let one : c.loop-i.i < length c.args.calls.now = omega (arith, c.min-count.ensures, length-take c.min-count.result c.args.calls.now) in
    let two : c.loop-i.i < length c.args.answers.now = omega (arith, c.min-count.ensures, length-take c.min-count.result c.args.calls.now) in (
      c.apply-answer.ensures.rule ∙ same,
      sofar-more _ m _ _ _ c.loop-i.i p (plain c.apply-answer.new.self) c.loop-i.answers call c.apply-answer.result one two (c.call-item.is ∙ get_or-take c.min-count.result c.args.calls.now c.loop-i.i call (omega (arith, length-take c.min-count.result c.args.calls.now)))
          (c.apply-answer.ensures.book ∙ ap (λ u. after u p (step_of m call)) t)
          (c.apply-answer.ensures.told ∙ ap (λ u. answer u p (step_of m call)) t)
          c.loop-i.invariant.1,
    )

pub returns-clause-throughout : goal.returns-clause-throughout
returns-clause-throughout g c =
    let t = g.R.Rule.tables c.args.self.now.rule.now in
    let from = plain c.args.self.now in
    let m = g.S.Source.meaning in
    let end : c.loop-i.i ≡ c.min-count.result = omega (arith, c.min-count.ensures, length-take c.min-count.result c.args.calls.now) in
    let book = c.loop-i.invariant.1.book ∙ ap (λ n. run t from (steps_of m (take n c.args.calls.now))) end in
    throughout t (g.R.Rule.lawful c.args.self.now.rule.now) m g.S.Source.within from (plain c.loop-i.self) (take c.min-count.result c.args.calls.now) (kept_of from c.args.self.now.kept) book
