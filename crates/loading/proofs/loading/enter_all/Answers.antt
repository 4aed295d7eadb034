use Rattle.std.proofs.Common.{Some, ap, ◌∙◌, arith}
use Rattle.book.specs.View.{plain}
use Rattle.loading.specs.Trying.{outcome}
use Rattle.loading.proofs.OneByOne.{entering-more, entering-stopped, entering-all}
use Rattle.loading.proofs.loading.enter_all.Goals as goal

pub returns-in-Err-clause-tried : goal.returns-in-Err-clause-tried
returns-in-Err-clause-tried g c = λ left law.
    ap (λ s. outcome (plain c.enter.new.book) (Some s)) c.at.ensures
    ∙ entering-stopped _ _ _ _ _ c.loop-entry.line _ _ (c.loop-entry.invariant.0 left law) (g.I.Item.Entry.call c.in-Some.entry) _ _ c.in-Err.fault (law.next _ _ _ c.in-Some.ensures.steps) c.in-Err.ensures.declined c.enter.ensures.book

pub loop-entry-preserved : goal.loop-entry-preserved
loop-entry-preserved g c =
    let fewer = (c.in-Some.ensures.goes.on c.loop-entry.iterator.1).2 in (
      λ left law. entering-more _ _ _ _ _ c.loop-entry.line _ _ (c.loop-entry.invariant.0 left law) (g.I.Item.Entry.call c.in-Some.entry) _ _ _ (law.next _ _ _ c.in-Some.ensures.steps) c.in_default.ensures.declined c.enter.ensures.book (ap (λ r. g.R.Rule.tables r.now) c.enter.ensures.rule),
      c.enter.ensures.rule ∙ c.loop-entry.invariant.1,
      omega (arith, c.loop-entry.invariant.2, fewer),
    )

pub returns-clause-tried : goal.returns-clause-tried
returns-clause-tried g c = λ left law. entering-all _ _ _ _ _ _ _ _ (c.loop-entry.invariant.0 left law) (law.none _ _ c.in-None.ensures.steps)
