use Rattle.std.proofs.Common.{◌≡◌, None, sym, refl, ap, set, ◌∙◌}
use Rattle.plain.specs.Changes.{restated}
use Rattle.plain.specs.PlainBook.{with_investees}
use Rattle.plain.specs.Refused.{if_read, below_zero, declined}
use Rattle.plain.specs.Runs.{after}
use Rattle.plain.specs.Steps.{restate}
use Rattle.plain.proofs.Runs.{after-accepted, answer-accepted}
use Rattle.book.specs.Rows.{plain_rows}
use Rattle.book.specs.View.{plain}
use Rattle.book.proofs.Books.{kept-after}
use Rattle.book.proofs.Outcomes.{one_call-of, failed}
use Rattle.book.proofs.Openings.{emissions-err, emissions-ok}
use Rattle.book.proofs.Restating.{not-open, is-open, reread}
use Rattle.book.proofs.book.Book.restate.Given as given
use Rattle.book.proofs.book.Book.restate.Goals as goal
use Rattle.book.proofs.book.Book.restate.Goals.{After-restated}

pub returns-in_err-at : goal.returns-in_err-at
returns-in_err-at g c =
    let t = g.R.Rule.tables c.args.self.now.rule.now in
    let p = plain c.args.self.now in
    let call = restate c.args.id (g.S.Source.meaning c.args.source.now) in
    let f = c.in_err-at.field-0.0 in
    let d = not-open p c.args.id f (λ x. if_read (g.S.Source.meaning c.args.source.now) below_zero) c.in_err-at.ensures in
    let no = failed t p call f d (g.S.Source.within c.args.source.now) c.args.self.now.kept _ c.from_residual.ensures.1 in
    record { book = no.book; rule = refl {a = c.args.self.now.rule}; told = no.says; one_call = no.one_call }

pub returns-in_err-reading : goal.returns-in_err-reading
returns-in_err-reading g c =
    let t = g.R.Rule.tables c.args.self.now.rule.now in
    let p = plain c.args.self.now in
    let m = g.S.Source.meaning c.args.source.now in
    let f = c.in_err-reading.field-0.0 in
    let d = is-open p c.args.id c.in_ok-at.at (if_read m below_zero) c.in_ok-at.ensures ∙ emissions-err m f c.in_err-reading.ensures in
    let no = failed t p (restate c.args.id m) f d (g.S.Source.within c.args.source.now) c.args.self.now.kept _ c.from_residual-in_err-reading.ensures.1 in
    record { book = no.book; rule = refl {a = c.args.self.now.rule}; told = no.says; one_call = no.one_call }

accepted : (g : given.Over) (c : After-restated g) → declined (g.R.Rule.tables c.args.self.now.rule.now) (plain c.args.self.now) (restate c.args.id (g.S.Source.meaning c.args.source.now)) ≡ None
accepted g c =
    let m = g.S.Source.meaning c.args.source.now in
    is-open (plain c.args.self.now) c.args.id c.in_ok-at.at (if_read m below_zero) c.in_ok-at.ensures ∙ (emissions-ok m c.in_ok-reading.reading c.in_ok-reading.ensures).1

-- the book is that after the call
is-after : (g : given.Over) (c : After-restated g) → plain_rows (set c.args.self.now.investees.items c.in_ok-at.at c.restated.result) c.args.self.now.positions ≡ after (g.R.Rule.tables c.args.self.now.rule.now) (plain c.args.self.now) (restate c.args.id (g.S.Source.meaning c.args.source.now))
is-after g c =
    let t = g.R.Rule.tables c.args.self.now.rule.now in
    let p = plain c.args.self.now in
    let m = g.S.Source.meaning c.args.source.now in
    ap (λ xs. with_investees p xs) (reread c.args.self.now.investees.items c.args.id c.in_ok-at.at c.in_ok-at.ensures restated m c.in_ok-reading.reading c.in-Some.row.now c.restated.result (emissions-ok m c.in_ok-reading.reading c.in_ok-reading.ensures).0 c.in-Some.ensures.value c.restated.ensures)
    ∙ sym (after-accepted t p (restate c.args.id m) (accepted g c))

pub invariant_of-self : goal.invariant_of-self
invariant_of-self g c =
    let book = c.args.self.now in
    record { kept = kept-after (g.R.Rule.tables book.rule.now) (plain book) _ (restate c.args.id (g.S.Source.meaning c.args.source.now)) (g.S.Source.within c.args.source.now) book.kept (is-after g (goal.at.invariant_of-self g c).After-restated) }

pub returns-in-Some : goal.returns-in-Some
returns-in-Some g c =
    let t = g.R.Rule.tables c.args.self.now.rule.now in
    let p = plain c.args.self.now in
    let call = restate c.args.id (g.S.Source.meaning c.args.source.now) in
    let a = (goal.at.returns-in-Some g c).After-restated in
    let book = is-after g a in
    let told = sym (answer-accepted t p call (accepted g a)) in
    record { book = book; rule = refl {a = c.args.self.now.rule}; told = told; one_call = one_call-of t p call _ _ (g.S.Source.within c.args.source.now) c.args.self.now.kept told book }
