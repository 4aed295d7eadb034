use Rattle.std.proofs.Common.{◌≡◌, None, sym, refl, ap, set, ◌∙◌}
use Rattle.plain.specs.Changes.{reduced_by}
use Rattle.plain.specs.PlainBook.{with_investees}
use Rattle.plain.specs.Refused.{if_read, declined}
use Rattle.plain.specs.Runs.{after}
use Rattle.plain.specs.Steps.{reduce}
use Rattle.plain.proofs.Runs.{after-accepted, answer-accepted}
use Rattle.book.specs.Rows.{plain_rows}
use Rattle.book.specs.View.{plain}
use Rattle.book.proofs.Books.{kept-after}
use Rattle.book.proofs.Outcomes.{one_call-of, failed}
use Rattle.book.proofs.Restating.{not-open, is-open, reread}
use Rattle.book.proofs.book.Book.reduce.Given as given
use Rattle.book.proofs.book.Book.reduce.Goals as goal
use Rattle.book.proofs.book.Book.reduce.Goals.{After-reduced_by}

pub returns-in_err-at : goal.returns-in_err-at
returns-in_err-at g c =
    let t = g.R.Rule.tables c.args.self.now.rule.now in
    let p = plain c.args.self.now in
    let call = reduce c.args.id (g.S.Source.meaning c.args.source.now) in
    let f = c.in_err-at.field-0.0 in
    let d = not-open p c.args.id f (λ x. if_read (g.S.Source.meaning c.args.source.now) (λ r. None)) c.in_err-at.ensures in
    let no = failed t p call f d (g.S.Source.within c.args.source.now) c.args.self.now.kept _ c.from_residual.ensures.1 in
    record { book = no.book; rule = refl {a = c.args.self.now.rule}; told = no.says; one_call = no.one_call }

pub returns-in_err-reading : goal.returns-in_err-reading
returns-in_err-reading g c =
    let t = g.R.Rule.tables c.args.self.now.rule.now in
    let p = plain c.args.self.now in
    let m = g.S.Source.meaning c.args.source.now in
    let f = c.in_err-reading.field-0.0 in
    let d = is-open p c.args.id c.in_ok-at.at (if_read m (λ r. None)) c.in_ok-at.ensures ∙ ap (λ n. if_read n (λ r. None)) (sym c.in_err-reading.ensures) in
    let no = failed t p (reduce c.args.id m) f d (g.S.Source.within c.args.source.now) c.args.self.now.kept _ c.from_residual-in_err-reading.ensures.1 in
    record { book = no.book; rule = refl {a = c.args.self.now.rule}; told = no.says; one_call = no.one_call }

accepted : (g : given.Over) (c : After-reduced_by g) → declined (g.R.Rule.tables c.args.self.now.rule.now) (plain c.args.self.now) (reduce c.args.id (g.S.Source.meaning c.args.source.now)) ≡ None
accepted g c =
    let m = g.S.Source.meaning c.args.source.now in
    is-open (plain c.args.self.now) c.args.id c.in_ok-at.at (if_read m (λ r. None)) c.in_ok-at.ensures ∙ ap (λ n. if_read n (λ r. None)) (sym c.in_ok-reading.ensures)

-- the book is that after the call
is-after : (g : given.Over) (c : After-reduced_by g) → plain_rows (set c.args.self.now.investees.items c.in_ok-at.at c.reduced_by.result) c.args.self.now.positions ≡ after (g.R.Rule.tables c.args.self.now.rule.now) (plain c.args.self.now) (reduce c.args.id (g.S.Source.meaning c.args.source.now))
is-after g c =
    let t = g.R.Rule.tables c.args.self.now.rule.now in
    let p = plain c.args.self.now in
    let m = g.S.Source.meaning c.args.source.now in
    ap (λ xs. with_investees p xs) (reread c.args.self.now.investees.items c.args.id c.in_ok-at.at c.in_ok-at.ensures reduced_by m c.in_ok-reading.reading c.in-Some.row.now c.reduced_by.result (sym c.in_ok-reading.ensures) c.in-Some.ensures.value c.reduced_by.ensures)
    ∙ sym (after-accepted t p (reduce c.args.id m) (accepted g c))

pub invariant_of-self : goal.invariant_of-self
invariant_of-self g c =
    let book = c.args.self.now in
    record { kept = kept-after (g.R.Rule.tables book.rule.now) (plain book) _ (reduce c.args.id (g.S.Source.meaning c.args.source.now)) (g.S.Source.within c.args.source.now) book.kept (is-after g (goal.at.invariant_of-self g c).After-reduced_by) }

pub returns-in-Some : goal.returns-in-Some
returns-in-Some g c =
    let t = g.R.Rule.tables c.args.self.now.rule.now in
    let p = plain c.args.self.now in
    let call = reduce c.args.id (g.S.Source.meaning c.args.source.now) in
    let a = (goal.at.returns-in-Some g c).After-reduced_by in
    let book = is-after g a in
    let told = sym (answer-accepted t p call (accepted g a)) in
    record { book = book; rule = refl {a = c.args.self.now.rule}; told = told; one_call = one_call-of t p call _ _ (g.S.Source.within c.args.source.now) c.args.self.now.kept told book }
