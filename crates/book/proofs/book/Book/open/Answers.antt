use Rattle.std.proofs.Common.{◌≡◌, sym, refl, arith}
use Rattle.std.proofs.lemmas.List.{length-map}
use Rattle.rules.specs.Seen.{plain_profile}
use Rattle.plain.specs.Runs.{after}
use Rattle.plain.specs.Steps.{enter}
use Rattle.plain.proofs.Runs.{answer-accepted}
use Rattle.book.specs.Rows.{plain_investee, plain_rows}
use Rattle.book.specs.View.{plain}
use Rattle.book.proofs.Books.{kept-after}
use Rattle.book.proofs.Outcomes.{one_call-of, failed}
use Rattle.book.proofs.Openings.{Entered, entered, not_taken, not-read, opened_rows}
use Rattle.book.proofs.book.Book.open.Given as given
use Rattle.book.proofs.book.Book.open.Goals as goal
use Rattle.book.proofs.book.Book.open.Goals.{After-opened, After-push}

accepted : (g : given.Over) (c : After-opened g) → Entered (g.R.Rule.tables c.args.self.now.rule.now) (plain c.args.self.now) c.args.fields (g.S.Source.meaning c.args.source.now) (plain_profile c.in_ok-profile.profile) c.in_ok-reading.reading
accepted g c = entered _ _ _ _ _ _ c.in_ok-profile.ensures c.in_ok-reading.ensures

-- the book is that after the call
is-after : (g : given.Over) (c : After-push g) → plain_rows c.push.new.self.items c.args.self.now.positions ≡ after (g.R.Rule.tables c.args.self.now.rule.now) (plain c.args.self.now) (enter c.args.fields (g.S.Source.meaning c.args.source.now))
is-after g c =
    let a = accepted g (goal.at.invariant_of-self g c).After-opened in
    let book = c.args.self.now in
    let added = c.push.ensures.items in
    opened_rows (g.R.Rule.tables book.rule.now) book.investees.items c.push.new.self.items book.positions c.args.fields (g.S.Source.meaning c.args.source.now) (plain_profile c.in_ok-profile.profile) c.in_ok-reading.reading c.opened.result a added c.opened.ensures

pub push-requires : goal.push-requires
push-requires g c =
    omega (arith, (accepted g (goal.at.push-requires g c).After-opened).room, length-map c.args.self.now.investees.items plain_investee)

pub invariant_of-self : goal.invariant_of-self
invariant_of-self g c =
    let book = c.args.self.now in
    record {
      kept = kept-after (g.R.Rule.tables book.rule.now) (plain book) _ (enter c.args.fields (g.S.Source.meaning c.args.source.now)) (g.S.Source.within c.args.source.now) book.kept (is-after g c);
    }

pub returns : goal.returns
returns g c =
    let t = g.R.Rule.tables c.args.self.now.rule.now in
    let p = plain c.args.self.now in
    let call = enter c.args.fields (g.S.Source.meaning c.args.source.now) in
    let book = is-after g (goal.at.returns g c).After-push in
    let told = sym (answer-accepted t p call (accepted g (goal.at.returns g c).After-opened).accepted) in
    record { book = book; rule = refl {a = c.args.self.now.rule}; told = told; one_call = one_call-of t p call _ _ (g.S.Source.within c.args.source.now) c.args.self.now.kept told book }

pub returns-in_err-profile : goal.returns-in_err-profile
returns-in_err-profile g c =
    let t = g.R.Rule.tables c.args.self.now.rule.now in
    let p = plain c.args.self.now in
    let call = enter c.args.fields (g.S.Source.meaning c.args.source.now) in
    let f = c.in_err-profile.field-0.0 in
    let d = not_taken t p c.args.fields (g.S.Source.meaning c.args.source.now) f c.in_err-profile.ensures in
    let no = failed t p call f d (g.S.Source.within c.args.source.now) c.args.self.now.kept _ c.from_residual.ensures.1 in
    record { book = no.book; rule = refl {a = c.args.self.now.rule}; told = no.says; one_call = no.one_call }

pub returns-in_err-reading : goal.returns-in_err-reading
returns-in_err-reading g c =
    let t = g.R.Rule.tables c.args.self.now.rule.now in
    let p = plain c.args.self.now in
    let call = enter c.args.fields (g.S.Source.meaning c.args.source.now) in
    let f = c.in_err-reading.field-0.0 in
    let d = not-read t p c.args.fields (g.S.Source.meaning c.args.source.now) (plain_profile c.in_ok-profile.profile) f c.in_ok-profile.ensures c.in_err-reading.ensures in
    let no = failed t p call f d (g.S.Source.within c.args.source.now) c.args.self.now.kept _ c.from_residual-in_err-reading.ensures.1 in
    record { book = no.book; rule = refl {a = c.args.self.now.rule}; told = no.says; one_call = no.one_call }
