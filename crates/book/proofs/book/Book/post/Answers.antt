use Rattle.std.proofs.Common.{◌≡◌, refl, sym, ◌∙◌}
use Rattle.plain.specs.Runs.{after}
use Rattle.plain.specs.Steps.{post}
use Rattle.plain.proofs.Runs.{answer-accepted}
use Rattle.positions.specs.View.{positions_in}
use Rattle.book.specs.Rows.{plain_investee, plain_rows}
use Rattle.book.specs.View.{plain}
use Rattle.book.proofs.Books.{kept-after}
use Rattle.book.proofs.Outcomes.{one_call-of, failed}
use Rattle.book.proofs.Posting.{entry-for, post-not-entered, post-entered, refused, allowed, book-posted}
use Rattle.book.proofs.book.Book.post.Given as given
use Rattle.book.proofs.book.Book.post.Goals as goal
use Rattle.book.proofs.book.Book.post.Goals.{After-enter}

pub returns-in_err-row : goal.returns-in_err-row
returns-in_err-row g c =
    let t = g.R.Rule.tables c.args.self.now.rule.now in
    let p = plain c.args.self.now in
    let f = c.in_err-row.field-0.0 in
    let d = failed t p (post c.args.branch c.args.id c.args.month c.args.balance) f (post-not-entered p c.args.branch c.args.id c.args.month c.args.balance t f c.in_err-row.ensures) tt c.args.self.now.kept _ c.from_residual.ensures.1 in
    record { book = d.book; rule = refl {a = c.args.self.now.rule}; told = d.says; one_call = d.one_call }

pub may_post-requires : goal.may_post-requires
may_post-requires g c = (entry-for (plain c.args.self.now) c.args.branch c.args.id c.args.month c.args.balance (plain_investee c.in_ok-row.row) c.in_ok-row.ensures).0

pub returns-in_err-may_post : goal.returns-in_err-may_post
returns-in_err-may_post g c =
    let t = g.R.Rule.tables c.args.self.now.rule.now in
    let p = plain c.args.self.now in
    let f = c.in_err-may_post.field-0.0 in
    let d = failed t p (post c.args.branch c.args.id c.args.month c.args.balance) f (post-entered p c.args.branch c.args.id c.args.month c.args.balance t (plain_investee c.in_ok-row.row) c.in_ok-row.ensures ∙ refused _ f c.in_err-may_post.ensures) tt c.args.self.now.kept _ c.from_residual-in_err-may_post.ensures.1 in
    record { book = d.book; rule = refl {a = c.args.self.now.rule}; told = d.says; one_call = d.one_call }

-- the book is that after the call
is-after : (g : given.Over) (c : After-enter g) → plain_rows c.args.self.now.investees.items c.enter.new.self ≡ after (g.R.Rule.tables c.args.self.now.rule.now) (plain c.args.self.now) (post c.args.branch c.args.id c.args.month c.args.balance)
is-after g c =
    book-posted (g.R.Rule.tables c.args.self.now.rule.now) (plain c.args.self.now) c.args.branch c.args.id c.args.month c.args.balance (plain_investee c.in_ok-row.row) c.in_ok-row.ensures (positions_in c.enter.new.self)
    (allowed _ c.in_ok-may_post.ensures) c.enter.result c.enter.ensures.entered c.enter.ensures.positions

pub invariant_of-self : goal.invariant_of-self
invariant_of-self g c =
    let book = c.args.self.now in
    record { kept = kept-after (g.R.Rule.tables book.rule.now) (plain book) _ (post c.args.branch c.args.id c.args.month c.args.balance) tt book.kept (is-after g c) }

pub returns : goal.returns
returns g c =
    let t = g.R.Rule.tables c.args.self.now.rule.now in
    let p = plain c.args.self.now in
    let call = post c.args.branch c.args.id c.args.month c.args.balance in
    let book = is-after g (goal.at.returns g c).After-enter in
    let told = sym (answer-accepted t p call (post-entered p c.args.branch c.args.id c.args.month c.args.balance t (plain_investee c.in_ok-row.row) c.in_ok-row.ensures ∙ allowed _ c.in_ok-may_post.ensures)) in
    record { book = book; rule = refl {a = c.args.self.now.rule}; told = told; one_call = one_call-of t p call _ _ tt c.args.self.now.kept told book }
