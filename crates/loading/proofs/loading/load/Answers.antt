use Rattle.std.proofs.Common.{◌≡◌, ◌+◌, map, length, None, sym, ap, ◌∙◌, arith}
use Rattle.std.proofs.lemmas.List.{length-map}
use Rattle.std.proofs.lemmas.Result.{err_from_is_err_and}
use Rattle.book.specs.View.{plain}
use Rattle.book.proofs.Propositions.{kept_of}
use Rattle.portfolio.specs.Cursors.{investees_left}
use Rattle.portfolio.specs.Seen.{plain_portfolio}
use Rattle.loading.specs.Trying.{first_entry_line, opening, outcome, posting, tried}
use Rattle.loading.proofs.Appending.{tried-on, tried-no-further}
use Rattle.loading.proofs.Cursors.{investees-give, posts-give}
use Rattle.loading.proofs.InOrder.{in-order, whole-after}
use Rattle.loading.proofs.loading.load.Goals as goal

pub returns-in_err-line-clause-tried : goal.returns-in_err-line-clause-tried
returns-in_err-line-clause-tried g c =
    let t = g.R.Rule.tables c.args.book.now.rule.now in
    let b = plain c.args.book.now in
    let p = err_from_is_err_and c.from_residual.result c.from_residual.ensures.1 in
    rw (p.1, p.2) (tried-no-further _ _ _ _ _ (map opening (plain_portfolio c.args.portfolio).investees) (map posting (plain_portfolio c.args.portfolio).posts)
    (c.in_err-line.ensures.tried _ investees-give ∙ ap (λ xs. tried t first_entry_line b (map opening xs)) c.investees.ensures.left))

pub enter_all-requires-2-clause-lines : goal.enter_all-requires-2-clause-lines
enter_all-requires-2-clause-lines g c =
    omega (arith, c.args.portfolio.few, c.args.portfolio.counted, c.in_ok-line.ensures.next _ investees-give, length-map (investees_left c.investees.result) opening, ap length c.investees.ensures.left, ap length c.posts.ensures.left)

pub returns-in_err-enter_all-clause-tried : goal.returns-in_err-enter_all-clause-tried
returns-in_err-enter_all-clause-tried g c =
    let t = g.R.Rule.tables c.args.book.now.rule.now in
    let b = plain c.args.book.now in
    let xs = (plain_portfolio c.args.portfolio).investees in
    let ys = (plain_portfolio c.args.portfolio).posts in
    let opened : outcome (plain c.enter_all.new.book) None ≡ tried t first_entry_line b (map opening xs) = c.in_ok-line.ensures.tried _ investees-give ∙ ap (λ xs. tried t first_entry_line b (map opening xs)) c.investees.ensures.left in
    let line : c.in_ok-line.line ≡ first_entry_line + length (map opening xs) = c.in_ok-line.ensures.next _ investees-give ∙ ap (λ xs. first_entry_line + length (map opening xs)) c.investees.ensures.left in
    let p = err_from_is_err_and c.from_residual-in_err-enter_all.result c.from_residual-in_err-enter_all.ensures.1 in
    rw (p.1, p.2) (c.in_err-enter_all.ensures.tried _ posts-give ∙ (λ i. tried (g.R.Rule.tables (c.enter_all.ensures.rule i).now) (line i) (plain c.enter_all.new.book) (map posting (c.posts.ensures.left i)))
    ∙ sym (tried-on t first_entry_line b (plain c.enter_all.new.book) (map opening xs) (map posting ys) opened))

pub returns-clause-tried : goal.returns-clause-tried
returns-clause-tried g c =
    let t = g.R.Rule.tables c.args.book.now.rule.now in
    let b = plain c.args.book.now in
    let xs = (plain_portfolio c.args.portfolio).investees in
    let ys = (plain_portfolio c.args.portfolio).posts in
    let opened : outcome (plain c.enter_all.new.book) None ≡ tried t first_entry_line b (map opening xs) = c.in_ok-line.ensures.tried _ investees-give ∙ ap (λ xs. tried t first_entry_line b (map opening xs)) c.investees.ensures.left in
    let line : c.in_ok-line.line ≡ first_entry_line + length (map opening xs) = c.in_ok-line.ensures.next _ investees-give ∙ ap (λ xs. first_entry_line + length (map opening xs)) c.investees.ensures.left in
    c.in_ok-enter_all.ensures.tried _ posts-give ∙ (λ i. tried (g.R.Rule.tables (c.enter_all.ensures.rule i).now) (line i) (plain c.enter_all.new.book) (map posting (c.posts.ensures.left i)))
    ∙ sym (tried-on t first_entry_line b (plain c.enter_all.new.book) (map opening xs) (map posting ys) opened)

pub returns-in_err-line-clause-in_order : goal.returns-in_err-line-clause-in_order
returns-in_err-line-clause-in_order g c = in-order (g.R.Rule.tables c.args.book.now.rule.now) (plain c.args.book.now) (plain_portfolio c.args.portfolio) _ (returns-in_err-line-clause-tried g c)

pub returns-in_err-line-clause-whole : goal.returns-in_err-line-clause-whole
returns-in_err-line-clause-whole g c =
    whole-after (g.R.Rule.tables c.args.book.now.rule.now) (g.R.Rule.lawful c.args.book.now.rule.now) (plain c.args.book.now) (kept_of (plain c.args.book.now) c.args.book.now.kept) (plain_portfolio c.args.portfolio) _
    (returns-in_err-line-clause-in_order g c)

pub returns-in_err-enter_all-clause-in_order : goal.returns-in_err-enter_all-clause-in_order
returns-in_err-enter_all-clause-in_order g c = in-order (g.R.Rule.tables c.args.book.now.rule.now) (plain c.args.book.now) (plain_portfolio c.args.portfolio) _ (returns-in_err-enter_all-clause-tried g c)

pub returns-in_err-enter_all-clause-whole : goal.returns-in_err-enter_all-clause-whole
returns-in_err-enter_all-clause-whole g c =
    whole-after (g.R.Rule.tables c.args.book.now.rule.now) (g.R.Rule.lawful c.args.book.now.rule.now) (plain c.args.book.now) (kept_of (plain c.args.book.now) c.args.book.now.kept) (plain_portfolio c.args.portfolio) _
    (returns-in_err-enter_all-clause-in_order g c)

pub returns-clause-in_order : goal.returns-clause-in_order
returns-clause-in_order g c = in-order (g.R.Rule.tables c.args.book.now.rule.now) (plain c.args.book.now) (plain_portfolio c.args.portfolio) _ (returns-clause-tried g c)

pub returns-clause-whole : goal.returns-clause-whole
returns-clause-whole g c =
    whole-after (g.R.Rule.tables c.args.book.now.rule.now) (g.R.Rule.lawful c.args.book.now.rule.now) (plain c.args.book.now) (kept_of (plain c.args.book.now) c.args.book.now.kept) (plain_portfolio c.args.portfolio) _
    (returns-clause-in_order g c)
