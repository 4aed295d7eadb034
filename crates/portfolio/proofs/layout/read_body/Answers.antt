use Rattle.std.proofs.Common.{Ok, length, sym, ◌∙◌, rules}
use Rattle.std.proofs.lemmas.Result.{err_from_is_err_and}
use Rattle.lines.specs.Pieces.{left_in}
use Rattle.portfolio_lines.specs.Lines.{investee_of, key_of, balance_of}
use Rattle.portfolio.specs.Cursors.{lines_in, all_in}
use Rattle.portfolio.specs.Layout.{postings}
use Rattle.portfolio.specs.Seen.{plain_head}
use Rattle.portfolio.proofs.Walks.{entry-passes, value-passes, stopped-first, stopped-second, stopped-third, stopped-last, body-read, body-counts}
use Rattle.portfolio.proofs.layout.read_body.Goals as goal

pub returns-in_err-investees : goal.returns-in_err-investees
returns-in_err-investees c =
    let p = err_from_is_err_and c.from_residual.result c.from_residual.ensures.1 in
    rw (p.1, p.2) (stopped-first (plain_head c.args.head) (left_in c.args.lines) _ (c.in_err-investees.ensures.passed _ (λ line r gave. entry-passes (investee_of line.now) r (search rules))))

pub returns-in_err-keys : goal.returns-in_err-keys
returns-in_err-keys c =
    let p = err_from_is_err_and c.from_residual-in_err-keys.result c.from_residual-in_err-keys.ensures.1 in
    rw (p.1, p.2) (stopped-second (plain_head c.args.head) (left_in c.args.lines) (left_in c.section.new.self.lines) c.section.new.self.number (c.in_ok-investees.ensures.passed _ (λ line r gave. entry-passes (investee_of line.now) r (search rules))) c.in_ok-investees.ensures.number _ (c.in_err-keys.ensures.passed _ (λ line r gave. value-passes (key_of line.now) r (search rules))))

pub returns-in_err-balances : goal.returns-in_err-balances
returns-in_err-balances c =
    let p = err_from_is_err_and c.from_residual-in_err-balances.result c.from_residual-in_err-balances.ensures.1 in
    rw (p.1, p.2) (stopped-third (plain_head c.args.head) (left_in c.args.lines) (left_in c.section.new.self.lines) c.section.new.self.number (c.in_ok-investees.ensures.passed _ (λ line r gave. entry-passes (investee_of line.now) r (search rules))) c.in_ok-investees.ensures.number
    (left_in c.section-2.new.self.lines) c.section-2.new.self.number (c.in_ok-keys.ensures.passed _ (λ line r gave. value-passes (key_of line.now) r (search rules))) c.in_ok-keys.ensures.number _ (c.in_err-balances.ensures.passed _ (λ line r gave. value-passes (balance_of line.now) r (search rules))))

pub returns-in_err-end : goal.returns-in_err-end
returns-in_err-end c =
    let p = err_from_is_err_and c.from_residual-in_err-end.result c.from_residual-in_err-end.ensures.1 in
    rw (p.1, p.2) (stopped-last (plain_head c.args.head) (left_in c.args.lines) (left_in c.section.new.self.lines) c.section.new.self.number (c.in_ok-investees.ensures.passed _ (λ line r gave. entry-passes (investee_of line.now) r (search rules))) c.in_ok-investees.ensures.number
    (left_in c.section-2.new.self.lines) c.section-2.new.self.number (c.in_ok-keys.ensures.passed _ (λ line r gave. value-passes (key_of line.now) r (search rules))) c.in_ok-keys.ensures.number
    (left_in c.section-3.new.self.lines) c.section-3.new.self.number (c.in_ok-balances.ensures.passed _ (λ line r gave. value-passes (balance_of line.now) r (search rules))) c.in_ok-balances.ensures.number _ c.in_err-end.ensures)

-- the sections as they were found
pub returns : goal.returns
returns c =
    let i = c.in_ok-investees.ensures.section in
    let k = c.in_ok-keys.ensures.section in
    let b = c.in_ok-balances.ensures.section in
    (λ t. Ok (record {
      guide = c.args.head.guide;
      investees = all_in investee_of (lines_in (i.0 t) (left_in (i.1 t)));
      posts = postings (all_in key_of (lines_in (k.0 t) (left_in (k.1 t)))) (all_in balance_of (lines_in (b.0 t) (left_in (b.1 t))));
    }))
    ∙ body-read (plain_head c.args.head) (left_in c.args.lines) (left_in c.section.new.self.lines) c.section.new.self.number (c.in_ok-investees.ensures.passed _ (λ line r gave. entry-passes (investee_of line.now) r (search rules))) c.in_ok-investees.ensures.number
    (left_in c.section-2.new.self.lines) c.section-2.new.self.number (c.in_ok-keys.ensures.passed _ (λ line r gave. value-passes (key_of line.now) r (search rules))) c.in_ok-keys.ensures.number
    (left_in c.section-3.new.self.lines) c.section-3.new.self.number (c.in_ok-balances.ensures.passed _ (λ line r gave. value-passes (balance_of line.now) r (search rules))) c.in_ok-balances.ensures.number c.in_ok-end.field-0 c.in_ok-end.ensures

pub invariant_of-result-clause-counted : goal.invariant_of-result-clause-counted
invariant_of-result-clause-counted c =
    let i = c.in_ok-investees.ensures.section in
    let k = c.in_ok-keys.ensures.section in
    let b = c.in_ok-balances.ensures.section in
    let counts = body-counts (plain_head c.args.head) (left_in c.args.lines) (left_in c.section.new.self.lines) c.section.new.self.number (c.in_ok-investees.ensures.passed _ (λ line r gave. entry-passes (investee_of line.now) r (search rules))) c.in_ok-investees.ensures.number
    (left_in c.section-2.new.self.lines) c.section-2.new.self.number (c.in_ok-keys.ensures.passed _ (λ line r gave. value-passes (key_of line.now) r (search rules))) c.in_ok-keys.ensures.number
    (left_in c.section-3.new.self.lines) c.section-3.new.self.number (c.in_ok-balances.ensures.passed _ (λ line r gave. value-passes (balance_of line.now) r (search rules))) c.in_ok-balances.ensures.number in (
      i.0 ∙ counts.0 ∙ sym (λ t. length (all_in investee_of (lines_in (i.0 t) (left_in (i.1 t))))),
      k.0 ∙ counts.1 ∙ sym (λ t. length (postings (all_in key_of (lines_in (k.0 t) (left_in (k.1 t)))) (all_in balance_of (lines_in (b.0 t) (left_in (b.1 t)))))),
    )
