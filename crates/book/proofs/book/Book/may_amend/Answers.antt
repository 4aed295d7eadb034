use Rattle.std.proofs.Common.{◌≡◌, ◌+◌, ◌^◌, ◌<◌, true, not, is_some, Some, sym, ap, ◌∙◌, arith, rules}
use Rattle.std.proofs.lemmas.Bool.{cond-true, cond-false, not_from_true}
use Rattle.plain.specs.Changes.{amended}
use Rattle.plain.specs.Exposures.{exposure_to}
use Rattle.plain.specs.PlainBook.{id_of, position_of, is_posted}
use Rattle.positions.specs.Entries.{balance_in}
use Rattle.positions.specs.Years.{in_year}
use Rattle.book.specs.Entries.{counted, failing, too_much_at}
use Rattle.book.specs.Rows.{plain_investee}
use Rattle.book.specs.View.{plain}
use Rattle.book.proofs.Entries.{posted-alike}
use Rattle.book.proofs.Posting.{entry-in-year, entry-range, entry-exposure, exposure-amended}
use Rattle.book.proofs.Propositions.{kept_of}
use Rattle.book.proofs.Restating.{some-from}
use Rattle.book.proofs.book.Book.may_amend.Given as given
use Rattle.book.proofs.book.Book.may_amend.Goals as goal
use Rattle.book.proofs.book.Book.may_amend.Goals.{After-exposure}

-- the balance that the month had
was : (g : given.Over) (c : After-exposure g) → Some c.in_ok-old.old ≡ balance_in c.args.entry.month (position_of c.args.entry.branch c.args.row.profile.id (plain c.args.self.now).positions)
was g c =
    some-from _ _ _ (sym c.in_ok-old.was ∙ c.ok_or.ensures.value)
    ∙ c.balance.ensures
    ∙ cond-true (in_year c.args.entry.month) _ _ (entry-in-year (plain c.args.self.now) c.args.entry.branch c.args.entry.month c.args.entry.balance (plain_investee c.args.row) c.requires)
    ∙ ap (λ id. balance_in c.args.entry.month (position_of c.args.entry.branch id (plain c.args.self.now).positions)) c.from-id.ensures

after : (g : given.Over) (c : After-exposure g)
    → exposure_to (plain_investee c.args.row) (amended c.args.entry.branch c.args.row.profile.id c.args.entry.month c.args.entry.balance (plain c.args.self.now).positions) + counted c.args.row.profile.kind c.in_ok-old.old
    ≡ exposure_to (plain_investee c.args.row) (plain c.args.self.now).positions + counted c.args.row.profile.kind c.args.entry.balance
after g c =
    let p = plain c.args.self.now in
    exposure-amended p (kept_of p c.args.self.now.kept) c.args.entry.branch c.args.entry.month c.args.entry.balance (plain_investee c.args.row) c.requires c.in_ok-old.old (was g c)

pub moved-exposure-requires : goal.moved-exposure-requires
moved-exposure-requires g c =
    let p = plain c.args.self.now in
    let x = plain_investee c.args.row in
    let ok = kept_of p c.args.self.now.kept in
    let fits : c.in_ok-old.old < 2 ^ 32 = search rules in
    record {
      small = (omega (arith, c.exposure.ensures, entry-exposure p ok c.args.entry.branch c.args.entry.month c.args.entry.balance x c.requires), (omega (arith, fits), omega (arith, (entry-range p ok c.args.entry.branch c.args.entry.month c.args.entry.balance x c.requires).balance)));
      held = omega (arith, ap (counted x.profile.kind) c.from.ensures, after g (goal.at.moved-exposure-requires g c).After-exposure, c.exposure.ensures);
    }

pub returns : goal.returns
returns g c =
    let t = g.R.Rule.tables c.args.self.now.rule.now in
    let p = plain c.args.self.now in
    let x = plain_investee c.args.row in
    let b = c.args.entry.branch in
    let m = c.args.entry.month in
    let is-posted : is_posted b (id_of x) m p.positions ≡ true = sym (posted-alike m (position_of b (id_of x) p.positions)) ∙ ap is_some (sym (was g (goal.at.returns g c).After-exposure)) in
    let same : c.moved-exposure.result ≡ exposure_to x (amended b (id_of x) m c.args.entry.balance p.positions) = omega (arith, ap (counted x.profile.kind) c.from.ensures, after g (goal.at.returns g c).After-exposure, c.moved-exposure.ensures, c.exposure.ensures) in
    c.may_lend.ensures ∙ ap (λ s. failing (too_much_at t x s)) same
    ∙ ap failing (sym (cond-false (not (is_posted b (id_of x) m p.positions)) _ _ (not_from_true _ is-posted)))
