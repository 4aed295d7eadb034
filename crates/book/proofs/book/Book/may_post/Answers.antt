use Rattle.std.proofs.Common.{◌≡◌, false, is_some, sym, ap, ◌∙◌, arith}
use Rattle.std.proofs.lemmas.Bool.{cond-true, cond-false}
use Rattle.plain.specs.Changes.{posted}
use Rattle.plain.specs.Exposures.{exposure_to}
use Rattle.plain.specs.PlainBook.{id_of, position_of, is_posted}
use Rattle.plain.specs.Refused.{no_room_for}
use Rattle.positions.specs.Years.{in_year}
use Rattle.book.specs.Entries.{failing, too_much_at}
use Rattle.book.specs.Rows.{plain_investee}
use Rattle.book.specs.View.{plain}
use Rattle.book.proofs.Entries.{posted-alike, none-counts}
use Rattle.book.proofs.Posting.{entry-in-year, entry-range, entry-exposure, exposure-posted}
use Rattle.book.proofs.Propositions.{kept_of}
use Rattle.book.proofs.book.Book.may_post.Given as given
use Rattle.book.proofs.book.Book.may_post.Goals as goal
use Rattle.book.proofs.book.Book.may_post.Goals.{After-exposure}

free : (g : given.Over) (c : After-exposure g) → is_posted c.args.entry.branch c.args.row.profile.id c.args.entry.month (plain c.args.self.now).positions ≡ false
free g c =
    ap (λ id. is_posted c.args.entry.branch id c.args.entry.month (plain c.args.self.now).positions) (sym c.from-id.ensures)
    ∙ sym (posted-alike c.args.entry.month (position_of c.args.entry.branch c.from-id.result (plain c.args.self.now).positions))
    ∙ ap is_some (sym (c.balance.ensures ∙ cond-true (in_year c.args.entry.month) _ _ (entry-in-year (plain c.args.self.now) c.args.entry.branch c.args.entry.month c.args.entry.balance (plain_investee c.args.row) c.requires))) ∙ sym c.is_some.ensures ∙ c.if-is_some.false

pub moved-exposure-requires : goal.moved-exposure-requires
moved-exposure-requires g c =
    let p = plain c.args.self.now in
    let x = plain_investee c.args.row in
    let ok = kept_of p c.args.self.now.kept in
    record {
      small = (omega (arith, c.exposure.ensures, entry-exposure p ok c.args.entry.branch c.args.entry.month c.args.entry.balance x c.requires), (omega arith, omega (arith, (entry-range p ok c.args.entry.branch c.args.entry.month c.args.entry.balance x c.requires).balance)));
      held = omega (arith, none-counts x.profile.kind);
    }

pub returns : goal.returns
returns g c =
    let t = g.R.Rule.tables c.args.self.now.rule.now in
    let p = plain c.args.self.now in
    let x = plain_investee c.args.row in
    let b = c.args.entry.branch in
    let m = c.args.entry.month in
    let is_free = free g (goal.at.returns g c).After-exposure in
    let after = exposure-posted p (kept_of p c.args.self.now.kept) b m c.args.entry.balance x c.requires is_free in
    let same : c.moved-exposure.result ≡ exposure_to x (posted b (id_of x) m c.args.entry.balance p.positions) = omega (arith, after, c.moved-exposure.ensures, c.exposure.ensures, none-counts x.profile.kind) in
    c.may_lend.ensures ∙ ap (λ s. failing (too_much_at t x s)) same
    ∙ ap failing
    (sym (cond-false (is_posted b (id_of x) m p.positions) _ _ is_free
    ∙ cond-false (no_room_for b (id_of x) p.positions) _ _ (ap (λ id. no_room_for b id p.positions) (sym c.from-id.ensures) ∙ sym c.no_room_for.ensures ∙ c.if-no_room_for.false)))
