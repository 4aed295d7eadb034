use Rattle.std.proofs.Common.{map, set, Some, refl, ap, ◌∙◌, take_all}
use Rattle.plain.specs.Limits.{most_investees}
use Rattle.plain.specs.Readings.{account_of}
use Rattle.book.specs.Listed.{listed}
use Rattle.book.specs.Rows.{plain_investee}
use Rattle.book.specs.declared.rows.InvesteeRow.{InvesteeRow}
use Rattle.book.specs.View.{plain}
use Rattle.book.proofs.Listing.{listed-next, mapped-twice}
use Rattle.book.proofs.WithinBook.{row-within}
use Rattle.book.proofs.book.Book.accounts.Goals as goal

pub invariant_of-account : goal.invariant_of-account
invariant_of-account g c =
    let book = c.args.self.now in
    let read = c.as_slice-row-items.result.now in
    record { within = ∣ row-within book.investees.items book.positions book.kept read c.as_slice-row-items.ensures.value c.loop-place.place c.row-item.result c.loop-place-test.true c.row-item.is ∣₁ }

pub loop-place-init : goal.loop-place-init
loop-place-init g c = refl

pub loop-place-preserved : goal.loop-place-preserved
loop-place-preserved g c =
    let book = c.args.self.now in
    let account = λ (x : InvesteeRow). account_of (g.R.Rule.tables book.rule.now) (plain book) (plain_investee x) in
    ap (λ xs. set xs c.loop-place.place (Some c.account.result)) c.loop-place.invariant
    ∙ listed-next most_investees account c.as_slice-row-items.result.now c.loop-place.place c.row-item.result c.loop-place-test.true c.as_slice-row-items.ensures.fits c.account.result (c.account.ensures ∙ ap account c.row-item.is)

pub returns : goal.returns
returns g c =
    let book = c.args.self.now in
    let f = account_of (g.R.Rule.tables book.rule.now) (plain book) in
    c.loop-place.invariant
    ∙ ap (λ xs. listed most_investees (map (λ x. f (plain_investee x)) xs)) (take_all c.loop-place.place c.as_slice-row-items.result.now c.loop-place-test.false ∙ c.as_slice-row-items.ensures.value)
    ∙ ap (listed most_investees) (mapped-twice f plain_investee book.investees.items)
