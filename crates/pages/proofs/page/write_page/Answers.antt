use Rattle.std.proofs.Common.{◌≡◌, refl, rules}
use Rattle.plain.specs.Readings.{book_total_of}
use Rattle.book.specs.View.{plain}
use Rattle.book.proofs.Propositions.{kept_of}
use Rattle.pages.specs.Page.{given, page_of}
use Rattle.pages.proofs.Pieces.{as-handed}
use Rattle.pages.proofs.Placing.{page-written}
use Rattle.pages.proofs.page.write_page.Goals as goal

pub unwrap-requires : goal.unwrap-requires
unwrap-requires g c =
    let book = c.args.book.now in
    let rule = book.rule.now in
    let is-total : c.book_total-total.result ≡ book_total_of (g.R.Rule.tables c.args.book.now.rule.now) (plain c.args.book.now) = let told = c.book_total-total.ensures in cc in
    let wrote = as-handed (page_of (given c.accounts-accounts.result) c.sheets-sheets.result) c.book_total-total.result.all.kilograms.emissions (search rules) c.put_page.ensures in
    (page-written (g.R.Rule.tables rule) (g.R.Rule.lawful rule) (plain book) (kept_of (plain book) book.kept) _ _ c.book_total-total.result c.accounts-accounts.ensures c.sheets-sheets.ensures is-total _ refl c.requires wrote).some

pub returns : goal.returns
returns g c =
    let book = c.args.book.now in
    let rule = book.rule.now in
    let is-total : c.book_total-total.result ≡ book_total_of (g.R.Rule.tables c.args.book.now.rule.now) (plain c.args.book.now) = let told = c.book_total-total.ensures in cc in
    let wrote = as-handed (page_of (given c.accounts-accounts.result) c.sheets-sheets.result) c.book_total-total.result.all.kilograms.emissions (search rules) c.put_page.ensures in
    let page = page-written (g.R.Rule.tables rule) (g.R.Rule.lawful rule) (plain book) (kept_of (plain book) book.kept) _ _ c.book_total-total.result c.accounts-accounts.ensures c.sheets-sheets.ensures is-total _ refl c.requires wrote in
    record { bytes = page.bytes; buffer = let same = page.buffer_after in search rules; within = page.short }
