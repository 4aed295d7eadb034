use Rattle.std.proofs.Common.{rules, tests, ◌≡◌, ok_or, Option, Some, None, find, option_map, refl, ap, ◌∙◌, ap₂}
use Rattle.std.proofs.lemmas.Iterator.{YieldsList-from_slice}
use Rattle.std.proofs.lemmas.Iterator.Search.{find_from_yields_List}
use Rattle.faults.specs.declared.Fault.{Fault}
use Rattle.plain.specs.PlainBook.{has_id}
use Rattle.book.specs.declared.rows.InvesteeRow.{InvesteeRow}
use Rattle.book.specs.Entries.{plain_result}
use Rattle.book.specs.Rows.{plain_investee}
use Rattle.positions.proofs.Views.{find-view}
use Rattle.book.proofs.book.Book.investee.Goals as goal

as-plain : (o : Option InvesteeRow) (f : Fault) → plain_result (ok_or o f) ≡ ok_or (option_map plain_investee o) f
as-plain None f = refl
as-plain (Some x) f = refl

pub returns : goal.returns
returns g c =
    let found = find_from_yields_List (λ row. has_id c.args.id (plain_investee row)) _ _ c.find.result c.find.ensures.ran (YieldsList-from_slice c.as_slice.result.now (cc)) (λ x b q k. search (rules, tests)) in
    let read = c.copied.ensures ∙ found ∙ ap (find (λ row. has_id c.args.id (plain_investee row))) c.as_slice.ensures.value in
    ap plain_result c.ok_or.ensures.value ∙ as-plain c.copied.result c.plain.result
    ∙ ap₂ ok_or (ap (option_map plain_investee) read ∙ find-view plain_investee (has_id c.args.id) c.args.self.now.investees.items) c.plain.ensures
