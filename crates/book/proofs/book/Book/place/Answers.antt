use Rattle.std.proofs.Common.{rules, tests, ok_or, position, ap, ◌∙◌, ap₂}
use Rattle.std.proofs.lemmas.Iterator.{YieldsList-from_slice}
use Rattle.std.proofs.lemmas.Iterator.Search.{position_from_yields_List}
use Rattle.plain.specs.PlainBook.{has_id}
use Rattle.book.specs.Rows.{plain_investee}
use Rattle.positions.proofs.Views.{position-view}
use Rattle.book.proofs.book.Book.place.Goals as goal

pub returns : goal.returns
returns g c =
    let found = position_from_yields_List (λ row. has_id c.args.id (plain_investee row)) _ _ c.position.result c.position.ensures.ran (YieldsList-from_slice c.as_slice.result.now (cc)) (λ x b q k. search (rules, tests)) in
    c.ok_or.ensures.value
    ∙ ap₂ ok_or (found ∙ ap (position (λ row. has_id c.args.id (plain_investee row))) c.as_slice.ensures.value ∙ position-view plain_investee (has_id c.args.id) c.args.self.now.investees.items) c.plain.ensures
