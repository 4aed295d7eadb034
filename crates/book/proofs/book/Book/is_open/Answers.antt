use Rattle.std.proofs.Common.{◌≡◌, is_ok, is_some, ok_or, None, Some, Option, refl, ap, ◌∙◌}
use Rattle.plain.specs.PlainBook.{has_id}
use Rattle.positions.proofs.Places.{found_alike}
use Rattle.book.specs.View.{plain}
use Rattle.book.proofs.book.Book.is_open.Goals as goal

either-way : {X E : Type 0} (o : Option X) (e : E) → is_ok (ok_or o e) ≡ is_some o
either-way None e = refl
either-way (Some x) e = refl

pub returns : goal.returns
returns g c = c.is_ok.ensures.value ∙ ap is_ok c.place.ensures ∙ either-way _ _ ∙ found_alike (has_id c.args.id) (plain c.args.self.now).investees
