use Rattle.std.proofs.Common.{◌≡◌, Bool, true, false, not, ◌&&◌, leb, length, is_some, sym, refl, ap, ◌∙◌}
use Rattle.plain.specs.Limits.{most_positions}
use Rattle.plain.specs.PlainBook.{is_of, position_of}
use Rattle.positions.specs.View.{positions_in}
use Rattle.positions.proofs.Places.{found_alike}
use Rattle.positions.proofs.Positions.no_room_for.Goals as goal

flip : (a b : Bool) → a ≡ not b → b ≡ not a
flip a true e = sym (ap not e)
flip a false e = sym (ap not e)

when-full : (a b : Bool) → b ≡ true → a ≡ (a && b)
when-full true b e = sym e
when-full false b e = refl

pub returns-then-full_of_positions : goal.returns-then-full_of_positions
returns-then-full_of_positions c =
    let qs = positions_in c.args.self.now in
    flip (is_some c.place.result) c.is_none.result c.is_none.ensures
    ∙ ap not (ap is_some c.place.ensures ∙ found_alike (is_of c.args.branch c.args.id) qs)
    ∙ when-full (not (is_some (position_of c.args.branch c.args.id qs))) (leb most_positions (length qs)) (ap (leb most_positions) (sym c.len.ensures) ∙ sym c.full_of_positions.ensures ∙ c.if-full_of_positions.true)
