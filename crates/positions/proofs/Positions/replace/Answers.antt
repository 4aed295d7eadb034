use Rattle.std.proofs.Common.{◌≡◌, None, Some, Option, ℕ, ◌∙◌}
use Rattle.plain.specs.PlainBook.{is_of}
use Rattle.positions.specs.Places.{first_place}
use Rattle.positions.specs.View.{positions_in}
use Rattle.positions.proofs.Posts.{amended-there, amended-nowhere}
use Rattle.positions.proofs.Positions.replace.Goals as goal

pub returns-in-Some : goal.returns-in-Some
returns-in-Some c =
    let at : Some c.in-Some.at ≡ first_place (is_of c.args.branch c.args.id) (positions_in c.args.self.now) = cc in
    c.write.ensures ∙ amended-there c.args.branch c.args.id c.args.month c.args.balance (positions_in c.args.self.now) c.in-Some.at at

pub returns-in_default : goal.returns-in_default
returns-in_default c =
    let none : ◌≡◌ {A = Option ℕ} None (first_place (is_of c.args.branch c.args.id) (positions_in c.args.self.now)) = cc in
    amended-nowhere c.args.branch c.args.id c.args.month c.args.balance (positions_in c.args.self.now) none
