use Rattle.std.proofs.Common.{◌<◌, ◌≤◌, length, is_some, sym, refl, ap, ◌∙◌, arith}
use Rattle.std.proofs.lemmas.List.{length-map}
use Rattle.positions.specs.Entries.{written}
use Rattle.positions.specs.Rows.{plain_position}
use Rattle.positions.specs.View.{positions_in}
use Rattle.positions.proofs.Lent.{lent-none}
use Rattle.positions.proofs.Following.{ids-stay}
use Rattle.positions.proofs.Places.{written-view, change-past}
use Rattle.positions.proofs.Positions.write.Goals as goal

pub returns-in-Some : goal.returns-in-Some
returns-in-Some c =
    let there : c.args.at < length c.args.self.now.rows.items = c.get_mut.ensures.variant.0 (ap is_some c.in-Some.is) in
    written-view plain_position (written c.args.month c.args.balance) c.args.self.now.rows.items c.args.at c.in-Some.row.now c.write.new.self there c.in-Some.ensures.value c.write.ensures

pub returns-in_default : goal.returns-in_default
returns-in_default c =
    let past : length c.args.self.now.rows.items ≤ c.args.at = lent-none c.get_mut.result c.args.at _ c.in_default.is c.get_mut.ensures.variant in
    sym (change-past (written c.args.month c.args.balance) (positions_in c.args.self.now) c.args.at (omega (arith, past, length-map c.args.self.now.rows.items plain_position)))

pub invariant_of-self-clause-indexed : goal.invariant_of-self-clause-indexed
invariant_of-self-clause-indexed c =
    let table = c.args.self.now in
    let there : c.args.at < length table.rows.items = c.get_mut.ensures.variant.0 (ap is_some c.in-Some.is) in
    table.indexed ∙ ids-stay table.rows.items _ c.args.at c.args.month c.args.balance c.in-Some.row.now c.write.new.self there c.in-Some.ensures.value c.write.ensures refl
