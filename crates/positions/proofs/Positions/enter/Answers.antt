use Rattle.std.proofs.Common.{◌≡◌, cond, None, Some, Option, ℕ, sym, ap, ap₂, ◌∙◌}
use Rattle.plain.specs.PlainBook.{is_of}
use Rattle.positions.specs.View.{positions_in}
use Rattle.positions.specs.Places.{first_place}
use Rattle.positions.specs.View.{positions_in}
use Rattle.positions.proofs.Posts.{there, nowhere, can-enter-there, can-enter-new, posted-there, posted-new}
use Rattle.positions.proofs.Positions.enter.Goals as goal

pub returns-in_default-clause-entered : goal.returns-in_default-clause-entered
returns-in_default-clause-entered c =
    let qs = positions_in c.args.self.now in
    let year = sym c.in_year.ensures ∙ c.if-not-in_year.false in
    let none : ◌≡◌ {A = Option ℕ} None (first_place (is_of c.args.branch c.args.id) qs) = sym c.in_default.is ∙ c.place.ensures ∙ ap₂ (λ b i. first_place (is_of b i) qs) c.from.ensures c.from-2.ensures in
    c.add.ensures.room
    ∙ can-enter-new c.args.branch c.args.id c.args.month c.args.balance qs year (nowhere c.args.branch c.args.id c.args.month c.args.balance qs none)

pub returns-in_default-clause-positions : goal.returns-in_default-clause-positions
returns-in_default-clause-positions c =
    let qs = positions_in c.args.self.now in
    let year = sym c.in_year.ensures ∙ c.if-not-in_year.false in
    let none : ◌≡◌ {A = Option ℕ} None (first_place (is_of c.args.branch c.args.id) qs) = sym c.in_default.is ∙ c.place.ensures ∙ ap₂ (λ b i. first_place (is_of b i) qs) c.from.ensures c.from-2.ensures in
    c.add.ensures.added
    ∙ ap (λ ps. cond c.add.result ps qs) (posted-new c.args.branch c.args.id c.args.month c.args.balance qs none year)

pub returns-clause-entered : goal.returns-clause-entered
returns-clause-entered c =
    let qs = positions_in c.args.self.now in
    let year = sym c.in_year.ensures ∙ c.if-not-in_year.false in
    let at : Some c.in-Some.at ≡ first_place (is_of c.args.branch c.args.id) qs = sym c.in-Some.is ∙ c.place.ensures ∙ ap₂ (λ b i. first_place (is_of b i) qs) c.from.ensures c.from-2.ensures in
    can-enter-there c.args.branch c.args.id c.args.month c.args.balance qs year (there c.args.branch c.args.id c.args.month c.args.balance qs c.in-Some.at at)

pub returns-clause-positions : goal.returns-clause-positions
returns-clause-positions c =
    let qs = positions_in c.args.self.now in
    let year = sym c.in_year.ensures ∙ c.if-not-in_year.false in
    let at : Some c.in-Some.at ≡ first_place (is_of c.args.branch c.args.id) qs = sym c.in-Some.is ∙ c.place.ensures ∙ ap₂ (λ b i. first_place (is_of b i) qs) c.from.ensures c.from-2.ensures in
    c.write.ensures ∙ posted-there c.args.branch c.args.id c.args.month c.args.balance qs c.in-Some.at at year
