use Rattle.std.proofs.Common.{◌≡◌, ◌*◌, ◌^◌, ◌≤◌, length, sum_by, unwrap_or, rules, arith}
use Rattle.std.proofs.lemmas.List.Sums.{sum_by-le}
use Rattle.std.proofs.lemmas.Iterator.{YieldsList-from_slice}
use Rattle.std.proofs.lemmas.Iterator.Adapters.{fits_from_length, at_most_from_yields_List}
use Rattle.rules.specs.Months.{months}
use Rattle.positions.proofs.PositionRow.lent.Goals as goal

pub sum-requires-clause-fits : goal.sum-requires-clause-fits
sum-requires-clause-fits c =
    let few : length c.args.self.balances ≤ months = search rules in
    fits_from_length _ _ months (2 ^ 64) (at_most_from_yields_List (YieldsList-from_slice c.args.self.balances cc) few) c.map.ensures.closure (omega arith) (λ x r q k. search rules)

pub returns-clause-bound : goal.returns-clause-bound
returns-clause-bound c =
    let few : length c.args.self.balances ≤ months = search rules in
    let total : c.sum.result ≡ sum_by (λ m. unwrap_or m 0) c.args.self.balances = search rules in
    let top : sum_by (λ m. unwrap_or m 0) c.args.self.balances ≤ length c.args.self.balances * 2 ^ 32 = sum_by-le (λ m. unwrap_or m 0) (2 ^ 32) c.args.self.balances (λ k d h. search rules) in
    omega (arith, total, top, few)
