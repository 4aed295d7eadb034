use Rattle.std.proofs.Common.{◌≡◌, ◌+◌, cond, map, reverse, Some, None, get_or, sym, ap, ◌∙◌, arith, rules, tests}
use Rattle.std.proofs.lemmas.List.{length-map, get_or-map}
use Rattle.plain.specs.Branches.{branch_count, branches}
use Rattle.plain.specs.Readings.{has_position, sheet_if_any}
use Rattle.plain.proofs.BranchOrder.{branches-long, branch-at}
use Rattle.book.specs.Shares.{no_kilograms}
use Rattle.book.specs.View.{plain}
use Rattle.book.proofs.Filling.{made-as}
use Rattle.book.proofs.book.Book.sheets.Goals as goal

pub returns : goal.returns
returns g c =
    let p = plain c.args.self.now in
    let f = sheet_if_any (g.R.Rule.tables c.args.self.now.rule.now) p in
    made-as _ _ (λ k. f (k + 1)) c.from_fn.result branch_count
    (λ k lt y q called.
    let was : y ≡ cond (has_position p (k + 1)) (Some (get_or c.all_sheets-sums.result k no_kilograms)) None = search (rules, tests) in (
      was ∙ ap (λ s. cond (has_position p (k + 1)) (Some s) None) (c.all_sheets-sums.ensures.sheets k lt),
      search (rules, tests),
    ))
    None (map f (reverse branches)) c.from_fn.ensures.items (length-map (reverse branches) f ∙ branches-long)
    (λ k lt. ap f (branch-at k lt) ∙ sym (get_or-map f (reverse branches) k 0 None (omega (arith, lt, branches-long))))
