use Rattle.std.proofs.Common.{[], ◌∷◌, ◌++◌, decimal, sym, subst, rules}
use Rattle.std.specs.Fmt.{signed_decimal}
use Rattle.lines.specs.Render.{number_line}
use Rattle.lines.specs.Writing.{Wrote}
use Rattle.lines.proofs.Writes.{wrote_then}
use Rattle.pages.proofs.Pieces.{account-pieces, as-handed, field}
use Rattle.pages.proofs.writers.put_account.Goals as goal

pub returns : goal.returns
returns c =
    let a = c.args.account in
    subst (λ line. Wrote c.args.page.now line c.put_numbers.new.self c.put_numbers.result) (sym (account-pieces a))
    (wrote_then (decimal a.id ++ 32 ∷ []) _ c.in_ok-put_field.ensures
    (wrote_then (signed_decimal a.total.kilograms.emissions ++ 32 ∷ []) _ (as-handed (field 32) a.total.kilograms.emissions (search rules) c.in_ok-put_field-2.ensures)
    (subst (λ ns. Wrote c.put_field-2.new.page (number_line ns) c.put_numbers.new.self c.put_numbers.result) (λ i. c.from.ensures i ∷ c.from-2.ensures i ∷ []) c.put_numbers.ensures.wrote)))
