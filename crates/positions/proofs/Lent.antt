-- A row that was asked for and is not there: its place is past the end.
use Rattle.std.proofs.Common.{◌≡◌, ℕ, ◌<◌, ◌≤◌, cond, Some, None, Option, IsSome, ◌↔◌, sym, ap, ⊎_elim, arith}
use Rattle.std.proofs.lemmas.Bool.{cases_lt}
use Rattle.std.proofs.lemmas.Option.{none-some}

pub lent-none : {X : Type 0} (o : Option X) (k n : ℕ) → o ≡ None → (IsSome o ↔ (k < n)) → n ≤ k
lent-none None k n is there =
    ⊎_elim
    (λ h. let z : ◌≡◌ {A = ℕ} 0 1 = ap (λ b. cond b 1 0) (there.1 h) in
    absurd (omega arith))
    (λ h. h)
    (cases_lt k n)
lent-none (Some y) k n is there = absurd (none-some y (sym is))
