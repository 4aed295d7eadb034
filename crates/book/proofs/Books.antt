-- What a book keeps, along equations of its plain book.
use Rattle.std.proofs.Common.{◌≡◌, sym, subst}
use Rattle.rules.specs.Tables.{Tables}
use Rattle.plain.specs.Kept.{KeptByEveryRun}
use Rattle.plain.specs.PlainBook.{PlainBook}
use Rattle.plain.specs.Runs.{after}
use Rattle.plain.specs.Steps.{Step, WithinSourceLimits}
use Rattle.plain.proofs.Kept.{kept-by-a-call}
use Rattle.book.proofs.Propositions.{kept_of}

pub kept-as : (p q : PlainBook) → KeptByEveryRun p → q ≡ p → ∥ KeptByEveryRun q ∥₁
kept-as p q ok e = ∣ subst KeptByEveryRun (sym e) ok ∣₁

pub kept-after : (t : Tables) (p q : PlainBook) (c : Step) → WithinSourceLimits c → ∥ KeptByEveryRun p ∥₁ → q ≡ after t p c → ∥ KeptByEveryRun q ∥₁
kept-after t p q c limits ok e = kept-as (after t p c) q (kept-by-a-call t p c limits (kept_of p ok)) e
