-- The lines of a page in the pieces that they are written in.
use Rattle.std.proofs.Common.{◌≡◌, ℕ, List, [], ◌∷◌, ◌++◌, ℤ, Option, decimal, subst, append_assoc, w64, SFits, to_z, of_z}
use Rattle.std.specs.Fmt.{signed_decimal}
use Rattle.std.proofs.lemmas.Int.{to_z-of_z}
use Rattle.lines.specs.declared.writing.Writer.{Writer}
use Rattle.lines.specs.Render.{number_line}
use Rattle.lines.specs.Writing.{Wrote}
use Rattle.plain.specs.declared.answers.InvesteeAccount.{InvesteeAccount}
use Rattle.plain.specs.declared.answers.Kilograms.{Kilograms}
use Rattle.pages.specs.Page.{account_line, branch_line}

four : (a b c d : List ℕ) → (a ++ 32 ∷ (b ++ 32 ∷ (c ++ 32 ∷ d))) ++ 10 ∷ [] ≡ (a ++ 32 ∷ []) ++ ((b ++ 32 ∷ []) ++ ((c ++ 32 ∷ d) ++ 10 ∷ []))
four a b c d = simp append_assoc

pub account-pieces : (a : InvesteeAccount) → account_line a ≡ (decimal a.id ++ 32 ∷ []) ++ ((signed_decimal a.total.kilograms.emissions ++ 32 ∷ []) ++ number_line (a.total.reason ∷ a.total.grade ∷ []))
account-pieces a = four (decimal a.id) (signed_decimal a.total.kilograms.emissions) (decimal a.total.reason) (decimal a.total.grade)

pub branch-pieces : (b : ℕ) (k : Kilograms) → branch_line b k ≡ (66 ∷ 32 ∷ []) ++ ((decimal b ++ 32 ∷ []) ++ (signed_decimal k.emissions ++ 10 ∷ []))
branch-pieces b k = simp append_assoc

-- a text of kilograms, which a call is handed in 64 bits
pub as-handed : {was now : Writer} {r : Option (Unit {0})} (f : ℤ → List ℕ) (z : ℤ) → SFits w64 z → Wrote was (f (to_z w64 (of_z w64 z))) now r → Wrote was (f z) now r
as-handed {was} {now} {r} f z fit = subst (λ k. Wrote was (f k) now r) (to_z-of_z w64 z fit)

-- kilograms, and the byte that ends their field
abbrev pub field : ℕ → ℤ → List ℕ
field end z = signed_decimal z ++ end ∷ []
