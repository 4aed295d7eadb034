-- Small files, each with the one stop with which it is refused, or with none.
use Rattle.std.specs.Prelude.{ℕ, List, [], ◌∷◌, ◌++◌, codes}
use Rattle.std.specs.List.{flat_map}
use Rattle.entries.specs.declared.stop.Stop.{Stop}
use Rattle.portfolio.specs.Files.{missing, not_laid_out, beyond_limits}
use Rattle.portfolio.specs.Refused.{Refused}
use Rattle.portfolio.specs.Text.{fed}

-- lines, each with its line feed
abbrev pub file : List (List ℕ) → List ℕ
file lines = flat_map fed lines

pub record WorkedStops : Type 0 where
  -- a file of one line that is as laid out
  pub laid_out : (s : Stop) → Refused (file (codes "0 0 1" ∷ [])) s → ⊥
  pub not_ended : Refused (codes "0 0 1") (missing 1)
  pub byte_after_the_last : Refused (file (codes "0 0 1" ∷ []) ++ codes "0") (missing 2)
  pub guide_beyond : Refused (file (codes "0 0 3" ∷ [])) beyond_limits
  pub wrong_field : Refused (file (codes "0 x 1" ∷ [])) (not_laid_out 1 2)
  pub missing_field : Refused (file (codes "0 0" ∷ [])) (not_laid_out 1 3)
  pub surplus_field : Refused (file (codes "0 0 1 1" ∷ [])) (not_laid_out 1 4)
  -- two lines are wrong, and the bill of the first lacks the last number of its two terms
  pub first_of_two : Refused (file (codes "1 1 1" ∷ codes "7 5 0 2 200 0 10000 0 0 0 0 0 0 P 2 6 1000 6" ∷ codes "1 x 1" ∷ codes "60000" ∷ [])) (not_laid_out 2 19)
