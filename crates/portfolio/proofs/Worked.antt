-- Worked files: the stop of each is the one that reading gives.
use Rattle.std.proofs.Common.{◌≡◌, ℕ, List, Ok, Err, sym, refl, ◌∙◌}
use Rattle.entries.specs.Entries.{PlainPortfolio}
use Rattle.entries.specs.declared.stop.Stop.{Stop}
use Rattle.portfolio.specs.Layout.{layout_of}
use Rattle.portfolio.specs.Refused.{Refused}
use Rattle.portfolio.specs.Worked.{WorkedStops}
use Rattle.portfolio.proofs.Refusing.{never, refuses-rightly}

stops : (bytes : List ℕ) (s : Stop) → layout_of bytes ≡ Err s → Refused bytes s
stops bytes s is = (refuses-rightly bytes (layout_of bytes) refl s).0 is

none : (bytes : List ℕ) (f : PlainPortfolio) (s : Stop) → layout_of bytes ≡ Ok f → Refused bytes s → ⊥
none bytes f s is refused = never f s (sym is ∙ (refuses-rightly bytes (layout_of bytes) refl s).1 refused)

pub worked : WorkedStops
worked =
    record {
      laid_out = λ s refused. none _ _ s refl refused;
      not_ended = stops _ _ refl;
      byte_after_the_last = stops _ _ refl;
      guide_beyond = stops _ _ refl;
      wrong_field = stops _ _ refl;
      missing_field = stops _ _ refl;
      surplus_field = stops _ _ refl;
      first_of_two = stops _ _ refl;
    }
