-- What a rule says of an investee.
use Rattle.std.specs.Prelude.{ℕ, ◌≤◌}
use Rattle.rules.specs.declared.rule.Attribution.{Attribution}
use Rattle.rules.specs.Investees.{PlainProfile, most_exposure, financing_of}
use Rattle.rules.specs.Tables.{Tables, BaseInRange}

-- by its exposure over the year and its closing balance
abbrev pub attribution_of : Tables → PlainProfile → ℕ → ℕ → Attribution
attribution_of t x exposure closing = record {
  base = t.bases x.kind x.figures;
  reason = t.reasons (financing_of x exposure closing);
}

-- what holds of every rule's answers
pub record InRange (exposure closing : ℕ) (a : Attribution) : Type 0 where
  pub base_in_range : BaseInRange a.base
  pub reason_in_range : exposure ≤ most_exposure → closing ≤ most_exposure → a.reason ≤ 9
