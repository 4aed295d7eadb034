-- Entries as a program holds them, as calls.
use Rattle.std.specs.Prelude.{◌≡◌, List, [], ◌∷◌, Some, None, Option}
use Rattle.sources.specs.Layers.{overseas_meaning, offset_meaning}
use Rattle.entries.specs.Methods.{held_meaning}
use Rattle.entries.specs.declared.investee.InvesteeEntry.{InvesteeEntry}
use Rattle.plain.specs.Steps.{Step, enter}

-- the call that opens the investee of an entry
abbrev pub opening_held : InvesteeEntry → Step
opening_held x = enter x.fields (offset_meaning x.source.figures (overseas_meaning x.source.below.figures (held_meaning x.source.below.below)))

-- the entries that an iterator gives are these calls, one after another
pub record GivesCalls {I E : Type 0} (gives : I → Option E → I → Type 0) (call : E → Step) (left : I → List Step) : Type 0 where
  pub next : (s : I) (x : E) (t : I) → gives s (Some x) t → left s ≡ call x ∷ left t
  pub none : (s : I) (t : I) → gives s None t → left s ≡ []
