-- What loading a file gives.
use Rattle.std.specs.Prelude.{◌≡◌, ℕ, List, Ok, Err, Result}
use Rattle.entries.specs.Entries.{PlainPortfolio}
use Rattle.entries.specs.Guides.{guide_tables}
use Rattle.entries.specs.declared.guide.Guide.{Guide}
use Rattle.entries.specs.declared.stop.Stop.{Stop}
use Rattle.plain.specs.EveryRun.{HoldsWhole}
use Rattle.plain.specs.PlainBook.{empty}
use Rattle.portfolio.specs.Layout.{layout_of}
use Rattle.portfolio.specs.Refused.{RefusesRightly}
use Rattle.portfolio.specs.Text.{IsTextOf}
use Rattle.loading.specs.Trying.{Outcome, TriedInOrder, entries_of, first_entry_line, tried}

-- a book under the guide that the file names, with the entries before the first that is declined, and where that stands
pub record PlainLoaded : Type 0 where
  pub guide : Guide
  pub outcome : Outcome

abbrev pub entered : PlainPortfolio → PlainLoaded
entered f = record { guide = f.guide; outcome = tried (guide_tables f.guide) first_entry_line empty (entries_of f) }

abbrev pub entered_from : Result PlainPortfolio Stop → Result PlainLoaded Stop
entered_from (Ok f) = Ok (entered f)
entered_from (Err s) = Err s

-- the layout's verdict first: where it refuses, there is no book
abbrev pub loading_of : List ℕ → Result PlainLoaded Stop
loading_of bytes = entered_from (layout_of bytes)

-- ---- what that means

-- the portfolio's entries were tried in order on a new book under its guide, where no kilogram is gained or lost: a run has come to it
pub record EnteredInOrder (f : PlainPortfolio) (l : PlainLoaded) : Type 0 where
  pub under_its_guide : l.guide ≡ f.guide
  pub tried_in_order : TriedInOrder (guide_tables f.guide) first_entry_line empty (entries_of f) l.outcome
  pub holds : HoldsWhole (guide_tables f.guide) l.outcome.book

abbrev pub EnteredAs : PlainPortfolio → Result PlainLoaded Stop → Type 0
EnteredAs f (Ok l) = EnteredInOrder f l
EnteredAs f (Err s) = ⊥

-- a book has come of a portfolio whose text the bytes are; bytes without a book are the text of none, and stop where the layout does
abbrev pub HasComeOf : List ℕ → Result PlainLoaded Stop → Type 0
HasComeOf bytes (Ok l) = (f : PlainPortfolio) × IsTextOf f bytes × EnteredInOrder f l
HasComeOf bytes (Err s) = (layout_of bytes ≡ Err s) × ((f : PlainPortfolio) → IsTextOf f bytes → ⊥)

-- Exactly the texts of portfolios give a book. All other bytes are refused, for the one reason that holds of them: that they are beyond
-- the limits of a file, or the first line that is not as laid out.
pub record LoadsPortfolios (bytes : List ℕ) (r : Result PlainLoaded Stop) : Type 0 where
  pub of_a_portfolio : (f : PlainPortfolio) → IsTextOf f bytes → EnteredAs f r
  pub of_no_other : HasComeOf bytes r
  pub refused : RefusesRightly bytes r
