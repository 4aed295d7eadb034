-- The answer to any bytes as a portfolio file: the page of its book, or one line that says where it stops.
use Rattle.std.specs.Prelude.{ℕ, List, Some, None, Ok, Err, Option, Result}
use Rattle.entries.specs.Guides.{guide_tables}
use Rattle.entries.specs.declared.stop.Stop.{Stop}
use Rattle.loading.specs.Loading.{PlainLoaded, loading_of}
use Rattle.pages.specs.Page.{page_text}
use Rattle.pages.specs.Placed.{PageAddsUp}
use Rattle.answering.specs.Stops.{stop_line}

-- the page, unless an entry was declined
abbrev pub outcome_text : PlainLoaded → Option Stop → List ℕ
outcome_text l None = page_text (guide_tables l.guide) l.outcome.book
outcome_text l (Some s) = stop_line s

abbrev pub answer_of : Result PlainLoaded Stop → List ℕ
answer_of (Ok l) = outcome_text l l.outcome.stop
answer_of (Err s) = stop_line s

-- the lines of the page, where there is one, add up
abbrev pub OutcomeAddsUp : PlainLoaded → Option Stop → Type 0
OutcomeAddsUp l None = PageAddsUp (guide_tables l.guide) l.outcome.book
OutcomeAddsUp l (Some s) = Unit {0}

abbrev pub AnswerAddsUp : Result PlainLoaded Stop → Type 0
AnswerAddsUp (Ok l) = OutcomeAddsUp l l.outcome.stop
AnswerAddsUp (Err s) = Unit {0}

-- what is answered to the bytes of a file
abbrev pub answer_to : List ℕ → List ℕ
answer_to bytes = answer_of (loading_of bytes)
