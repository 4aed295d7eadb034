-- What a program holds of a file, as the layout says it.
use Rattle.std.specs.Prelude.{◌≡◌, length, Ok, Err, Result}
use Rattle.entries.specs.Entries.{PlainPortfolio}
use Rattle.entries.specs.declared.stop.Stop.{Stop}
use Rattle.portfolio.specs.Cursors.{investees_left, posts_left, investee_count, post_count}
use Rattle.portfolio.specs.Layout.{PlainHead}
use Rattle.portfolio.specs.declared.file.Portfolio.{Portfolio}
use Rattle.portfolio.specs.declared.head.Head.{Head}

abbrev pub plain_head : Head → PlainHead
plain_head h = record { investees = h.investees; posts = h.posts; guide = h.guide }

-- what reading the first line gives
abbrev pub seen_head : Result Head Stop → Result PlainHead Stop
seen_head (Ok h) = Ok (plain_head h)
seen_head (Err s) = Err s

abbrev pub plain_portfolio : Portfolio → PlainPortfolio
plain_portfolio p = record { guide = p.guide; investees = investees_left p.investees; posts = posts_left p.posts }

-- what reading a file gives
abbrev pub seen : Result Portfolio Stop → Result PlainPortfolio Stop
seen (Ok p) = Ok (plain_portfolio p)
seen (Err s) = Err s

-- the cursors of a file that was read count rightly
abbrev pub Counted : Result Portfolio Stop → Type 0
Counted (Ok p) = (investee_count p.investees ≡ length (investees_left p.investees)) × (post_count p.posts ≡ length (posts_left p.posts))
Counted (Err s) = Unit {0}
