-- What the layout of some bytes says of loading them.
use Rattle.std.proofs.Common.{◌≡◌, ℕ, List, Ok, Err, OnOk, Result, subst}
use Rattle.entries.specs.Entries.{PlainPortfolio}
use Rattle.entries.specs.declared.stop.Stop.{Stop}
use Rattle.loading.specs.Loading.{LoadsPortfolios, loading_of}
use Rattle.loading.proofs.InOrder.{loads-portfolios}
use Rattle.portfolio.specs.Layout.{layout_of}
use Rattle.portfolio.specs.Refused.{RefusesRightly}
use Rattle.portfolio.specs.Text.{AcceptsTexts}

pub as-laid-out : (bytes : List ℕ) (r : Result PlainPortfolio Stop) → r ≡ layout_of bytes → RefusesRightly bytes r → AcceptsTexts bytes r → LoadsPortfolios bytes (loading_of bytes)
as-laid-out bytes r value refused texts = loads-portfolios bytes (subst (AcceptsTexts bytes) value texts) (subst (RefusesRightly bytes) value refused)

-- what holds in any case holds of an answer
pub on-ok : {A E : Type 0} (r : Result A E) (P : Type 0) → P → OnOk r P
on-ok (Ok a) P p = p
on-ok (Err e) P p = tt
