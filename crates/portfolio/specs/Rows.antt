-- Lines passed over in one walk, whatever they read as.
use Rattle.std.specs.Prelude.{◌≡◌, ℕ, List, Ok, Err, Result}
use Rattle.std.specs.Borrow.{Bor}
use Rattle.std.specs.Fn.{Shared}
use Rattle.entries.specs.declared.stop.Stop.{Stop}
use Rattle.portfolio_lines.specs.declared.misread.Misread.{Misread}
use Rattle.portfolio.specs.Layout.{section_of}

-- whether a line reads, whatever it reads as
abbrev pub passes : {X : Type 0} → Result X Misread → Result (Unit {0}) Misread
passes (Ok x) = Ok tt
passes (Err e) = Err e

abbrev pub after : {X : Type 0} → Result (List X × List (List ℕ)) Stop → Result (List (List ℕ)) Stop
after (Ok r) = Ok r.1
after (Err s) = Err s

-- the pieces after n lines of one kind, the first of which is line l
abbrev pub passed : (List ℕ → Result (Unit {0}) Misread) → (n l : ℕ) → List (List ℕ) → Result (List (List ℕ)) Stop
passed row n l ps = after (section_of row n l ps)

-- each call of f at a line says of it what row says
abbrev pub Passes : {F T : Type 0} → Shared F (Bor (List ℕ) × Unit {0}) (Result T Misread) → F → (List ℕ → Result (Unit {0}) Misread) → Type 0
Passes {T = T} g f row = (line : Bor (List ℕ)) (r : Result T Misread) → g.post f (line, tt) r → passes r ≡ row line.now

-- what a walk answers, with the pieces that it leaves
abbrev pub leaving_lines : {X : Type 0} → Result X Stop → List (List ℕ) → Result (List (List ℕ)) Stop
leaving_lines (Ok x) ps = Ok ps
leaving_lines (Err s) ps = Err s
