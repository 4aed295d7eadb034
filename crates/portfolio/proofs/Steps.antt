-- Steps of cursors.
use Rattle.std.proofs.Common.{◌≡◌, ℕ, true, List, [], ◌∷◌, length, is_some, Some, None, Ok, Err, Option, Result, sym, refl, ap, ◌∙◌, subst, arith, Bor}
use Rattle.std.specs.Fn.{Shared, FnReturnsAt}
use Rattle.std.specs.Prelude.{MatchResult}
use Rattle.entries.specs.Entries.{PlainEntry, held_entry}
use Rattle.entries.specs.declared.investee.InvesteeEntry.{InvesteeEntry}
use Rattle.lines.specs.Fields.{pieces, pieces_left}
use Rattle.lines.proofs.Printed.{some-piece}
use Rattle.portfolio_lines.specs.Lines.{investee_of, held_line}
use Rattle.portfolio_lines.specs.declared.misread.Misread.{Misread}
use Rattle.portfolio_lines.specs.declared.posts.Key.{Key}
use Rattle.portfolio.specs.Cursors.{unless_wrong, all_in, NextAs, NextOf, NextRead, NextEntry, NextPost}
use Rattle.portfolio.specs.Files.{next_line}
use Rattle.portfolio.specs.Layout.{postings}

-- ---- lines

line_before : (x : List ℕ) (ps : List (List ℕ)) → (length ps ≡ 0 → ⊥) → next_line (x ∷ ps) ≡ Some (x, ps)
line_before x [] some = absurd (some refl)
line_before x (p ∷ ps) some = refl

-- a piece is a line where pieces are left
pub line-ended : (was : List (List ℕ)) (x : List ℕ) (sep : ℕ) (rest : Option (Bor (List ℕ))) → was ≡ x ∷ pieces_left sep rest → is_some rest ≡ true → next_line was ≡ Some (x, pieces_left sep rest)
line-ended was x sep None is there = let z : ◌≡◌ {A = ℕ} 0 1 = cc in absurd (omega arith)
line-ended was x sep (Some r) is there = ap next_line is ∙ line_before x (pieces sep r.now) (some-piece sep r.now)

-- ---- what lines read as

next-none : {X : Type 0} (was left : List X) → NextOf was None left → (was ≡ []) × (left ≡ [])
next-none [] left h = (refl, h.1)
next-none (y ∷ ys) left h = let z : ◌≡◌ {A = ℕ} 0 1 = cc h.0 in absurd (omega arith)

module _ {F X T : Type 0} (g : Shared F (Bor (List ℕ) × Unit {0}) (Result T Misread)) (f : F) (held : X → T) (read : List ℕ → Result X Misread) where
  -- what a call reads, of what is written on the line
  abbrev Tells : Type 0
  Tells = (line : List ℕ) (r : Result T Misread) → FnReturnsAt g f line r → MatchResult r (λ y. (x : X) × (read line ≡ Ok x) × (held x ≡ y)) (λ e. read line ≡ Err e)

  pub next-as : Tells → (was : List (List ℕ)) (r : Option T) (left : List (List ℕ)) → NextRead g f was r left → NextAs held (all_in read was) r (all_in read left)
  next-as tells [] r left (none, closed) = (none, ap (all_in read) closed)
  next-as tells (line ∷ lines) None left ((e, gave), closed) =
      let shown : all_in read (line ∷ lines) ≡ [] = ap (λ r. unless_wrong r (all_in read lines)) (tells line (Err e) gave) in
      subst (λ l. NextAs held l None (all_in read left)) (sym shown) (refl, ap (all_in read) closed)
  next-as tells (line ∷ lines) (Some y) left (gave, rest) =
      let (x, reads, same) = tells line (Ok y) gave in
      let shown : all_in read (line ∷ lines) ≡ x ∷ all_in read lines = ap (λ r. unless_wrong r (all_in read lines)) reads in
      subst (λ l. NextAs held l (Some y) (all_in read left)) (sym shown) (ap Some (sym same), ap (all_in read) rest)

held-tells : (x : Result PlainEntry Misread) (r : Result InvesteeEntry Misread) → r ≡ held_line x → MatchResult r (λ y. (e : PlainEntry) × (x ≡ Ok e) × (held_entry e ≡ y)) (λ e. x ≡ Err e)
held-tells (Ok e) (Ok y) is = let same : held_entry e ≡ y = cc in (e, refl, same)
held-tells (Ok e) (Err q) is = let z : ◌≡◌ {A = ℕ} 0 1 = cc in absurd (omega arith)
held-tells (Err p) (Ok y) is = let z : ◌≡◌ {A = ℕ} 0 1 = cc in absurd (omega arith)
held-tells (Err p) (Err q) is = let same : p ≡ q = cc in ap Err same

value-tells : {X : Type 0} (x r : Result X Misread) → r ≡ x → MatchResult r (λ y. (v : X) × (x ≡ Ok v) × (v ≡ y)) (λ e. x ≡ Err e)
value-tells x (Ok y) is = (y, sym is, refl)
value-tells x (Err e) is = sym is

-- the next investee, and the next of what is held as it is written
pub entry_next : {F : Type 0} (g : Shared F (Bor (List ℕ) × Unit {0}) (Result InvesteeEntry Misread)) (f : F) → ((line : List ℕ) (r : Result InvesteeEntry Misread) → FnReturnsAt g f line r → r ≡ held_line (investee_of line))
    → (was : List (List ℕ)) (r : Option InvesteeEntry) (left : List (List ℕ)) → NextRead g f was r left → NextEntry (all_in investee_of was) r (all_in investee_of left)
entry_next g f law = next-as g f held_entry investee_of (λ line r gave. held-tells (investee_of line) r (law line r gave))

pub value-next : {F X : Type 0} (g : Shared F (Bor (List ℕ) × Unit {0}) (Result X Misread)) (f : F) (read : List ℕ → Result X Misread) → ((line : List ℕ) (r : Result X Misread) → FnReturnsAt g f line r → r ≡ read line)
    → (was : List (List ℕ)) (r : Option X) (left : List (List ℕ)) → NextRead g f was r left → NextOf (all_in read was) r (all_in read left)
value-next g f read law = next-as g f (λ x. x) read (λ line r gave. value-tells (read line) r (law line r gave))

no-balance : (keys : List Key) → postings keys [] ≡ []
no-balance [] = refl
no-balance (k ∷ keys) = refl

-- a key without a balance
pub post-none : (keys keys_after : List Key) (was left : List ℕ) → NextOf was None left → NextPost (postings keys was) None (postings keys_after left)
post-none keys keys_after was left step =
    let (a, b) = next-none was left step in
    let before : postings keys was ≡ [] = ap (postings keys) a ∙ no-balance keys in
    subst (λ l. NextPost l None (postings keys_after left)) (sym before) (refl, ap (postings keys_after) b ∙ no-balance keys_after)
