-- Lines passed over one after another.
use Rattle.std.proofs.Common.{◌≡◌, ℕ, zero, suc, ◌+◌, ◌-◌, ◌<◌, true, List, [], ◌∷◌, length, is_some, Some, None, Ok, Err, Option, Result, sym, refl, ap, ◌∙◌, arith, Bor}
use Rattle.std.specs.Option.{ok_or}
use Rattle.std.specs.Prelude.{MatchOption}
use Rattle.entries.specs.Entries.{PlainEntry}
use Rattle.entries.specs.declared.investee.InvesteeEntry.{InvesteeEntry}
use Rattle.entries.specs.declared.stop.Stop.{Stop}
use Rattle.lines.specs.Fields.{pieces, pieces_left}
use Rattle.lines.proofs.Printed.{some-piece}
use Rattle.portfolio_lines.specs.Counted.{and_then}
use Rattle.portfolio_lines.specs.Lines.{investee_of, key_of, balance_of, held_line}
use Rattle.portfolio_lines.specs.Misreads.{place_of}
use Rattle.portfolio_lines.specs.declared.misread.Misread.{Misread}
use Rattle.portfolio_lines.specs.declared.posts.Key.{Key}
use Rattle.portfolio.specs.Cursors.{with_line, lines_in, unless_wrong, all_in}
use Rattle.portfolio.specs.Files.{missing, not_laid_out, next_line}
use Rattle.portfolio.specs.Layout.{PlainHead, on_line, in_front, section_of, ended, postings, body_of, gone}
use Rattle.portfolio.specs.Rows.{passes, after, passed}

-- ---- one line

-- an investee as a program holds it passes where the one that was written does
passes-held : (x : Result PlainEntry Misread) → passes (held_line x) ≡ passes x
passes-held (Ok e) = refl
passes-held (Err e) = refl

pub entry-passes : (x : Result PlainEntry Misread) (r : Result InvesteeEntry Misread) → r ≡ held_line x → passes r ≡ passes x
entry-passes x r is = ap passes is ∙ passes-held x

pub value-passes : {X : Type 0} (x r : Result X Misread) → r ≡ x → passes r ≡ passes x
value-passes x r is = ap passes is

-- ---- lines passed one after another

module _ (row : List ℕ → Result (Unit {0}) Misread) where
  first-line : (n l : ℕ) (ps : List (List ℕ)) → 0 < n → passed row n l ps ≡ after (on_line l (next_line ps) (λ line qs. in_front l (row line) (section_of row (n - 1) (suc l) qs)))
  first-line zero l ps some = absurd (omega arith)
  first-line (suc n) l ps some = let less : n ≡ suc n - 1 = omega arith in ap (λ m. after (on_line l (next_line ps) (λ line qs. in_front l (row line) (section_of row m (suc l) qs)))) less

  passed-missing : (n l : ℕ) (ps : List (List ℕ)) → 0 < n → next_line ps ≡ None → passed row n l ps ≡ Err (missing l)
  passed-missing n l ps some none = first-line n l ps some ∙ ap (λ o. after (on_line l o (λ line qs. in_front l (row line) (section_of row (n - 1) (suc l) qs)))) none

  pub passed-none : (n l : ℕ) (ps : List (List ℕ)) → 0 < n → (r : Option (Bor (List ℕ))) (qs : List (List ℕ)) (m s : Stop) → next_line ps ≡ gone r qs → m ≡ missing l → Err s ≡ ok_or r m → passed row n l ps ≡ Err s
  passed-none n l ps some None qs m s cut is e = let same : s ≡ m = cc in passed-missing n l ps some cut ∙ ap Err (sym is) ∙ ap Err (sym same)
  passed-none n l ps some (Some x) qs m s cut is e = let z : ◌≡◌ {A = ℕ} 0 1 = cc in absurd (omega arith)

  at-line : (n l : ℕ) (ps : List (List ℕ)) → 0 < n → (x : List ℕ) (qs : List (List ℕ)) (r : Result (Unit {0}) Misread) → next_line ps ≡ Some (x, qs) → r ≡ row x → passed row n l ps ≡ after (in_front l r (section_of row (n - 1) (suc l) qs))
  at-line n l ps some x qs r cut reads =
      first-line n l ps some ∙ ap (λ o. after (on_line l o (λ line qs. in_front l (row line) (section_of row (n - 1) (suc l) qs)))) cut
      ∙ ap (λ r. after (in_front l r (section_of row (n - 1) (suc l) qs))) (sym reads)

  pub passed-wrong : (n l : ℕ) (ps : List (List ℕ)) → 0 < n → (x : List ℕ) (qs : List (List ℕ)) (e : Misread) → next_line ps ≡ Some (x, qs) → Err e ≡ row x → passed row n l ps ≡ Err (not_laid_out l (place_of e))
  passed-wrong n l ps some x qs e cut reads = at-line n l ps some x qs (Err e) cut reads

  over : (l : ℕ) (r : Result (List (Unit {0}) × List (List ℕ)) Stop) → after (in_front l (Ok tt) r) ≡ after r
  over l (Ok r) = refl
  over l (Err s) = refl

  pub passed-more : (n l : ℕ) (ps : List (List ℕ)) → 0 < n → (x : List ℕ) (qs : List (List ℕ)) → next_line ps ≡ Some (x, qs) → Ok tt ≡ row x → passed row n l ps ≡ passed row (n - 1) (suc l) qs
  passed-more n l ps some x qs cut reads = at-line n l ps some x qs (Ok tt) cut reads ∙ over l (section_of row (n - 1) (suc l) qs)

-- ---- the end

pub open-none : {X : Type 0} (x : X) (l : ℕ) (was left : List (List ℕ)) (piece : Option (Bor (List ℕ))) → MatchOption piece ((was ≡ []) × (left ≡ [])) (λ p. was ≡ p.now ∷ left) → piece ≡ None → ◌≡◌ {A = Result X Stop} (Err (missing l)) (ended l was x)
open-none x l was left None is none = sym (ap (λ w. ended l w x) is.0)
open-none x l was left (Some p) is none = let z : ◌≡◌ {A = ℕ} 0 1 = cc in absurd (omega arith)

pub open-bytes : {X : Type 0} (x : X) (l : ℕ) (was : List (List ℕ)) (p : List ℕ) (ps : List (List ℕ)) → was ≡ p ∷ ps → (length p ≡ 0 → ⊥) → ◌≡◌ {A = Result X Stop} (Err (missing l)) (ended l was x)
open-bytes {X} x l was [] ps is some = absurd (some refl)
open-bytes {X} x l was (b ∷ bs) [] is some = sym (ap (λ w. ended l w x) is)
open-bytes {X} x l was (b ∷ bs) (p ∷ ps) is some = sym (ap (λ w. ended l w x) is)

open_more : {X : Type 0} (x : X) (l : ℕ) (p : List ℕ) (ps : List (List ℕ)) → (length ps ≡ 0 → ⊥) → ◌≡◌ {A = Result X Stop} (ended l (p ∷ ps) x) (Err (missing l))
open_more x l p [] some = absurd (some refl)
open_more x l [] (q ∷ ps) some = refl
open_more x l (b ∷ bs) (q ∷ ps) some = refl

pub open-line : {X : Type 0} (x : X) (l : ℕ) (was : List (List ℕ)) (p : List ℕ) (sep : ℕ) (rest : Option (Bor (List ℕ))) → was ≡ p ∷ pieces_left sep rest → is_some rest ≡ true → ◌≡◌ {A = Result X Stop} (Err (missing l)) (ended l was x)
open-line {X} x l was p sep None is there = let z : ◌≡◌ {A = ℕ} 0 1 = cc in absurd (omega arith)
open-line {X} x l was p sep (Some r) is there =
    sym (ap (λ w. ended l w x) is ∙ open_more x l p (pieces sep r.now) (some-piece sep r.now))

-- ---- what lines read as that were passed

abbrev valued : {X : Type 0} → List X → Result (List (List ℕ)) Stop → Result (List X × List (List ℕ)) Stop
valued xs (Ok qs) = Ok (xs, qs)
valued xs (Err s) = Err s

section-by : {X : Type 0} (read : List ℕ → Result X Misread) (n l : ℕ) (ps : List (List ℕ)) → section_of read n l ps ≡ valued (all_in read (lines_in n ps)) (after (section_of (λ x. passes (read x)) n l ps))
section-by read zero l ps = refl
section-by {X} read (suc n) l ps = by (next_line ps) (section-by read n (suc l))
  where
    front : (y : X) (xs : List X) (r : Result (List (Unit {0}) × List (List ℕ)) Stop) → in_front l (Ok y) (valued xs (after r)) ≡ valued (y ∷ xs) (after (in_front l (Ok tt) r))
    front y xs (Ok r) = refl
    front y xs (Err s) = refl

    at : (r : Result X Misread) (qs : List (List ℕ)) → section_of read n (suc l) qs ≡ valued (all_in read (lines_in n qs)) (after (section_of (λ x. passes (read x)) n (suc l) qs))
        → in_front l r (section_of read n (suc l) qs) ≡ valued (unless_wrong r (all_in read (lines_in n qs))) (after (in_front l (passes r) (section_of (λ x. passes (read x)) n (suc l) qs)))
    at (Ok y) qs deep = ap (in_front l (Ok y)) deep ∙ front y (all_in read (lines_in n qs)) (section_of (λ x. passes (read x)) n (suc l) qs)
    at (Err p) qs deep = refl

    by : (o : Option (List ℕ × List (List ℕ))) → ((qs : List (List ℕ)) → section_of read n (suc l) qs ≡ valued (all_in read (lines_in n qs)) (after (section_of (λ x. passes (read x)) n (suc l) qs)))
        → on_line l o (λ line qs. in_front l (read line) (section_of read n (suc l) qs))
        ≡ valued (all_in read (with_line o (lines_in n))) (after (on_line l o (λ line qs. in_front l (passes (read line)) (section_of (λ x. passes (read x)) n (suc l) qs))))
    by None deep = refl
    by (Some r) deep = at (read r.0) r.1 (deep r.1)

-- as many as the lines
section-count : {X : Type 0} (read : List ℕ → Result X Misread) (n l : ℕ) (ps : List (List ℕ)) (x : List X × List (List ℕ)) → section_of read n l ps ≡ Ok x → length x.0 ≡ n
section-count read zero l ps x h = let same : ([], ps) ≡ x = cc in sym (ap (λ y. length y.0) same)
section-count {X} read (suc n) l ps x h = by (next_line ps) (section-count read n (suc l)) h
  where
    at : (r : Result X Misread) (qs : List (List ℕ)) (s : Result (List X × List (List ℕ)) Stop) → section_of read n (suc l) qs ≡ s → ((y : List X × List (List ℕ)) → section_of read n (suc l) qs ≡ Ok y → length y.0 ≡ n) → in_front l r s ≡ Ok x → length x.0 ≡ suc n
    at (Err p) qs s e deep h = let z : ◌≡◌ {A = ℕ} 0 1 = cc in absurd (omega arith)
    at (Ok v) qs (Err s) e deep h = let z : ◌≡◌ {A = ℕ} 0 1 = cc in absurd (omega arith)
    at (Ok v) qs (Ok y) e deep h = let same : (v ∷ y.0, y.1) ≡ x = cc in sym (ap (λ y. length y.0) same) ∙ ap suc (deep y e)

    by : (o : Option (List ℕ × List (List ℕ))) → ((qs : List (List ℕ)) (y : List X × List (List ℕ)) → section_of read n (suc l) qs ≡ Ok y → length y.0 ≡ n)
        → on_line l o (λ line qs. in_front l (read line) (section_of read n (suc l) qs)) ≡ Ok x → length x.0 ≡ suc n
    by None deep h = let z : ◌≡◌ {A = ℕ} 0 1 = cc in absurd (omega arith)
    by (Some r) deep h = at (read r.0) r.1 (section_of read n (suc l) r.1) refl (deep r.1) h

postings-count : (n : ℕ) (keys : List Key) (balances : List ℕ) → length keys ≡ n → length balances ≡ n → length (postings keys balances) ≡ n
postings-count n [] balances a b = a
postings-count n (k ∷ keys) [] a b = let z : ◌≡◌ {A = ℕ} 0 1 = omega arith in absurd (omega arith)
postings-count zero (k ∷ keys) (x ∷ balances) a b = absurd (omega arith)
postings-count (suc n) (k ∷ keys) (x ∷ balances) a b = ap suc (postings-count n keys balances (omega arith) (omega arith))

then_ok : {X Y : Type 0} (f : X → Result Y Stop) {r : Result X Stop} (x : X) → r ≡ Ok x → and_then r f ≡ f x
then_ok f x is = ap (λ r. and_then r f) is

then-err : {X Y : Type 0} (f : X → Result Y Stop) {r : Result X Stop} (s : Stop) → r ≡ Err s → and_then r f ≡ Err s
then-err f s is = ap (λ r. and_then r f) is

ended-as : {X : Type 0} (x : X) (l : ℕ) (ps : List (List ℕ)) (u : Unit {0}) → Ok u ≡ ended l ps tt → ended l ps x ≡ Ok x
ended-as x l [] u h = let z : ◌≡◌ {A = ℕ} 0 1 = cc in absurd (omega arith)
ended-as x l ([] ∷ []) u h = refl
ended-as x l ((b ∷ bs) ∷ []) u h = let z : ◌≡◌ {A = ℕ} 0 1 = cc in absurd (omega arith)
ended-as x l ([] ∷ q ∷ ps) u h = let z : ◌≡◌ {A = ℕ} 0 1 = cc in absurd (omega arith)
ended-as x l ((b ∷ bs) ∷ q ∷ ps) u h = let z : ◌≡◌ {A = ℕ} 0 1 = cc in absurd (omega arith)

open-as : {X : Type 0} (x : X) (l : ℕ) (ps : List (List ℕ)) (s : Stop) → ◌≡◌ {A = Result (Unit {0}) Stop} (Err s) (ended l ps tt) → ended l ps x ≡ Err s
open-as x l [] s h = let same : s ≡ missing l = cc in ap Err (sym same)
open-as x l ([] ∷ []) s h = let z : ◌≡◌ {A = ℕ} 0 1 = cc in absurd (omega arith)
open-as x l ((b ∷ bs) ∷ []) s h = let same : s ≡ missing l = cc in ap Err (sym same)
open-as x l ([] ∷ q ∷ ps) s h = let same : s ≡ missing l = cc in ap Err (sym same)
open-as x l ((b ∷ bs) ∷ q ∷ ps) s h = let same : s ≡ missing l = cc in ap Err (sym same)

-- ---- the lines after the first, section by section

module _ (h : PlainHead) (ps : List (List ℕ)) where
  pub stopped-first : (s : Stop) → passed (λ line. passes (investee_of line)) h.investees 2 ps ≡ Err s → Err s ≡ body_of h ps
  stopped-first s a = sym (then-err _ s (section-by investee_of h.investees 2 ps ∙ ap (valued _) a))

  module _ (qs : List (List ℕ)) (l : ℕ) (a : passed (λ line. passes (investee_of line)) h.investees 2 ps ≡ Ok qs) (e : l ≡ 2 + h.investees) where
    investees : section_of investee_of h.investees 2 ps ≡ Ok (all_in investee_of (lines_in h.investees ps), qs)
    investees = section-by investee_of h.investees 2 ps ∙ ap (valued _) a

    keys-by : (r : Result (List (List ℕ)) Stop) → passed (λ line. passes (key_of line)) h.posts l qs ≡ r → section_of key_of h.posts (2 + h.investees) qs ≡ valued (all_in key_of (lines_in h.posts qs)) r
    keys-by r b = ap (λ l. section_of key_of h.posts l qs) (sym e) ∙ section-by key_of h.posts l qs ∙ ap (valued _) b

    pub stopped-second : (s : Stop) → passed (λ line. passes (key_of line)) h.posts l qs ≡ Err s → Err s ≡ body_of h ps
    stopped-second s b = sym (then_ok _ _ investees ∙ then-err _ s (keys-by (Err s) b))

    module _ (rs : List (List ℕ)) (m : ℕ) (b : passed (λ line. passes (key_of line)) h.posts l qs ≡ Ok rs) (f : m ≡ l + h.posts) where
      keys : section_of key_of h.posts (2 + h.investees) qs ≡ Ok (all_in key_of (lines_in h.posts qs), rs)
      keys = keys-by (Ok rs) b

      balances-by : (r : Result (List (List ℕ)) Stop) → passed (λ line. passes (balance_of line)) h.posts m rs ≡ r → section_of balance_of h.posts (2 + h.investees + h.posts) rs ≡ valued (all_in balance_of (lines_in h.posts rs)) r
      balances-by r c = ap (λ l. section_of balance_of h.posts l rs) (sym (f ∙ ap (λ l. l + h.posts) e)) ∙ section-by balance_of h.posts m rs ∙ ap (valued _) c

      pub stopped-third : (s : Stop) → passed (λ line. passes (balance_of line)) h.posts m rs ≡ Err s → Err s ≡ body_of h ps
      stopped-third s c = sym (then_ok _ _ investees ∙ then_ok _ _ keys ∙ then-err _ s (balances-by (Err s) c))

      module _ (ss : List (List ℕ)) (n : ℕ) (c : passed (λ line. passes (balance_of line)) h.posts m rs ≡ Ok ss) (g : n ≡ m + h.posts) where
        balances : section_of balance_of h.posts (2 + h.investees + h.posts) rs ≡ Ok (all_in balance_of (lines_in h.posts rs), ss)
        balances = balances-by (Ok ss) c

        last : n ≡ 2 + h.investees + h.posts + h.posts
        last = g ∙ ap (λ l. l + h.posts) (f ∙ ap (λ l. l + h.posts) e)

        pub stopped-last : (s : Stop) → ◌≡◌ {A = Result (Unit {0}) Stop} (Err s) (ended n ss tt) → Err s ≡ body_of h ps
        stopped-last s d = sym (then_ok _ _ investees ∙ then_ok _ _ keys ∙ then_ok _ _ balances ∙ open-as _ (2 + h.investees + h.posts + h.posts) ss s (d ∙ ap (λ l. ended l ss tt) last))

        pub body-counts : (h.investees ≡ length (all_in investee_of (lines_in h.investees ps))) × (h.posts ≡ length (postings (all_in key_of (lines_in h.posts qs)) (all_in balance_of (lines_in h.posts rs))))
        body-counts = (
          sym (section-count investee_of h.investees 2 ps _ investees),
          sym (postings-count h.posts _ _ (section-count key_of h.posts (2 + h.investees) qs _ keys) (section-count balance_of h.posts (2 + h.investees + h.posts) rs _ balances)),
        )

        pub body-read : (u : Unit {0}) → Ok u ≡ ended n ss tt
            → Ok (record { guide = h.guide; investees = all_in investee_of (lines_in h.investees ps); posts = postings (all_in key_of (lines_in h.posts qs)) (all_in balance_of (lines_in h.posts rs)) }) ≡ body_of h ps
        body-read u d = sym (then_ok _ _ investees ∙ then_ok _ _ keys ∙ then_ok _ _ balances ∙ ended-as _ (2 + h.investees + h.posts + h.posts) ss u (d ∙ ap (λ l. ended l ss tt) last))
