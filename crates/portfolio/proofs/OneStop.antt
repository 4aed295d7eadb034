-- Bytes have at most one place where they are refused, and none where they are laid out.
use Rattle.std.proofs.Common.{◌≡◌, ℕ, zero, suc, ◌+◌, ◌≤◌, List, [], ◌∷◌, length, take, drop, Some, None, Ok, Option, Result, sym, refl, ap, ◌∙◌, subst, arith}
use Rattle.entries.specs.Stops.{stop_at}
use Rattle.entries.specs.declared.stop.Stop.{Stop}
use Rattle.faults.specs.Refusals.{fault}
use Rattle.faults.specs.declared.Fault.{Fault}
use Rattle.faults.specs.declared.Refusal.TheVariants.{FieldNotAsLaidOut}
use Rattle.lines.specs.Fields.{pieces}
use Rattle.lines.specs.Places.{FieldsOfNumbers}
use Rattle.portfolio_lines.specs.Lines.{number_line}
use Rattle.portfolio_lines.specs.Misreads.{place_of}
use Rattle.portfolio_lines.specs.Numbers.{number_at, numbers_of_first_line, investees_place, posts_place, guide_place}
use Rattle.portfolio_lines.specs.Places.{LineOf, WrongLine}
use Rattle.portfolio_lines.specs.declared.misread.Misread.{Misread}
use Rattle.portfolio_lines.proofs.Places.{Shown, one-way, no-way, row-shown}
use Rattle.portfolio_lines.proofs.Texts.{row_reads}
use Rattle.portfolio.specs.Files.{next_line}
use Rattle.portfolio.specs.Refused.{Kind, head, form_of, kinds_after, IfLine, AsLaidOut, MissingOrWrong, NotAsLaidOut, StopsAtFirst, FirstLine, WithinLimits, Refused, beyond, at_first_line, at_later_line}
use Rattle.portfolio.proofs.Sections.{next-is}

-- ---- the first line, or the lines after it

data FirstOf (kind : Kind) (kinds : List Kind) (l : ℕ) (ps : List (List ℕ)) (s : Stop) : Type 0 where
  here : s.line ≡ l → MissingOrWrong kind (next_line ps) s.fault → FirstOf kind kinds l ps s
  there : (r : List ℕ × List (List ℕ)) → next_line ps ≡ Some r → LineOf (form_of kind) r.0 → StopsAtFirst kinds (suc l) r.1 s → FirstOf kind kinds l ps s

first-of : (kind : Kind) (kinds : List Kind) (l : ℕ) (ps : List (List ℕ)) (s : Stop) → StopsAtFirst (kind ∷ kinds) l ps s → FirstOf kind kinds l ps s
first-of kind kinds l ps s t = by t.before t.within t.line_is t.each_before t.this_one
  where
    line : (n : ℕ) → suc n ≤ suc (length kinds) → s.line ≡ l + suc n → NotAsLaidOut (drop n kinds) (drop (suc n) ps) s.fault
        → (o : Option (List ℕ × List (List ℕ))) → next_line ps ≡ o → IfLine o (λ line qs. LineOf (form_of kind) line × AsLaidOut (take n kinds) qs) → FirstOf kind kinds l ps s
    line n within is this None cut each = absurd each
    line n within is this (Some r) cut each =
        there r cut each.0
        (record { before = n; within = omega (arith, within); line_is = omega (arith, is); each_before = each.1; this_one = subst (λ qs. NotAsLaidOut (drop n kinds) (drop (suc n) qs) s.fault) (next-is ps r cut) this })

    by : (n : ℕ) → n ≤ suc (length kinds) → s.line ≡ l + n → AsLaidOut (take n (kind ∷ kinds)) ps → NotAsLaidOut (drop n (kind ∷ kinds)) (drop n ps) s.fault → FirstOf kind kinds l ps s
    by zero within is each this = here (omega (arith, is)) this
    by (suc n) within is each this = line n within is this (next_line ps) refl each

record AtEnd (l : ℕ) (ps : List (List ℕ)) (s : Stop) : Type 0 where
  pub line_is : s.line ≡ l
  pub not_ended : NotAsLaidOut [] ps s.fault

at-end : (l : ℕ) (ps : List (List ℕ)) (s : Stop) → StopsAtFirst [] l ps s → AtEnd l ps s
at-end l ps s t = by t.before t.within t.line_is t.this_one
  where
    by : (n : ℕ) → n ≤ 0 → s.line ≡ l + n → NotAsLaidOut (drop n []) (drop n ps) s.fault → AtEnd l ps s
    by zero within is this = record { line_is = omega (arith, is); not_ended = this }
    by (suc n) within is this = absurd (omega (arith, within))

-- ---- at most one

same-stop : (s t : Stop) → s.line ≡ t.line → s.fault ≡ t.fault → s ≡ t
same-stop s t line fault = λ i. record { line = line i; fault = fault i }

same-fault : (kind : Kind) (o : Option (List ℕ × List (List ℕ))) (f g : Fault) → MissingOrWrong kind o f → MissingOrWrong kind o g → f ≡ g
same-fault kind None f g a b = a ∙ sym b
same-fault kind (Some r) f g (d, wrong, is) (e, wrong₁, is₁) = is ∙ ap (λ e. fault FieldNotAsLaidOut (place_of e) 0) (one-way (form_of kind) r.0 d e wrong wrong₁) ∙ sym is₁

wrong-reads : (kind : Kind) (o : Option (List ℕ × List (List ℕ))) (r : List ℕ × List (List ℕ)) (f : Fault) → MissingOrWrong kind o f → o ≡ Some r → LineOf (form_of kind) r.0 → ⊥
wrong-reads kind None r f a cut reads = let z : ◌≡◌ {A = ℕ} 0 1 = cc in absurd (omega arith)
wrong-reads kind (Some q) r f (e, wrong, is) cut reads =
    let same : q ≡ r = cc in
    no-way (form_of kind) r.0 e reads (subst (λ p. WrongLine (form_of kind) p.0 e) same wrong)

pub one-stop : (kinds : List Kind) (l : ℕ) (ps : List (List ℕ)) (s t : Stop) → StopsAtFirst kinds l ps s → StopsAtFirst kinds l ps t → s ≡ t
one-stop [] l ps s t a b =
    let x = at-end l ps s a in
    let y = at-end l ps t b in
    same-stop s t (x.line_is ∙ sym y.line_is) (x.not_ended.1 ∙ sym y.not_ended.1)
one-stop (kind ∷ kinds) l ps s t a b = by (λ qs x y. one-stop kinds (suc l) qs s t x y) (first-of kind kinds l ps s a) (first-of kind kinds l ps t b)
  where
    by : ((qs : List (List ℕ)) → StopsAtFirst kinds (suc l) qs s → StopsAtFirst kinds (suc l) qs t → s ≡ t) → FirstOf kind kinds l ps s → FirstOf kind kinds l ps t → s ≡ t
    by deep (here line wrong) (here line₁ wrong₁) = same-stop s t (line ∙ sym line₁) (same-fault kind (next_line ps) s.fault t.fault wrong wrong₁)
    by deep (here line wrong) (there r cut reads later) = absurd (wrong-reads kind (next_line ps) r s.fault wrong cut reads)
    by deep (there r cut reads later) (here line wrong) = absurd (wrong-reads kind (next_line ps) r t.fault wrong cut reads)
    by deep (there r cut reads later) (there q cut₁ reads₁ later₁) =
        let z : ◌≡◌ {A = Option (List ℕ × List (List ℕ))} (Some q) (Some r) = sym cut₁ ∙ cut in
        let same : q ≡ r = cc in
        deep r.1 later (subst (λ p. StopsAtFirst kinds (suc l) p.1 t) same later₁)

-- ---- none where the lines are as laid out, to the end

abbrev pub ToTheEnd : List Kind → List (List ℕ) → Type 0
ToTheEnd [] ps = ps ≡ [] ∷ []
ToTheEnd (kind ∷ kinds) ps = IfLine (next_line ps) (λ line qs. LineOf (form_of kind) line × ToTheEnd kinds qs)

pub no-stop : (kinds : List Kind) (l : ℕ) (ps : List (List ℕ)) (s : Stop) → ToTheEnd kinds ps → StopsAtFirst kinds l ps s → ⊥
no-stop [] l ps s all t = (at-end l ps s t).not_ended.0 all
no-stop (kind ∷ kinds) l ps s all t = by (λ qs a b. no-stop kinds (suc l) qs s a b) (first-of kind kinds l ps s t)
  where
    at : (o : Option (List ℕ × List (List ℕ))) (r : List ℕ × List (List ℕ)) → o ≡ Some r → IfLine o (λ line qs. LineOf (form_of kind) line × ToTheEnd kinds qs) → ToTheEnd kinds r.1
    at None r cut all = absurd all
    at (Some q) r cut all = let same : q ≡ r = cc in subst (λ p. ToTheEnd kinds p.1) same all.1

    reads : (o : Option (List ℕ × List (List ℕ))) → next_line ps ≡ o → IfLine o (λ line qs. LineOf (form_of kind) line × ToTheEnd kinds qs) → MissingOrWrong kind o s.fault → ⊥
    reads None cut all wrong = all
    reads (Some q) cut all wrong = wrong-reads kind (Some q) q s.fault wrong refl all.0

    by : ((qs : List (List ℕ)) → ToTheEnd kinds qs → StopsAtFirst kinds (suc l) qs s → ⊥) → FirstOf kind kinds l ps s → ⊥
    by deep (here line wrong) = reads (next_line ps) refl all wrong
    by deep (there r cut read later) = deep r.1 (at (next_line ps) r cut all) later

-- ---- files

-- line 1 is as laid out, and so are the lines that it calls for, to the end
abbrev pub AllLaidOut : List ℕ → Type 0
AllLaidOut bytes = (h : FirstLine bytes) × ToTheEnd (kinds_after h.investees h.posts) h.after

-- it is so in one way
pub record Alike {bytes : List ℕ} (h k : FirstLine bytes) : Type 0 where
  pub investees : h.investees ≡ k.investees
  pub posts : h.posts ≡ k.posts
  pub guide : h.guide ≡ k.guide
  pub after : h.after ≡ k.after

module _ (bytes : List ℕ) where
  first-reads : (h : FirstLine bytes) → number_line numbers_of_first_line h.line ≡ Ok (h.investees ∷ h.posts ∷ h.guide ∷ [])
  first-reads h = row_reads numbers_of_first_line h.line (h.investees ∷ h.posts ∷ h.guide ∷ []) (omega arith) h.numbers_are

  pub alike : (h k : FirstLine bytes) → Alike h k
  alike h k =
      let there : ◌≡◌ {A = Option (List ℕ × List (List ℕ))} (Some (h.line, h.after)) (Some (k.line, k.after)) = sym h.is_there ∙ k.is_there in
      let pair : ◌≡◌ {A = List ℕ × List (List ℕ)} (h.line, h.after) (k.line, k.after) = cc in
      let reads : ◌≡◌ {A = Result (List ℕ) Misread} (Ok (h.investees ∷ h.posts ∷ h.guide ∷ [])) (Ok (k.investees ∷ k.posts ∷ k.guide ∷ [])) = sym (first-reads h) ∙ ap (λ r. number_line numbers_of_first_line r.0) pair ∙ first-reads k in
      let numbers : ◌≡◌ {A = List ℕ} (h.investees ∷ h.posts ∷ h.guide ∷ []) (k.investees ∷ k.posts ∷ k.guide ∷ []) = cc in
      record { investees = ap (number_at investees_place) numbers; posts = ap (number_at posts_place) numbers; guide = ap (number_at guide_place) numbers; after = ap (λ r. r.1) pair }

  same-kinds : {h k : FirstLine bytes} → Alike h k → kinds_after h.investees h.posts ≡ kinds_after k.investees k.posts
  same-kinds a = λ t. kinds_after (a.investees t) (a.posts t)

  pub not-both : (h : FirstLine bytes) (f : Fault) → MissingOrWrong head (next_line (pieces 10 bytes)) f → ⊥
  not-both h f wrong =
      wrong-reads head (next_line (pieces 10 bytes)) (h.line, h.after) f wrong h.is_there
      (subst (Shown (FieldsOfNumbers numbers_of_first_line) h.line) (first-reads h) (row-shown numbers_of_first_line h.line))

  one-later : (h k : FirstLine bytes) (s t : Stop) → StopsAtFirst (kinds_after h.investees h.posts) 2 h.after s → StopsAtFirst (kinds_after k.investees k.posts) 2 k.after t → s ≡ t
  one-later h k s t a b =
      let same = alike k h in
      one-stop (kinds_after h.investees h.posts) 2 h.after s t a
      (subst (λ kinds. StopsAtFirst kinds 2 h.after t) (same-kinds same) (subst (λ ps. StopsAtFirst (kinds_after k.investees k.posts) 2 ps t) same.after b))

  pub one-refusal : (s t : Stop) → Refused bytes s → Refused bytes t → s ≡ t
  one-refusal s t (beyond out) (beyond out₁) = refl
  one-refusal s t (beyond out) (at_first_line g within wrong) = absurd (out within)
  one-refusal s t (beyond out) (at_later_line u h within stops) = absurd (out within)
  one-refusal s t (at_first_line f within wrong) (beyond out) = absurd (out within)
  one-refusal s t (at_first_line f within wrong) (at_first_line g within₁ wrong₁) = ap (stop_at 1) (same-fault head (next_line (pieces 10 bytes)) f g wrong wrong₁)
  one-refusal s t (at_first_line f within wrong) (at_later_line u h within₁ stops) = absurd (not-both h f wrong)
  one-refusal s t (at_later_line u h within stops) (beyond out) = absurd (out within)
  one-refusal s t (at_later_line u h within stops) (at_first_line g within₁ wrong) = absurd (not-both h g wrong)
  one-refusal s t (at_later_line u h within stops) (at_later_line v k within₁ stops₁) = one-later h k u v stops stops₁

  pub no-refusal : (s : Stop) → WithinLimits bytes → AllLaidOut bytes → Refused bytes s → ⊥
  no-refusal s within all (beyond out) = out within
  no-refusal s within all (at_first_line f within₁ wrong) = not-both all.0 f wrong
  no-refusal s within all (at_later_line u h within₁ stops) =
      let same = alike h all.0 in
      no-stop (kinds_after all.0.investees all.0.posts) 2 all.0.after u all.1
      (subst (λ kinds. StopsAtFirst kinds 2 all.0.after u) (same-kinds same) (subst (λ ps. StopsAtFirst (kinds_after h.investees h.posts) 2 ps u) same.after stops))
