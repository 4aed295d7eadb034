-- Where the layout is refused: the first line that is not as laid out, or a file beyond its limits.
use Rattle.std.proofs.Common.{◌≡◌, ℕ, zero, suc, ◌+◌, ◌≤◌, Bool, true, false, leb, ltb, List, [], ◌∷◌, ◌++◌, length, take, drop, replicate, is_some, Some, None, Ok, Err, Option, Result, sym, refl, ap, ◌∙◌, subst, ⊎_elim, append-nil, arith}
use Rattle.std.proofs.lemmas.Bool.{cases_Bool, cases_lt, leb-true, le-leb, lt-ltb, le-ltb, and_parts, and_from, cond-true, cond-false}
use Rattle.entries.specs.Entries.{PlainEntry, PlainPortfolio}
use Rattle.entries.specs.Guides.{guide_numbered}
use Rattle.entries.specs.Stops.{stop_at}
use Rattle.entries.specs.declared.guide.Guide.{Guide}
use Rattle.entries.specs.declared.stop.Stop.{Stop}
use Rattle.faults.specs.Refusals.{fault}
use Rattle.faults.specs.declared.Fault.{Fault}
use Rattle.faults.specs.declared.Refusal.TheVariants.{FieldNotAsLaidOut, LineMissing}
use Rattle.lines.specs.Fields.{pieces}
use Rattle.lines.specs.Places.{FieldsOfNumbers}
use Rattle.lines.specs.Render.{LineOfNumbers}
use Rattle.portfolio_lines.specs.Counted.{and_then}
use Rattle.portfolio_lines.specs.Lines.{number_line, investee_of, key_of, balance_of}
use Rattle.portfolio_lines.specs.Misreads.{place_of}
use Rattle.portfolio_lines.specs.Numbers.{number_at, numbers_of_first_line, investees_place, posts_place, guide_place}
use Rattle.portfolio_lines.specs.Places.{LineOf, WrongLine}
use Rattle.portfolio_lines.specs.declared.misread.Misread.{Misread}
use Rattle.portfolio_lines.specs.declared.posts.Key.{Key}
use Rattle.portfolio_lines.proofs.Places.{Shown, row-shown, key-shown, balance-shown, investee-shown}
use Rattle.portfolio_lines.proofs.Texts.{row_line, at_all}
use Rattle.portfolio.specs.Files.{most_bytes, most_investees, most_posts, missing, not_laid_out, next_line}
use Rattle.portfolio.specs.Layout.{PlainHead, on_line, in_front, section_of, ended, postings, within_limits, head_by, head_from, head_of, body_of, layout_of}
use Rattle.portfolio.specs.Refused.{Kind, head, investee, key, balance, form_of, kinds_after, IfLine, AsLaidOut, MissingOrWrong, NotAsLaidOut, StopsAtFirst, FirstLine, WithinLimits, Refused, beyond, at_first_line, at_later_line, RefusesRightly, OneStop}
use Rattle.portfolio.specs.Text.{IsTextOf}
use Rattle.portfolio.proofs.Laws.{then_ok, ended-ok, text-from, text-gives}
use Rattle.portfolio.proofs.OneStop.{ToTheEnd, AllLaidOut, alike, not-both, one-refusal, no-refusal}
use Rattle.portfolio.proofs.Sections.{next-is}

-- ---- one line

-- the first line is as laid out, and a later one is not
later : (kind : Kind) (kinds : List Kind) (l : ℕ) (ps : List (List ℕ)) (r : List ℕ × List (List ℕ)) (s : Stop) → next_line ps ≡ Some r → LineOf (form_of kind) r.0 → StopsAtFirst kinds (suc l) r.1 s → StopsAtFirst (kind ∷ kinds) l ps s
later kind kinds l ps r s cut reads t =
    record {
      before = suc t.before;
      within = omega (arith, t.within);
      line_is = omega (arith, t.line_is);
      each_before = subst (λ o. IfLine o (λ line qs. LineOf (form_of kind) line × AsLaidOut (take t.before kinds) qs)) (sym cut) (reads, t.each_before);
      this_one = subst (λ qs. NotAsLaidOut (drop t.before kinds) (drop (suc t.before) qs) s.fault) (sym (next-is ps r cut)) t.this_one;
    }

here-missing : (kind : Kind) (kinds : List Kind) (l : ℕ) (ps : List (List ℕ)) → next_line ps ≡ None → StopsAtFirst (kind ∷ kinds) l ps (missing l)
here-missing kind kinds l ps none =
    record { before = 0; within = omega arith; line_is = omega arith; each_before = tt; this_one = subst (λ o. MissingOrWrong kind o ((missing l).fault)) (sym none) refl }

here-wrong : (kind : Kind) (kinds : List Kind) (l : ℕ) (ps : List (List ℕ)) (r : List ℕ × List (List ℕ)) (e : Misread) → next_line ps ≡ Some r → WrongLine (form_of kind) r.0 e → StopsAtFirst (kind ∷ kinds) l ps (not_laid_out l (place_of e))
here-wrong kind kinds l ps r e cut wrong =
    record { before = 0; within = omega arith; line_is = omega arith; each_before = tt; this_one = subst (λ o. MissingOrWrong kind o ((not_laid_out l (place_of e)).fault)) (sym cut) (e, wrong, refl) }

err-is : {X : Type 0} (a b : Stop) → ◌≡◌ {A = Result X Stop} (Err a) (Err b) → a ≡ b
err-is a b h = cc

pub never : {X : Type 0} (x : X) (s : Stop) → ◌≡◌ {A = Result X Stop} (Ok x) (Err s) → ⊥
never x s h = let z : ◌≡◌ {A = ℕ} 0 1 = cc in absurd (omega arith)

-- ---- lines of one kind, and the lines after them

module _ {X : Type 0} (read : List ℕ → Result X Misread) (kind : Kind) (shown : (line : List ℕ) → Shown (form_of kind) line (read line)) (more : List Kind) (s : Stop) where
  pub section-stops : (n l : ℕ) (ps : List (List ℕ)) → section_of read n l ps ≡ Err s → StopsAtFirst (replicate n kind ++ more) l ps s
  section-stops zero l ps h = absurd (never _ s h)
  section-stops (suc n) l ps h = by (next_line ps) refl (section-stops n (suc l)) h
    where
      at-line : (r : List ℕ × List (List ℕ)) → next_line ps ≡ Some r → (section_of read n (suc l) r.1 ≡ Err s → StopsAtFirst (replicate n kind ++ more) (suc l) r.1 s)
          → (o : Result X Misread) → read r.0 ≡ o → (t : Result (List X × List (List ℕ)) Stop) → section_of read n (suc l) r.1 ≡ t → in_front l o t ≡ Err s → StopsAtFirst (kind ∷ (replicate n kind ++ more)) l ps s
      at-line r cut deep (Err p) e t q h = subst (StopsAtFirst (kind ∷ (replicate n kind ++ more)) l ps) (err-is _ s h) (here-wrong kind _ l ps r p cut (subst (Shown (form_of kind) r.0) e (shown r.0)))
      at-line r cut deep (Ok x) e (Err z) q h = later kind _ l ps r s cut (subst (Shown (form_of kind) r.0) e (shown r.0)) (deep (q ∙ ap Err (err-is z s h)))
      at-line r cut deep (Ok x) e (Ok z) q h = absurd (never _ s h)

      by : (o : Option (List ℕ × List (List ℕ))) → next_line ps ≡ o → ((qs : List (List ℕ)) → section_of read n (suc l) qs ≡ Err s → StopsAtFirst (replicate n kind ++ more) (suc l) qs s)
          → on_line l o (λ line qs. in_front l (read line) (section_of read n (suc l) qs)) ≡ Err s → StopsAtFirst (kind ∷ (replicate n kind ++ more)) l ps s
      by None cut deep h = subst (StopsAtFirst (kind ∷ (replicate n kind ++ more)) l ps) (err-is _ s h) (here-missing kind _ l ps cut)
      by (Some r) cut deep h = at-line r cut (deep r.1) (read r.0) refl (section_of read n (suc l) r.1) refl h

-- what lines of one kind leave standing
module _ {X : Type 0} (read : List ℕ → Result X Misread) (kind : Kind) (shown : (line : List ℕ) → Shown (form_of kind) line (read line)) (more : List Kind) (P : List Kind → ℕ → List (List ℕ) → Type 0)
    (on : (kinds : List Kind) (l : ℕ) (ps : List (List ℕ)) (r : List ℕ × List (List ℕ)) → next_line ps ≡ Some r → LineOf (form_of kind) r.0 → P kinds (suc l) r.1 → P (kind ∷ kinds) l ps) where
  pub section-passes : (n l : ℕ) (ps : List (List ℕ)) (y : List X × List (List ℕ)) → section_of read n l ps ≡ Ok y → P more (l + n) y.1 → P (replicate n kind ++ more) l ps
  section-passes zero l ps y h t =
      let pair : ◌≡◌ {A = List X × List (List ℕ)} ([], ps) y = cc in
      let same : l + 0 ≡ l = omega arith in
      subst (λ m. P more m ps) same (subst (λ y. P more (l + 0) y.1) (sym pair) t)
  section-passes (suc n) l ps y h t = by (next_line ps) refl (section-passes n (suc l)) h
    where
      at-line : (r : List ℕ × List (List ℕ)) → next_line ps ≡ Some r → ((z : List X × List (List ℕ)) → section_of read n (suc l) r.1 ≡ Ok z → P more (suc l + n) z.1 → P (replicate n kind ++ more) (suc l) r.1)
          → (o : Result X Misread) → read r.0 ≡ o → (t : Result (List X × List (List ℕ)) Stop) → section_of read n (suc l) r.1 ≡ t → in_front l o t ≡ Ok y → P (kind ∷ (replicate n kind ++ more)) l ps
      at-line r cut deep (Err p) e u q h = absurd (never _ _ (sym h))
      at-line r cut deep (Ok x) e (Err z) q h = absurd (never _ _ (sym h))
      at-line r cut deep (Ok x) e (Ok z) q h =
          let pair : ◌≡◌ {A = List X × List (List ℕ)} (x ∷ z.0, z.1) y = cc in
          let same : l + suc n ≡ suc l + n = omega arith in
          on _ l ps r cut (subst (Shown (form_of kind) r.0) e (shown r.0)) (deep z q (subst (λ m. P more m z.1) same (subst (λ y. P more (l + suc n) y.1) (sym pair) t)))

      by : (o : Option (List ℕ × List (List ℕ))) → next_line ps ≡ o → ((qs : List (List ℕ)) (z : List X × List (List ℕ)) → section_of read n (suc l) qs ≡ Ok z → P more (suc l + n) z.1 → P (replicate n kind ++ more) (suc l) qs)
          → on_line l o (λ line qs. in_front l (read line) (section_of read n (suc l) qs)) ≡ Ok y → P (kind ∷ (replicate n kind ++ more)) l ps
      by None cut deep h = absurd (never _ _ (sym h))
      by (Some r) cut deep h = at-line r cut (deep r.1) (read r.0) refl (section_of read n (suc l) r.1) refl h

-- they are passed by what stops after them, and by what ends after them
section-then-stops : {X : Type 0} (read : List ℕ → Result X Misread) (kind : Kind) → ((line : List ℕ) → Shown (form_of kind) line (read line)) → (more : List Kind) (s : Stop) (n l : ℕ) (ps : List (List ℕ)) (y : List X × List (List ℕ))
    → section_of read n l ps ≡ Ok y → StopsAtFirst more (l + n) y.1 s → StopsAtFirst (replicate n kind ++ more) l ps s
section-then-stops read kind shown more s = section-passes read kind shown more (λ kinds l ps. StopsAtFirst kinds l ps s) (λ kinds l ps r cut reads t. later kind kinds l ps r s cut reads t)

line-then-ends : (kind : Kind) (kinds : List Kind) (ps : List (List ℕ)) (r : List ℕ × List (List ℕ)) → next_line ps ≡ Some r → LineOf (form_of kind) r.0 → ToTheEnd kinds r.1 → ToTheEnd (kind ∷ kinds) ps
line-then-ends kind kinds ps r cut reads all = subst (λ o. IfLine o (λ line qs. LineOf (form_of kind) line × ToTheEnd kinds qs)) (sym cut) (reads, all)

section-then-ends : {X : Type 0} (read : List ℕ → Result X Misread) (kind : Kind) → ((line : List ℕ) → Shown (form_of kind) line (read line)) → (more : List Kind) (n l : ℕ) (ps : List (List ℕ)) (y : List X × List (List ℕ))
    → section_of read n l ps ≡ Ok y → ToTheEnd more y.1 → ToTheEnd (replicate n kind ++ more) ps
section-then-ends read kind shown more = section-passes read kind shown more (λ kinds l ps. ToTheEnd kinds ps) (λ kinds l ps r cut reads t. line-then-ends kind kinds ps r cut reads t)

-- ---- the lines after the first

ended-stops : {X : Type 0} (l : ℕ) (ps : List (List ℕ)) (x : X) (s : Stop) → ended l ps x ≡ Err s → StopsAtFirst [] l ps s
ended-stops l ps x s h = by ps h
  where
    at : (ps : List (List ℕ)) → (ps ≡ [] ∷ [] → ⊥) → missing l ≡ s → StopsAtFirst [] l ps s
    at ps some is = subst (StopsAtFirst [] l ps) is (record { before = 0; within = omega arith; line_is = omega arith; each_before = tt; this_one = (some, refl) })

    by : (ps : List (List ℕ)) → ended l ps x ≡ Err s → StopsAtFirst [] l ps s
    by [] h = at [] (λ e. omega (arith, ap length e)) (err-is _ s h)
    by ([] ∷ []) h = absurd (never _ s h)
    by ((b ∷ bs) ∷ []) h = at ((b ∷ bs) ∷ []) (λ e. let z : ◌≡◌ {A = ℕ} 0 1 = cc in absurd (omega arith)) (err-is _ s h)
    by ([] ∷ q ∷ ps) h = at ([] ∷ q ∷ ps) (λ e. omega (arith, ap length e)) (err-is _ s h)
    by ((b ∷ bs) ∷ q ∷ ps) h = at ((b ∷ bs) ∷ q ∷ ps) (λ e. omega (arith, ap length e)) (err-is _ s h)

module _ (h : PlainHead) (s : Stop) where
  abbrev portfolio_of : List PlainEntry → List Key → List ℕ → PlainPortfolio
  portfolio_of entries keys balances = record { guide = h.guide; investees = entries; posts = postings keys balances }

  abbrev third_of : List PlainEntry → List Key → List ℕ × List (List ℕ) → Result PlainPortfolio Stop
  third_of a b c = ended (2 + h.investees + h.posts + h.posts) c.1 (portfolio_of a b c.0)

  abbrev second_of : List PlainEntry → List Key × List (List ℕ) → Result PlainPortfolio Stop
  second_of a b = and_then (section_of balance_of h.posts (2 + h.investees + h.posts) b.1) (third_of a b.0)

  abbrev first_of : List PlainEntry × List (List ℕ) → Result PlainPortfolio Stop
  first_of a = and_then (section_of key_of h.posts (2 + h.investees) a.1) (second_of a.0)

  abbrev kinds_with : List Kind → List Kind
  kinds_with last = replicate h.investees investee ++ (replicate h.posts key ++ last)

  body-stops : (ps : List (List ℕ)) → body_of h ps ≡ Err s → StopsAtFirst (kinds_after h.investees h.posts) 2 ps s
  body-stops ps k =
      subst (λ kinds. StopsAtFirst (kinds_with kinds) 2 ps s) (append-nil (replicate h.posts balance)) (first (section_of investee_of h.investees 2 ps) refl k)
    where
      third : (a : List PlainEntry) (b : List Key) (qs : List (List ℕ)) (r : Result (List ℕ × List (List ℕ)) Stop) → section_of balance_of h.posts (2 + h.investees + h.posts) qs ≡ r
          → and_then r (third_of a b) ≡ Err s → StopsAtFirst (replicate h.posts balance ++ []) (2 + h.investees + h.posts) qs s
      third a b qs (Err z) e k = section-stops balance_of balance balance-shown [] s h.posts _ qs (e ∙ ap Err (err-is z s k))
      third a b qs (Ok y) e k = section-then-stops balance_of balance balance-shown [] s h.posts _ qs y e (ended-stops _ y.1 _ s k)

      second : (a : List PlainEntry) (qs : List (List ℕ)) (r : Result (List Key × List (List ℕ)) Stop) → section_of key_of h.posts (2 + h.investees) qs ≡ r
          → and_then r (second_of a) ≡ Err s
          → StopsAtFirst (replicate h.posts key ++ (replicate h.posts balance ++ [])) (2 + h.investees) qs s
      second a qs (Err z) e k = section-stops key_of key key-shown _ s h.posts _ qs (e ∙ ap Err (err-is z s k))
      second a qs (Ok y) e k = section-then-stops key_of key key-shown _ s h.posts _ qs y e (third a y.0 y.1 _ refl k)

      first : (r : Result (List PlainEntry × List (List ℕ)) Stop) → section_of investee_of h.investees 2 ps ≡ r
          → and_then r first_of ≡ Err s → StopsAtFirst (kinds_with (replicate h.posts balance ++ [])) 2 ps s
      first (Err z) e k = section-stops investee_of investee investee-shown _ s h.investees 2 ps (e ∙ ap Err (err-is z s k))
      first (Ok y) e k = section-then-stops investee_of investee investee-shown _ s h.investees 2 ps y e (second y.0 y.1 _ refl k)

-- all of them read, and nothing follows
body-ends : (h : PlainHead) (ps : List (List ℕ)) (f : PlainPortfolio) → body_of h ps ≡ Ok f → ToTheEnd (kinds_after h.investees h.posts) ps
body-ends h ps f k =
    let (x, k₂, k₃) = then_ok (section_of investee_of h.investees 2 ps) _ f k in
    let (y, k₄, k₅) = then_ok (section_of key_of h.posts (2 + h.investees) x.1) _ f k₃ in
    let (z, k₆, k₇) = then_ok (section_of balance_of h.posts (2 + h.investees + h.posts) y.1) _ f k₅ in
    let (last, is) = ended-ok (2 + h.investees + h.posts + h.posts) z.1 (record { guide = h.guide; investees = x.0; posts = postings y.0 z.0 }) f k₇ in
    let balances = section-then-ends balance_of balance balance-shown [] h.posts _ y.1 z k₆ last in
    section-then-ends investee_of investee investee-shown _ h.investees 2 ps x k₂
    (section-then-ends key_of key key-shown _ h.posts _ x.1 y k₄ (subst (λ kinds. ToTheEnd kinds y.1) (append-nil (replicate h.posts balance)) balances))

-- ---- line 1

-- its numbers, as they are read
abbrev first-line : (bytes : List ℕ) (r : List ℕ × List (List ℕ)) → next_line (pieces 10 bytes) ≡ Some r → (ns : List ℕ) → number_line numbers_of_first_line r.0 ≡ Ok ns → FirstLine bytes
first-line bytes r cut ns reads =
    let l = row_line numbers_of_first_line r.0 ns reads in
    record {
      line = r.0;
      after = r.1;
      investees = number_at investees_place ns;
      posts = number_at posts_place ns;
      guide = number_at guide_place ns;
      is_there = cut;
      numbers_are = subst (λ ms. LineOfNumbers numbers_of_first_line ms r.0) (sym (at_all numbers_of_first_line ns l.count)) l;
    }

no-guide : (o : Option Guide) → o ≡ None → is_some o ≡ true → ⊥
no-guide o none some = let z : ◌≡◌ {A = Bool} false true = sym (ap is_some none) ∙ some in let y : ◌≡◌ {A = ℕ} 0 1 = cc in omega (arith, y)

not_within : (n m : ℕ) → n ≤ most_investees → m ≤ most_posts → within_limits n m ≡ false → ⊥
not_within n m a b f =
    let t : within_limits n m ≡ true = and_from (leb n most_investees) (leb m most_posts) (le-leb n most_investees a) (le-leb m most_posts b) in
    let z : ◌≡◌ {A = Bool} true false = sym t ∙ f in let y : ◌≡◌ {A = ℕ} 0 1 = cc in omega (arith, y)

-- ---- the file

abbrev FileShown : List ℕ → Result PlainPortfolio Stop → Type 0
FileShown bytes (Ok f) = WithinLimits bytes × AllLaidOut bytes
FileShown bytes (Err s) = Refused bytes s

module _ (bytes : List ℕ) (short : length bytes ≤ most_bytes) where
  abbrev ps : List (List ℕ)
  ps = pieces 10 bytes

  wrong-first : (f : Fault) → MissingOrWrong head (next_line ps) f → Refused bytes (stop_at 1 f)
  wrong-first f wrong =
      at_first_line f (record { short = short; few_investees = λ h. absurd (not-both bytes h f wrong); few_posts = λ h. absurd (not-both bytes h f wrong); some_guide = λ h. absurd (not-both bytes h f wrong) }) wrong

  within : (h : FirstLine bytes) → h.investees ≤ most_investees → h.posts ≤ most_posts → is_some (guide_numbered h.guide) ≡ true → WithinLimits bytes
  within h investees posts guide =
      record {
        short = short;
        few_investees = λ k. subst (λ n. n ≤ most_investees) ((alike bytes h k).investees) investees;
        few_posts = λ k. subst (λ n. n ≤ most_posts) ((alike bytes h k).posts) posts;
        some_guide = λ k. subst (λ n. is_some (guide_numbered n) ≡ true) ((alike bytes h k).guide) guide;
      }

  lines-shown : (h : FirstLine bytes) (g : Guide) → WithinLimits bytes → (x : Result PlainPortfolio Stop) → body_of (record { investees = h.investees; posts = h.posts; guide = g }) h.after ≡ x → FileShown bytes x
  lines-shown h g fits (Ok f) is = (fits, (h, body-ends (record { investees = h.investees; posts = h.posts; guide = g }) h.after f is))
  lines-shown h g fits (Err s) is = at_later_line s h fits (body-stops (record { investees = h.investees; posts = h.posts; guide = g }) s h.after is)

  numbers-shown : (h : FirstLine bytes) (o : Option Guide) → guide_numbered h.guide ≡ o → FileShown bytes (and_then (head_by h.investees h.posts o) (λ p. body_of p h.after))
  numbers-shown h None g = beyond (λ w. no-guide _ g (w.some_guide h))
  numbers-shown h (Some guide) g =
      ⊎_elim
      (λ t.
      let (a, b) = and_parts (leb h.investees most_investees) (leb h.posts most_posts) t in
      subst (λ r. FileShown bytes (and_then r (λ p. body_of p h.after))) (sym (cond-true (within_limits h.investees h.posts) _ _ t))
      (lines-shown h guide (within h (leb-true h.investees most_investees a) (leb-true h.posts most_posts b) (ap is_some g)) _ refl))
      (λ f.
      subst (λ r. FileShown bytes (and_then r (λ p. body_of p h.after))) (sym (cond-false (within_limits h.investees h.posts) _ _ f))
      (beyond (λ w. not_within h.investees h.posts (w.few_investees h) (w.few_posts h) f)))
      (cases_Bool (within_limits h.investees h.posts))

  line-shown : (r : List ℕ × List (List ℕ)) → next_line ps ≡ Some r → (x : Result (List ℕ) Misread) → number_line numbers_of_first_line r.0 ≡ x → FileShown bytes (and_then (head_from x) (λ p. body_of p r.1))
  line-shown r cut (Err e) is =
      wrong-first (fault FieldNotAsLaidOut (place_of e) 0)
      (subst (λ o. MissingOrWrong head o (fault FieldNotAsLaidOut (place_of e) 0)) (sym cut) (e, subst (Shown (FieldsOfNumbers numbers_of_first_line) r.0) is (row-shown numbers_of_first_line r.0), refl))
  line-shown r cut (Ok ns) is = numbers-shown (first-line bytes r cut ns is) (guide_numbered (number_at guide_place ns)) refl

  file-shown : (o : Option (List ℕ × List (List ℕ))) → next_line ps ≡ o → FileShown bytes (on_line 1 o (λ line qs. and_then (head_of line) (λ p. body_of p qs)))
  file-shown None cut = wrong-first (fault LineMissing 0 0) (subst (λ o. MissingOrWrong head o (fault LineMissing 0 0)) (sym cut) refl)
  file-shown (Some r) cut = line-shown r cut (number_line numbers_of_first_line r.0) refl

layout-shown : (bytes : List ℕ) → FileShown bytes (layout_of bytes)
layout-shown bytes =
    ⊎_elim
    (λ over. subst (FileShown bytes) (sym (cond-true (ltb most_bytes (length bytes)) _ _ (lt-ltb most_bytes (length bytes) over))) (beyond (λ w. omega (arith, w.short, over))))
    (λ fits. subst (FileShown bytes) (sym (cond-false (ltb most_bytes (length bytes)) _ _ (le-ltb most_bytes (length bytes) fits))) (file-shown bytes fits (next_line (pieces 10 bytes)) refl))
    (cases_lt most_bytes (length bytes))

-- ---- what that says of reading

-- a refusal is the only one, and bytes that are laid out have none
the-refusal : (bytes : List ℕ) (r : Result PlainPortfolio Stop) (s : Stop) → FileShown bytes r → Refused bytes s → r ≡ Err s
the-refusal bytes (Ok f) s shown refused = absurd (no-refusal bytes s shown.0 shown.1 refused)
the-refusal bytes (Err t) s shown refused = ap Err (one-refusal bytes t s shown refused)

pub refuses-rightly : (bytes : List ℕ) (r : Result PlainPortfolio Stop) → r ≡ layout_of bytes → RefusesRightly bytes r
refuses-rightly bytes r is s =
    let shown : FileShown bytes r = subst (FileShown bytes) (sym is) (layout-shown bytes) in
    (λ err. subst (FileShown bytes) err shown, λ refused. the-refusal bytes r s shown refused)

pub has-one-stop : (bytes : List ℕ) → OneStop bytes
has-one-stop bytes =
    record {
      at_most_one = one-refusal bytes;
      none_of_a_text = λ f s text refused. never f s (sym (text-gives bytes f text) ∙ the-refusal bytes (layout_of bytes) s (layout-shown bytes) refused);
      one_of_others = λ other. by other (layout_of bytes) refl (layout-shown bytes);
    }
  where
    by : ((f : PlainPortfolio) → IsTextOf f bytes → ⊥) → (r : Result PlainPortfolio Stop) → layout_of bytes ≡ r → FileShown bytes r → (s : Stop) × Refused bytes s
    by other (Ok f) is shown = absurd (other f (text-from bytes f is))
    by other (Err s) is shown = (s, shown)
