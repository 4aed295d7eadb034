-- Sections of lines: what is read is what is written.
use Rattle.std.proofs.Common.{◌≡◌, ℕ, zero, suc, ◌≤◌, cond, eqb, leb, List, [], ◌∷◌, ◌++◌, map, length, Some, None, Ok, Err, Option, Result, sym, refl, ap, ◌∙◌, subst, ⊎_elim, arith}
use Rattle.std.specs.List.{AllByRecursion}
use Rattle.std.proofs.lemmas.Bool.{cases_Bool, eqb-true, leb-true, le-leb, and_parts, and_from, cond-true, cond-false}
use Rattle.entries.specs.Entries.{PlainEntry}
use Rattle.entries.specs.Guides.{guide_number, guide_numbered}
use Rattle.entries.specs.declared.guide.Guide.{Guide}
use Rattle.entries.specs.declared.guide.Guide.TheVariants.{National, Pudong}
use Rattle.entries.specs.declared.stop.Stop.{Stop}
use Rattle.lines.specs.Render.{printed, LineOfNumbers}
use Rattle.portfolio_lines.specs.Lines.{number_line, investee_of, key_of, balance_of}
use Rattle.portfolio_lines.specs.Numbers.{number_at, numbers_of_first_line, investees_place, posts_place, guide_place}
use Rattle.portfolio_lines.specs.Text.{ThirteenDigits, investee_line, key_numbers}
use Rattle.portfolio_lines.specs.declared.misread.Misread.{Misread}
use Rattle.portfolio_lines.specs.declared.posts.Key.{Key}
use Rattle.portfolio_lines.proofs.Investees.{investee-line, investee-reads}
use Rattle.portfolio_lines.proofs.Texts.{row_line, row_reads, key-line, key_reads, balance-line, balance-reads, at_all}
use Rattle.portfolio.specs.Files.{most_investees, most_posts, beyond_limits, next_line}
use Rattle.portfolio.specs.Layout.{PlainHead, on_line, in_front, section_of, within_limits, head_by, head_from, head_of}
use Rattle.portfolio.specs.Text.{InvesteeDigits}

pub next-is : (ps : List (List ℕ)) (r : List ℕ × List (List ℕ)) → next_line ps ≡ Some r → ps ≡ r.0 ∷ r.1
next-is [] r h = let z : ◌≡◌ {A = ℕ} 0 1 = cc in absurd (omega arith)
next-is (p ∷ []) r h = let z : ◌≡◌ {A = ℕ} 0 1 = cc in absurd (omega arith)
next-is (p ∷ q ∷ ps) r h = let pair : ◌≡◌ {A = List ℕ × List (List ℕ)} (p, q ∷ ps) r = cc in ap (λ x. x.0 ∷ x.1) pair

-- n lines that are how the xs are written, and then the pieces qs
pub record Section {X : Type 0} (write : X → List ℕ) (Fact : X → Type 0) (n : ℕ) (ps : List (List ℕ)) (xs : List X) (qs : List (List ℕ)) : Type 0 where
  pub split : ps ≡ map write xs ++ qs
  pub facts : AllByRecursion Fact xs
  pub count : length xs ≡ n

module _ {X : Type 0} (read : List ℕ → Result X Misread) (write : X → List ℕ) (Fact : X → Type 0) where
  pub section-read : ((line : List ℕ) (x : X) → read line ≡ Ok x → (line ≡ write x) × Fact x) → (n l : ℕ) (ps : List (List ℕ)) (y : List X × List (List ℕ)) → section_of read n l ps ≡ Ok y → Section write Fact n ps y.0 y.1
  section-read law zero l ps y h =
      let pair : ◌≡◌ {A = List X × List (List ℕ)} ([], ps) y = cc in
      subst (λ y. Section write Fact 0 ps y.0 y.1) pair (record { split = refl; facts = tt; count = refl })
  section-read law (suc n) l ps y h = by (next_line ps) refl (section-read law n (suc l)) h
    where
      at-line : (r : List ℕ × List (List ℕ)) → next_line ps ≡ Some r → ((z : List X × List (List ℕ)) → section_of read n (suc l) r.1 ≡ Ok z → Section write Fact n r.1 z.0 z.1)
          → (o : Result X Misread) → read r.0 ≡ o → (t : Result (List X × List (List ℕ)) Stop) → section_of read n (suc l) r.1 ≡ t → in_front l o t ≡ Ok y → Section write Fact (suc n) ps y.0 y.1
      at-line r cut deep (Err p) e t q h = let z : ◌≡◌ {A = ℕ} 0 1 = cc in absurd (omega arith)
      at-line r cut deep (Ok x) e (Err s) q h = let z : ◌≡◌ {A = ℕ} 0 1 = cc in absurd (omega arith)
      at-line r cut deep (Ok x) e (Ok z) q h =
          let pair : ◌≡◌ {A = List X × List (List ℕ)} (x ∷ z.0, z.1) y = cc in
          let rest = deep z q in
          let (line, fact) = law r.0 x e in
          subst (λ y. Section write Fact (suc n) ps y.0 y.1) pair
          (record { split = next-is ps r cut ∙ (λ t. line t ∷ rest.split t); facts = (fact, rest.facts); count = ap suc rest.count })

      by : (o : Option (List ℕ × List (List ℕ))) → next_line ps ≡ o → ((qs : List (List ℕ)) (z : List X × List (List ℕ)) → section_of read n (suc l) qs ≡ Ok z → Section write Fact n qs z.0 z.1)
          → on_line l o (λ line qs. in_front l (read line) (section_of read n (suc l) qs)) ≡ Ok y → Section write Fact (suc n) ps y.0 y.1
      by None cut deep h = let z : ◌≡◌ {A = ℕ} 0 1 = cc in absurd (omega arith)
      by (Some r) cut deep h = at-line r cut (deep r.1) (read r.0) refl (section_of read n (suc l) r.1) refl h

  before : (x : List ℕ) (xs : List X) (q : List ℕ) (qs : List (List ℕ)) → next_line (x ∷ (map write xs ++ (q ∷ qs))) ≡ Some (x, map write xs ++ (q ∷ qs))
  before x [] q qs = refl
  before x (y ∷ ys) q qs = refl

  section-over : ((x : X) → Fact x → read (write x) ≡ Ok x) → (l : ℕ) (xs : List X) (q : List ℕ) (qs : List (List ℕ)) → AllByRecursion Fact xs → section_of read (length xs) l (map write xs ++ (q ∷ qs)) ≡ Ok (xs, q ∷ qs)
  section-over back l [] q qs facts = refl
  section-over back l (x ∷ xs) q qs facts =
      ap (λ o. on_line l o (λ line ps. in_front l (read line) (section_of read (length xs) (suc l) ps))) (before (write x) xs q qs)
      ∙ (λ t. in_front l (back x facts.0 t) (section-over back (suc l) xs q qs facts.1 t))

  -- the same where pieces follow
  pub section-gives : ((x : X) → Fact x → read (write x) ≡ Ok x) → (n l : ℕ) (ps : List (List ℕ)) (xs : List X) (qs : List (List ℕ)) → (length qs ≡ 0 → ⊥) → Section write Fact n ps xs qs → section_of read n l ps ≡ Ok (xs, qs)
  section-gives back n l ps xs [] some s = absurd (some refl)
  section-gives back n l ps xs (q ∷ qs) some s =
      (λ t. section_of read (sym s.count t) l (s.split t)) ∙ section-over back l xs q qs s.facts

-- ---- the three kinds of lines

abbrev pub EntryFact : PlainEntry → Type 0
EntryFact e = InvesteeDigits e × (length (investee_line e) ≤ 511)

abbrev pub key_written : Key → List ℕ
key_written key = printed (key_numbers key)

abbrev pub KeyFact : Key → Type 0
KeyFact key = ThirteenDigits (key_numbers key) × (length (key_written key) ≤ 511)

abbrev pub balance_written : ℕ → List ℕ
balance_written b = printed (b ∷ [])

abbrev pub BalanceFact : ℕ → Type 0
BalanceFact b = ThirteenDigits (b ∷ []) × (length (balance_written b) ≤ 511)

pub entry-law : (line : List ℕ) (e : PlainEntry) → investee_of line ≡ Ok e → (line ≡ investee_line e) × EntryFact e
entry-law line e h = let l = investee-line line e h in (l.line_is, (l.digits, subst (λ b. length b ≤ 511) l.line_is l.short))

pub entry-back : (e : PlainEntry) → EntryFact e → investee_of (investee_line e) ≡ Ok e
entry-back e fact = investee-reads (investee_line e) e (record { line_is = refl; digits = fact.0; short = fact.1 })

pub key-law : (line : List ℕ) (key : Key) → key_of line ≡ Ok key → (line ≡ key_written key) × KeyFact key
key-law line key h = let l = key-line line key h in (l.bytes_are, (l.digits, subst (λ b. length b ≤ 511) l.bytes_are l.short))

pub key_back : (key : Key) → KeyFact key → key_of (key_written key) ≡ Ok key
key_back key fact = key_reads (key_written key) key (record { count = refl; digits = fact.0; bytes_are = refl; short = fact.1 })

pub balance-law : (line : List ℕ) (b : ℕ) → balance_of line ≡ Ok b → (line ≡ balance_written b) × BalanceFact b
balance-law line b h = let l = balance-line line b h in (l.bytes_are, (l.digits, subst (λ b. length b ≤ 511) l.bytes_are l.short))

pub balance-back : (b : ℕ) → BalanceFact b → balance_of (balance_written b) ≡ Ok b
balance-back b fact = balance-reads (balance_written b) b (record { count = refl; digits = fact.0; bytes_are = refl; short = fact.1 })

-- ---- line 1

guide-is : (n : ℕ) (g : Guide) → guide_numbered n ≡ Some g → guide_number g ≡ n
guide-is n g h =
    ⊎_elim
    (λ t. let e : ◌≡◌ {A = Option Guide} (Some National) (Some g) = sym (cond-true (eqb n 1) _ _ t) ∙ h in let same : National ≡ g = cc in sym (ap guide_number same) ∙ sym (eqb-true n 1 t))
    (λ a. let h₁ = sym (cond-false (eqb n 1) _ _ a) ∙ h in
    ⊎_elim
    (λ t. let e : ◌≡◌ {A = Option Guide} (Some Pudong) (Some g) = sym (cond-true (eqb n 2) _ _ t) ∙ h₁ in let same : Pudong ≡ g = cc in sym (ap guide_number same) ∙ sym (eqb-true n 2 t))
    (λ b. let e : ◌≡◌ {A = Option Guide} None (Some g) = sym (cond-false (eqb n 2) _ _ b) ∙ h₁ in let z : ◌≡◌ {A = ℕ} 0 1 = cc in absurd (omega arith))
    (cases_Bool (eqb n 2)))
    (cases_Bool (eqb n 1))

guide-back : (g : Guide) → guide_numbered (guide_number g) ≡ Some g
guide-back National = refl
guide-back Pudong = refl

abbrev pub head_numbers_of : PlainHead → List ℕ
head_numbers_of h = h.investees ∷ h.posts ∷ guide_number h.guide ∷ []

pub record HeadLine (h : PlainHead) (line : List ℕ) : Type 0 where
  pub numbers : LineOfNumbers numbers_of_first_line (head_numbers_of h) line
  pub investees : h.investees ≤ most_investees
  pub posts : h.posts ≤ most_posts

pub head-line : (line : List ℕ) (h : PlainHead) → head_of line ≡ Ok h → HeadLine h line
head-line line h ok = from (number_line numbers_of_first_line line) refl ok
  where
    limits : (n m : ℕ) (g : Guide) → ◌≡◌ {A = Result PlainHead Stop} (cond (within_limits n m) (Ok (record { investees = n; posts = m; guide = g })) (Err beyond_limits)) (Ok h) → (n ≤ most_investees) × (m ≤ most_posts) × (record { investees = n; posts = m; guide = g } ≡ h)
    limits n m g e =
        ⊎_elim
        (λ t.
        let (a, b) = and_parts (leb n most_investees) (leb m most_posts) t in
        let e₁ : ◌≡◌ {A = Result PlainHead Stop} (Ok (record { investees = n; posts = m; guide = g })) (Ok h) = sym (cond-true (within_limits n m) _ _ t) ∙ e in
        let same : record { investees = n; posts = m; guide = g } ≡ h = cc in
        (leb-true n most_investees a, leb-true m most_posts b, same))
        (λ f. let e₁ : ◌≡◌ {A = Result PlainHead Stop} (Err beyond_limits) (Ok h) = sym (cond-false (within_limits n m) _ _ f) ∙ e in let z : ◌≡◌ {A = ℕ} 0 1 = cc in absurd (omega arith))
        (cases_Bool (within_limits n m))

    by : (ns : List ℕ) → LineOfNumbers numbers_of_first_line ns line → (o : Option Guide) → guide_numbered (number_at guide_place ns) ≡ o → head_by (number_at investees_place ns) (number_at posts_place ns) o ≡ Ok h → HeadLine h line
    by ns l None e ok = let z : ◌≡◌ {A = ℕ} 0 1 = cc in absurd (omega arith)
    by ns l (Some g) e ok =
        let (a, b, same) = limits (number_at investees_place ns) (number_at posts_place ns) g ok in
        let number : guide_number g ≡ number_at guide_place ns = guide-is (number_at guide_place ns) g e in
        let spelled : ns ≡ number_at investees_place ns ∷ number_at posts_place ns ∷ guide_number g ∷ [] = sym (at_all numbers_of_first_line ns l.count) ∙ ap (λ n. number_at investees_place ns ∷ number_at posts_place ns ∷ n ∷ []) (sym number) in
        subst (λ h. HeadLine h line) same (record { numbers = subst (λ ms. LineOfNumbers numbers_of_first_line ms line) spelled l; investees = a; posts = b })

    from : (r : Result (List ℕ) Misread) → number_line numbers_of_first_line line ≡ r → head_from r ≡ Ok h → HeadLine h line
    from (Err p) e ok = let z : ◌≡◌ {A = ℕ} 0 1 = cc in absurd (omega arith)
    from (Ok ns) e ok = by ns (row_line numbers_of_first_line line ns e) (guide_numbered (number_at guide_place ns)) refl ok

pub head-reads : (line : List ℕ) (h : PlainHead) → HeadLine h line → head_of line ≡ Ok h
head-reads line h l =
    ap head_from (row_reads numbers_of_first_line line (head_numbers_of h) (omega arith) l.numbers)
    ∙ ap (head_by h.investees h.posts) (guide-back h.guide)
    ∙ cond-true (within_limits h.investees h.posts) _ _ (and_from (leb h.investees most_investees) (leb h.posts most_posts) (le-leb h.investees most_investees l.investees) (le-leb h.posts most_posts l.posts))
