-- A portfolio is read just where the bytes are its text.
use Rattle.std.proofs.Common.{◌≡◌, ℕ, suc, ◌+◌, ◌^◌, ◌<◌, ◌≤◌, ltb, List, [], ◌∷◌, ◌++◌, map, length, Some, None, Ok, Err, Option, Result, sym, refl, ap, ◌∙◌, subst, ⊎_elim, append_assoc, append-nil, arith}
use Rattle.std.specs.List.{flat_map, AllByRecursion}
use Rattle.std.proofs.lemmas.List.{length-map}
use Rattle.std.proofs.lemmas.Bool.{cases_lt, lt-ltb, le-ltb, cond-true, cond-false}
use Rattle.entries.specs.Entries.{PlainEntry, PlainPortfolio}
use Rattle.entries.specs.Guides.{guide_number}
use Rattle.entries.specs.declared.guide.Guide.{Guide}
use Rattle.entries.specs.declared.guide.Guide.TheVariants.{National, Pudong}
use Rattle.entries.specs.declared.investee.PostEntry.{PostEntry}
use Rattle.entries.specs.declared.stop.Stop.{Stop}
use Rattle.lines.specs.Fields.{pieces}
use Rattle.lines.specs.Render.{join, printed}
use Rattle.lines.proofs.Printed.{Free, join-pieces, pieces_then}
use Rattle.portfolio_lines.specs.Counted.{and_then}
use Rattle.portfolio_lines.specs.Lines.{investee_of, key_of, balance_of}
use Rattle.portfolio_lines.specs.Text.{ThirteenDigits, investee_line}
use Rattle.portfolio_lines.specs.declared.posts.Key.{Key}
use Rattle.portfolio_lines.proofs.Investees.{investee-free}
use Rattle.portfolio_lines.proofs.Spelled.{all_append}
use Rattle.portfolio_lines.proofs.Texts.{row-free}
use Rattle.portfolio.specs.Files.{beyond_limits, next_line}
use Rattle.portfolio.specs.Layout.{PlainHead, on_line, section_of, ended, head_of, postings, body_of, layout_of}
use Rattle.portfolio.specs.Text.{head_line, key_line, balance_line, lines_of, fed, text, InvesteeDigits, PostDigits, IsTextOf, AcceptsTexts}
use Rattle.portfolio.proofs.Sections.{next-is, Section, section-read, section-gives, EntryFact, KeyFact, BalanceFact, key_written, balance_written, entry-law, entry-back, key-law, key_back, balance-law, balance-back, HeadLine, head-line, head-reads}

-- ---- lines with their line feeds

pieces-fed : (xs : List (List ℕ)) (rest : List ℕ) → AllByRecursion (Free 10) xs → pieces 10 (flat_map fed xs ++ rest) ≡ xs ++ pieces 10 rest
pieces-fed [] rest free = refl
pieces-fed (x ∷ xs) rest free =
    ap (pieces 10) (append_assoc (fed x) (flat_map fed xs) rest ∙ append_assoc x (10 ∷ []) (flat_map fed xs ++ rest)) ∙ pieces_then 10 x (flat_map fed xs ++ rest) free.0 ∙ ap (λ l. x ∷ l) (pieces-fed xs rest free.1)

join-fed : (xs : List (List ℕ)) → join 10 (xs ++ ([] ∷ [])) ≡ flat_map fed xs
join-fed [] = refl
join-fed (x ∷ []) = sym (append-nil (fed x))
join-fed (x ∷ y ∷ ys) = ap (λ l. x ++ (10 ∷ l)) (join-fed (y ∷ ys)) ∙ sym (append_assoc x (10 ∷ []) (flat_map fed (y ∷ ys)))

-- ---- posts and their two lines

posts-keys : (keys : List Key) (balances : List ℕ) → length keys ≡ length balances → map key_line (postings keys balances) ≡ map key_written keys
posts-keys [] balances same = refl
posts-keys (k ∷ keys) [] same = absurd (omega arith)
posts-keys (k ∷ keys) (b ∷ balances) same = ap (λ l. key_written k ∷ l) (posts-keys keys balances (omega arith))

posts-balances : (keys : List Key) (balances : List ℕ) → length keys ≡ length balances → map balance_line (postings keys balances) ≡ map balance_written balances
posts-balances [] [] same = refl
posts-balances [] (b ∷ balances) same = absurd (omega arith)
posts-balances (k ∷ keys) [] same = absurd (omega arith)
posts-balances (k ∷ keys) (b ∷ balances) same = ap (λ l. balance_written b ∷ l) (posts-balances keys balances (omega arith))

posts-count : (keys : List Key) (balances : List ℕ) → length keys ≡ length balances → length (postings keys balances) ≡ length keys
posts-count [] balances same = refl
posts-count (k ∷ keys) [] same = absurd (omega arith)
posts-count (k ∷ keys) (b ∷ balances) same = ap suc (posts-count keys balances (omega arith))

posts-digits : (keys : List Key) (balances : List ℕ) → AllByRecursion KeyFact keys → AllByRecursion BalanceFact balances → AllByRecursion PostDigits (postings keys balances)
posts-digits [] balances a b = tt
posts-digits (k ∷ keys) [] a b = tt
posts-digits (k ∷ keys) (x ∷ balances) a b =
    let d = a.0.0 in ((d.0, (d.1.0, (d.1.1.0, b.0.0))), posts-digits keys balances a.1 b.1)

abbrev key_in : PostEntry → Key
key_in p = record { branch = p.branch; id = p.id; month = p.month }

abbrev balance_in : PostEntry → ℕ
balance_in p = p.balance

posts-again : (posts : List PostEntry) → postings (map key_in posts) (map balance_in posts) ≡ posts
posts-again [] = refl
posts-again (p ∷ posts) = ap (λ l. p ∷ l) (posts-again posts)

keys-written : (posts : List PostEntry) → map key_line posts ≡ map key_written (map key_in posts)
keys-written [] = refl
keys-written (p ∷ posts) = ap (λ l. key_line p ∷ l) (keys-written posts)

balances-written : (posts : List PostEntry) → map balance_line posts ≡ map balance_written (map balance_in posts)
balances-written [] = refl
balances-written (p ∷ posts) = ap (λ l. balance_line p ∷ l) (balances-written posts)

abbrev Short : List ℕ → Type 0
Short line = length line ≤ 511

-- ---- what holds of each line

shorts : {X : Type 0} (write : X → List ℕ) (P : X → Type 0) (xs : List X) → ((x : X) → P x → Short (write x)) → AllByRecursion P xs → AllByRecursion Short (map write xs)
shorts write P [] gives all = tt
shorts write P (x ∷ xs) gives all = (gives x all.0, shorts write P xs gives all.1)

digits_of : (es : List PlainEntry) → AllByRecursion EntryFact es → AllByRecursion InvesteeDigits es
digits_of [] all = tt
digits_of (e ∷ es) all = (all.0.0, digits_of es all.1)

part-one : {X : Type 0} (P : X → Type 0) (xs ys : List X) → AllByRecursion P (xs ++ ys) → AllByRecursion P xs
part-one P [] ys all = tt
part-one P (x ∷ xs) ys all = (all.0, part-one P xs ys all.1)

part-two : {X : Type 0} (P : X → Type 0) (xs ys : List X) → AllByRecursion P (xs ++ ys) → AllByRecursion P ys
part-two P [] ys all = all
part-two P (x ∷ xs) ys all = part-two P xs ys all.1

entry-facts : (es : List PlainEntry) → AllByRecursion InvesteeDigits es → AllByRecursion Short (map investee_line es) → AllByRecursion EntryFact es
entry-facts [] digits short = tt
entry-facts (e ∷ es) digits short = ((digits.0, short.0), entry-facts es digits.1 short.1)

key-facts : (posts : List PostEntry) → AllByRecursion PostDigits posts → AllByRecursion Short (map key_line posts) → AllByRecursion KeyFact (map key_in posts)
key-facts [] digits short = tt
key-facts (p ∷ posts) digits short =
    let d = digits.0 in (((d.0, (d.1.0, (d.1.1.0, tt))), short.0), key-facts posts digits.1 short.1)

balance-facts : (posts : List PostEntry) → AllByRecursion PostDigits posts → AllByRecursion Short (map balance_line posts) → AllByRecursion BalanceFact (map balance_in posts)
balance-facts [] digits short = tt
balance-facts (p ∷ posts) digits short = ((digits.0.1.1.1, short.0), balance-facts posts digits.1 short.1)

frees-investees : (es : List PlainEntry) → AllByRecursion InvesteeDigits es → AllByRecursion (Free 10) (map investee_line es)
frees-investees [] digits = tt
frees-investees (e ∷ es) digits = (investee-free e digits.0, frees-investees es digits.1)

frees-keys : (posts : List PostEntry) → AllByRecursion PostDigits posts → AllByRecursion (Free 10) (map key_line posts)
frees-keys [] digits = tt
frees-keys (p ∷ posts) digits =
    let d = digits.0 in (row-free (p.branch ∷ p.id ∷ p.month ∷ []) (d.0, (d.1.0, (d.1.1.0, tt))), frees-keys posts digits.1)

frees-balances : (posts : List PostEntry) → AllByRecursion PostDigits posts → AllByRecursion (Free 10) (map balance_line posts)
frees-balances [] digits = tt
frees-balances (p ∷ posts) digits = (row-free (p.balance ∷ []) digits.0.1.1.1, frees-balances posts digits.1)

-- ---- from the bytes to the text

pub then_ok : {X Y : Type 0} (r : Result X Stop) (f : X → Result Y Stop) (y : Y) → and_then r f ≡ Ok y → (x : X) × (r ≡ Ok x) × (f x ≡ Ok y)
then_ok (Ok x) f y h = (x, refl, h)
then_ok (Err s) f y h = let z : ◌≡◌ {A = ℕ} 0 1 = cc in absurd (omega arith)

pub ended-ok : {X : Type 0} (l : ℕ) (ps : List (List ℕ)) (x y : X) → ended l ps x ≡ Ok y → (ps ≡ [] ∷ []) × (x ≡ y)
ended-ok l [] x y h = let z : ◌≡◌ {A = ℕ} 0 1 = cc in absurd (omega arith)
ended-ok l ([] ∷ []) x y h = let same : x ≡ y = cc in (refl, same)
ended-ok l ((b ∷ bs) ∷ []) x y h = let z : ◌≡◌ {A = ℕ} 0 1 = cc in absurd (omega arith)
ended-ok l ([] ∷ q ∷ ps) x y h = let z : ◌≡◌ {A = ℕ} 0 1 = cc in absurd (omega arith)
ended-ok l ((b ∷ bs) ∷ q ∷ ps) x y h = let z : ◌≡◌ {A = ℕ} 0 1 = cc in absurd (omega arith)

-- the three sections and the end, put together
module _ (bytes : List ℕ) (fits : length bytes ≤ 65536) (h : PlainHead) (line : List ℕ) (ps : List (List ℕ)) (cut : pieces 10 bytes ≡ line ∷ ps) (head : HeadLine h line)
    (es : List PlainEntry) (keys : List Key) (balances : List ℕ) (qs rs ss : List (List ℕ))
    (a : Section investee_line EntryFact h.investees ps es qs) (b : Section key_written KeyFact h.posts qs keys rs) (c : Section balance_written BalanceFact h.posts rs balances ss) (last : ss ≡ [] ∷ []) where
  abbrev f : PlainPortfolio
  f = record { guide = h.guide; investees = es; posts = postings keys balances }

  same : length keys ≡ length balances
  same = b.count ∙ sym c.count

  posts : length f.posts ≡ h.posts
  posts = posts-count keys balances same ∙ b.count

  head-is : line ≡ head_line f
  head-is = head.numbers.bytes_are ∙ (λ t. printed (sym a.count t ∷ sym posts t ∷ guide_number h.guide ∷ []))

  lines : pieces 10 bytes ≡ lines_of f ++ ([] ∷ [])
  lines =
      let end : List (List ℕ) = [] ∷ [] in
      let third : rs ≡ map balance_line f.posts ++ end = c.split ∙ (λ t. sym (posts-balances keys balances same) t ++ last t) in
      let second : qs ≡ (map key_line f.posts ++ map balance_line f.posts) ++ end = b.split ∙ (λ t. sym (posts-keys keys balances same) t ++ third t) ∙ sym (append_assoc (map key_line f.posts) (map balance_line f.posts) end) in
      let first : ps ≡ (map investee_line es ++ (map key_line f.posts ++ map balance_line f.posts)) ++ end = a.split ∙ ap (λ l. map investee_line es ++ l) second ∙ sym (append_assoc (map investee_line es) (map key_line f.posts ++ map balance_line f.posts) end) in
      cut ∙ (λ t. head-is t ∷ first t)

  put-together : IsTextOf f bytes
  put-together =
      record {
        bytes_are = sym (join-pieces 10 bytes) ∙ ap (join 10) lines ∙ join-fed (lines_of f);
        investee_digits = digits_of es a.facts;
        post_digits = posts-digits keys balances b.facts c.facts;
        short_lines = (
          subst Short head-is head.numbers.short,
          all_append Short (map investee_line es) (map key_line f.posts ++ map balance_line f.posts)
              (shorts investee_line EntryFact es (λ e fact. fact.1) a.facts)
              (all_append Short (map key_line f.posts) (map balance_line f.posts)
              (subst (AllByRecursion Short) (sym (posts-keys keys balances same)) (shorts key_written KeyFact keys (λ k fact. fact.1) b.facts))
              (subst (AllByRecursion Short) (sym (posts-balances keys balances same)) (shorts balance_written BalanceFact balances (λ x fact. fact.1) c.facts))),
        );
        few_investees = omega (arith, a.count, head.investees);
        few_posts = omega (arith, posts, head.posts);
        short = fits;
      }

pub text-from : (bytes : List ℕ) (f : PlainPortfolio) → layout_of bytes ≡ Ok f → IsTextOf f bytes
text-from bytes f ok =
    ⊎_elim
    (λ over. let z : ◌≡◌ {A = Result PlainPortfolio Stop} (Err beyond_limits) (Ok f) = sym (cond-true (ltb 65536 (length bytes)) _ _ (lt-ltb 65536 (length bytes) over)) ∙ ok in let o : ◌≡◌ {A = ℕ} 0 1 = cc in absurd (omega arith))
    (λ fits. go fits (next_line (pieces 10 bytes)) refl (sym (cond-false (ltb 65536 (length bytes)) _ _ (le-ltb 65536 (length bytes) fits)) ∙ ok))
    (cases_lt 65536 (length bytes))
  where
    go : length bytes ≤ 65536 → (o : Option (List ℕ × List (List ℕ))) → next_line (pieces 10 bytes) ≡ o → on_line 1 o (λ line ps. and_then (head_of line) (λ h. body_of h ps)) ≡ Ok f → IsTextOf f bytes
    go fits None e k = let z : ◌≡◌ {A = ℕ} 0 1 = cc in absurd (omega arith)
    go fits (Some r) e k =
        let (h, top, k₁) = then_ok (head_of r.0) (λ h. body_of h r.1) f k in
        let (x, k₂, k₃) = then_ok (section_of investee_of h.investees 2 r.1) _ f k₁ in
        let (y, k₄, k₅) = then_ok (section_of key_of h.posts (2 + h.investees) x.1) _ f k₃ in
        let (z, k₆, k₇) = then_ok (section_of balance_of h.posts (2 + h.investees + h.posts) y.1) _ f k₅ in
        let (last, is) = ended-ok (2 + h.investees + h.posts + h.posts) z.1 (record { guide = h.guide; investees = x.0; posts = postings y.0 z.0 }) f k₇ in
        subst (λ f. IsTextOf f bytes) is
        (put-together bytes fits h r.0 r.1 (next-is (pieces 10 bytes) r e) (head-line r.0 h top) x.0 y.0 z.0 x.1 y.1 z.1
        (section-read investee_of investee_line EntryFact entry-law h.investees 2 r.1 x k₂)
        (section-read key_of key_written KeyFact key-law h.posts (2 + h.investees) x.1 y k₄)
        (section-read balance_of balance_written BalanceFact balance-law h.posts (2 + h.investees + h.posts) y.1 z k₆)
        last)

-- ---- from the text to the bytes

some-append : (xs ys : List (List ℕ)) → (length ys ≡ 0 → ⊥) → length (xs ++ ys) ≡ 0 → ⊥
some-append [] ys some = some
some-append (x ∷ xs) ys some = λ e. omega arith

cut-over : (x : List ℕ) (ps : List (List ℕ)) → (length ps ≡ 0 → ⊥) → next_line (x ∷ ps) ≡ Some (x, ps)
cut-over x [] some = absurd (some refl)
cut-over x (p ∷ ps) some = refl

guide-small : (g : Guide) → guide_number g < 10 ^ 13
guide-small National = omega arith
guide-small Pudong = omega arith

then-gives : {X Y : Type 0} {r : Result X Stop} (f : X → Result Y Stop) (x : X) → r ≡ Ok x → and_then r f ≡ f x
then-gives f x is = ap (λ r. and_then r f) is

pub text-gives : (bytes : List ℕ) (f : PlainPortfolio) → IsTextOf f bytes → layout_of bytes ≡ Ok f
text-gives bytes f t =
    let h : PlainHead = record { investees = length f.investees; posts = length f.posts; guide = f.guide } in
    let keys : List Key = map key_in f.posts in
    let balances : List ℕ = map balance_in f.posts in
    let end : List (List ℕ) = [] ∷ [] in
    let third : List (List ℕ) = map balance_line f.posts ++ end in
    let second : List (List ℕ) = map key_line f.posts ++ third in
    let first : List (List ℕ) = map investee_line f.investees ++ second in
    let n₃ : length third ≡ 0 → ⊥ = some-append (map balance_line f.posts) end (λ e. omega arith) in
    let n₂ : length second ≡ 0 → ⊥ = some-append (map key_line f.posts) third n₃ in
    let n₁ : length first ≡ 0 → ⊥ = some-append (map investee_line f.investees) second n₂ in
    let small : ThirteenDigits (length f.investees ∷ length f.posts ∷ guide_number f.guide ∷ []) = (omega (arith, t.few_investees), (omega (arith, t.few_posts), (guide-small f.guide, tt))) in
    let rest : List (List ℕ) = map key_line f.posts ++ map balance_line f.posts in
    let free : AllByRecursion (Free 10) (lines_of f) = (
      row-free (length f.investees ∷ length f.posts ∷ guide_number f.guide ∷ []) small,
      all_append (Free 10) (map investee_line f.investees) rest (frees-investees f.investees t.investee_digits) (all_append (Free 10) (map key_line f.posts) (map balance_line f.posts) (frees-keys f.posts t.post_digits) (frees-balances f.posts t.post_digits)),
    ) in
    let cut : pieces 10 bytes ≡ head_line f ∷ first =
    ap (pieces 10) (t.bytes_are ∙ sym (append-nil (text f))) ∙ pieces-fed (lines_of f) [] free
    ∙ ap (λ l. head_line f ∷ l) (append_assoc (map investee_line f.investees) rest end ∙ ap (λ l. map investee_line f.investees ++ l) (append_assoc (map key_line f.posts) (map balance_line f.posts) end)) in
    let short_tail : AllByRecursion Short rest = part-two Short (map investee_line f.investees) rest t.short_lines.1 in
    let head = head-reads (head_line f) h (record { numbers = record { count = refl; digits = small; bytes_are = refl; short = t.short_lines.0 }; investees = t.few_investees; posts = t.few_posts }) in
    let s₁ = section-gives investee_of investee_line EntryFact entry-back (length f.investees) 2 first f.investees second n₂
    (record { split = refl; facts = entry-facts f.investees t.investee_digits (part-one Short (map investee_line f.investees) rest t.short_lines.1); count = refl }) in
    let s₂ = section-gives key_of key_written KeyFact key_back (length f.posts) (2 + length f.investees) second keys third n₃
    (record { split = ap (λ l. l ++ third) (keys-written f.posts); facts = key-facts f.posts t.post_digits (part-one Short (map key_line f.posts) (map balance_line f.posts) short_tail); count = length-map f.posts key_in }) in
    let s₃ = section-gives balance_of balance_written BalanceFact balance-back (length f.posts) (2 + length f.investees + length f.posts) third balances end (λ e. omega arith)
    (record { split = ap (λ l. l ++ end) (balances-written f.posts); facts = balance-facts f.posts t.post_digits (part-two Short (map key_line f.posts) (map balance_line f.posts) short_tail); count = length-map f.posts balance_in }) in
    cond-false (ltb 65536 (length bytes)) _ _ (le-ltb 65536 (length bytes) t.short)
    ∙ ap (λ o. on_line 1 o (λ line ps. and_then (head_of line) (λ h. body_of h ps))) (ap next_line cut ∙ cut-over (head_line f) first n₁)
    ∙ then-gives (λ h. body_of h first) h head
    ∙ then-gives _ _ s₁
    ∙ then-gives _ _ s₂
    ∙ then-gives _ _ s₃
    ∙ ap (λ p. Ok (record { guide = f.guide; investees = f.investees; posts = p })) (posts-again f.posts)

pub accepts : (bytes : List ℕ) (r : Result PlainPortfolio Stop) → r ≡ layout_of bytes → AcceptsTexts bytes r
accepts bytes r is f = (λ ok. text-from bytes f (sym is ∙ ok), λ t. is ∙ text-gives bytes f t)
