-- How long a page can be.
use Rattle.std.proofs.Common.{◌≡◌, ℕ, suc, ◌+◌, ◌*◌, ◌<◌, ◌≤◌, Bool, true, false, cond, List, [], ◌∷◌, ◌++◌, reverse, length, ℤ, pos, negsuc, nat_abs, Some, None, decimal, Option, ◌∙◌, arith}
use lib.Signed.{mag}
use Rattle.std.specs.Fmt.{signed_decimal}
use Rattle.std.specs.List.{flat_map, AllByRecursion}
use Rattle.std.proofs.lemmas.Fmt.{length-decimal-le, length_signed_le}
use Rattle.grading.proofs.EachElement.{All-weaker, All-map}
use Rattle.std.proofs.lemmas.List.{length-append, length-map}
use Rattle.rules.specs.Investees.{last_id}
use Rattle.rules.specs.Tables.{Tables, Lawful}
use Rattle.sources.specs.Limits.{most_kilograms}
use Rattle.plain.specs.declared.answers.InvesteeAccount.{InvesteeAccount}
use Rattle.plain.specs.declared.answers.Kilograms.{Kilograms}
use Rattle.plain.specs.Branches.{branches, branch_count}
use Rattle.plain.specs.Exposures.{emissions, apportionment, apportionments, exposure_to}
use Rattle.plain.specs.Kept.{KeptByEveryRun, InvesteeInRange}
use Rattle.plain.specs.Limits.{most_investees, most_exposure}
use Rattle.plain.specs.Parts.{part, total, sheet, book_total}
use Rattle.plain.specs.PlainBook.{PlainInvestee, PlainBook}
use Rattle.plain.specs.Readings.{account_of, accounts_of, has_position, sheet_of, sheet_if_any, sheets_of, book_total_of}
use Rattle.plain.proofs.Asked.{reason-in-range}
use Rattle.plain.proofs.BranchOrder.{branches-long}
use Rattle.plain.proofs.EveryRun.{once_per_branch}
use Rattle.plain.proofs.Lists.{all_both}
use Rattle.plain.proofs.Parts.{total-within}
use Rattle.plain.proofs.Sizes.{part-within, sum-within}
use Rattle.pages.specs.Page.{head_line, account_line, branch_line, total_line, branch_lines, page_of, page_text}
use Rattle.pages.specs.Placed.{room, on_line}

-- ---- one field

mag-le : (z : ℤ) → mag z ≤ nat_abs z
mag-le (pos n) = omega arith
mag-le (negsuc n) = omega arith

kilograms-short : (z : ℤ) → nat_abs z ≤ most_kilograms → length (signed_decimal z) ≤ 14
kilograms-short z h = length_signed_le 13 z (omega (arith, mag-le z)) (omega (arith, mag-le z))

sum-short : (z : ℤ) → nat_abs z ≤ most_investees * most_kilograms → length (signed_decimal z) ≤ 16
sum-short z h = length_signed_le 15 z (omega (arith, mag-le z)) (omega (arith, mag-le z))

-- ---- one line

two : (a b : List ℕ) → length ((a ++ 32 ∷ b) ++ 10 ∷ []) ≡ length a + length b + 2
two a b = omega (arith, length-append (a ++ 32 ∷ b) (10 ∷ []), length-append a (32 ∷ b))

three : (a b c : List ℕ) → length ((a ++ 32 ∷ (b ++ 32 ∷ c)) ++ 10 ∷ []) ≡ length a + length b + length c + 3
three a b c = omega (arith, two a (b ++ 32 ∷ c), length-append b (32 ∷ c))

four : (a b c d : List ℕ) → length ((a ++ 32 ∷ (b ++ 32 ∷ (c ++ 32 ∷ d))) ++ 10 ∷ []) ≡ length a + length b + length c + length d + 4
four a b c d = omega (arith, three a b (c ++ 32 ∷ d), length-append c (32 ∷ d))

-- an account with the sizes that a book keeps to
pub record Short (a : InvesteeAccount) : Type 0 where
  pub id : a.id ≤ last_id
  pub kilograms : nat_abs a.total.kilograms.emissions ≤ most_kilograms
  pub reason : a.total.reason ≤ 9
  pub grade : a.total.grade ≤ 5

head-short : (n : ℕ) → n ≤ most_investees → length (head_line n) ≤ 7
head-short n h = omega (arith, two (70 ∷ 69 ∷ []) (decimal n), length-decimal-le 3 n (omega arith) (omega arith) (omega arith))

account-short : (a : InvesteeAccount) → Short a → length (account_line a) ≤ 30
account-short a h =
    omega (
      arith,
      four (decimal a.id) (signed_decimal a.total.kilograms.emissions) (decimal a.total.reason) (decimal a.total.grade),
      length-decimal-le 10 a.id (omega arith) (omega (arith, h.id)) (omega (arith, h.id)),
      kilograms-short a.total.kilograms.emissions h.kilograms,
      length-decimal-le 1 a.total.reason (omega arith) (omega (arith, h.reason)) (omega (arith, h.reason)),
      length-decimal-le 1 a.total.grade (omega arith) (omega (arith, h.grade)) (omega (arith, h.grade)),
    )

branch-short : (b : ℕ) (k : Kilograms) → b < 100 → nat_abs k.emissions ≤ most_investees * most_kilograms → length (branch_line b k) ≤ 22
branch-short b k small h =
    omega (arith, three (66 ∷ []) (decimal b) (signed_decimal k.emissions), length-decimal-le 2 b (omega arith) (omega arith) (omega arith), sum-short k.emissions h)

total-short : (z : ℤ) → nat_abs z ≤ most_investees * most_kilograms → length (total_line z) ≤ 19
total-short z h = omega (arith, two (84 ∷ []) (signed_decimal z), sum-short z h)

-- ---- all lines

accounts-short : (xs : List InvesteeAccount) → AllByRecursion Short xs → length (flat_map account_line xs) ≤ 30 * length xs
accounts-short [] h = omega arith
accounts-short (a ∷ xs) h = omega (arith, length-append (account_line a) (flat_map account_line xs), account-short a h.0, accounts-short xs h.1)

branches-short : (b : ℕ) (sheets : List (Option Kilograms)) → b + length sheets < 100 → AllByRecursion (λ o. nat_abs (on_line o) ≤ most_investees * most_kilograms) sheets → length (branch_lines b sheets) ≤ 22 * length sheets
branches-short b [] small h = omega arith
branches-short b (None ∷ sheets) small h = omega (arith, branches-short (suc b) sheets (omega arith) h.1)
branches-short b (Some k ∷ sheets) small h =
    omega (arith, length-append (branch_line b k) (branch_lines (suc b) sheets), branch-short b k (omega arith) h.0, branches-short (suc b) sheets (omega arith) h.1)

page-short : (xs : List InvesteeAccount) (sheets : List (Option Kilograms)) (z : ℤ) → length xs ≤ most_investees → length sheets ≤ branch_count
    → AllByRecursion Short xs → AllByRecursion (λ o. nat_abs (on_line o) ≤ most_investees * most_kilograms) sheets → nat_abs z ≤ most_investees * most_kilograms → length (page_of xs sheets z) ≤ room
page-short xs sheets z few some h k m =
    let back = length-append (branch_lines 1 sheets) (total_line z) in
    let middle = length-append (flat_map account_line xs) (branch_lines 1 sheets ++ total_line z) in
    omega (
      arith,
      length-append (head_line (length xs)) (flat_map account_line xs ++ (branch_lines 1 sheets ++ total_line z)),
      middle,
      back,
      head-short (length xs) few,
      accounts-short xs h,
      branches-short 1 sheets (omega arith) k,
      total-short z m,
    )

-- ---- of a book

every : {X : Type 0} (P : X → Type 0) → ((x : X) → P x) → (xs : List X) → AllByRecursion P xs
every P h [] = tt
every P h (x ∷ xs) = (h x, every P h xs)

pub length-sheets : (t : Tables) (p : PlainBook) → length (sheets_of t p) ≡ branch_count
length-sheets t p = length-map (reverse branches) (sheet_if_any t p) ∙ branches-long

module _ (t : Tables) (lawful : Lawful t) (p : PlainBook) (kept : KeptByEveryRun p) where
  few : length (apportionments t p emissions) ≤ most_investees
  few = omega (arith, length-map p.investees (apportionment t p emissions), kept.investees_within_limit)

  totals : AllByRecursion (λ a. nat_abs (total a) ≤ most_kilograms) (apportionments t p emissions)
  totals =
      All-map _ (apportionment t p emissions) p.investees
      (All-weaker _ _ (λ x h. omega (arith, total-within (apportionment t p emissions x) (once_per_branch p kept x), h.kilograms_within_limit)) p.investees kept.investees_in_range)

  parts : (b : ℕ) → AllByRecursion (λ a. nat_abs (part a b) ≤ most_kilograms) (apportionments t p emissions)
  parts b =
      All-map _ (apportionment t p emissions) p.investees
      (All-weaker _ _ (λ x h. omega (arith, part-within (apportionment t p emissions x) b, h.kilograms_within_limit)) p.investees kept.investees_in_range)

  sheet-within : (b : ℕ) → nat_abs (sheet (apportionments t p emissions) b) ≤ most_investees * most_kilograms
  sheet-within b = omega (arith, few, sum-within (apportionments t p emissions) (λ a. part a b) most_kilograms (parts b))

  total-fits : nat_abs (book_total (apportionments t p emissions)) ≤ most_investees * most_kilograms
  total-fits = omega (arith, few, sum-within (apportionments t p emissions) total most_kilograms totals)

  line-within : (b : ℕ) → nat_abs (on_line (sheet_if_any t p b)) ≤ most_investees * most_kilograms
  line-within b = by (has_position p b)
    where
      by : (h : Bool) → nat_abs (on_line (cond h (Some (sheet_of t p b)) None)) ≤ most_investees * most_kilograms
      by true = sheet-within b
      by false = omega arith

  account : (x : PlainInvestee) → InvesteeInRange x × (exposure_to x p.positions ≤ most_exposure) → Short (account_of t p x)
  account x (range, most) = record {
    id = range.profile_in_range.id_to;
    kilograms = omega (arith, total-within (apportionment t p emissions x) (once_per_branch p kept x), range.kilograms_within_limit);
    reason = reason-in-range t lawful x p.positions range.profile_in_range kept.positions_in_range most;
    grade = range.grade_to;
  }

  accounts : AllByRecursion Short (accounts_of t p)
  accounts =
      All-map _ (account_of t p) p.investees (All-weaker _ _ account p.investees (all_both _ _ p.investees kept.investees_in_range kept.exposures_within_limit))

  pub room-suffices : length (page_text t p) ≤ room
  unfolding page_text
  room-suffices =
      page-short (accounts_of t p) (sheets_of t p) (book_total_of t p).all.kilograms.emissions (omega (arith, length-map p.investees (account_of t p), kept.investees_within_limit)) (omega (arith, length-sheets t p))
      accounts
      (All-map _ (sheet_if_any t p) (reverse branches) (every _ line-within (reverse branches))) total-fits
