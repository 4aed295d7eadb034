-- Tables of accounts and sheets, line by line.
use Rattle.std.proofs.Common.{◌≡◌, ℕ, zero, suc, ◌+◌, ◌<◌, ◌≤◌, List, [], ◌∷◌, ◌++◌, map, length, get_or, drop, replicate, false, Some, None, Option, sym, refl, ap, ◌∙◌, subst, add-one}
use Rattle.std.proofs.lemmas.List.{at_drop_more, at_drop_all}
use Rattle.std.specs.Iterator.Adapters.{option_iter_item, option_iter_done, option_iter_steps}
use Rattle.std.specs.List.{flat_map}
use Rattle.std.specs.Option.{option_to_list}
use Rattle.std.proofs.lemmas.Iterator.{YieldsList}
use Rattle.std.specs.Iterator.{AlwaysYields}
use Rattle.std.specs.Bool.{MatchBool}
use Rattle.std.specs.Borrow.{Bor}
use Rattle.lines.specs.declared.writing.Writer.{Writer}
use Rattle.lines.specs.Writing.{Wrote}
use Rattle.lines.proofs.Writes.{Left, left-none}
use Rattle.plain.specs.declared.answers.InvesteeAccount.{InvesteeAccount}
use Rattle.plain.specs.declared.answers.Kilograms.{Kilograms}
use Rattle.pages.specs.Page.{account_line, branch_line, branch_lines, given}

-- ---- what a table holds

abbrev none : {X : Type 0} → Option X
none = None

given-none : {X : Type 0} (n : ℕ) → given (replicate n (none {X = X})) ≡ []
given-none zero = refl
given-none (suc n) = given-none n

pub given-listed : {X : Type 0} (n : ℕ) (xs : List X) → given (map Some xs ++ replicate n None) ≡ xs
given-listed n [] = given-none n
given-listed n (x ∷ xs) = ap (λ l. x ∷ l) (given-listed n xs)

-- ---- the lines of branches, from branch i + 1 on

pub branch-more-some : (xs : List (Option Kilograms)) (i : ℕ) (k : Kilograms) → i < length xs → get_or xs i None ≡ Some k → branch_lines (i + 1) (drop i xs) ≡ branch_line (i + 1) k ++ branch_lines (i + 1 + 1) (drop (i + 1) xs)
branch-more-some xs i k lt is =
    at_drop_more (branch_lines (i + 1)) xs i None lt ∙ ap (λ o. branch_lines (i + 1) (o ∷ drop (i + 1) xs)) is ∙ ap (λ n. branch_line (i + 1) k ++ branch_lines n (drop (i + 1) xs)) (sym (add-one (i + 1)))

pub branch-more-none : (xs : List (Option Kilograms)) (i : ℕ) → i < length xs → get_or xs i None ≡ None → branch_lines (i + 1) (drop i xs) ≡ branch_lines (i + 1 + 1) (drop (i + 1) xs)
branch-more-none xs i lt is =
    at_drop_more (branch_lines (i + 1)) xs i None lt ∙ ap (λ o. branch_lines (i + 1) (o ∷ drop (i + 1) xs)) is ∙ ap (λ n. branch_lines n (drop (i + 1) xs)) (sym (add-one (i + 1)))

pub branch-all : (xs : List (Option Kilograms)) (i : ℕ) → length xs ≤ i → branch_lines (i + 1) (drop i xs) ≡ []
branch-all xs i le = at_drop_all (branch_lines (i + 1)) xs i le

-- the lines of the branches before i + 1 are written
pub record SheetsLeft (start here : Writer) (sheets : List (Option Kilograms)) (i : ℕ) : Type 0 where
  pub left : Left start (branch_lines 1 sheets) here (branch_lines (i + 1) (drop i sheets))
  pub within : here.at ≤ length here.buffer.now

-- ---- a table, item by item

pub held-one : {X : Type 0} (o : Option X) {it : _} → option_iter_item it ≡ o → option_iter_done it ≡ false → YieldsList option_iter_steps (λ y. y.now) it (option_to_list o)
held-one None {it} is fresh = record { runs = λ y j step. let none : Some y.now ≡ None = subst (λ d. MatchBool d (Some y ≡ None) (Some y.now ≡ option_iter_item it)) fresh step.1 ∙ is in cc }
held-one {X} (Some x) {it} is fresh = record {
  runs = (
    λ j step. let none : ◌≡◌ {A = Option X} None (Some x) = subst (λ d. MatchBool d (◌≡◌ {A = Option (Bor X)} None None) (None ≡ option_iter_item it)) fresh step.1 ∙ is in cc,
    λ y j step. (
      let same : Some y.now ≡ Some x = subst (λ d. MatchBool d (Some y ≡ None) (Some y.now ≡ option_iter_item it)) fresh step.1 ∙ is in cc,
      λ z k more. let none : Some z ≡ None = subst (λ d. MatchBool d (Some z ≡ None) (Some z.now ≡ option_iter_item j)) step.0 more.1 in cc,
    ),
  );
}

pub given-flat : {X : Type 0} (xs : List (Option X)) → flat_map option_to_list xs ≡ given xs
given-flat [] = refl
given-flat (None ∷ xs) = given-flat xs
given-flat (Some x ∷ xs) = ap (λ l. x ∷ l) (given-flat xs)

-- what is still to come from the accounts of a table, and that its lines are left to write
pub record Coming {S : Type 0} (steps : S → Option (Bor InvesteeAccount) → S → Type 0) (start : Writer) (text : List ℕ) (here : Writer) (it : S) : Type 0 where
  pub rest : List InvesteeAccount
  pub yields : YieldsList steps (λ a. a.now) it rest
  pub left : Left start text here (flat_map account_line rest)
  pub within : here.at ≤ length here.buffer.now

module _ {S : Type 0} {steps : S → Option (Bor InvesteeAccount) → S → Type 0} {start : Writer} {text : List ℕ} {here : Writer} {it : S} where
  -- it gives an account
  pub coming-one : (c : Coming steps start text here it) (a : Bor InvesteeAccount) (next : S) → steps it (Some a) next → (rest : List InvesteeAccount) × YieldsList steps (λ x. x.now) next rest × Left start text here (account_line a.now ++ flat_map account_line rest)
  coming-one c a next step = by c.rest c.yields.runs c.left
    where
      by : (rest : List InvesteeAccount) → AlwaysYields steps (λ x. x.now) it rest → Left start text here (flat_map account_line rest) → (rest : List InvesteeAccount) × YieldsList steps (λ x. x.now) next rest × Left start text here (account_line a.now ++ flat_map account_line rest)
      by [] runs left = absurd (runs a next step)
      by (x ∷ xs) runs left =
          let here-it = runs.1 a next step in
          (xs, record { runs = here-it.1 }, subst (λ y. Left start text here (account_line y ++ flat_map account_line xs)) (sym here-it.0) left)

  -- it gives no more
  pub coming-none : (c : Coming steps start text here it) (next : S) → steps it None next → Wrote start text here (Some tt)
  coming-none c next step = by c.rest c.yields.runs c.left
    where
      by : (rest : List InvesteeAccount) → AlwaysYields steps (λ x. x.now) it rest → Left start text here (flat_map account_line rest) → Wrote start text here (Some tt)
      by [] runs left = left-none left c.within
      by (x ∷ xs) runs left = absurd (runs.0 next step)
