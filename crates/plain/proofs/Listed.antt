-- The lists of a book have what its queries are answered.
use Rattle.std.proofs.Common.{◌≡◌, ℕ, ◌-◌, Bool, true, false, cond, eqb, List, [], ◌∷◌, map, reverse, is_some, Some, None, Option, sym, refl, ap, ◌∙◌, arith}
use Rattle.std.specs.List.{AllByRecursion}
use Rattle.grading.proofs.EachElement.{All-weaker, All-map}
use Rattle.std.proofs.lemmas.List.{length-map, get_or-map}
use Rattle.std.proofs.lemmas.Bool.{cond-true, cond-false}
use Rattle.std.proofs.lemmas.Bool.Decides.{nat_tests}
use Rattle.rules.specs.Tables.{Tables}
use Rattle.plain.specs.declared.answers.Answer.TheVariants.{Total, Sheet}
use Rattle.plain.specs.Branches.{Branch, branches}
use Rattle.plain.specs.Kept.{KeptByEveryRun}
use Rattle.plain.specs.Listed.{listed_for, ListedAsAnswered}
use Rattle.plain.specs.Lists.{first_of}
use Rattle.plain.specs.PlainBook.{PlainInvestee, PlainPosition, PlainBook, id_of, is_of, position_of}
use Rattle.plain.specs.Readings.{sheet_of, account_of, accounts_of, has_position, sheet_if_any}
use Rattle.plain.specs.Refused.{branch_out_of_range}
use Rattle.plain.specs.Runs.{answer_to}
use Rattle.plain.specs.Steps.{for_total, for_sheet}
use Rattle.plain.proofs.BranchOrder.{branches-long, branch-at}
use Rattle.plain.proofs.Lists.{first_passes, found-by-key}

-- ---- accounts

same-ids : (t : Tables) (p : PlainBook) (xs : List PlainInvestee) → map (λ a. a.id) (map (account_of t p) xs) ≡ map id_of xs
same-ids t p [] = refl
same-ids t p (x ∷ xs) = ap (λ is. id_of x ∷ is) (same-ids t p xs)

totals : (t : Tables) (p : PlainBook) → KeptByEveryRun p → AllByRecursion (λ a. answer_to t p (for_total a.id) ≡ Total a.total) (accounts_of t p)
totals t p kept = All-map _ (account_of t p) p.investees (All-weaker _ _ (λ x found. rw found refl) p.investees (found-by-key id_of p.investees kept.ids_differ))

-- ---- sheets

-- what is found by one test, and passes the other, leaves that one something to find
found-as-well : {X : Type 0} (f g : X → Bool) (xs : List X) (x : X) → first_of g xs ≡ Some x → f x ≡ true → is_some (first_of f xs) ≡ true
unfolding first_of
found-as-well f g [] x found e = absurd cc
found-as-well {X} f g (y ∷ ys) x found e = by (f y) (g y) refl found (λ h. found-as-well f g ys x h e)
  where
    by : (a b : Bool) → f y ≡ a → cond b (Some y) (first_of g ys) ≡ Some x → (first_of g ys ≡ Some x → is_some (first_of f ys) ≡ true) → is_some (cond a (Some y) (first_of f ys)) ≡ true
    by true b is h later = refl
    by false true is h later = absurd (let same : y ≡ x = cc h in let no : false ≡ true = sym is ∙ ap f same ∙ e in cc no)
    by false false is h later = later h

has-one : (p : PlainBook) (b id : ℕ) → is_some (position_of b id p.positions) ≡ true → has_position p b ≡ true
has-one p b id e = by (position_of b id p.positions) refl e
  where
    by : (o : Option PlainPosition) → position_of b id p.positions ≡ o → is_some o ≡ true → has_position p b ≡ true
    by None is e = absurd cc
    by (Some q) is e =
        let of-branch : eqb q.branch b ≡ true = grind (arith, nat_tests, first_passes (is_of b id) p.positions q is) in
        found-as-well (λ r. eqb r.branch b) (is_of b id) p.positions q is of-branch

has-none : (p : PlainBook) (b : ℕ) → ((id : ℕ) → position_of b id p.positions ≡ None) → has_position p b ≡ false
has-none p b none = by (first_of (λ q. eqb q.branch b) p.positions) refl
  where
    by : (o : Option PlainPosition) → first_of (λ q. eqb q.branch b) p.positions ≡ o → is_some o ≡ false
    by None e = refl
    by (Some q) e =
        let is : is_of b q.id q ≡ true = grind (arith, nat_tests, first_passes (λ r. eqb r.branch b) p.positions q e) in
        absurd (let some = found-as-well (is_of b q.id) (λ r. eqb r.branch b) p.positions q e is in let no : false ≡ true = sym (ap is_some (none q.id)) ∙ some in cc no)

-- the place of a branch
at-its-place : (t : Tables) (p : PlainBook) (b : ℕ) → Branch b → listed_for t p b ≡ sheet_if_any t p b
at-its-place t p b h =
    get_or-map (sheet_if_any t p) (reverse branches) (b - 1) 0 None (omega (arith, h, branches-long))
    ∙ ap (sheet_if_any t p) (sym (branch-at (b - 1) (omega (arith, h))) ∙ omega (arith, h))

answered : (t : Tables) (p : PlainBook) (b : ℕ) → Branch b → answer_to t p (for_sheet b) ≡ Sheet (sheet_of t p b)
answered t p b h = let inside : branch_out_of_range b ≡ false = grind (arith, nat_tests) in rw inside refl

pub listed : ListedAsAnswered
listed = record {
  in_order = λ t p. same-ids t p p.investees;
  totals = totals;
  a_place_for_each_branch = λ t p. length-map (reverse branches) (sheet_if_any t p) ∙ branches-long;
  sheet_of_a_branch = λ t p b id h e. (sheet_of t p b, at-its-place t p b h ∙ cond-true (has_position p b) _ _ (has-one p b id e), answered t p b h);
  nothing_without_a_position = λ t p b h none. at-its-place t p b h ∙ cond-false (has_position p b) _ _ (has-none p b none);
}
