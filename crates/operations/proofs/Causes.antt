-- What the refusal of a table says of its items.
use Rattle.std.proofs.Common.{◌≡◌, ℕ, ◌+◌, ◌<◌, ◌≤◌, Bool, true, false, cond, ltb, List, [], ◌∷◌, length, Some, None, Option, sym, refl, ap, ◌∙◌, subst, inl, inr, ⊎_elim, arith}
use Rattle.std.specs.List.{prefix_len, AllByRecursion, AllWithin, HoldsAt}
use Rattle.std.specs.Option.{MatchOption, option_map, unwrap_or}
use Rattle.std.proofs.lemmas.Iterator.{index_from_first}
use Rattle.std.proofs.lemmas.Bool.{cases_Bool, cases_lt, lt-ltb, le-ltb, cond-true, cond-false}
use Rattle.std.proofs.lemmas.Bool.Decides.{nat_tests}
use Rattle.faults.specs.declared.Fault.{Fault}
use Rattle.faults.specs.declared.Refusal.TheVariants.{OwnItem}
use Rattle.faults.specs.Refusals.{fault}
use Rattle.operations.specs.declared.items.Item.{Item}
use Rattle.operations.specs.Items.{acceptable, most_items}
use Rattle.operations.specs.Tables.{refusal_of, FirstRefused, RefusedFor}

all-accepted : (xs : List Item) → length xs ≤ prefix_len acceptable xs → AllByRecursion (λ x. acceptable x ≡ true) xs
all-accepted [] h = tt
all-accepted (x ∷ xs) h =
    ⊎_elim
    (λ t. let rest : length xs ≤ prefix_len acceptable xs = grind (arith, t) in (t, all-accepted xs rest))
    (λ f. let z : ◌≡◌ {A = ℕ} 0 1 = grind (arith, f) in absurd (omega arith))
    (cases_Bool (acceptable x))

first-refused : (xs : List Item) → prefix_len acceptable xs < length xs → FirstRefused xs (prefix_len acceptable xs + 1)
first-refused [] h = absurd (omega arith)
first-refused (x ∷ xs) h = by (acceptable x) refl (first-refused xs) h
  where
    by : (b : Bool) → acceptable x ≡ b → (prefix_len acceptable xs < length xs → FirstRefused xs (prefix_len acceptable xs + 1)) → cond b (1 + prefix_len acceptable xs) 0 < length (x ∷ xs) → FirstRefused (x ∷ xs) (cond b (1 + prefix_len acceptable xs) 0 + 1)
    by false e later k = record { before = []; item = x; rest = xs; table = refl; accepted = tt; refused = e; counted = refl }
    by true e later k =
        let more = later (omega arith) in
        record {
          before = x ∷ more.before;
          item = more.item;
          rest = more.rest;
          table = ap (λ l. x ∷ l) more.table;
          accepted = (e, more.accepted);
          refused = more.refused;
          counted = omega (arith, more.counted);
        }

-- a search for the first item that is not acceptable answers the refusal of a table that is not too long
pub refusal-from-first : (xs : List Item) (r : Option ℕ) → length xs ≤ most_items
    → MatchOption r (AllWithin (λ x. acceptable x ≡ true) xs 0 (length xs)) (λ i. (i < length xs) × HoldsAt (λ x. acceptable x ≡ false) xs i × AllWithin (λ x. acceptable x ≡ true) xs 0 i)
    → refusal_of xs ≡ option_map (λ i. fault OwnItem (i + 1) 0) r
refusal-from-first xs r few first = by r first (index_from_first (prefix_len acceptable) (λ x. acceptable x ≡ false) (λ x. acceptable x ≡ true) refl (λ x xs e. grind (arith, e)) (λ x xs e. grind (arith, e)) xs r first)
  where
    by : (r : Option ℕ)
        → MatchOption r (AllWithin (λ x. acceptable x ≡ true) xs 0 (length xs)) (λ i. (i < length xs) × HoldsAt (λ x. acceptable x ≡ false) xs i × AllWithin (λ x. acceptable x ≡ true) xs 0 i)
        → prefix_len acceptable xs ≡ unwrap_or r (length xs) → refusal_of xs ≡ option_map (λ i. fault OwnItem (i + 1) 0) r
    by None h e = grind (arith, nat_tests, e)
    by (Some i) h e = let lt : i < length xs = h.0 in grind (arith, nat_tests, e)

pub refused-for : (xs : List Item) (r : Option Fault) → r ≡ refusal_of xs → RefusedFor xs r
refused-for xs r e = subst (RefusedFor xs) (sym e) (⊎_elim many few (cases_lt most_items (length xs)))
  where
    many : most_items < length xs → RefusedFor xs (refusal_of xs)
    many h = subst (RefusedFor xs) (sym (cond-true (ltb most_items (length xs)) _ _ (lt-ltb most_items (length xs) h))) (inl (h, refl))

    some : length xs ≤ most_items → prefix_len acceptable xs < length xs → RefusedFor xs (refusal_of xs)
    some h k =
        subst (RefusedFor xs) (sym (cond-false (ltb most_items (length xs)) _ _ (le-ltb most_items (length xs) h) ∙ cond-true (ltb (prefix_len acceptable xs) (length xs)) _ _ (lt-ltb _ _ k)))
        (inr (h, first-refused xs k))

    none : length xs ≤ most_items → length xs ≤ prefix_len acceptable xs → RefusedFor xs (refusal_of xs)
    none h k =
        subst (RefusedFor xs) (sym (cond-false (ltb most_items (length xs)) _ _ (le-ltb most_items (length xs) h) ∙ cond-false (ltb (prefix_len acceptable xs) (length xs)) _ _ (le-ltb _ _ k)))
        (h, all-accepted xs k)

    few : length xs ≤ most_items → RefusedFor xs (refusal_of xs)
    few h = ⊎_elim (some h) (none h) (cases_lt (prefix_len acceptable xs) (length xs))
