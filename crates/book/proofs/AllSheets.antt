-- The sheets of all branches, from the turns of all branches on each investee.
use Rattle.std.proofs.Common.{◌≡◌, ℕ, ◌+◌, ◌<◌, ◌≤◌, Bool, true, false, cond, eqb, ◌⊎◌, List, [], ◌∷◌, reverse, length, get_or, set, ℤ, pos, ◌-ℤ◌, Some, None, Option, sym, refl, ap, ◌∙◌, ap₂, inl, inr, add-zero, arith, length-set}
use lib.IntN.{+ℤ_idr}
use Rattle.std.proofs.lemmas.List.{get_or-map, get_or-set_same, get_or-set_other}
use Rattle.std.proofs.lemmas.Bool.{cases_eq}
use Rattle.rules.specs.Tables.{Tables}
use Rattle.rules.specs.declared.kinds.Kind.{Kind}
use Rattle.plain.specs.declared.answers.Kilograms.{Kilograms}
use Rattle.plain.specs.Branches.{branch_count, branches}
use Rattle.plain.specs.Exposures.{Measure, emissions, reductions, apportionment, lent_to}
use Rattle.plain.specs.Parts.{Lent, exposure_at, exposure_before, base, part}
use Rattle.plain.specs.PlainBook.{PlainInvestee, PlainPosition, PlainBook}
use Rattle.plain.specs.Readings.{part_of}
use Rattle.plain.specs.Rounding.{rounded}
use Rattle.plain.proofs.Integers.{linear}
use Rattle.positions.specs.Lending.{lent_on, turn_of, turn_from, turns_of}
use Rattle.positions.specs.declared.lending.Turn.{Turn}
use Rattle.plain.proofs.BranchOrder.{branches-long, branch-at}
use Rattle.book.specs.Shares.{added, no_kilograms}
use Rattle.book.specs.Standings.{standing_of, both_fall}
use Rattle.book.specs.declared.book.readings.Standing.{Standing}

-- ---- one turn

-- a turn that was found is the branch's
turn-found : (s : ℕ) (ls : List Lent) (b : ℕ) (turn : Turn) → turn_from s ls b ≡ Some turn → turn ≡ record { before = s + exposure_before ls b; exposure = exposure_at ls b }
unfolding turn_from exposure_before exposure_at
turn-found s [] b turn e = absurd cc
turn-found s (l ∷ ls) b turn e = by (eqb l.branch b) (turn-found (s + l.exposure) ls b turn) e
  where
    by : (t : Bool) → (turn_from (s + l.exposure) ls b ≡ Some turn → turn ≡ record { before = (s + l.exposure) + exposure_before ls b; exposure = exposure_at ls b }) → cond t (Some (record { before = s; exposure = l.exposure })) (turn_from (s + l.exposure) ls b) ≡ Some turn
        → turn ≡ record { before = s + cond t 0 (l.exposure + exposure_before ls b); exposure = cond t l.exposure (exposure_at ls b) }
    by true later e =
        let is : record { before = s; exposure = l.exposure } ≡ turn = cc in
        let first : s ≡ s + 0 = omega arith in
        sym is ∙ (λ i. record { before = first i; exposure = l.exposure })
    by false later e =
        let first : (s + l.exposure) + exposure_before ls b ≡ s + (l.exposure + exposure_before ls b) = omega arith in
        later e ∙ (λ i. record { before = first i; exposure = exposure_at ls b })

-- without one nothing was lent
none_lent : (s : ℕ) (ls : List Lent) (b : ℕ) → turn_from s ls b ≡ None → exposure_at ls b ≡ 0
unfolding turn_from exposure_at
none_lent s [] b e = refl
none_lent s (l ∷ ls) b e = by (eqb l.branch b) (none_lent (s + l.exposure) ls b) e
  where
    by : (t : Bool) → (turn_from (s + l.exposure) ls b ≡ None → exposure_at ls b ≡ 0) → cond t (Some (record { before = s; exposure = l.exposure })) (turn_from (s + l.exposure) ls b) ≡ None → cond t l.exposure (exposure_at ls b) ≡ 0
    by true later e = absurd cc
    by false later e = later e

pub turn_is : (kind : Kind) (id b : ℕ) (qs : List PlainPosition) (turn : Turn) → turn_from 0 (lent_on kind id qs) b ≡ Some turn → turn ≡ turn_of kind id b qs
turn_is kind id b qs turn e =
    let first : 0 + exposure_before (lent_on kind id qs) b ≡ exposure_before (lent_on kind id qs) b = omega arith in
    turn-found 0 (lent_on kind id qs) b turn e ∙ (λ i. record { before = first i; exposure = exposure_at (lent_on kind id qs) b })

-- the turns of a table, from branch 1 on
pub turns_at : (kind : Kind) (id : ℕ) (qs : List PlainPosition) (turns : List (Option Turn)) (k : ℕ) → turns ≡ turns_of kind id qs → k < branch_count → get_or turns k None ≡ turn_from 0 (lent_on kind id qs) (k + 1)
turns_at kind id qs turns k is h =
    ap (λ l. get_or l k None) is
    ∙ get_or-map (turn_from 0 (lent_on kind id qs)) (reverse branches) k 0 None (omega (arith, branches-long))
    ∙ ap (turn_from 0 (lent_on kind id qs)) (sym (branch-at k h))

-- what falls to it is the part
pub part-of-turn : (t : Tables) (p : PlainBook) (b : ℕ) (x : PlainInvestee) (s : Standing) (turn : Turn) (y : Kilograms)
    → s ≡ standing_of t p x → turn ≡ turn_of x.profile.kind x.profile.id b p.positions → y ≡ both_fall s turn x → y ≡ part_of t p b x
part-of-turn t p b x s turn y is-s is-turn is_y = is_y ∙ ap₂ (λ s turn. both_fall s turn x) is-s is-turn

less-itself : (z : ℤ) → z -ℤ z ≡ pos 0
less-itself z = omega (arith, linear)

-- so no part falls to the branch
pub no_part : (t : Tables) (p : PlainBook) (b : ℕ) (x : PlainInvestee) → turn_from 0 (lent_to x p.positions) b ≡ None → part_of t p b x ≡ no_kilograms
no_part t p b x e = λ i. record { emissions = by emissions i; reductions = by reductions i }
  where
    one : (F : ℤ) (c B : ℕ) (counted : Bool) → cond counted (rounded F (c + 0) B -ℤ rounded F c B) (pos 0) ≡ pos 0
    one F c B true = ap (λ n. rounded F n B -ℤ rounded F c B) (add-zero c) ∙ less-itself (rounded F c B)
    one F c B false = refl

    by : (m : Measure) → part (apportionment t p m x) b ≡ pos 0
    by m =
        let a = apportionment t p m x in
        ap (λ n. cond a.counted (rounded a.figure (exposure_before a.lent b + n) (base a) -ℤ rounded a.figure (exposure_before a.lent b) (base a)) (pos 0)) (none_lent 0 a.lent b e)
        ∙ one a.figure (exposure_before a.lent b) (base a) a.counted

pub added_none : (k : Kilograms) → k ≡ added k no_kilograms
added_none k = λ i. record { emissions = sym (+ℤ_idr k.emissions) i; reductions = sym (+ℤ_idr k.reductions) i }

-- ---- the parts of an investee, added branch by branch

-- the first k sums have their part, and the others are as they were
pub record AddedSofar (parts : ℕ → Kilograms) (old now : List Kilograms) (k : ℕ) : Type 0 where
  pub long : length now ≡ branch_count
  pub has_part : (n : ℕ) → n < k → get_or now n no_kilograms ≡ added (get_or old n no_kilograms) (parts (n + 1))
  pub as_before : (n : ℕ) → k ≤ n → get_or now n no_kilograms ≡ get_or old n no_kilograms

module _ (parts : ℕ → Kilograms) (old now : List Kilograms) (k : ℕ) (h : k < branch_count) (sofar : AddedSofar parts old now k) where
  pub added-part : (v : Kilograms) → v ≡ added (get_or now k no_kilograms) (parts (k + 1)) → AddedSofar parts old (set now k v) (k + 1)
  added-part v is = record {
    long = length-set now k v ∙ sofar.long;
    has_part = λ n l. by n l (cases_eq n k);
    as_before = λ n l. get_or-set_other now k n v no_kilograms (λ e. absurd (omega arith)) ∙ sofar.as_before n (omega arith);
  }
    where
      by : (n : ℕ) → n < k + 1 → (n ≡ k) ⊎ (n ≡ k → ⊥) → get_or (set now k v) n no_kilograms ≡ added (get_or old n no_kilograms) (parts (n + 1))
      by n l (inl e) =
          ap (λ j. get_or (set now k v) j no_kilograms) e ∙ get_or-set_same now k v no_kilograms (omega (arith, sofar.long)) ∙ is
          ∙ ap (λ y. added y (parts (k + 1))) (sofar.as_before k (omega arith)) ∙ ap (λ j. added (get_or old j no_kilograms) (parts (j + 1))) (sym e)
      by n l (inr e) = get_or-set_other now k n v no_kilograms e ∙ sofar.has_part n (omega arith)

  pub no-part-added : parts (k + 1) ≡ no_kilograms → AddedSofar parts old now (k + 1)
  no-part-added none = record { long = sofar.long; has_part = λ n l. by n l (cases_eq n k); as_before = λ n l. sofar.as_before n (omega arith) }
    where
      by : (n : ℕ) → n < k + 1 → (n ≡ k) ⊎ (n ≡ k → ⊥) → get_or now n no_kilograms ≡ added (get_or old n no_kilograms) (parts (n + 1))
      by n l (inl e) =
          ap (λ j. get_or now j no_kilograms) e ∙ sofar.as_before k (omega arith) ∙ added_none (get_or old k no_kilograms) ∙ ap (added (get_or old k no_kilograms)) (sym none)
          ∙ ap (λ j. added (get_or old j no_kilograms) (parts (j + 1))) (sym e)
      by n l (inr e) = sofar.has_part n (omega arith)
