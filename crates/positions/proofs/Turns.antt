-- A walk over the rows of a table that notes the turns of all branches on one investee.
use Rattle.std.proofs.Common.{◌≡◌, ℕ, ◌+◌, ◌-◌, ◌*◌, ◌^◌, ◌<◌, ◌≤◌, Bool, true, false, cond, ◌||◌, eqb, ltb, ◌⊎◌, List, map, reverse, length, get_or, drop, set, replicate, Some, None, Option, unwrap_or, sym, refl, ap, ◌∙◌, ap₂, inl, inr, arith, length-set}
use lib.ListN.{get_or-replicate}
use Rattle.std.proofs.lemmas.List.{at_drop_all, same_lists, get_or_default, length-map, get_or-map, get_or-set_same, get_or-set_other}
use Rattle.std.proofs.lemmas.Bool.{eq-eqb, ne_eqb, cases_eq, cond-true, cond-false, ltb-false, le-ltb}
use Rattle.rules.specs.Months.{months}
use Rattle.rules.specs.declared.kinds.Kind.{Kind}
use Rattle.plain.specs.Branches.{branch_count, branches}
use Rattle.plain.specs.Exposures.{exposure_of, lent_by}
use Rattle.plain.specs.Parts.{Lent}
use Rattle.plain.specs.Refused.{branch_out_of_range}
use Rattle.positions.specs.Lending.{lent_on, turn_from, turns_of, noted}
use Rattle.positions.specs.Rows.{plain_position, plain_positions}
use Rattle.positions.specs.declared.PositionRow.{PositionRow}
use Rattle.positions.specs.declared.lending.Turn.{Turn}
use Rattle.plain.proofs.BranchOrder.{branches-long, branch-at}
use Rattle.positions.specs.Rows.{rows_on}
use Rattle.positions.proofs.Walks.{on-view, lent_in, next_lent}

abbrev or_else : Option Turn → Option Turn → Option Turn
or_else (Some t) o = Some t
or_else None o = o

or-none : (o : Option Turn) → o ≡ or_else o None
or-none None = refl
or-none (Some t) = refl

or-first : (o : Option Turn) (t : Turn) → or_else o (Some t) ≡ Some (unwrap_or o t)
or-first None t = refl
or-first (Some u) t = refl

-- of the first k rows on an investee the turns are noted, with exposures s so far; the turns of the branches without one are among those that are left
pub record TurnsSofar (kind : Kind) (on : List PositionRow) (k s : ℕ) (turns : List (Option Turn)) : Type 0 where
  pub long : length turns ≡ branch_count
  pub found : (n : ℕ) → n < branch_count → or_else (get_or turns n None) (turn_from s (lent_in kind (drop k on)) (n + 1)) ≡ turn_from 0 (lent_in kind on) (n + 1)
  pub bound : s ≤ months * 2 ^ 32 * k

pub turns-first : (kind : Kind) (on : List PositionRow) → TurnsSofar kind on 0 0 (replicate branch_count None)
turns-first kind on = record {
  long = refl;
  found = λ n h. ap (λ o. or_else o (turn_from 0 (lent_in kind on) (n + 1))) (get_or-replicate branch_count n None None h);
  bound = omega arith;
}

length-noted : (b : ℕ) (turn : Turn) (turns : List (Option Turn)) → length (noted b turn turns) ≡ length turns
length-noted b turn turns = by (branch_out_of_range b)
  where
    by : (t : Bool) → length (cond t turns (set turns (b - 1) (Some (unwrap_or (get_or turns (b - 1) None) turn)))) ≡ length turns
    by true = refl
    by false = length-set turns (b - 1) _

in_range : (n : ℕ) → n < branch_count → branch_out_of_range (n + 1) ≡ false
in_range n h = ap₂ ◌||◌ (le-ltb (n + 1) 1 (omega arith)) (le-ltb branch_count (n + 1) (omega arith))

noted_here : (n : ℕ) (turn : Turn) (turns : List (Option Turn)) → n < branch_count → length turns ≡ branch_count → get_or (noted (n + 1) turn turns) n None ≡ Some (unwrap_or (get_or turns n None) turn)
noted_here n turn turns h long =
    let at : n + 1 - 1 ≡ n = omega arith in
    ap (λ l. get_or l n None) (cond-false (branch_out_of_range (n + 1)) _ _ (in_range n h) ∙ ap (λ k. set turns k (Some (unwrap_or (get_or turns k None) turn))) at)
    ∙ get_or-set_same turns n (Some (unwrap_or (get_or turns n None) turn)) None (omega arith)

or-false : (a b : Bool) → (a || b) ≡ false → a ≡ false
or-false true b e = e
or-false false b e = refl

noted_other : (b n : ℕ) (turn : Turn) (turns : List (Option Turn)) → (n + 1 ≡ b → ⊥) → get_or (noted b turn turns) n None ≡ get_or turns n None
noted_other b n turn turns off = by (branch_out_of_range b) refl
  where
    by : (t : Bool) → branch_out_of_range b ≡ t → get_or (cond t turns (set turns (b - 1) (Some (unwrap_or (get_or turns (b - 1) None) turn)))) n None ≡ get_or turns n None
    by true e = refl
    by false e = get_or-set_other turns (b - 1) n _ None (λ s. off (omega (arith, ltb-false b 1 (or-false (ltb b 1) (ltb branch_count b) e))))

module _ (kind : Kind) (on : List PositionRow) (k : ℕ) (row : PositionRow) (h : k < length on) (at : row ≡ get_or on k row) (s : ℕ) (turns : List (Option Turn)) (sofar : TurnsSofar kind on k s turns) where
  abbrev left : List Lent
  left = lent_in kind (drop (k + 1) on)

  pub turns-on : (e : ℕ) → e ≡ exposure_of kind (plain_position row) → e ≤ months * 2 ^ 32 → (now : List (Option Turn)) → now ≡ noted row.branch (record { before = s; exposure = e }) turns → TurnsSofar kind on (k + 1) (s + e) now
  unfolding turn_from
  turns-on e is-e e-bound now is-now = record {
    long = ap length is-now ∙ length-noted row.branch (record { before = s; exposure = e }) turns ∙ sofar.long;
    found = λ n l. ap (λ l. or_else (get_or l n None) (turn_from (s + e) left (n + 1))) is-now ∙ by n l (cases_eq (n + 1) row.branch);
    bound = omega (arith, sofar.bound);
  }
    where
      split : (b : ℕ) → turn_from s (lent_in kind (drop k on)) b ≡ cond (eqb row.branch b) (Some (record { before = s; exposure = e })) (turn_from (s + e) left b)
      split b =
          ap (λ ls. turn_from s ls b) (next_lent kind on k row h at)
          ∙ ap (λ x. cond (eqb row.branch b) (Some (record { before = s; exposure = x })) (turn_from (s + x) left b)) (sym is-e)

      by : (n : ℕ) → n < branch_count → (n + 1 ≡ row.branch) ⊎ (n + 1 ≡ row.branch → ⊥)
          → or_else (get_or (noted row.branch (record { before = s; exposure = e }) turns) n None) (turn_from (s + e) left (n + 1)) ≡ turn_from 0 (lent_in kind on) (n + 1)
      by n l (inl same) =
          ap (λ o. or_else o (turn_from (s + e) left (n + 1))) (ap (λ b. get_or (noted b (record { before = s; exposure = e }) turns) n None) (sym same) ∙ noted_here n (record { before = s; exposure = e }) turns l sofar.long)
          ∙ sym (ap (or_else (get_or turns n None)) (split (n + 1) ∙ cond-true (eqb row.branch (n + 1)) _ _ (eq-eqb row.branch (n + 1) (sym same))) ∙ or-first (get_or turns n None) (record { before = s; exposure = e }))
          ∙ sofar.found n l
      by n l (inr other) =
          ap (λ o. or_else o (turn_from (s + e) left (n + 1))) (noted_other row.branch n (record { before = s; exposure = e }) turns other)
          ∙ sym (ap (or_else (get_or turns n None)) (split (n + 1) ∙ cond-false (eqb row.branch (n + 1)) _ _ (ne_eqb row.branch (n + 1) (λ z. other (sym z)))))
          ∙ sofar.found n l

pub turns-all : (kind : Kind) (id : ℕ) (rows : List PositionRow) (k s : ℕ) (turns : List (Option Turn)) → k ≡ length (rows_on id rows) → TurnsSofar kind (rows_on id rows) k s turns → turns ≡ turns_of kind id (plain_positions rows)
unfolding turn_from
turns-all kind id rows k s turns h sofar =
    same_lists turns (turns_of kind id (plain_positions rows))
    (sofar.long ∙ sym (length-map (reverse branches) (turn_from 0 (lent_on kind id (plain_positions rows))) ∙ branches-long))
    (λ n d l.
    let low : n < branch_count = omega (arith, sofar.long) in
    let f = turn_from 0 (lent_on kind id (plain_positions rows)) in
    get_or_default turns n d None l
    ∙ or-none (get_or turns n None)
    ∙ ap (λ ls. or_else (get_or turns n None) (turn_from s ls (n + 1))) (sym (at_drop_all (lent_in kind) (rows_on id rows) k (omega arith)))
    ∙ sofar.found n low
    ∙ ap (λ qs. turn_from 0 (map (lent_by kind) qs) (n + 1)) (on-view id rows)
    ∙ ap f (branch-at n low)
    ∙ sym (get_or-map f (reverse branches) n 0 d (omega (arith, branches-long))))
