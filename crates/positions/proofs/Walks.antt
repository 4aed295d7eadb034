-- A walk over the rows on one investee: what they add up to, and the turn of a branch among them.
use Rattle.std.proofs.Common.{◌≡◌, ℕ, Bor, Option, Some, None, ◌+◌, ◌*◌, ◌^◌, ◌<◌, ◌≤◌, eqb, List, [], ◌∷◌, map, length, get_or, take, drop, sum_by, sym, ap, ◌∙◌, arith, take_all}
use Rattle.std.proofs.lemmas.List.{at_drop_more, at_drop_all, length-map}
use Rattle.std.specs.Iterator.{Yields, YieldsFirstRef}
use Rattle.std.proofs.lemmas.Iterator.{YieldsList}
use Rattle.std.proofs.lemmas.Iterator.Consumers.{YieldsList-at, YieldsList-from_first, YieldsList-turn, YieldsList-end}
use Rattle.std.proofs.lemmas.Bool.{eq-eqb, ne_eqb, cond-true, cond-false}
use Rattle.rules.specs.Months.{months}
use Rattle.rules.specs.declared.kinds.Kind.{Kind}
use Rattle.plain.specs.Exposures.{closing_of, exposure_of, positions_on, lent_by}
use Rattle.plain.specs.Parts.{Lent, exposures, exposure_at, exposure_before}
use Rattle.positions.specs.Lending.{lending_of, turn_of}
use Rattle.positions.specs.Rows.{plain_position, plain_positions, rows_on}
use Rattle.positions.specs.RowsOn.{rows_left}
use Rattle.positions.specs.declared.PositionRow.{PositionRow}
use Rattle.positions.specs.declared.lending.Lending.{Lending}
use Rattle.positions.specs.declared.lending.Turn.{Turn}
use Rattle.positions.specs.declared.rows_on.RowsOn.{RowsOn}
use Rattle.positions.proofs.Sums.{sum-next, sum_view, exposures_summed}
use Rattle.positions.proofs.Views.{filter-view}

pub on-view : (id : ℕ) (rows : List PositionRow) → plain_positions (rows_on id rows) ≡ positions_on id (plain_positions rows)
on-view id rows = filter-view plain_position (λ q. eqb q.id id) rows

-- a walk over the rows on an investee, and where it stands in a `for` that has taken the items xs
module _ {s t : RowsOn} (id : ℕ) (rows : List PositionRow) (same : s ≡ t) (left : rows_left t ≡ rows_on id rows)
    (xs : List (Bor PositionRow)) (now : RowsOn) (taken : Yields (YieldsFirstRef rows_left) s xs now) where
  gives : YieldsList (YieldsFirstRef rows_left) (λ y. y.now) s (rows_on id rows)
  gives = YieldsList-at same (YieldsList-from_first (λ y. y.now) rows_left (rows_on id rows) left)

  -- the next item is the next row on the investee
  pub row-next : (r : Option (Bor PositionRow)) (u : RowsOn) (x : Bor PositionRow) → r ≡ Some x → YieldsFirstRef rows_left now r u → (length xs < length (rows_on id rows)) × (x.now ≡ get_or (rows_on id rows) (length xs) x.now)
  row-next r u x is step = YieldsList-turn gives xs now taken r u x is step

  -- at the end every row on the investee was taken
  pub rows-end : (r : Option (Bor PositionRow)) (u : RowsOn) → r ≡ None → YieldsFirstRef rows_left now r u → length xs ≡ length (rows_on id rows)
  rows-end r u is step = (YieldsList-end gives xs now taken r u is step).1

abbrev row_exposure : Kind → PositionRow → ℕ
row_exposure kind row = exposure_of kind (plain_position row)

abbrev row_closing : PositionRow → ℕ
row_closing row = closing_of (plain_position row)

-- what the rows lent
abbrev pub lent_in : Kind → List PositionRow → List Lent
lent_in kind on = map (lent_by kind) (plain_positions on)

pub next_lent : (kind : Kind) (on : List PositionRow) (k : ℕ) (row : PositionRow) → k < length on → row ≡ get_or on k row → lent_in kind (drop k on) ≡ lent_by kind (plain_position row) ∷ lent_in kind (drop (k + 1) on)
next_lent kind on k row h at = at_drop_more (lent_in kind) on k row h ∙ ap (λ r. lent_by kind (plain_position r) ∷ lent_in kind (drop (k + 1) on)) (sym at)

pub exposures-rows : (kind : Kind) (on : List PositionRow) → exposures (lent_in kind on) ≡ sum_by (λ row. exposure_of kind (plain_position row)) on
exposures-rows kind on = exposures_summed kind (plain_positions on) ∙ sum_view plain_position (exposure_of kind) on

-- ---- all branches together

-- the first k rows are added up
pub record LentSofar (kind : Kind) (on : List PositionRow) (k : ℕ) (sofar : Lending) : Type 0 where
  pub positions : sofar.positions ≡ k
  pub exposure : sofar.exposure ≡ sum_by (row_exposure kind) (take k on)
  pub closing : sofar.closing ≡ sum_by row_closing (take k on)
  pub exposure-bound : sofar.exposure ≤ months * 2 ^ 32 * k
  pub closing-bound : sofar.closing ≤ 2 ^ 32 * k

pub lent-more : (kind : Kind) (on : List PositionRow) (k : ℕ) (row : PositionRow) (sofar : Lending) → k < length on → row ≡ get_or on k row → LentSofar kind on k sofar
    → (e c : ℕ) → e ≡ row_exposure kind row → e ≤ months * 2 ^ 32 → c ≡ row_closing row → c ≤ 2 ^ 32
    → LentSofar kind on (k + 1) (record { positions = sofar.positions + 1; exposure = sofar.exposure + e; closing = sofar.closing + c })
lent-more kind on k row sofar h at inv e c is-e e-bound is-c c-bound = record {
  positions = omega (arith, inv.positions);
  exposure = sum-next (row_exposure kind) on k row sofar.exposure e h (is-e ∙ ap (row_exposure kind) at) inv.exposure;
  closing = sum-next row_closing on k row sofar.closing c h (is-c ∙ ap row_closing at) inv.closing;
  exposure-bound = omega (arith, inv.exposure-bound);
  closing-bound = omega (arith, inv.closing-bound);
}

pub lent-all : (kind : Kind) (id : ℕ) (rows : List PositionRow) (k : ℕ) (sofar : Lending) → k ≡ length (rows_on id rows) → LentSofar kind (rows_on id rows) k sofar → sofar ≡ lending_of kind id (plain_positions rows)
lent-all kind id rows k sofar h inv =
    let on = rows_on id rows in
    let view = on-view id rows in
    let all : take k on ≡ on = take_all k on (omega arith) in
    let a : sofar.positions ≡ length (positions_on id (plain_positions rows)) = inv.positions ∙ h ∙ sym (length-map on plain_position) ∙ ap length view in
    let b : sofar.exposure ≡ exposures (map (lent_by kind) (positions_on id (plain_positions rows))) =
    inv.exposure ∙ ap (sum_by (row_exposure kind)) all ∙ sym (exposures-rows kind on) ∙ ap (λ qs. exposures (map (lent_by kind) qs)) view in
    let c : sofar.closing ≡ sum_by closing_of (positions_on id (plain_positions rows)) =
    inv.closing ∙ ap (sum_by row_closing) all ∙ sym (sum_view plain_position closing_of on) ∙ ap (sum_by closing_of) view in
    λ i. record { positions = a i; exposure = b i; closing = c i }

-- ---- the turn of one branch

abbrev turn_in : Kind → ℕ → List PositionRow → Turn
turn_in kind b on = record { before = exposure_before (lent_in kind on) b; exposure = exposure_at (lent_in kind on) b }

-- the first k rows are passed, with exposures s before branch b; its turn is among those that are left
pub record NoTurnYet (kind : Kind) (b : ℕ) (on : List PositionRow) (k s : ℕ) : Type 0 where
  pub before : s + exposure_before (lent_in kind (drop k on)) b ≡ exposure_before (lent_in kind on) b
  pub own : exposure_at (lent_in kind (drop k on)) b ≡ exposure_at (lent_in kind on) b
  pub bound : s ≤ months * 2 ^ 32 * k

module _ (kind : Kind) (b : ℕ) (on : List PositionRow) (k : ℕ) (row : PositionRow) (h : k < length on) (at : row ≡ get_or on k row) (s : ℕ) (yet : NoTurnYet kind b on k s) where
  abbrev after : List Lent
  after = lent_in kind (drop (k + 1) on)

  split : lent_in kind (drop k on) ≡ lent_by kind (plain_position row) ∷ after
  split = next_lent kind on k row h at

  pub turn-past : (row.branch ≡ b → ⊥) → (e : ℕ) → e ≡ exposure_of kind (plain_position row) → e ≤ months * 2 ^ 32 → NoTurnYet kind b on (k + 1) (s + e)
  unfolding exposure_before exposure_at
  turn-past other e is-e e-bound =
      let test = ne_eqb row.branch b other in
      let befores : exposure_before (lent_in kind (drop k on)) b ≡ exposure_of kind (plain_position row) + exposure_before after b =
      ap (λ ls. exposure_before ls b) split ∙ cond-false (eqb row.branch b) _ _ test in
      let owns : exposure_at (lent_in kind (drop k on)) b ≡ exposure_at after b = ap (λ ls. exposure_at ls b) split ∙ cond-false (eqb row.branch b) _ _ test in
      record { before = omega (arith, yet.before); own = sym owns ∙ yet.own; bound = omega (arith, yet.bound) }

  -- the turn of this row's branch
  pub turn-here : row.branch ≡ b → (e : ℕ) → e ≡ exposure_of kind (plain_position row) → ◌≡◌ {A = Turn} (record { before = s; exposure = e }) (turn_in kind b on)
  unfolding exposure_before exposure_at
  turn-here same e is-e =
      let test = eq-eqb row.branch b same in
      let befores : exposure_before (lent_in kind (drop k on)) b ≡ 0 = ap (λ ls. exposure_before ls b) split ∙ cond-true (eqb row.branch b) _ _ test in
      let owns : exposure_at (lent_in kind (drop k on)) b ≡ exposure_of kind (plain_position row) = ap (λ ls. exposure_at ls b) split ∙ cond-true (eqb row.branch b) _ _ test in
      let p : s ≡ exposure_before (lent_in kind on) b = omega (arith, yet.before) in
      let q : e ≡ exposure_at (lent_in kind on) b = is-e ∙ sym owns ∙ yet.own in
      λ i. record { before = p i; exposure = q i }

pub turn-never : (kind : Kind) (b : ℕ) (on : List PositionRow) (k s : ℕ) → k ≡ length on → NoTurnYet kind b on k s → ◌≡◌ {A = Turn} (record { before = s; exposure = 0 }) (turn_in kind b on)
unfolding exposure_before exposure_at
turn-never kind b on k s h yet =
    let none : lent_in kind (drop k on) ≡ [] = at_drop_all (lent_in kind) on k (omega arith) in
    let p : s ≡ exposure_before (lent_in kind on) b = omega (arith, yet.before, ap (λ ls. exposure_before ls b) none) in
    let q : 0 ≡ exposure_at (lent_in kind on) b = sym (ap (λ ls. exposure_at ls b) none) ∙ yet.own in
    λ i. record { before = p i; exposure = q i }

-- the turn among the rows on an investee is that among its positions
pub turn-view : (kind : Kind) (id b : ℕ) (rows : List PositionRow) → turn_in kind b (rows_on id rows) ≡ turn_of kind id b (plain_positions rows)
turn-view kind id b rows i =
    let lent = map (lent_by kind) (on-view id rows i) in
    record { before = exposure_before lent b; exposure = exposure_at lent b }
