-- The rows on an investee, found from one to the next by an index of the ids.
use Rattle.std.proofs.Common.{◌≡◌, ℕ, suc, ◌+◌, ◌<◌, ◌≤◌, Bool, Bor, true, false, cond, eqb, ltb, List, [], ◌∷◌, length, get_or, set, drop, is_some, Some, None, Option, IfSome, MatchOption, sym, refl, ap, ◌∙◌, arith}
use Rattle.std.proofs.Math.ListN.{drop_of_length-le}
use Rattle.std.proofs.lemmas.Bool.{eqb-true, ltb-true, ltb-false, cond-true, cond-false}
use Rattle.std.proofs.lemmas.List.{drop-map, drop_more, get_or-map, set-get_or, map-set}
use Rattle.std.specs.Bool.{⊤}
use Rattle.std.specs.Iterator.{MakesProgress, YieldsFirstRef, item_count}
use Rattle.std.specs.List.{position_from}
use Rattle.key_index.specs.Places.{again_from, next_place}
use Rattle.key_index.proofs.Firsts.{first-here, first-past, rest-after}
use Rattle.plain.specs.PlainBook.{PlainPosition, with_balance}
use Rattle.positions.specs.Entries.{written}
use Rattle.positions.specs.Rows.{plain_position, ids_of, rows_on, with_first, rows_from}
use Rattle.positions.specs.Years.{in_year}
use Rattle.positions.specs.declared.PositionRow.{PositionRow}

-- from the first place of an id on, among the rows from place n on
pub rows-found : (id : ℕ) (rows : List PositionRow) (n : ℕ) (rest : List PositionRow) → drop n rows ≡ rest → rows_from rows (position_from (λ k. eqb k id) n (ids_of rest)) ≡ rows_on id rest
rows-found id rows n [] e = refl
rows-found id rows n (row ∷ rest) e = by (eqb row.id id) refl (rows-found id rows (n + 1) rest (rest-after rows n row rest e))
  where
    by : (t : Bool) → eqb row.id id ≡ t → rows_from rows (position_from (λ k. eqb k id) (n + 1) (ids_of rest)) ≡ rows_on id rest → rows_from rows (position_from (λ k. eqb k id) n (ids_of (row ∷ rest))) ≡ rows_on id (row ∷ rest)
    by true same further =
        ap (rows_from rows) (first-here (λ k. eqb k id) n row.id (ids_of rest) same)
        ∙ ap with_first e
        ∙ ap (λ k. row ∷ rows_on k rest) (eqb-true row.id id same)
        ∙ sym (cond-true (eqb row.id id) (row ∷ rows_on id rest) (rows_on id rest) same)
    by false other further =
        ap (rows_from rows) (first-past (λ k. eqb k id) n row.id (ids_of rest) other)
        ∙ further
        ∙ sym (cond-false (eqb row.id id) (row ∷ rows_on id rest) (rows_on id rest) other)

pub rows-few : (id : ℕ) (rows : List PositionRow) → length (rows_on id rows) ≤ length rows
rows-few id [] = omega arith
rows-few id (row ∷ rows) = by (eqb row.id id) (rows-few id rows)
  where
    by : (t : Bool) → length (rows_on id rows) ≤ length rows → length (cond t (row ∷ rows_on id rows) (rows_on id rows)) ≤ suc (length rows)
    by true few = omega (arith, few)
    by false few = omega (arith, few)

-- one step of the walk: the row at the place, and then those after it on the same investee
module _ (rows : List PositionRow) (keys : List ℕ) (indexed : keys ≡ ids_of rows) (at : ℕ) (next : Option ℕ) (is : next ≡ next_place at keys) where
  next-is : next ≡ again_from at (ids_of (drop at rows))
  next-is = is ∙ ap (next_place at) indexed ∙ ap (again_from at) (drop-map (λ row. row.id) at rows)

  pub walked : (o : Option (Bor PositionRow)) → is_some o ≡ ltb at (length rows) → IfSome o (λ x. x.now ≡ get_or rows at x.now)
      → MatchOption o ((rows_from rows (Some at) ≡ []) × (rows_from rows next ≡ [])) (λ x. rows_from rows (Some at) ≡ x.now ∷ rows_from rows next)
  walked None there row =
      let end : drop at rows ≡ [] = drop_of_length-le rows {i = at} (ltb-false at (length rows) (sym there)) in
      (ap with_first end, ap (rows_from rows) (next-is ∙ ap (λ rs. again_from at (ids_of rs)) end))
  walked (Some x) there row =
      let rest : drop at rows ≡ x.now ∷ drop (at + 1) rows = drop_more rows at x.now (ltb-true at (length rows) (sym there)) ∙ ap (λ r. r ∷ drop (at + 1) rows) (sym row) in
      ap with_first rest
      ∙ ap (λ rs. x.now ∷ rs) (sym (ap (rows_from rows) (next-is ∙ ap (λ rs. again_from at (ids_of rs)) rest) ∙ rows-found x.now.id rows (at + 1) (drop (at + 1) rows) refl))

-- each step leaves fewer rows
pub progress : {S : Type 0} (rest : S → List PositionRow) (s t : S) (r : Option (Bor PositionRow)) → YieldsFirstRef rest s r t → MakesProgress (λ _. ⊤) (item_count rest) s r t
progress rest s t None steps = record { on = λ _. tt; keeps = tt; rests = λ f. f }
progress rest s t (Some x) steps = record { on = λ f. (tt, f, omega (arith, ap length steps)); keeps = tt; rests = λ f. tt }

-- ---- a balance is written: the ids stay

written-id : (m v : ℕ) (q : PlainPosition) → (written m v q).id ≡ q.id
written-id m v q = by (in_year m)
  where
    by : (t : Bool) → (cond t (with_balance m v q) q).id ≡ q.id
    by true = refl
    by false = refl

pub ids-stay : (rows now : List PositionRow) (at m v : ℕ) (old new : PositionRow) → at < length rows → old ≡ get_or rows at old → plain_position new ≡ written m v (plain_position old) → now ≡ set rows at new → ids_of rows ≡ ids_of now
ids-stay rows now at m v old new h is e set-is =
    let same : get_or (ids_of rows) at 0 ≡ new.id = get_or-map (λ row. row.id) rows at old 0 h ∙ sym (ap (λ row. row.id) is) ∙ sym (ap (λ q. q.id) e ∙ written-id m v (plain_position old)) in
    sym (set-get_or (ids_of rows) at 0)
    ∙ ap (set (ids_of rows) at) same
    ∙ sym (ap ids_of set-is ∙ map-set (λ row. row.id) rows at new)
