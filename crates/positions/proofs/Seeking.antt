-- The place of a branch's position on an investee, sought from one row on that investee to the next.
use Rattle.std.proofs.Common.{◌≡◌, ℕ, ◌+◌, ◌-◌, ◌<◌, Bool, cond, eqb, List, [], ◌∷◌, length, get_or, drop, Some, None, Option, IfSome, sym, refl, ap, ap₂, ◌∙◌, arith}
use Rattle.std.specs.List.{position, position_from}
use Rattle.std.proofs.lemmas.Bool.{eq-eqb, eqb-true, ne_eqb, and_parts, and_from, and_left}
use Rattle.std.proofs.lemmas.Iterator.Adapters.{position_from-zero}
use Rattle.std.proofs.lemmas.List.{length-map, length-drop, drop-map, drop_more, get_or-map, get_or-drop}
use Rattle.key_index.specs.Places.{first_place, again_from, next_place}
use Rattle.key_index.proofs.Chains.{first-stands}
use Rattle.key_index.proofs.Firsts.{first-here, first-past, seen_from, wider-first}
use Rattle.plain.specs.PlainBook.{is_of}
use Rattle.positions.specs.Rows.{plain_position, plain_positions, ids_of}
use Rattle.positions.specs.declared.PositionRow.{PositionRow}
use Rattle.positions.proofs.Views.{position-view}

module _ (b id : ℕ) (rows : List PositionRow) where
  abbrev sought : PositionRow → Bool
  sought row = is_of b id (plain_position row)

  abbrev on_it : PositionRow → Bool
  on_it row = eqb row.id id

  ids-found : (n : ℕ) (rs : List PositionRow) → position_from (λ k. eqb k id) n (ids_of rs) ≡ position_from on_it n rs
  ids-found n [] = refl
  ids-found n (row ∷ rs) = ap (cond (eqb row.id id) (Some n)) (ids-found (n + 1) rs)

  -- it is seen from here as from the first row, and here is a row on the investee
  pub record Seeking (next : Option ℕ) : Type 0 where
    pub same : seen_from sought rows next ≡ position_from sought 0 rows
    pub there : IfSome next (λ at. (at < length rows) × (get_or (ids_of rows) at 0 ≡ id))

  -- the next row on the investee, from place n on
  there-from : (n : ℕ) (next : Option ℕ) → next ≡ position_from (λ k. eqb k id) n (drop n (ids_of rows)) → IfSome next (λ at. (at < length rows) × (get_or (ids_of rows) at 0 ≡ id))
  there-from n None e = tt
  there-from n (Some at) e =
      let stands = first-stands (λ k. eqb k id) n (drop n (ids_of rows)) at (sym e) in
      let place : get_or (drop n (ids_of rows)) stands.offset 0 ≡ get_or (ids_of rows) at 0 = get_or-drop n (ids_of rows) stands.offset 0 ∙ ap (λ i. get_or (ids_of rows) i 0) (sym stands.at) in
      (omega (arith, stands.at, stands.within, length-drop n (ids_of rows), length-map rows (λ row. row.id)), sym place ∙ eqb-true _ id stands.passes)

  seen-on : (n : ℕ) (next : Option ℕ) → next ≡ position_from (λ k. eqb k id) n (drop n (ids_of rows)) → seen_from sought rows next ≡ position_from sought n (drop n rows)
  seen-on n next e =
      ap (seen_from sought rows) (e ∙ ap (position_from (λ k. eqb k id) n) (drop-map (λ row. row.id) n rows) ∙ ids-found n (drop n rows))
      ∙ wider-first sought on_it (λ row passes. (and_parts (eqb row.branch b) (eqb row.id id) passes).1) rows n (drop n rows) refl

  pub seek-start : (next : Option ℕ) → next ≡ first_place id (ids_of rows) → Seeking next
  seek-start next e =
      let from-first = e ∙ position_from-zero (λ k. eqb k id) (ids_of rows) in
      record { same = seen-on 0 next from-first; there = there-from 0 next from-first }

  pub found-is : position_from sought 0 rows ≡ position (is_of b id) (plain_positions rows)
  found-is = sym (position_from-zero sought rows) ∙ position-view plain_position (is_of b id) rows

  -- how many rows stand from a place on
  abbrev pub rows_after : Option ℕ → ℕ
  rows_after None = 0
  rows_after (Some at) = length rows - at

  module _ (at : ℕ) (seeking : Seeking (Some at)) (row : PositionRow) (is : row ≡ get_or rows at row) where
    pub within : at < length rows
    within = seeking.there.0

    own-id : row.id ≡ id
    own-id = ap (λ r. r.id) is ∙ sym (get_or-map (λ r. r.id) rows at row 0 within) ∙ seeking.there.1

    rest : drop at rows ≡ row ∷ drop (at + 1) rows
    rest = drop_more rows at row within ∙ ap (λ r. r ∷ drop (at + 1) rows) (sym is)

    pub seek-here : row.branch ≡ b → Some at ≡ position_from sought 0 rows
    seek-here e =
        sym (first-here sought at row (drop (at + 1) rows) (and_from (eqb row.branch b) (eqb row.id id) (eq-eqb row.branch b e) (eq-eqb row.id id own-id)))
        ∙ ap (position_from sought at) (sym rest)
        ∙ seeking.same

    next-is : (next : Option ℕ) → next ≡ next_place at (ids_of rows) → next ≡ position_from (λ k. eqb k id) (at + 1) (drop (at + 1) (ids_of rows))
    next-is next e =
        e
        ∙ ap (again_from at) (drop-map (λ r. r.id) at rows ∙ ap ids_of rest)
        ∙ ap₂ (λ k ks. position_from (λ l. eqb l k) (at + 1) ks) own-id (sym (drop-map (λ r. r.id) (at + 1) rows))

    pub seek-on : (row.branch ≡ b → ⊥) → (next : Option ℕ) → next ≡ next_place at (ids_of rows) → Seeking next
    seek-on other next e = record {
      same =
          seen-on (at + 1) next (next-is next e)
          ∙ sym (first-past sought at row (drop (at + 1) rows) (and_left (eqb row.branch b) (eqb row.id id) (ne_eqb row.branch b other)))
          ∙ ap (position_from sought at) (sym rest)
          ∙ seeking.same;
      there = there-from (at + 1) next (next-is next e);
    }

    pub seek-shorter : (next : Option ℕ) → next ≡ next_place at (ids_of rows) → rows_after next < rows_after (Some at)
    seek-shorter None e = omega (arith, within)
    seek-shorter (Some p) e =
        let stands = first-stands (λ k. eqb k id) (at + 1) (drop (at + 1) (ids_of rows)) p (sym (next-is (Some p) e)) in
        omega (arith, within, stands.at)
