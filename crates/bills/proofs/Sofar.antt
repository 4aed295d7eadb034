-- The items of a bill read line by line.
use Rattle.std.proofs.Common.{◌≡◌, ℕ, zero, suc, ◌+◌, ◌≤◌, Bool, true, false, cond, eqb, List, [], ◌∷◌, ◌++◌, length, take, is_some, Some, None, Ok, Err, Option, Result, sym, refl, ap, ◌∙◌, append_assoc, arith, Bor}
use Rattle.std.proofs.lemmas.List.{append-nil, length-take, take_all}
use Rattle.lines.specs.declared.fields.LineError.{LineError}
use Rattle.lines.specs.Fields.{pieces, onto, pieces_left}
use Rattle.operations.specs.declared.items.Item.{Item}
use Rattle.bills.specs.declared.reading.Malformed.{Malformed}
use Rattle.bills.specs.declared.reading.Malformed.TheVariants.{Line, Unended}
use Rattle.bills.specs.Bills.{item_in, in_front, items_of, most_held, held}

-- items read before, in front of what the rest reads as
abbrev pub after : List Item → Result (List Item) Malformed → Result (List Item) Malformed
after xs (Ok ys) = Ok (xs ++ ys)
after xs (Err m) = Err m

-- the items xs are kept of the pieces ps, and the pieces left, of which the first is the n-th line, are to be read
pub record Sofar (ps : List (List ℕ)) (xs : List Item) (n : ℕ) (left : List (List ℕ)) : Type 0 where
  pub reads : held (items_of 1 ps) ≡ held (after xs (items_of n left))
  pub count : n + length left ≤ length ps + 1
  pub room : length xs ≤ most_held

take-front : (n : ℕ) (xs ys : List Item) → take n (take n xs ++ ys) ≡ take n (xs ++ ys)
take-front zero xs ys = refl
take-front (suc n) [] ys = refl
take-front (suc n) (x ∷ xs) ys = ap (λ l. x ∷ l) (take-front n xs ys)

-- a line's item is kept, if there is room
abbrev pub kept : List Item → Item → List Item
kept xs x = take most_held (xs ++ x ∷ [])

after-kept : (n : ℕ) (xs : List Item) (x : Item) (r : Result (List Item) Malformed) → held (after xs (in_front n (Ok x) r)) ≡ held (after (kept xs x) r)
after-kept n xs x (Ok ys) = ap (λ l. Ok (record { items = l })) (ap (take most_held) (sym (append_assoc xs (x ∷ []) ys)) ∙ sym (take-front most_held (xs ++ x ∷ []) ys))
after-kept n xs x (Err m) = refl

-- a line in front of others, with another piece behind it
step : (n : ℕ) (p : List ℕ) (next : List (List ℕ)) → 1 ≤ length next → items_of n (p ∷ next) ≡ in_front n (item_in p) (items_of (n + 1) next)
step n p [] some = absurd (omega arith)
step n p (q ∷ qs) some = refl

-- nothing is read yet
pub sofar-none : (ps : List (List ℕ)) → Sofar ps [] 1 ps
sofar-none ps = record { reads = none (items_of 1 ps); count = omega arith; room = omega arith }
  where
    none : (r : Result (List Item) Malformed) → held r ≡ held (after [] r)
    none (Ok xs) = refl
    none (Err m) = refl

module _ (ps : List (List ℕ)) (xs : List Item) (n : ℕ) (left : List (List ℕ)) (so : Sofar ps xs n left) where
  -- the piece p, with another behind it, is a line of the item x
  pub sofar-more : (p : List ℕ) (next : List (List ℕ)) (x : Item) (ys : List Item) → left ≡ p ∷ next → 1 ≤ length next → Ok x ≡ item_in p → ys ≡ kept xs x → Sofar ps ys (n + 1) next
  sofar-more p next x ys is some item grown =
      let here : items_of n left ≡ in_front n (Ok x) (items_of (n + 1) next) = ap (items_of n) is ∙ step n p next some ∙ ap (λ r. in_front n r (items_of (n + 1) next)) (sym item) in
      record {
        reads = so.reads ∙ ap (λ r. held (after xs r)) here ∙ after-kept n xs x _ ∙ ap (λ l. held (after l (items_of (n + 1) next))) (sym grown);
        count = omega (arith, so.count, ap length is);
        room = omega (arith, ap length grown, length-take most_held (xs ++ x ∷ []));
      }

  -- or it is not a line
  pub sofar-wrong : (p : List ℕ) (next : List (List ℕ)) (e : LineError) → left ≡ p ∷ next → 1 ≤ length next → Err e ≡ item_in p → held (items_of 1 ps) ≡ Err (Line n e)
  sofar-wrong p next e is some item =
      so.reads ∙ ap (λ l. held (after xs (items_of n l))) is
      ∙ ap (λ r. held (after xs r)) (step n p next some ∙ ap (λ r. in_front n r (items_of (n + 1) next)) (sym item))

  all-read : held (after xs (Ok [])) ≡ Ok (record { items = xs })
  all-read = ap (λ l. Ok (record { items = l })) (ap (take most_held) (append-nil xs) ∙ take_all most_held xs so.room)

  -- the last piece is what stands behind the last line feed
  pub sofar-last : (p : List ℕ) → left ≡ p ∷ [] → true ≡ eqb (length p) 0 → held (items_of 1 ps) ≡ Ok (record { items = xs })
  sofar-last p is empty = so.reads ∙ ap (λ l. held (after xs (items_of n l))) is ∙ ap (λ t. held (after xs (cond t (Ok []) (Err (Unended n))))) (sym empty) ∙ all-read

  -- or no piece is left
  pub sofar-end : left ≡ [] → held (items_of 1 ps) ≡ Ok (record { items = xs })
  sofar-end is = so.reads ∙ ap (λ l. held (after xs (items_of n l))) is ∙ all-read

onto-length : (b : ℕ) (ps : List (List ℕ)) → 1 ≤ length ps → length (onto b ps) ≡ length ps
onto-length b [] h = absurd (omega arith)
onto-length b (p ∷ ps) h = refl

-- at least one piece, and one more for each byte at most
pub some-pieces : (separator : ℕ) (bs : List ℕ) → (1 ≤ length (pieces separator bs)) × (length (pieces separator bs) ≤ length bs + 1)
some-pieces separator [] = (omega arith, omega arith)
some-pieces separator (b ∷ bs) = by (eqb b separator) (some-pieces separator bs)
  where
    by : (t : Bool) → (1 ≤ length (pieces separator bs)) × (length (pieces separator bs) ≤ length bs + 1)
        → (1 ≤ length (cond t ([] ∷ pieces separator bs) (onto b (pieces separator bs)))) × (length (cond t ([] ∷ pieces separator bs) (onto b (pieces separator bs))) ≤ suc (length bs) + 1)
    by true h = (omega arith, omega arith)
    by false h = let e = onto-length b (pieces separator bs) h.0 in (omega arith, omega arith)

pub left-some : (separator : ℕ) (o : Option (Bor (List ℕ))) → is_some o ≡ true → 1 ≤ length (pieces_left separator o)
left-some separator None h = let z : ◌≡◌ {A = ℕ} 0 1 = cc in absurd (omega arith)
left-some separator (Some r) h = (some-pieces separator r.now).0

pub left-none : (separator : ℕ) (o : Option (Bor (List ℕ))) → is_some o ≡ false → pieces_left separator o ≡ []
left-none separator None h = refl
left-none separator (Some r) h = let z : ◌≡◌ {A = ℕ} 0 1 = cc in absurd (omega arith)
