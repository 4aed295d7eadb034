-- How far whole numbers lie from fractions, in sums.
use Rattle.std.proofs.Common.{◌≡◌, ℕ, ◌+◌, ◌*◌, ◌≤◌, ℤ, pos, ◌+ℤ◌, ◌-ℤ◌, ◌*ℤ◌, arith}
use borrow.Author.Differences.{ints}
use Rattle.plain.specs.Fractions.{Fraction, ◌over◌, add_fractions, gap}
use Rattle.plain.proofs.Integers.{ring, linear, size-add, size-mul}

regroup : (t u x y b c : ℤ) → (t +ℤ u) *ℤ (b *ℤ c) -ℤ (x *ℤ c +ℤ y *ℤ b) ≡ (t *ℤ b -ℤ x) *ℤ c +ℤ (u *ℤ c -ℤ y) *ℤ b
regroup t u x y b c = simp ring (omega (arith, linear))

pub gap-none : (b : ℕ) → gap (pos 0) (pos 0 over b) ≡ 0
gap-none b = omega (arith, ints)

pub gap-add : (m n : ℤ) (x y : Fraction) → gap (m +ℤ n) (add_fractions x y) ≤ gap m x * y.bottom + gap n y * x.bottom
gap-add m n x y =
    let b = x.bottom in
    let c = y.bottom in
    let p = m *ℤ pos b -ℤ x.top in
    let q = n *ℤ pos c -ℤ y.top in
    rw (regroup m n x.top y.top (pos b) (pos c))
    (omega (arith, size-add (p *ℤ pos c) (q *ℤ pos b), size-mul p (pos c), size-mul q (pos b)))
