use Rattle.std.proofs.Common.{◌≡◌, ℕ, ◌+◌, ◌-◌, ◌≤◌, List, ◌++◌, rules, arith, length, take, sym, ap, subst, ◌∙◌, le_refl, length-take-le}
use Rattle.std.proofs.lemmas.List.{take-append-le}
use Rattle.std.proofs.lemmas.Slice.{take-put_mid_below}
use Rattle.std.proofs.Math.Seq.{take-append-add}
use Rattle.std.specs.Io.KnownBytes.{Consumes}
use Rattle.std.proofs.KnownBytes.{Consumes-trans, Consumes-kept}
use borrow.Rule.Slice.PartMut.{put_mid, post_of}
use Rattle.carbon.proofs.fill.Goals as goal
use Rattle.carbon.proofs.fill.Goals.{in-Ok, in-Err}

-- what was read stands after what was filled before
filled-on : (f k n : ℕ) (xs ys : List ℕ) → f ≤ length xs → n ≤ length ys → take f xs ++ take n ys ≡ take (f + n) (put_mid f k xs ys)
filled-on f k n xs ys within fits =
    let after = post_of f k xs in
    sym (ap (λ m. take (m + n) (take f xs ++ (ys ++ after))) (sym (length-take-le f xs within))
    ∙ take-append-add (take f xs) (ys ++ after) n
    ∙ ap (λ l. take f xs ++ l) (take-append-le n ys after fits))

pub loop-preserved : goal.loop-preserved
loop-preserved g c =
    let from = c.loop.filled in
    let now = put_mid from (length c.loop.buffer - from) c.loop.buffer c.read.new.buf in
    elim c.match-read.branch [
      | in-Ok w ↦ (search (rules, arith), subst (Consumes _ _) (filled-on from _ w.in-Ok.read c.loop.buffer c.read.new.buf c.loop.invariant.0 w.in-Ok.ensures.bound.0 ∙ ap (λ m. take m now) (sym w.filled-is)) (Consumes-trans _ _ _ _ _ c.loop.invariant.1 w.in-Ok.ensures.bytes.0))
      | in-Err w ↦ (search (rules, arith), subst (Consumes _ _) (sym (take-put_mid_below _ _ _ _ _ (le_refl _) c.loop.invariant.0) ∙ ap (λ m. take m now) (sym w.filled-is)) (Consumes-kept _ _ _ _ c.loop.invariant.1 w.in-Err.ensures.bytes))
    ]
