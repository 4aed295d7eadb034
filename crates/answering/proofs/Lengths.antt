-- The line that says where a file stops fits into every buffer for a page.
use Rattle.std.proofs.Common.{◌≡◌, ℕ, ◌+◌, ◌^◌, ◌<◌, ◌≤◌, List, [], ◌∷◌, ◌++◌, length, take, drop, Some, None, Option, decimal, refl, ◌∙◌, arith}
use Rattle.std.specs.Option.{IsSome}
use Rattle.std.specs.List.{AllByRecursion}
use Rattle.std.proofs.lemmas.Fmt.{length-decimal-le}
use Rattle.std.proofs.lemmas.List.{length-append}
use Rattle.entries.specs.declared.stop.Stop.{Stop}
use Rattle.faults.specs.Refusals.{number_of}
use Rattle.lines.specs.declared.writing.Writer.{Writer}
use Rattle.lines.specs.Writing.{Wrote}
use Rattle.pages.specs.Placed.{room, placed}
use Rattle.answering.specs.Stops.{stop_numbers, stop_line}

twenty : (n : ℕ) → n < 2 ^ 64 → length (decimal n) ≤ 20
twenty n h = length-decimal-le 20 n (omega arith) (omega arith) h

four : (a b c d : List ℕ) → length ((a ++ 32 ∷ (b ++ 32 ∷ (c ++ 32 ∷ d))) ++ 10 ∷ []) ≡ length a + length b + length c + length d + 4
four a b c d =
    omega (arith, length-append (a ++ 32 ∷ (b ++ 32 ∷ (c ++ 32 ∷ d))) (10 ∷ []), length-append a (32 ∷ (b ++ 32 ∷ (c ++ 32 ∷ d))), length-append b (32 ∷ (c ++ 32 ∷ d)), length-append c (32 ∷ d))

stop-short : (s : Stop) → AllByRecursion (λ n. n < 2 ^ 64) (stop_numbers s) → length (stop_line s) ≤ 86
stop-short s fits =
    omega (arith, four (decimal s.line) (decimal (number_of s.fault.refusal)) (decimal s.fault.place) (decimal s.fault.source), twenty s.line fits.0, twenty (number_of s.fault.refusal) fits.1.0, twenty s.fault.place fits.1.1.0, twenty s.fault.source fits.1.1.1.0)

-- the line where a writer at the start of a buffer with room for every page wrote it
pub record StopLine (s : Stop) (was now : Writer) (r : Option (Unit {0})) : Type 0 where
  pub some : IsSome r
  pub bytes : now.at ≡ length (stop_line s)
  pub within : now.at ≤ room
  pub placed : now.buffer.now ≡ placed (stop_line s) was.buffer.now

pub stop-written : {was now : Writer} (s : Stop) (r : Option (Unit {0})) → was.at ≡ 0 → room ≤ length was.buffer.now → AllByRecursion (λ n. n < 2 ^ 64) (stop_numbers s)
    → Wrote was (stop_line s) now r → StopLine s was now r
stop-written {was} {now} s None start long fits wrote = absurd (omega (arith, wrote.told, start, stop-short s fits, long))
stop-written {was} {now} s (Some u) start long fits wrote =
    let w = wrote.told in
    let bytes : now.at ≡ length (stop_line s) = omega (arith, w.0, start) in
    let rest : was.at + length (stop_line s) ≡ length (stop_line s) = omega (arith, start) in
    record {
      some = refl;
      bytes = bytes;
      within = omega (arith, bytes, stop-short s fits);
      placed = w.2 ∙ (λ i. take (start i) was.buffer.now ++ (stop_line s ++ drop (rest i) was.buffer.now));
    }
