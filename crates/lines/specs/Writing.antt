-- Text written into a buffer over what stands there, from a place on.
--   over    the buffer with the text in it
--   Wrote   what one write did, or several one after another
use Rattle.std.specs.Prelude.{◌≡◌, ℕ, ◌+◌, ◌<◌, ◌≤◌, List, ◌++◌, length, take, drop, Option, MatchOption}
use Rattle.lines.specs.declared.writing.Writer.{Writer}

abbrev pub over : List ℕ → ℕ → List ℕ → List ℕ
over buffer at text = take at buffer ++ (text ++ drop (at + length text) buffer)

-- All of the text stands in the buffer and the place is after it, or the text does not fit. It is the same buffer.
pub record Wrote (was : Writer) (text : List ℕ) (now : Writer) (r : Option (Unit {0})) : Type 0 where
  pub told : MatchOption r (length was.buffer.now < was.at + length text) (λ _. (now.at ≡ was.at + length text) × (now.at ≤ length was.buffer.now) × (now.buffer.now ≡ over was.buffer.now was.at text))
  pub same_buffer : now.buffer.ghost_name ≡ was.buffer.ghost_name
