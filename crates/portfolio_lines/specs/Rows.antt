-- Where a line of numbers is wrong, as the crate lines tells it and by places.
use Rattle.std.specs.Prelude.{ℕ, ◌+◌}
use Rattle.lines.specs.declared.fields.LineError.{LineError}
use Rattle.lines.specs.declared.fields.LineError.TheVariants.{TooLong, Field, Surplus}
use Rattle.portfolio_lines.specs.declared.misread.Misread.{Misread}
use Rattle.portfolio_lines.specs.declared.misread.Misread.TheVariants as misread
use Rattle.portfolio_lines.specs.Misreads.{place_of}

-- of a line of so many numbers: the place after them has the first field too many
abbrev pub misread_of : ℕ → LineError → Misread
misread_of count TooLong = misread.TooLong
misread_of count (Field i) = misread.Field (i + 1)
misread_of count Surplus = misread.Field (count + 1)

abbrev pub last_place : ℕ → LineError → ℕ
last_place count e = place_of (misread_of count e)
