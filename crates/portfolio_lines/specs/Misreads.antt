-- Where a line is wrong.
use Rattle.std.specs.Prelude.{ℕ}
use Rattle.portfolio_lines.specs.declared.misread.Misread.{Misread}
use Rattle.portfolio_lines.specs.declared.misread.Misread.TheVariants.{TooLong, Field}

-- a field's number, from 1; 0 stands for the line as a whole
abbrev pub place_of : Misread → ℕ
place_of TooLong = 0
place_of (Field place) = place
