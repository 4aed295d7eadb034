-- The guides by their numbers in files, and the tables of each.
use Rattle.std.specs.Prelude.{ℕ, cond, Some, None, Option, ◌==◌}
use Rattle.rules.specs.Lawful.{national-lawful, pudong-lawful}
use Rattle.rules.specs.National.{national_tables}
use Rattle.rules.specs.Pudong.{pudong_tables}
use Rattle.rules.specs.Tables.{Tables, Lawful}
use Rattle.entries.specs.declared.guide.Guide.{Guide}
use Rattle.entries.specs.declared.guide.Guide.TheVariants.{National, Pudong}

-- the number that a file has for a guide
abbrev pub guide_number : Guide → ℕ
guide_number National = 1
guide_number Pudong = 2

abbrev pub guide_numbered : ℕ → Option Guide
guide_numbered n = cond (n == 1) (Some National) (cond (n == 2) (Some Pudong) None)

abbrev pub guide_tables : Guide → Tables
guide_tables National = national_tables
guide_tables Pudong = pudong_tables

pub guide-lawful : (g : Guide) → Lawful (guide_tables g)
guide-lawful National = national-lawful
guide-lawful Pudong = pudong-lawful
