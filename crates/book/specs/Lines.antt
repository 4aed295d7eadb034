-- The lines of a book, and what they add up to.
--   line    what one investee adds to the book's totals
--   group   the investees that a subtotal is of
--   sums    the lines of a group added up: kilograms, positions, and how many of these a reading covers
use Rattle.std.specs.Prelude.{ℕ, ◌+◌, ◌*◌, ◌≤◌, min, Bool, true, false, cond, not, ◌&&◌, List, length, pos, sum_by}
use Rattle.grading.specs.Mean.{mean_of}
use Rattle.rules.specs.Tables.{Tables}
use Rattle.plain.specs.declared.answers.BookTotal.{BookTotal}
use Rattle.plain.specs.declared.answers.Subtotal.{Subtotal}
use Rattle.plain.specs.Exposures.{positions_on, exposure_to, is_counted, Measure, emissions, reductions}
use Rattle.plain.specs.Limits.{most_positions, most_exposure}
use Rattle.plain.specs.PlainBook.{PlainInvestee, PlainBook, id_of}
use Rattle.plain.specs.Readings.{both, total_of, hundredths, is_project}
use Rattle.plain.specs.Sums.{sum_over}
use Rattle.plain.specs.EveryRun.{measured}
use Rattle.book.specs.Shares.{added, AtMostFigures}
use Rattle.book.specs.declared.book.readings.lines.Group.{Group}
use Rattle.book.specs.declared.book.readings.lines.Group.TheVariants.{Projects, Rest, All}
use Rattle.book.specs.declared.book.readings.lines.Line.{Line}
use Rattle.book.specs.declared.book.readings.lines.Sums.{Sums}

-- ---- one line

abbrev pub line_of : Tables → PlainBook → PlainInvestee → Line
line_of t p x = record {
  project = is_project x;
  kilograms = (total_of t p x).kilograms;
  positions = length (positions_on (id_of x) p.positions);
  counted = is_counted t p x;
  reduced = x.reduced;
  exposure = exposure_to x p.positions;
  grade = x.grade;
}

abbrev pub no_line : Line
no_line = record {
  project = false;
  kilograms = record { emissions = pos 0; reductions = pos 0 };
  positions = 0;
  counted = false;
  reduced = false;
  exposure = 0;
  grade = 0;
}

-- how many of its positions a reading of the measure covers
abbrev pub covered : Measure → Line → ℕ
covered emissions l = cond l.counted l.positions 0
covered reductions l = cond (l.counted && l.reduced) l.positions 0

-- counted investees weigh as much as their exposures, and the others nothing
abbrev pub weight_of : Line → ℕ
weight_of l = cond l.counted (min l.exposure most_exposure) 0

abbrev pub grade_of : Line → ℕ
grade_of l = min l.grade 5

pub record LineWithinLimits (l : Line) : Type 0 where
  pub kilograms_within_limit : AtMostFigures 1 l.kilograms
  pub positions_within_limit : l.positions ≤ most_positions
  pub exposure_within_limit : l.exposure ≤ most_exposure
  pub grade_within_limit : l.grade ≤ 5

-- ---- groups

abbrev pub takes : Group → Line → Bool
takes Projects l = l.project
takes Rest l = not l.project
takes All l = true

-- a line that the group leaves out adds nothing
abbrev pub taken : Group → Line → Line
taken g l = cond (takes g l) l no_line

-- ---- sums

abbrev pub no_sums : Sums
no_sums = record { kilograms = record { emissions = pos 0; reductions = pos 0 }; positions = 0; counted = 0; reduced = 0 }

abbrev pub plus_line : Sums → Line → Sums
plus_line s l = record {
  kilograms = added s.kilograms l.kilograms;
  positions = s.positions + l.positions;
  counted = s.counted + covered emissions l;
  reduced = s.reduced + covered reductions l;
}

abbrev pub sums_of : Group → List Line → Sums
sums_of g lines = record {
  kilograms = both (λ m. sum_over lines (λ l. measured m (taken g l).kilograms));
  positions = sum_by (λ l. (taken g l).positions) lines;
  counted = sum_by (λ l. covered emissions (taken g l)) lines;
  reduced = sum_by (λ l. covered reductions (taken g l)) lines;
}

abbrev pub subtotal_from : Sums → Subtotal
subtotal_from s = record {
  kilograms = s.kilograms;
  emissions_cover = hundredths s.counted s.positions;
  reductions_cover = hundredths s.reduced s.positions;
}

abbrev pub book_total_from : List Line → BookTotal
book_total_from lines = record {
  projects = subtotal_from (sums_of Projects lines);
  rest = subtotal_from (sums_of Rest lines);
  all = subtotal_from (sums_of All lines);
  mean_grade = mean_of weight_of grade_of lines;
}

-- no larger than n lines together
pub record AtMostLines (n : ℕ) (s : Sums) : Type 0 where
  pub kilograms_within_limit : AtMostFigures n s.kilograms
  pub positions_within_limit : s.positions ≤ n * most_positions
  pub counted_within_limit : s.counted ≤ n * most_positions
  pub reduced_within_limit : s.reduced ≤ n * most_positions
