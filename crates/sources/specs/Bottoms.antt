-- What the sources that stand on no other mean.
--   cond b x y    x where the test b holds, else y
--   nat_lt a b    whether a < b, so that `nat_lt most n` says that n is above its limit
--   fault r p s   the refusal r at the place p, found by the source of number s
use Rattle.std.specs.Prelude.{ℕ, ◌+◌, ◌*◌, Bool, cond, ◌||◌, List, length, pos, is_some, Some, None, Option, Ok, Err, sum_by, Result, ◌==◌, nat_lt}
use Rattle.std.specs.Option.{unwrap_or}
use Rattle.std.specs.List.{prefix_len}
use Rattle.factors.specs.Factors.{tenths_of, rounded_up}
use Rattle.factors.specs.declared.Activity.{Activity}
use Rattle.faults.specs.Refusals.{fault}
use Rattle.faults.specs.declared.Fault.{Fault}
use Rattle.faults.specs.declared.Refusal.TheVariants.{FigureOutOfRange, NeitherVerifiedNorDisclosed, TermCount}
use Rattle.sources.specs.Limits.{most_kilograms, most_terms, most_output, most_mean, reported_number, physical_number, economic_number}
use Rattle.sources.specs.Readings.{reading, worked_out, on_ok}
use Rattle.sources.specs.declared.reading.Reading.{Reading}
use Rattle.sources.specs.declared.reported.Mark.{Mark}
use Rattle.sources.specs.declared.reported.Mark.TheVariants.{Neither, Verified, Disclosed}

-- the number that a caller sends for a mark
abbrev pub number_of_mark : Mark → ℕ
number_of_mark Neither = 0
number_of_mark Verified = 1
number_of_mark Disclosed = 2

-- the mark of a number
abbrev pub mark_numbered : ℕ → Option Mark
mark_numbered n = cond (n == 0) (Some Neither) (cond (n == 1) (Some Verified) (cond (n == 2) (Some Disclosed) None))

-- reported: the mark is 1 for verified by a third party, 2 for publicly disclosed, 0 for neither
abbrev pub reported_meaning : ℕ → ℕ → Result Reading Fault
reported_meaning kilograms mark =
    cond (nat_lt most_kilograms kilograms || nat_lt 2 mark) (Err (fault FigureOutOfRange 0 reported_number))
    (cond (mark == 0) (Err (fault NeitherVerifiedNorDisclosed 0 reported_number))
    (Ok (reading (pos kilograms) 1)))

-- a term of a bill is a row of the factor table with a quantity that it allows
abbrev pub in_range : Activity → Bool
in_range term = is_some (tenths_of term)

abbrev pub tenths : Activity → ℕ
tenths term = unwrap_or (tenths_of term) 0

-- how many terms stand before the first that is out of range, or at all
abbrev pub good : List Activity → ℕ
good terms = prefix_len in_range terms

-- the terms added, in tenths of a gram; the first that is out of range is the fault's place, counted from 1
abbrev pub added : List Activity → Result ℕ Fault
added terms =
    cond (nat_lt (good terms) (length terms)) (Err (fault FigureOutOfRange (good terms + 1) physical_number))
    (Ok (sum_by tenths terms))

-- physical: an energy bill, rounded up to a kilogram once
abbrev pub physical_meaning : List Activity → Result Reading Fault
physical_meaning terms =
    cond (length terms == 0 || nat_lt most_terms (length terms)) (Err (fault TermCount 0 physical_number))
    (on_ok (λ sum. worked_out (pos (rounded_up sum)) 3 physical_number) (added terms))

-- economic: wan of output times the sector's mean
abbrev pub economic_meaning : ℕ → ℕ → Result Reading Fault
economic_meaning output mean =
    cond (nat_lt most_output output || nat_lt most_mean mean) (Err (fault FigureOutOfRange 0 economic_number))
    (worked_out (pos (output * mean)) 5 economic_number)
