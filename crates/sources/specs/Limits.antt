-- How large a reading and a source's figures may be, and the numbers of the sources.
use Rattle.std.specs.Prelude.{ℕ}

-- a reading in size, or a figure in kilograms
abbrev pub most_kilograms : ℕ
most_kilograms = 1000000000000

-- terms of an energy bill
abbrev pub most_terms : ℕ
most_terms = 16

-- wan of output of a company whose emissions are taken from its sector
abbrev pub most_output : ℕ
most_output = 500000000

-- kilograms for each wan of output, the mean of a sector
abbrev pub most_mean : ℕ
most_mean = 1000000

-- wan of output of a period that an estimate compares
abbrev pub most_period_output : ℕ
most_period_output = 9000000

-- megawatt hours of green power, or tonnes of certificates
abbrev pub most_offset : ℕ
most_offset = 1000000000

-- what a fault carries of the source that found it
abbrev pub reported_number : ℕ
reported_number = 1

abbrev pub physical_number : ℕ
physical_number = 2

abbrev pub economic_number : ℕ
economic_number = 3

abbrev pub estimate_number : ℕ
estimate_number = 4

abbrev pub overseas_number : ℕ
overseas_number = 5

abbrev pub offset_number : ℕ
offset_number = 6
