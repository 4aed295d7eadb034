-- The method of an investee's line: a letter, and its numbers.
use Rattle.std.specs.Prelude.{ℕ, zero, suc, cond, List, [], ◌∷◌, Ok, Err, ◌==◌, slice_index}
use Rattle.factors.specs.declared.Activity.{Activity}
use Rattle.entries.specs.Bills.{bill_of}
use Rattle.entries.specs.Entries.{PlainMethod, report, bill, sector_mean, held_method}
use Rattle.entries.specs.declared.method.Bill.{Bill}
use Rattle.entries.specs.declared.method.Method.{Method}
use Rattle.portfolio_lines.specs.declared.misread.Misread.TheVariants.{Field}
use Rattle.portfolio_lines.specs.Counted.{FieldsLeft, Reading, and_then, numbers_in, letter_in}

-- kilograms, mark
abbrev pub report_in : FieldsLeft → Reading PlainMethod
report_in f = and_then (numbers_in 2 f) (λ r. Ok (report (slice_index r.0 0) (slice_index r.0 1), r.1))

-- output, mean
abbrev pub mean_in : FieldsLeft → Reading PlainMethod
mean_in f = and_then (numbers_in 2 f) (λ r. Ok (sector_mean (slice_index r.0 0) (slice_index r.0 1), r.1))

abbrev pub term_of : List ℕ → Activity
term_of ns = record { row = slice_index ns 0; quantity = slice_index ns 1 }

abbrev pub in_front : Activity → Reading (List Activity) → Reading (List Activity)
in_front term (Ok r) = Ok (term ∷ r.0, r.1)
in_front term (Err e) = Err e

-- so many terms: row, quantity
abbrev pub terms_in : ℕ → FieldsLeft → Reading (List Activity)
terms_in zero f = Ok ([], f)
terms_in (suc n) f = and_then (numbers_in 2 f) (λ r. in_front (term_of r.0) (terms_in n r.1))

-- the number of terms, and the terms
abbrev pub bill_in : FieldsLeft → Reading PlainMethod
bill_in f = and_then (numbers_in 1 f) (λ r. and_then (terms_in (slice_index r.0 0) r.1) (λ s. Ok (bill s.0, s.1)))

-- R, P or E, and its numbers
abbrev pub method_by : (place letter : ℕ) → FieldsLeft → Reading PlainMethod
method_by place letter f = cond (letter == 82) (report_in f) (cond (letter == 80) (bill_in f) (cond (letter == 69) (mean_in f) (Err (Field place))))

abbrev pub method_in : FieldsLeft → Reading PlainMethod
method_in f = and_then (letter_in f) (λ r. method_by f.place r.0 r.1)

-- ---- the same as a program holds them

abbrev pub held : Reading PlainMethod → Reading Method
held (Ok r) = Ok (held_method r.0, r.1)
held (Err e) = Err e

abbrev pub held_bill : Reading (List Activity) → Reading Bill
held_bill (Ok r) = Ok (bill_of r.0, r.1)
held_bill (Err e) = Err e
