-- What a plain book says of an investee: its exposures, its denominator, and whether it is counted.
--   exposure          month balances added up over the year, an unposted month as 0
--   closing balance   that of the last month of the year
--   reason            why the rule leaves the investee out; 0 where it is counted
use Rattle.std.specs.Prelude.{ℕ, ◌*◌, Bool, true, false, cond, List, map, length, ℤ, Ok, Err, sum_by, filter, Result, ◌==◌, nat_eq}
use Rattle.std.specs.Option.{unwrap_or}
use Rattle.faults.specs.declared.Refusal.{Refusal}
use Rattle.rules.specs.Investees.{financing_of}
use Rattle.rules.specs.Months.{months}
use Rattle.rules.specs.Tables.{Tables}
use Rattle.rules.specs.declared.figures.Base.{Base}
use Rattle.rules.specs.declared.figures.Base.TheVariants.{Amount, Whole}
use Rattle.rules.specs.declared.kinds.Kind.{Kind}
use Rattle.rules.specs.declared.kinds.Kind.TheVariants.{Project, PropertyDevelopment, PropertyPurchase, Vehicle, GeneralLoan, Bond}
use Rattle.plain.specs.Parts.{Lent, Denominator, at_least, whole, Apportionment, exposures}
use Rattle.plain.specs.PlainBook.{PlainInvestee, PlainPosition, PlainBook, id_of, balance_of}

abbrev pub is_bond : Kind → Bool
is_bond Project = false
is_bond PropertyDevelopment = false
is_bond PropertyPurchase = false
is_bond Vehicle = false
is_bond GeneralLoan = false
is_bond Bond = true

-- ---- exposures

-- the closing balance of a position, an unposted one as 0
abbrev pub closing_of : PlainPosition → ℕ
closing_of q = unwrap_or (balance_of (length q.balances) q) 0

-- a bond has one balance, that of the last month, and it is counted for each month
abbrev pub exposure_of : Kind → PlainPosition → ℕ
exposure_of kind q = cond (is_bond kind) (length q.balances * closing_of q) (sum_by (λ m. unwrap_or m 0) q.balances)

-- the positions on the investee of an id, in their order
abbrev pub positions_on : ℕ → List PlainPosition → List PlainPosition
positions_on id qs = filter (λ q. nat_eq q.id id) qs

-- what a position comes to in the year
abbrev pub lent_by : Kind → PlainPosition → Lent
lent_by kind q = record { branch = q.branch; exposure = exposure_of kind q }

-- what the branches have lent to an investee
abbrev pub lent_to : PlainInvestee → List PlainPosition → List Lent
lent_to x qs = map (lent_by x.profile.kind) (positions_on (id_of x) qs)

-- an investee's exposure, over all branches
abbrev pub exposure_to : PlainInvestee → List PlainPosition → ℕ
exposure_to x qs = exposures (lent_to x qs)

-- an investee's closing balance, over all branches
abbrev pub closing_to : PlainInvestee → List PlainPosition → ℕ
closing_to x qs = sum_by closing_of (positions_on (id_of x) qs)

-- ---- the rule's tables

-- exposures add up a balance for each month, so an amount is taken as often; an investee for which the rule has no base is never opened
abbrev pub denominator_from : Result Base Refusal → Denominator
denominator_from (Ok (Amount n)) = at_least (months * n)
denominator_from (Ok Whole) = whole
denominator_from (Err e) = whole

-- what the rule divides the exposures to an investee of a book by
abbrev pub denominator_of : Tables → PlainBook → PlainInvestee → Denominator
denominator_of t p x = denominator_from (t.bases x.profile.kind x.profile.figures)

-- the rule's reason to leave an investee of a book out
abbrev pub reason_of : Tables → PlainBook → PlainInvestee → ℕ
reason_of t p x = t.reasons (financing_of x.profile (exposure_to x p.positions) (closing_to x p.positions))

abbrev pub is_counted : Tables → PlainBook → PlainInvestee → Bool
is_counted t p x = reason_of t p x == 0

-- ---- the two measures

pub data Measure : Type 0 where
  emissions : Measure
  reductions : Measure

-- the kilograms that are parted
abbrev pub figure_of : Measure → PlainInvestee → ℤ
figure_of emissions x = x.kilograms
figure_of reductions x = x.reduction

-- one measure of an investee of a book, ready to be apportioned
abbrev pub apportionment : Tables → PlainBook → Measure → PlainInvestee → Apportionment
apportionment t p m x = record { id = id_of x; figure = figure_of m x; denominator = denominator_of t p x; lent = lent_to x p.positions; counted = is_counted t p x }

-- one measure of the whole book, investee by investee
abbrev pub apportionments : Tables → PlainBook → Measure → List Apportionment
apportionments t p m = map (apportionment t p m) p.investees
