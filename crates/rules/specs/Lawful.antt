-- Both guides' tables are lawful.
use Rattle.std.specs.Prelude.{ℕ, ◌≤◌, Bool, true, false, Ok, Err, ◌==◌, nat_lt, refl}
use Rattle.std.proofs.Common.{inl, inr, arith, lit≤}
use Rattle.std.proofs.lemmas.Bool.{eqb-false, cond_both}
use Rattle.faults.specs.declared.Refusal.TheVariants.{FigureNotGiven}
use Rattle.rules.specs.declared.figures.Base.TheVariants.{Amount, Whole}
use Rattle.rules.specs.declared.figures.Figures.{Figures}
use Rattle.rules.specs.declared.kinds.Kind.{Kind}
use Rattle.rules.specs.declared.kinds.Kind.TheVariants.{Project, PropertyDevelopment, PropertyPurchase, Vehicle, GeneralLoan, Bond}
use Rattle.rules.specs.declared.kinds.Size.{Size}
use Rattle.rules.specs.Figures.{most_figure, WithinLimits, given, given_or_whole}
use Rattle.rules.specs.Reasons.{least_days, least_loan, small_size, first_passed}
use Rattle.rules.specs.Tables.{BaseInRange, Lawful}
use Rattle.rules.specs.National.{national_bases, national_reasons, national_tables}
use Rattle.rules.specs.Pudong.{pudong_bases, pudong_reasons, pudong_tables}

-- a figure within its limit is a base in range
pub given-in-range : (n : ℕ) → n ≤ most_figure → BaseInRange (given n)
given-in-range n h =
    cond_both (n == 0) (Err FigureNotGiven) (Ok (Amount n)) BaseInRange
    (λ _. inr refl) (λ e. (omega (arith, eqb-false n 0 e), h))

pub whole_in_range : (n : ℕ) → n ≤ most_figure → BaseInRange (given_or_whole n)
whole_in_range n h =
    cond_both (n == 0) (Ok Whole) (Ok (Amount n)) BaseInRange
    (λ _. tt) (λ e. (omega (arith, eqb-false n 0 e), h))

pub first-in-range : (a b c d : Bool) → first_passed a b c d ≤ 9
first-in-range true b c d = lit≤ tt
first-in-range false true c d = lit≤ tt
first-in-range false false true d = lit≤ tt
first-in-range false false false true = lit≤ tt
first-in-range false false false false = lit≤ tt

national-bases : (kind : Kind) (f : Figures) → WithinLimits f → BaseInRange (national_bases kind f)
national-bases Project f w = given-in-range f.investment w.investment
national-bases PropertyDevelopment f w = inl refl
national-bases PropertyPurchase f w = inl refl
national-bases Vehicle f w = inl refl
national-bases GeneralLoan f w = given-in-range f.revenue w.revenue
national-bases Bond f w = inl refl

national-reasons : (kind : Kind) (size : Size) (days exposure closing : ℕ) → national_reasons kind size days exposure closing ≤ 9
national-reasons Project size days exposure closing = first-in-range (nat_lt days least_days) false false false
national-reasons PropertyDevelopment size days exposure closing = lit≤ tt
national-reasons PropertyPurchase size days exposure closing = lit≤ tt
national-reasons Vehicle size days exposure closing = lit≤ tt
national-reasons GeneralLoan size days exposure closing =
    first-in-range (nat_lt days least_days) (nat_lt exposure least_loan) (small_size size) false
national-reasons Bond size days exposure closing = lit≤ tt

pub national-lawful : Lawful national_tables
national-lawful = record { bases_in_range = national-bases; reasons_in_range = λ f _. national-reasons f.kind f.size f.days f.exposure f.closing }

pudong-bases : (kind : Kind) (f : Figures) → WithinLimits f → BaseInRange (pudong_bases kind f)
pudong-bases Project f w = given-in-range f.investment w.investment
pudong-bases PropertyDevelopment f w = given-in-range f.investment w.investment
pudong-bases PropertyPurchase f w = given-in-range f.initial_value w.initial_value
pudong-bases Vehicle f w = whole_in_range f.initial_value w.initial_value
pudong-bases GeneralLoan f w = given-in-range f.total_assets w.total_assets
pudong-bases Bond f w = given-in-range f.total_assets w.total_assets

pudong-reasons : (kind : Kind) (size : Size) (days exposure closing : ℕ) → pudong_reasons kind size days exposure closing ≤ 9
pudong-reasons Project size days exposure closing =
    first-in-range (nat_lt days least_days) false (small_size size) (closing == 0)
pudong-reasons PropertyDevelopment size days exposure closing =
    first-in-range (nat_lt days least_days) false (small_size size) (closing == 0)
pudong-reasons PropertyPurchase size days exposure closing =
    first-in-range (nat_lt days least_days) false (small_size size) (closing == 0)
pudong-reasons Vehicle size days exposure closing =
    first-in-range (nat_lt days least_days) false (small_size size) (closing == 0)
pudong-reasons GeneralLoan size days exposure closing =
    first-in-range (nat_lt days least_days) (nat_lt exposure least_loan) (small_size size) (closing == 0)
pudong-reasons Bond size days exposure closing = lit≤ tt

pub pudong-lawful : Lawful pudong_tables
pudong-lawful = record { bases_in_range = pudong-bases; reasons_in_range = λ f _. pudong-reasons f.kind f.size f.days f.exposure f.closing }
