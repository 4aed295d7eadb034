-- The guide for banks in Pudong: every kind.
use Rattle.std.specs.Prelude.{◌≡◌, ℕ, ◌<◌, true, false, ◌≢◌, ◌⊎◌, Result, ◌==◌, nat_lt}
use Rattle.faults.specs.declared.Refusal.{Refusal}
use Rattle.rules.specs.declared.figures.Base.{Base}
use Rattle.rules.specs.declared.figures.Figures.{Figures}
use Rattle.rules.specs.declared.kinds.Kind.{Kind}
use Rattle.rules.specs.declared.kinds.Kind.TheVariants.{Project, PropertyDevelopment, PropertyPurchase, Vehicle, GeneralLoan, Bond}
use Rattle.rules.specs.declared.kinds.Size.{Size}
use Rattle.rules.specs.Figures.{given, given_or_whole, DividedBy, DividedByOrWhole}
use Rattle.rules.specs.Reasons.{Reason, few_days, small_loan, small_borrower, repaid, least_days, least_loan, small_size, first_passed, Holds}
use Rattle.rules.specs.Tables.{Tables}

abbrev pub pudong_bases : Kind → Figures → Result Base Refusal
pudong_bases Project f = given f.investment
pudong_bases PropertyDevelopment f = given f.investment
pudong_bases PropertyPurchase f = given f.initial_value
pudong_bases Vehicle f = given_or_whole f.initial_value
pudong_bases GeneralLoan f = given f.total_assets
pudong_bases Bond f = given f.total_assets

abbrev pub pudong_reasons : Kind → Size → ℕ → ℕ → ℕ → ℕ
pudong_reasons Project size days exposure closing =
    first_passed (nat_lt days least_days) false (small_size size) (closing == 0)
pudong_reasons PropertyDevelopment size days exposure closing =
    first_passed (nat_lt days least_days) false (small_size size) (closing == 0)
pudong_reasons PropertyPurchase size days exposure closing =
    first_passed (nat_lt days least_days) false (small_size size) (closing == 0)
pudong_reasons Vehicle size days exposure closing =
    first_passed (nat_lt days least_days) false (small_size size) (closing == 0)
pudong_reasons GeneralLoan size days exposure closing =
    first_passed (nat_lt days least_days) (nat_lt exposure least_loan) (small_size size) (closing == 0)
pudong_reasons Bond size days exposure closing = 0

abbrev pub pudong_tables : Tables
pudong_tables = record { bases = pudong_bases; reasons = λ f. pudong_reasons f.kind f.size f.days f.exposure f.closing }

-- which figure the guide divides by
abbrev pub PudongDivides : Kind → Figures → Result Base Refusal → Type 0
PudongDivides Project f r = DividedBy f.investment r
PudongDivides PropertyDevelopment f r = DividedBy f.investment r
PudongDivides PropertyPurchase f r = DividedBy f.initial_value r
PudongDivides Vehicle f r = DividedByOrWhole f.initial_value r
PudongDivides GeneralLoan f r = DividedBy f.total_assets r
PudongDivides Bond f r = DividedBy f.total_assets r

-- the kinds that a reason is tried for
abbrev pub PudongTries : Kind → Reason → Type 0
PudongTries kind few_days = kind ≢ Bond
PudongTries kind small_loan = kind ≡ GeneralLoan
PudongTries kind small_borrower = kind ≢ Bond
PudongTries kind repaid = kind ≢ Bond

abbrev pub PudongApplies : Kind → Size → ℕ → ℕ → ℕ → Reason → Type 0
PudongApplies kind size days exposure closing reason = PudongTries kind reason × Holds size days exposure closing reason

-- what leaves out a loan of any kind
abbrev pub LoanLeftOut : Size → ℕ → ℕ → Type 0
LoanLeftOut size days closing = (days < least_days) ⊎ ((small_size size ≡ true) ⊎ (closing ≡ 0))

-- when the guide leaves an investee out
abbrev pub PudongLeavesOut : Kind → Size → ℕ → ℕ → ℕ → Type 0
PudongLeavesOut Project size days exposure closing = LoanLeftOut size days closing
PudongLeavesOut PropertyDevelopment size days exposure closing = LoanLeftOut size days closing
PudongLeavesOut PropertyPurchase size days exposure closing = LoanLeftOut size days closing
PudongLeavesOut Vehicle size days exposure closing = LoanLeftOut size days closing
PudongLeavesOut GeneralLoan size days exposure closing = LoanLeftOut size days closing ⊎ (exposure < least_loan)
PudongLeavesOut Bond size days exposure closing = ⊥
