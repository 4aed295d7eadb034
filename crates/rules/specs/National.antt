-- The guide of the People's Bank of China: projects and general loans.
use Rattle.std.specs.Prelude.{◌≡◌, ℕ, ◌<◌, true, false, ◌⊎◌, Err, Result, nat_lt}
use Rattle.faults.specs.declared.Refusal.{Refusal}
use Rattle.faults.specs.declared.Refusal.TheVariants.{KindNotCovered}
use Rattle.rules.specs.declared.figures.Base.{Base}
use Rattle.rules.specs.declared.figures.Figures.{Figures}
use Rattle.rules.specs.declared.kinds.Kind.{Kind}
use Rattle.rules.specs.declared.kinds.Kind.TheVariants.{Project, PropertyDevelopment, PropertyPurchase, Vehicle, GeneralLoan, Bond}
use Rattle.rules.specs.declared.kinds.Size.{Size}
use Rattle.rules.specs.Figures.{given, DividedBy}
use Rattle.rules.specs.Reasons.{Reason, few_days, small_loan, small_borrower, repaid, least_days, least_loan, small_size, first_passed, Holds}
use Rattle.rules.specs.Tables.{Tables}

abbrev pub national_bases : Kind → Figures → Result Base Refusal
national_bases Project f = given f.investment
national_bases PropertyDevelopment f = Err KindNotCovered
national_bases PropertyPurchase f = Err KindNotCovered
national_bases Vehicle f = Err KindNotCovered
national_bases GeneralLoan f = given f.revenue
national_bases Bond f = Err KindNotCovered

abbrev pub national_reasons : Kind → Size → ℕ → ℕ → ℕ → ℕ
national_reasons Project size days exposure closing = first_passed (nat_lt days least_days) false false false
national_reasons PropertyDevelopment size days exposure closing = 0
national_reasons PropertyPurchase size days exposure closing = 0
national_reasons Vehicle size days exposure closing = 0
national_reasons GeneralLoan size days exposure closing =
    first_passed (nat_lt days least_days) (nat_lt exposure least_loan) (small_size size) false
national_reasons Bond size days exposure closing = 0

abbrev pub national_tables : Tables
national_tables = record { bases = national_bases; reasons = λ f. national_reasons f.kind f.size f.days f.exposure f.closing }

-- which figure the guide divides by
abbrev pub NationalDivides : Kind → Figures → Result Base Refusal → Type 0
NationalDivides Project f r = DividedBy f.investment r
NationalDivides PropertyDevelopment f r = r ≡ Err KindNotCovered
NationalDivides PropertyPurchase f r = r ≡ Err KindNotCovered
NationalDivides Vehicle f r = r ≡ Err KindNotCovered
NationalDivides GeneralLoan f r = DividedBy f.revenue r
NationalDivides Bond f r = r ≡ Err KindNotCovered

-- the kinds that a reason is tried for
abbrev pub NationalTries : Kind → Reason → Type 0
NationalTries kind few_days = (kind ≡ Project) ⊎ (kind ≡ GeneralLoan)
NationalTries kind small_loan = kind ≡ GeneralLoan
NationalTries kind small_borrower = kind ≡ GeneralLoan
NationalTries kind repaid = ⊥

abbrev pub NationalApplies : Kind → Size → ℕ → ℕ → ℕ → Reason → Type 0
NationalApplies kind size days exposure closing reason = NationalTries kind reason × Holds size days exposure closing reason

-- when the guide leaves an investee out
abbrev pub NationalLeavesOut : Kind → Size → ℕ → ℕ → ℕ → Type 0
NationalLeavesOut Project size days exposure closing = days < least_days
NationalLeavesOut PropertyDevelopment size days exposure closing = ⊥
NationalLeavesOut PropertyPurchase size days exposure closing = ⊥
NationalLeavesOut Vehicle size days exposure closing = ⊥
NationalLeavesOut GeneralLoan size days exposure closing =
    (days < least_days) ⊎ ((exposure < least_loan) ⊎ (small_size size ≡ true))
NationalLeavesOut Bond size days exposure closing = ⊥
