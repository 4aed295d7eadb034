-- Why a guide leaves an investee out: four reasons, tried in the order of their numbers.
--   exposure   the month balances of all branches, added over the year
--   closing    what is outstanding at the end of the year
use Rattle.std.specs.Prelude.{◌≡◌, ℕ, ◌*◌, ◌<◌, ◌≤◌, Bool, true, false, cond}
use Rattle.rules.specs.declared.kinds.Size.{Size}
use Rattle.rules.specs.declared.kinds.Size.TheVariants.{Large, Medium, Small, Micro, Person}
use Rattle.rules.specs.Months.{months}

pub data Reason : Type 0 where
  few_days : Reason
  small_loan : Reason
  small_borrower : Reason
  repaid : Reason

abbrev pub reason_number : Reason → ℕ
reason_number few_days = 1
reason_number small_loan = 2
reason_number small_borrower = 3
reason_number repaid = 4

-- the days from which an investee is counted
abbrev pub least_days : ℕ
least_days = 30

-- the exposure from which a general loan is counted: 500 wan a month on average
abbrev pub least_loan : ℕ
least_loan = 500 * months

-- a small or micro enterprise, a person or a household business
abbrev pub small_size : Size → Bool
small_size Large = false
small_size Medium = false
small_size Small = true
small_size Micro = true
small_size Person = true

-- the number of the first reason whose test passes, and 0 where none does; a reason that is not tried has the test false
abbrev pub first_passed : Bool → Bool → Bool → Bool → ℕ
first_passed a b c d = cond a 1 (cond b 2 (cond c 3 (cond d 4 0)))

-- what a reason says of an investee
abbrev pub Holds : Size → ℕ → ℕ → ℕ → Reason → Type 0
Holds size days exposure closing few_days = days < least_days
Holds size days exposure closing small_loan = exposure < least_loan
Holds size days exposure closing small_borrower = small_size size ≡ true
Holds size days exposure closing repaid = closing ≡ 0

-- r is the number of the first reason that applies, and 0 if none does
pub record FirstReason (Applies : Reason → Type 0) (r : ℕ) : Type 0 where
  pub applies : 1 ≤ r → (reason : Reason) × (reason_number reason ≡ r) × Applies reason
  pub none_before : (reason : Reason) → reason_number reason < r → Applies reason → ⊥
  pub none_at_all : r ≡ 0 → (reason : Reason) → Applies reason → ⊥
