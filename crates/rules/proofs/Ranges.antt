-- Fields are accepted exactly when each is within its range.
use Rattle.std.proofs.Common.{◌≡◌, ℕ, zero, suc, ◌≤◌, true, ◌⊎◌, Some, None, Ok, Option, sym, refl, subst, inl, inr, ⊎_elim, arith}
use Rattle.std.proofs.lemmas.Bool.Decides.{nat_tests}
use Rattle.std.proofs.lemmas.Bool.{cond_both}
use Rattle.rules.specs.declared.kinds.Kind.{Kind}
use Rattle.rules.specs.declared.kinds.Kind.TheVariants.{Project, PropertyDevelopment, PropertyPurchase, Vehicle, GeneralLoan, Bond}
use Rattle.rules.specs.declared.kinds.Size.{Size}
use Rattle.rules.specs.declared.kinds.Size.TheVariants.{Large, Medium, Small, Micro, Person}
use Rattle.rules.specs.declared.investees.InvesteeFields.{InvesteeFields}
use Rattle.rules.specs.Figures.{WithinLimits}
use Rattle.rules.specs.Kinds.{kind_number, kind_numbered, size_number, size_numbered}
use Rattle.rules.specs.Investees.{PlainProfile, numbers_in_range, profile, profiled, profile_of, out_of_range, last_id, last_sector, most_days, ProfileInRange, WithinRanges, SameNumbers}

kind-from-number : (n : ℕ) → 1 ≤ n → n ≤ 6 → (k : Kind) × (kind_numbered n ≡ Some k) × (kind_number k ≡ n)
kind-from-number zero low high = absurd (omega arith)
kind-from-number (suc zero) low high = (Project, refl, refl)
kind-from-number (suc (suc zero)) low high = (PropertyDevelopment, refl, refl)
kind-from-number (suc (suc (suc zero))) low high = (PropertyPurchase, refl, refl)
kind-from-number (suc (suc (suc (suc zero)))) low high = (Vehicle, refl, refl)
kind-from-number (suc (suc (suc (suc (suc zero))))) low high = (GeneralLoan, refl, refl)
kind-from-number (suc (suc (suc (suc (suc (suc zero)))))) low high = (Bond, refl, refl)
kind-from-number (suc (suc (suc (suc (suc (suc (suc n))))))) low high = absurd (omega arith)

size-from-number : (n : ℕ) → 1 ≤ n → n ≤ 5 → (z : Size) × (size_numbered n ≡ Some z) × (size_number z ≡ n)
size-from-number zero low high = absurd (omega arith)
size-from-number (suc zero) low high = (Large, refl, refl)
size-from-number (suc (suc zero)) low high = (Medium, refl, refl)
size-from-number (suc (suc (suc zero))) low high = (Small, refl, refl)
size-from-number (suc (suc (suc (suc zero)))) low high = (Micro, refl, refl)
size-from-number (suc (suc (suc (suc (suc zero))))) low high = (Person, refl, refl)
size-from-number (suc (suc (suc (suc (suc (suc n)))))) low high = absurd (omega arith)

-- only the numbers of kinds have one
kind-number : (n : ℕ) (k : Kind) → kind_numbered n ≡ Some k → (1 ≤ n) × (n ≤ 6)
kind-number n k e = grind (arith, nat_tests)

size-number : (n : ℕ) (z : Size) → size_numbered n ≡ Some z → (1 ≤ n) × (n ≤ 5)
size-number n z e = grind (arith, nat_tests)

numbers-pass : (f : InvesteeFields) → WithinRanges f → numbers_in_range f ≡ true
numbers-pass f w =
    let limits = w.figures_to in
    grind (arith, nat_tests)

numbers-within : (f : InvesteeFields) → numbers_in_range f ≡ true → 1 ≤ f.kind → f.kind ≤ 6 → 1 ≤ f.size → f.size ≤ 5 → WithinRanges f
numbers-within f e k l s t = grind (arith, nat_tests)

pub accepted-within : (f : InvesteeFields) → WithinRanges f → (p : PlainProfile) × (profile_of f ≡ Ok p) × SameNumbers f p
accepted-within f w =
    let k = kind-from-number f.kind w.kind_from w.kind_to in
    let z = size-from-number f.size w.size_from w.size_to in (
      profile f k.0 z.0,
      rw (k.1, z.1, numbers-pass f w),
      record { same_id = refl; same_kind = k.2; same_sector = refl; same_size = z.2; same_days = refl; same_figures = refl },
    )

pub within-or-refused : (f : InvesteeFields) → WithinRanges f ⊎ (profile_of f ≡ out_of_range)
within-or-refused f = by (kind_numbered f.kind) (size_numbered f.size) refl refl
  where
    by : (k : Option Kind) (z : Option Size) → kind_numbered f.kind ≡ k → size_numbered f.size ≡ z → WithinRanges f ⊎ (profiled f k z ≡ out_of_range)
    by (Some k) (Some z) p q =
        let kind = kind-number f.kind k p in
        let size = size-number f.size z q in
        cond_both (numbers_in_range f) (Ok (profile f k z)) out_of_range (λ r. WithinRanges f ⊎ (r ≡ out_of_range))
        (λ e. inl (numbers-within f e kind.0 kind.1 size.0 size.1)) (λ _. inr refl)
    by (Some k) None p q = inr refl
    by None z p q = inr refl

-- what is accepted was within its ranges, and has the fields' numbers
pub within-accepted : (f : InvesteeFields) (p : PlainProfile) → profile_of f ≡ Ok p → WithinRanges f × SameNumbers f p
within-accepted f p e =
    ⊎_elim
    (λ w. let one = accepted-within f w in
    let same : one.0 ≡ p = cc (one.1, e) in
    (w, subst (SameNumbers f) same one.2))
    (λ r. absurd cc)
    (within-or-refused f)

pub accepted-in-range : (f : InvesteeFields) (p : PlainProfile) → profile_of f ≡ Ok p → ProfileInRange p
accepted-in-range f p e =
    let accepted = within-accepted f p e in
    let within = accepted.0 in
    let has = accepted.1 in
    record {
      id_from = subst (λ n. 1 ≤ n) (sym has.same_id) within.id_from;
      id_to = subst (λ n. n ≤ last_id) (sym has.same_id) within.id_to;
      sector_to = subst (λ n. n ≤ last_sector) (sym has.same_sector) within.sector_to;
      days_to = subst (λ n. n ≤ most_days) (sym has.same_days) within.days_to;
      figures_to = subst WithinLimits (sym has.same_figures) within.figures_to;
    }
