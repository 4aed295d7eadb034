-- That a book can be entered again: what calls leave of each investee and each position.
use Rattle.std.proofs.Common.{◌≡◌, ℕ, zero, suc, ◌-◌, ◌<◌, Bool, true, false, List, [], ◌∷◌, ◌++◌, length, length-set, set, replicate, is_some, Some, None, Ok, Option, sym, refl, ◌∙◌, subst, arith}
use lib.ListN.{length-replicate}
use Rattle.std.specs.List.{AllByRecursion}
use Rattle.grading.proofs.EachElement.{All-weaker, All-push}
use Rattle.std.proofs.lemmas.Bool.Decides.{nat_tests}
use Rattle.std.proofs.lemmas.Bool.{cond-true}
use Rattle.rules.specs.Investees.{profile_of, numbers_in_range, ProfileInRange}
use Rattle.rules.specs.Kinds.{kind_number, kind_numbered, size_number, size_numbered}
use Rattle.rules.specs.Months.{months}
use Rattle.rules.specs.declared.kinds.Kind.{Kind}
use Rattle.rules.specs.declared.kinds.Kind.TheVariants.{Project, PropertyDevelopment, PropertyPurchase, Vehicle, GeneralLoan, Bond}
use Rattle.rules.specs.declared.kinds.Size.{Size}
use Rattle.rules.specs.declared.kinds.Size.TheVariants.{Large, Medium, Small, Micro, Person}
use Rattle.plain.specs.Changes.{amended, posted}
use Rattle.plain.specs.Kept.{InvesteeInRange, PositionInRange, fields_of, HasPost}
use Rattle.plain.specs.Lists.{first_of}
use Rattle.plain.specs.PlainBook.{PlainInvestee, PlainPosition, is_of, position_of, new_position, with_balance}
use Rattle.plain.proofs.Accepted.{EntryInRange}
use Rattle.plain.proofs.Lists.{all-change, all_both}
use Rattle.plain.proofs.Positions.{posted-new}

-- ---- investees

pub numbered : (k : Kind) → kind_numbered (kind_number k) ≡ Some k
numbered Project = refl
numbered PropertyDevelopment = refl
numbered PropertyPurchase = refl
numbered Vehicle = refl
numbered GeneralLoan = refl
numbered Bond = refl

size-numbered : (s : Size) → size_numbered (size_number s) ≡ Some s
size-numbered Large = refl
size-numbered Medium = refl
size-numbered Small = refl
size-numbered Micro = refl
size-numbered Person = refl

numbers-pass : (x : PlainInvestee) → ProfileInRange x.profile → numbers_in_range (fields_of x) ≡ true
numbers-pass x w =
    let limits = w.figures_to in
    grind (arith, nat_tests)

pub profile-again : (x : PlainInvestee) → InvesteeInRange x → profile_of (fields_of x) ≡ Ok x.profile
profile-again x h = rw (numbered x.profile.kind, size-numbered x.profile.size, numbers-pass x h.profile_in_range) refl

-- ---- positions

some-set : (bs : List (Option ℕ)) (i v : ℕ) → i < length bs → is_some (first_of is_some (set bs i (Some v))) ≡ true
unfolding first_of
some-set [] i v h = absurd (omega arith)
some-set (b ∷ bs) zero v h = refl
some-set (None ∷ bs) (suc i) v h = some-set bs i v (omega arith)
some-set (Some w ∷ bs) (suc i) v h = refl

module _ (b id m v : ℕ) (entry : EntryInRange b m v) (qs : List PlainPosition) (in_range : AllByRecursion PositionInRange qs) (posts : AllByRecursion HasPost qs) where
  pub posts-amended : AllByRecursion HasPost (amended b id m v qs)
  posts-amended =
      All-weaker _ _ (λ q h. h.1) (amended b id m v qs)
      (all-change (is_of b id) (with_balance m v) (λ q. (length q.balances ≡ months) × HasPost q)
      (λ q e h. (length-set q.balances (m - 1) (Some v) ∙ h.0, some-set q.balances (m - 1) v (omega (arith, h.0, entry.month-from, entry.month-to)))) qs
      (all_both _ _ qs (All-weaker _ _ (λ q h. h.a_place_for_each_month) qs in_range) posts))

  pub posts-posted : AllByRecursion HasPost (posted b id m v qs)
  posts-posted = by (is_some (position_of b id qs)) refl
    where
      by : (c : Bool) → is_some (position_of b id qs) ≡ c → AllByRecursion HasPost (posted b id m v qs)
      by true e = subst (λ rs. AllByRecursion HasPost (amended b id m v rs)) (sym (cond-true (is_some (position_of b id qs)) qs (qs ++ new_position b id ∷ []) e)) posts-amended
      by false e =
          subst (AllByRecursion HasPost) (sym (posted-new b id m v qs e))
          (All-push HasPost qs (with_balance m v (new_position b id)) posts (some-set (replicate months None) (m - 1) v (omega (arith, entry.month-from, entry.month-to, length-replicate {A = Option ℕ} months None))))
