-- The worked book with many positions: what the run of its posts comes to, shown by induction, since the posts are too many to compute one by one.
use Rattle.std.proofs.Common.{◌≡◌, ℕ, zero, suc, ◌+◌, ◌/◌, ◌<◌, ◌≤◌, List, [], ◌∷◌, ◌++◌, map, length, pos, Some, sym, refl, ap, ◌∙◌, subst, ⊎_elim, arith, rules}
use Rattle.std.specs.List.{AllByRecursion}
use Rattle.std.proofs.lemmas.List.{append-nil}
use Rattle.std.proofs.lemmas.Bool.{cases_eq}
use Rattle.rules.specs.National.{national_tables}
use Rattle.rules.specs.declared.kinds.Kind.TheVariants.{GeneralLoan}
use Rattle.rules.specs.declared.kinds.Size.TheVariants.{Medium}
use Rattle.sources.specs.Readings.{reading}
use Rattle.plain.specs.Branches.{branch_count}
use Rattle.plain.specs.Changes.{opened}
use Rattle.plain.specs.Lists.{first_of, change_first}
use Rattle.plain.specs.Parts.{exposures}
use Rattle.plain.specs.PlainBook.{PlainInvestee, PlainPosition, with_positions, investee_of}
use Rattle.plain.specs.Runs.{run}
use Rattle.plain.specs.Sums.{down_from}
use Rattle.plain.specs.Worked.{accounts}
use Rattle.plain.specs.WorkedRefusals.{loan, with_others, first_post, with_posts}
use Rattle.plain.proofs.FirstPosts.{position, filled}

-- the investee of number j among the others
abbrev other : ℕ → PlainInvestee
other j = opened (record { id = 1000 + j; kind = GeneralLoan; sector = 0; size = Medium; days = 200; figures = accounts 10000 0 }) (reading (pos 0) 1)

-- each is found by its id
others-open : map (λ j. investee_of (1000 + j) (with_others 13)) (down_from 13) ≡ map (λ j. Some (other j)) (down_from 13)
unfolding exposures first_of change_first down_from
others-open = refl

each-same : {X Y : Type 0} (f g : X → Y) (xs : List X) → map f xs ≡ map g xs → AllByRecursion (λ x. f x ≡ g x) xs
each-same f g [] e = tt
each-same f g (x ∷ xs) e = (cc, each-same f g xs cc)

down-to : (P : ℕ → Type 0) (n : ℕ) → AllByRecursion P (down_from n) → (j : ℕ) → 0 < j → j ≤ n → P j
unfolding down_from
down-to P zero all j from to = absurd (omega arith)
down-to P (suc n) all j from to = ⊎_elim (λ e. subst P (sym e) all.0) (λ ne. down-to P n all.1 j from (omega arith)) (cases_eq j (suc n))

other-found : (k : ℕ) → 0 < k → k ≤ 498 → (x : PlainInvestee) × (investee_of (1001 + k / branch_count) (with_others 13) ≡ Some x) × (x.profile.kind ≡ GeneralLoan)
other-found k from to =
    let j : ℕ = 1 + k / branch_count in
    let one : 1001 + k / branch_count ≡ 1000 + j = omega arith in
    (other j, ap (λ id. investee_of id (with_others 13)) one ∙ down-to (λ j. investee_of (1000 + j) (with_others 13) ≡ Some (other j)) 13 (each-same (λ j. investee_of (1000 + j) (with_others 13)) (λ j. Some (other j)) (down_from 13) others-open) j (omega arith) (omega arith), refl)

-- opening others leaves the two positions as they are
same-positions : (with_others 13).positions ≡ loan.positions
unfolding exposures first_of change_first down_from
same-positions = refl

two-positions : length loan.positions ≡ 2
unfolding exposures first_of change_first
two-positions = refl

loan-below : AllByRecursion (λ q. q.id < 1000) loan.positions
unfolding exposures first_of change_first
loan-below = search rules

-- with n posts: the positions stand in the order of the posts
pub with-posts : (n : ℕ) → n ≤ 498 → with_posts n ≡ with_positions (with_others 13) (loan.positions ++ map position (down_from n))
unfolding with_posts
with-posts n few =
    ap (λ q. run national_tables q (map first_post (down_from n))) (ap (with_positions (with_others 13)) (sym (append-nil (with_others 13).positions)))
    ∙ filled (with_others 13) (subst (AllByRecursion (λ q. q.id < 1000)) (sym same-positions) loan-below) other-found n [] few tt (omega (arith, two-positions, ap (length {A = PlainPosition}) same-positions))
    ∙ ap (λ (qs : List PlainPosition). with_positions (with_others 13) (qs ++ map position (down_from n))) same-positions
