-- What a table of items comes to, and what it then holds.
use Rattle.std.specs.Prelude.{◌≡◌, ℕ, ◌+◌, ◌<◌, ◌≤◌, true, false, cond, ◌⊎◌, List, ◌∷◌, ◌++◌, map, length, Some, None, Ok, Err, sum_by, Option, Result, nat_lt}
use Rattle.std.specs.List.{prefix_len, AllByRecursion}
use Rattle.faults.specs.declared.Fault.{Fault}
use Rattle.faults.specs.declared.Refusal.TheVariants.{OwnItem}
use Rattle.faults.specs.Refusals.{fault}
use Rattle.grading.specs.Mean.{mean_of}
use Rattle.operations.specs.declared.items.Item.{Item}
use Rattle.operations.specs.declared.items.Totals.{Totals}
use Rattle.operations.specs.Items.{acceptable, worked, most_items}

-- more than 64 items are refused at place 0; then the first item that is not acceptable, at its place from 1
abbrev pub refusal_of : List Item → Option Fault
refusal_of xs =
    cond (nat_lt most_items (length xs)) (Some (fault OwnItem 0 0))
    (cond (nat_lt (prefix_len acceptable xs) (length xs)) (Some (fault OwnItem (prefix_len acceptable xs + 1) 0)) None)

-- the kilograms added up, and the mean grade weighted by them
abbrev pub totals_of : List Item → Totals
totals_of xs = record { kilograms = sum_by (λ x. x.kilograms) xs; grade = mean_of (λ x. x.kilograms) (λ x. x.grade) xs }

abbrev answered : Option Fault → Totals → Result Totals Fault
answered None totals = Ok totals
answered (Some f) totals = Err f

-- the answer
abbrev pub worked_out : List Item → Result Totals Fault
worked_out xs = answered (refusal_of xs) (totals_of (map worked xs))

abbrev kept : Option Fault → List Item → List Item → List Item
kept None before after = after
kept (Some f) before after = before

-- the table afterwards: every item with its kilograms, or all as it was where the table is refused
abbrev pub table_after : List Item → List Item
table_after xs = kept (refusal_of xs) xs (map worked xs)

-- the item at this place, from 1, is the first that is not acceptable
pub record FirstRefused (xs : List Item) (place : ℕ) : Type 0 where
  pub before : List Item
  pub item : Item
  pub rest : List Item
  pub table : xs ≡ before ++ item ∷ rest
  pub accepted : AllByRecursion (λ x. acceptable x ≡ true) before
  pub refused : acceptable item ≡ false
  pub counted : place ≡ length before + 1

-- what a refusal says of the table, and what it says that there is none
abbrev pub RefusedFor : List Item → Option Fault → Type 0
RefusedFor xs None = (length xs ≤ most_items) × AllByRecursion (λ x. acceptable x ≡ true) xs
RefusedFor xs (Some f) = ((most_items < length xs) × (f.place ≡ 0)) ⊎ ((length xs ≤ most_items) × FirstRefused xs f.place)

abbrev pub AnsweredFor : List Item → Result Totals Fault → Type 0
AnsweredFor xs (Ok totals) = RefusedFor xs None
AnsweredFor xs (Err f) = RefusedFor xs (Some f)
