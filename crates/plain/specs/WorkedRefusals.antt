-- Worked refusals: calls to which several refusals apply at once, and the number of the one that comes first.
use Rattle.std.specs.Prelude.{◌≡◌, ℕ, ◌+◌, ◌/◌, ◌%◌, List, [], ◌∷◌, map, length, pos, negsuc, Err}
use Rattle.faults.specs.Refusals.{fault, number_of}
use Rattle.faults.specs.declared.Refusal.TheVariants.{Custom}
use Rattle.rules.specs.National.{national_tables}
use Rattle.rules.specs.Pudong.{pudong_tables}
use Rattle.rules.specs.Tables.{Tables}
use Rattle.plain.specs.declared.answers.Answer.{Answer}
use Rattle.plain.specs.declared.answers.Answer.TheVariants.{Done, Declined, Part, Total, Sheet, Book}
use Rattle.plain.specs.Branches.{branch_count}
use Rattle.plain.specs.PlainBook.{PlainBook}
use Rattle.plain.specs.Runs.{answer, run}
use Rattle.plain.specs.Steps.{Meaning, for_part, for_total, for_sheet, Step, enter, restate, reduce, post, amend, ask}
use Rattle.plain.specs.Sums.{down_from}
use Rattle.plain.specs.Worked.{accounts, reads, lent, bond}

-- the number of a refusal, and 0 for any other answer
abbrev pub number_in : Answer → ℕ
number_in Done = 0
number_in (Declined f) = number_of f.refusal
number_in (Part k) = 0
number_in (Total k) = 0
number_in (Sheet k) = 0
number_in (Book k) = 0

-- each of these calls, made by itself, is declined with the number beside it, or accepted where that is 0
abbrev pub DeclinedWith : Tables → PlainBook → List (Step × ℕ) → Type 0
DeclinedWith t p calls = map (λ c. number_in (answer t p c.0)) calls ≡ map (λ c. c.1) calls

-- investee 7 is a general loan, to which branches 1 and 2 have lent in month 1; there is no investee 9
abbrev pub loan : PlainBook
loan = lent (pos 1000) (40000 ∷ 1 ∷ [])

-- an opening of this id, kind, days and revenue
abbrev pub opening : ℕ → ℕ → ℕ → ℕ → Meaning → Step
opening id kind days revenue meaning = enter (record { id = id; kind = kind; sector = 0; size = 2; days = days; figures = accounts revenue 0 }) meaning

-- a caller's own source finds a fault of its own number
abbrev pub fails : Meaning
fails = Err (fault (Custom 77) 3 12)

-- ---- books that are full, or have room for one more

-- loan, and n investees of other ids opened after its own
abbrev pub with_others : ℕ → PlainBook
with_others n = run national_tables loan (map (λ k. opening (1000 + k) 5 200 10000 (reads (pos 0))) (down_from n))

-- a post of 0 in month 1: each branch on the first of the others, then each on the next
abbrev pub first_post : ℕ → Step
first_post k = post (1 + k % branch_count) (1001 + k / branch_count) 1 0

-- loan with 13 others, and n such posts after its own two
unfoldable pub with_posts : ℕ → PlainBook
with_posts n = run national_tables (with_others 13) (map first_post (down_from n))

-- ---- the calls with their numbers; most rows with a refusal have others that would apply later

abbrev pub openings : List (Step × ℕ)
openings =
    -- a field out of range, before an id that is open
    (opening 7 5 367 10000 fails, 12)
    -- an id that is open, before a kind that the rule does not cover
    ∷ (opening 7 2 200 0 fails, 14)
    -- the rule's refusals before the source's fault, and that with a number of its own
    ∷ (opening 9 2 200 0 fails, 10)
    ∷ (opening 9 5 200 0 fails, 11)
    ∷ (opening 9 5 200 10000 fails, 77)
    ∷ (opening 9 5 200 10000 (reads (negsuc 0)), 13)
    ∷ (opening 9 5 200 10000 (reads (pos 0)), 0)
    ∷ []

-- where 199 are held one more is opened, and where 200 are held none
abbrev pub openings_at_199 : List (Step × ℕ)
openings_at_199 = (opening 9 5 200 10000 (reads (pos 0)), 0) ∷ []

-- an open id before a full book, and that before the rule
abbrev pub openings_of_a_full_book : List (Step × ℕ)
openings_of_a_full_book = (opening 7 2 200 0 fails, 14) ∷ (opening 9 2 200 0 fails, 15) ∷ (opening 9 5 200 10000 (reads (pos 0)), 15) ∷ []

-- a reduction may be below zero, and a reading of emissions may not
abbrev pub restatements : List (Step × ℕ)
restatements =
    (restate 9 fails, 16)
    ∷ (restate 7 fails, 77)
    ∷ (restate 7 (reads (negsuc 0)), 13)
    ∷ (reduce 9 fails, 16)
    ∷ (reduce 7 fails, 77)
    ∷ (reduce 7 (reads (negsuc 0)), 0)
    ∷ []

abbrev pub posts_on_a_loan : List (Step × ℕ)
posts_on_a_loan =
    -- branch, month and balance, before an id that is not open
    (post 41 9 1 0, 20)
    ∷ (post 1 9 13 0, 20)
    ∷ (post 1 9 1 9000001, 20)
    ∷ (post 1 9 1 0, 16)
    -- a month that has a balance, before the exposure
    ∷ (post 1 7 1 9000000, 22)
    ∷ (post 1 7 2 9000000, 25)
    -- 40,001 are lent, so these come to 9,000,001 and to 9,000,000
    ∷ (post 1 7 2 8960000, 25)
    ∷ (post 1 7 2 8959999, 0)
    ∷ (post 1 7 2 0, 0)
    ∷ []

-- where 499 are held a branch without a position gets one, and where 500 are held none
abbrev pub posts_at_499 : List (Step × ℕ)
posts_at_499 = (post 3 7 1 9000000, 25) ∷ (post 3 7 1 0, 0) ∷ []

-- no room, before the exposure; and not for a branch that has a position
abbrev pub posts_in_a_full_book : List (Step × ℕ)
posts_in_a_full_book = (post 3 7 1 9000000, 24) ∷ (post 3 7 1 0, 24) ∷ (post 1 7 2 9000000, 25) ∷ (post 1 7 2 0, 0) ∷ []

-- the month, before the exposure, and that before the denominator; a bond's balance is counted twelve times
abbrev pub posts_on_a_bond : List (Step × ℕ)
posts_on_a_bond =
    (post 1 7 11 900000, 21)
    -- exposures of 9,000,012 and 9,000,000
    ∷ (post 1 7 12 750001, 25)
    ∷ (post 1 7 12 750000, 26)
    -- total assets are 1,000
    ∷ (post 1 7 12 1001, 26)
    ∷ (post 1 7 12 1000, 0)
    ∷ []

-- a month without a balance, before the exposure; branch 2 has lent 1
abbrev pub amendments : List (Step × ℕ)
amendments =
    (amend 0 9 1 0, 20)
    ∷ (amend 1 9 1 0, 16)
    ∷ (amend 3 7 1 9000000, 23)
    ∷ (amend 1 7 2 9000000, 23)
    ∷ (amend 1 7 1 9000000, 25)
    ∷ (amend 1 7 1 8999999, 0)
    ∷ []

-- nothing is posted on it yet
abbrev pub amendments_of_a_bond : List (Step × ℕ)
amendments_of_a_bond = (amend 1 7 11 900000, 21) ∷ (amend 1 7 12 900000, 23) ∷ []

-- branch 1 has lent 1,000 and nobody more
abbrev pub amendments_of_a_lent_bond : List (Step × ℕ)
amendments_of_a_lent_bond = (amend 1 7 11 900000, 21) ∷ (amend 1 7 12 750001, 25) ∷ (amend 1 7 12 750000, 26) ∷ (amend 1 7 12 1001, 26) ∷ (amend 1 7 12 1000, 0) ∷ []

abbrev pub queries : List (Step × ℕ)
queries = (ask (for_part 9 41), 20) ∷ (ask (for_part 9 40), 16) ∷ (ask (for_part 7 40), 0) ∷ (ask (for_total 9), 16) ∷ (ask (for_total 7), 0) ∷ (ask (for_sheet 41), 20) ∷ (ask (for_sheet 40), 0) ∷ []

pub record WorkedRefusals : Type 0 where
  pub when_opening : DeclinedWith national_tables loan openings
  pub investees_held : map (λ n. length (with_others n).investees) (198 ∷ 199 ∷ []) ≡ 199 ∷ 200 ∷ []
  pub when_opening_at_199 : DeclinedWith national_tables (with_others 198) openings_at_199
  pub when_opening_at_200 : DeclinedWith national_tables (with_others 199) openings_of_a_full_book
  pub when_restating : DeclinedWith national_tables loan restatements
  pub when_posting : DeclinedWith national_tables loan posts_on_a_loan
  pub positions_held : map (λ n. length (with_posts n).positions) (497 ∷ 498 ∷ []) ≡ 499 ∷ 500 ∷ []
  pub when_posting_at_499 : DeclinedWith national_tables (with_posts 497) posts_at_499
  pub when_posting_at_500 : DeclinedWith national_tables (with_posts 498) posts_in_a_full_book
  pub when_posting_on_a_bond : DeclinedWith pudong_tables bond posts_on_a_bond
  pub when_amending : DeclinedWith national_tables loan amendments
  pub when_amending_a_bond : DeclinedWith pudong_tables bond amendments_of_a_bond
  pub when_amending_a_lent_bond : DeclinedWith pudong_tables (run pudong_tables bond (post 1 7 12 1000 ∷ [])) amendments_of_a_lent_bond
  pub when_asking : DeclinedWith national_tables loan queries
  -- a fault that a caller's own source means is passed on with its place and its source
  pub a_source's_fault_unchanged : answer national_tables loan (restate 7 fails) ≡ Declined (fault (Custom 77) 3 12)
