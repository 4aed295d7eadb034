-- How many numbers each kind of line has, and the place of each: its number in its line, counted from 1.
use Rattle.std.specs.Prelude.{ℕ, ◌-◌, List, slice_index}

-- the number at a place
abbrev pub number_at : ℕ → List ℕ → ℕ
number_at place ns = slice_index ns (place - 1)

-- ---- line 1

abbrev pub numbers_of_first_line : ℕ
numbers_of_first_line = 3

abbrev pub investees_place : ℕ
investees_place = 1

abbrev pub posts_place : ℕ
posts_place = 2

abbrev pub guide_place : ℕ
guide_place = 3

-- ---- an investee's line: the numbers before the letter of its method

abbrev pub numbers_before_method : ℕ
numbers_before_method = 13

abbrev pub id_place : ℕ
id_place = 1

abbrev pub kind_place : ℕ
kind_place = 2

abbrev pub sector_place : ℕ
sector_place = 3

abbrev pub size_place : ℕ
size_place = 4

abbrev pub days_place : ℕ
days_place = 5

abbrev pub investment_place : ℕ
investment_place = 6

abbrev pub revenue_place : ℕ
revenue_place = 7

abbrev pub total_assets_place : ℕ
total_assets_place = 8

abbrev pub initial_value_place : ℕ
initial_value_place = 9

abbrev pub part_place : ℕ
part_place = 10

abbrev pub green_power_place : ℕ
green_power_place = 11

abbrev pub ccer_place : ℕ
ccer_place = 12

abbrev pub tickets_place : ℕ
tickets_place = 13

-- ---- the two lines of a post

abbrev pub numbers_of_key : ℕ
numbers_of_key = 3

abbrev pub branch_place : ℕ
branch_place = 1

abbrev pub investee_place : ℕ
investee_place = 2

abbrev pub month_place : ℕ
month_place = 3

abbrev pub numbers_of_balance : ℕ
numbers_of_balance = 1

abbrev pub balance_place : ℕ
balance_place = 1
