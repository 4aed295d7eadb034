-- What two guides answer for an investee, and the line that is printed of it.
use Rattle.std.specs.Prelude.{ℕ, List, ◌++◌, Ok, Err, codes, decimal, Result}
use Rattle.comparison.specs.declared.Comparison.{Comparison}
use Rattle.comparison.specs.declared.Facts.{Facts}
use Rattle.faults.specs.Refusals.{number_of}
use Rattle.faults.specs.declared.Refusal.{Refusal}
use Rattle.rules.specs.declared.figures.Base.{Base}
use Rattle.rules.specs.declared.figures.Base.TheVariants.{Amount, Whole}
use Rattle.rules.specs.declared.rule.Attribution.{Attribution}
use Rattle.rules.specs.Attributions.{attribution_of}
use Rattle.rules.specs.Kinds.{kind_number, size_number}
use Rattle.rules.specs.National.{national_tables}
use Rattle.rules.specs.Pudong.{pudong_tables}
use Rattle.rules.specs.Seen.{plain_profile}

abbrev pub refusal_text : ℕ → List ℕ
refusal_text number = codes "refuses with " ++ decimal number

abbrev pub whole_text : List ℕ
whole_text = codes "takes the whole"

-- a rule's base, or the refusal's number
abbrev pub base_text : Result Base Refusal → List ℕ
base_text (Ok (Amount n)) = codes "divides by " ++ decimal n
base_text (Ok Whole) = whole_text
base_text (Err refusal) = refusal_text (number_of refusal)

abbrev pub answer_text : Attribution → List ℕ
answer_text a = base_text a.base ++ (codes ", reason " ++ decimal a.reason)

abbrev pub numbers_text : ℕ → ℕ → ℕ → ℕ → ℕ → ℕ → List ℕ
numbers_text id kind size days exposure closing =
    decimal id ++ (codes ": kind " ++ (decimal kind ++ (codes ", size " ++ (decimal size ++ (codes ", days "
    ++ (decimal days ++ (codes ", exposure " ++ (decimal exposure ++ (codes ", closing " ++ decimal closing)))))))))

-- an investee by its numbers
abbrev pub facts_text : Facts → List ℕ
facts_text x = numbers_text x.investee.id (kind_number x.investee.kind) (size_number x.investee.size) x.investee.days x.exposure x.closing

abbrev pub joined_text : List ℕ → List ℕ → List ℕ → List ℕ
joined_text facts national pudong = facts ++ (codes "; National " ++ (national ++ (codes "; Pudong " ++ pudong)))

-- the investee's numbers, then what each guide answers
abbrev pub comparison_text : Comparison → List ℕ
comparison_text c = joined_text (facts_text c.facts) (answer_text c.national) (answer_text c.pudong)

-- what each guide answers for an investee
abbrev pub comparison_of : Facts → Comparison
comparison_of x = record {
  facts = x;
  national = attribution_of national_tables (plain_profile x.investee) x.exposure x.closing;
  pudong = attribution_of pudong_tables (plain_profile x.investee) x.exposure x.closing;
}
