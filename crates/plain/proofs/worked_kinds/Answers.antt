use Rattle.std.proofs.Common.{refl}
use Rattle.plain.specs.Lists.{first_of, change_first}
use Rattle.plain.specs.Parts.{exposures, exposure_at, exposure_before}
use Rattle.plain.specs.Rounding.{rounded}
use Rattle.plain.specs.Sums.{sum_over, down_from}
use Rattle.plain.proofs.worked_kinds.Goals as goal

-- field by field, so that a wrong definition is refused at the fact that it breaks
pub returns : goal.returns
unfolding rounded exposures exposure_at exposure_before sum_over down_from first_of change_first
returns c = record {
  every_call_accepted = refl;
  project = refl;
  property_development = refl;
  property_purchase = refl;
  vehicle = refl;
  general_loan = refl;
  bond = refl;
  sheets = refl;
  book_total = refl;
  accounts_of_a_page = refl;
  sheets_of_a_page = refl;
}
