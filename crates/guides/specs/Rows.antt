-- The investee that a row of the table stands for.
use Rattle.rules.specs.declared.investees.InvesteeFields.{InvesteeFields}
use Rattle.guides.specs.declared.Row.{Row}

-- of no heavy-emitting sector, and of a firm whose figures differ
abbrev pub fields_of : Row → InvesteeFields
fields_of row = record {
  id = row.id;
  kind = row.kind;
  sector = 0;
  size = row.size;
  days = row.days;
  figures = record { investment = 8000; revenue = 10000; total_assets = 25000; initial_value = row.initial_value };
}
