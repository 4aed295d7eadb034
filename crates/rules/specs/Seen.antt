-- An investee of the code as definitions see it.
use Rattle.std.specs.Prelude.{Ok, Err, Result}
use Rattle.faults.specs.declared.Fault.{Fault}
use Rattle.rules.specs.declared.investees.Profile.{Profile}
use Rattle.rules.specs.Investees.{PlainProfile}

abbrev pub plain_profile : Profile → PlainProfile
plain_profile x = record { id = x.id; kind = x.kind; sector = x.sector; size = x.size; days = x.days; figures = x.figures }

-- what `checked` gives
abbrev pub seen_profile : Result Profile Fault → Result PlainProfile Fault
seen_profile (Ok x) = Ok (plain_profile x)
seen_profile (Err f) = Err f
