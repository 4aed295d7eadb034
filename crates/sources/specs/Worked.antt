-- Worked cases and edges: facts about what the sources and layers mean.
use Rattle.std.specs.Prelude.{◌≡◌, ℕ, [], ◌∷◌, ◌++◌, replicate, ℤ, pos, negsuc, Ok, Err, Result}
use Rattle.factors.specs.declared.Activity.{Activity}
use Rattle.faults.specs.Refusals.{fault}
use Rattle.faults.specs.declared.Fault.{Fault}
use Rattle.faults.specs.declared.Refusal.TheVariants.{FigureOutOfRange, NeitherVerifiedNorDisclosed, TermCount, ResultTooLarge, OverseasAboveReading, OffsetsAboveReading}
use Rattle.sources.specs.Bottoms.{reported_meaning, physical_meaning, economic_meaning}
use Rattle.sources.specs.Layers.{estimate_meaning, overseas_meaning, offset_meaning}
use Rattle.sources.specs.Readings.{reading}
use Rattle.sources.specs.declared.estimate.EstimateFigures.{EstimateFigures}
use Rattle.sources.specs.declared.offset.OffsetFigures.{OffsetFigures}
use Rattle.sources.specs.declared.overseas.OverseasFigures.{OverseasFigures}
use Rattle.sources.specs.declared.reading.Reading.{Reading}

-- a row of the factor table and a quantity
abbrev pub term : ℕ → ℕ → Activity
term row quantity = record { row = row; quantity = quantity }

-- the outputs of the report and the base period, and what the base period emitted
abbrev pub periods : ℕ → ℕ → ℕ → EstimateFigures
periods report base emitted = record { report_output = report; base_output = base; base_kilograms = emitted }

-- the part that arises overseas
abbrev pub overseas : ℕ → OverseasFigures
overseas part = record { part = part }

-- megawatt hours of green power, tonnes of CCER and of forestry tickets
abbrev pub offsets : ℕ → ℕ → ℕ → OffsetFigures
offsets mwh ccer tickets = record { green_power = mwh; ccer = ccer; tickets = tickets }

-- a reading below a layer
abbrev pub below : ℤ → Result Reading Fault
below kilograms = Ok (reading kilograms 2)

pub record WorkedBottoms : Type 0 where
  -- 1,000 kWh outside Shanghai and a litre of diesel
  pub bill : physical_meaning (term 6 1000 ∷ term 3 1 ∷ []) ≡ Ok (reading (pos 573) 3)
  -- a report of 10^12 kilograms, and of one more
  pub report_largest : reported_meaning 1000000000000 1 ≡ Ok (reading (pos 1000000000000) 1)
  pub report_larger : reported_meaning 1000000000001 0 ≡ Err (fault FigureOutOfRange 0 1)
  pub mark_neither : reported_meaning 1000 0 ≡ Err (fault NeitherVerifiedNorDisclosed 0 1)
  pub mark_three : reported_meaning 1000 3 ≡ Err (fault FigureOutOfRange 0 1)
  pub terms_none : physical_meaning [] ≡ Err (fault TermCount 0 2)
  pub terms_sixteen : physical_meaning (replicate 16 (term 3 10000)) ≡ Ok (reading (pos 432000) 3)
  pub terms_seventeen : physical_meaning (replicate 17 (term 3 1)) ≡ Err (fault TermCount 0 2)
  pub sixteenth_bad : physical_meaning (replicate 15 (term 3 1) ++ (term 7 1 ∷ [])) ≡ Err (fault FigureOutOfRange 16 2)
  pub first_of_two_bad : physical_meaning (term 6 1 ∷ term 0 1 ∷ term 7 1 ∷ []) ≡ Err (fault FigureOutOfRange 2 2)
  pub quantity_largest : physical_meaning (term 6 10000000000 ∷ []) ≡ Ok (reading (pos 5703000000) 3)
  pub quantity_larger : physical_meaning (term 6 10000000001 ∷ []) ≡ Err (fault FigureOutOfRange 1 2)
  pub too_much_coal : physical_meaning (term 1 10000000000 ∷ []) ≡ Err (fault ResultTooLarge 0 2)
  pub sector_largest : economic_meaning 500000000 2000 ≡ Ok (reading (pos 1000000000000) 5)
  pub sector_larger : economic_meaning 500000000 2001 ≡ Err (fault ResultTooLarge 0 3)
  pub output_larger : economic_meaning 500000001 0 ≡ Err (fault FigureOutOfRange 0 3)
  pub mean_larger : economic_meaning 0 1000001 ≡ Err (fault FigureOutOfRange 0 3)

pub record WorkedLayers : Type 0 where
  -- 100 wan of output now and 120 in the base period, 1,000 kilograms then and 1,050 now
  pub estimate : estimate_meaning (periods 100 120 1000) (below (pos 1050)) ≡ Ok (reading (negsuc 216) 2)
  -- outputs of 9,000,000 wan in both periods, so that 1,000 kilograms are expected, and one wan more in either; then a kilogram above 10^12
  pub outputs_largest : estimate_meaning (periods 9000000 9000000 1000) (below (pos 400)) ≡ Ok (reading (pos 600) 2)
  pub report_output_larger : estimate_meaning (periods 9000001 9000000 1000) (below (pos 400)) ≡ Err (fault FigureOutOfRange 0 4)
  pub base_output_larger : estimate_meaning (periods 9000000 9000001 1000) (below (pos 400)) ≡ Err (fault FigureOutOfRange 0 4)
  pub base_emissions_larger : estimate_meaning (periods 0 1 1000000000001) (below (pos 0)) ≡ Err (fault FigureOutOfRange 0 4)
  pub base_none : estimate_meaning (periods 100 0 1000) (below (pos 1050)) ≡ Err (fault FigureOutOfRange 0 4)
  pub estimate_largest : estimate_meaning (periods 1 1 1000000000000) (below (pos 0)) ≡ Ok (reading (pos 1000000000000) 2)
  pub estimate_larger : estimate_meaning (periods 1 1 1000000000000) (below (negsuc 0)) ≡ Err (fault ResultTooLarge 0 4)
  -- an overseas part that is the reading, one more, and 0 over a reading below 0
  pub overseas_all : overseas_meaning (overseas 1000) (below (pos 1000)) ≡ Ok (reading (pos 0) 2)
  pub overseas_above : overseas_meaning (overseas 1001) (below (pos 1000)) ≡ Err (fault OverseasAboveReading 0 5)
  pub overseas_negative : overseas_meaning (overseas 0) (below (negsuc 0)) ≡ Err (fault OverseasAboveReading 0 5)
  pub overseas_larger : overseas_meaning (overseas 1000000000001) (below (pos 0)) ≡ Err (fault FigureOutOfRange 0 5)
  -- 3 MWh are 1,710 kilograms, and a tonne of each certificate 2,000
  pub offset_all : offset_meaning (offsets 3 1 1) (below (pos 3710)) ≡ Ok (reading (pos 0) 2)
  pub offset_above : offset_meaning (offsets 3 1 1) (below (pos 3709)) ≡ Err (fault OffsetsAboveReading 0 6)
  -- 10^9 MWh are 570,300,000,000 kilograms, and 10^9 tonnes of a certificate 10^12; then one more of each
  pub power_largest : offset_meaning (offsets 1000000000 0 0) (below (pos 570300000001)) ≡ Ok (reading (pos 1) 2)
  pub ccer_largest : offset_meaning (offsets 0 1000000000 0) (below (pos 1000000000000)) ≡ Ok (reading (pos 0) 2)
  pub tickets_largest : offset_meaning (offsets 0 0 1000000000) (below (pos 1000000000000)) ≡ Ok (reading (pos 0) 2)
  pub power_larger : offset_meaning (offsets 1000000001 0 0) (below (pos 0)) ≡ Err (fault FigureOutOfRange 0 6)
  pub ccer_larger : offset_meaning (offsets 0 1000000001 0) (below (pos 0)) ≡ Err (fault FigureOutOfRange 0 6)
  pub tickets_larger : offset_meaning (offsets 0 0 1000000001) (below (pos 0)) ≡ Err (fault FigureOutOfRange 0 6)
  -- figures out of range over a source with a fault of its own: the layer does not read it
  pub estimate_first : estimate_meaning (periods 100 9000001 1000) (reported_meaning 1 0) ≡ Err (fault FigureOutOfRange 0 4)
  pub overseas_first : overseas_meaning (overseas 1000000000001) (reported_meaning 1 0) ≡ Err (fault FigureOutOfRange 0 5)
  pub offset_first : offset_meaning (offsets 0 0 1000000001) (reported_meaning 1 0) ≡ Err (fault FigureOutOfRange 0 6)
  -- a fault from three layers down
  pub fault_below : offset_meaning (offsets 0 0 0) (overseas_meaning (overseas 0) (estimate_meaning (periods 1 1 0) (reported_meaning 1 0))) ≡ Err (fault NeitherVerifiedNorDisclosed 0 1)
