-- The faults of a trace, as they are printed.
use Rattle.std.specs.Prelude.{ℕ, List, codes}
use Rattle.il_check.specs.declared.verdict.TraceFault.{TraceFault}
use Rattle.il_check.specs.declared.verdict.TraceFault.TheVariants as fault

abbrev pub fault_number : TraceFault → ℕ
fault_number fault.BadText = 1
fault_number fault.NotTalker = 2
fault_number fault.NoExchange = 3
fault_number fault.NoEffect = 4
fault_number fault.Unclear = 5
fault_number fault.BadUnit = 6
fault_number fault.SizeDiffers = 7

abbrev pub fault_name : TraceFault → List ℕ
fault_name fault.BadText = codes "BadText"
fault_name fault.NotTalker = codes "NotTalker"
fault_name fault.NoExchange = codes "NoExchange"
fault_name fault.NoEffect = codes "NoEffect"
fault_name fault.Unclear = codes "Unclear"
fault_name fault.BadUnit = codes "BadUnit"
fault_name fault.SizeDiffers = codes "SizeDiffers"
