-- How the first defect is searched for.
use Rattle.std.specs.Prelude.{◌&&◌, ◌<◌, ℕ, Bool, not, List}
use Rattle.lif_model.specs.Legal.{lies_between, occupies}
use Rattle.tape_why.specs.declared.defects.Common.{Common}
use Rattle.tape_why.specs.declared.defects.Common.TheVariants.{Record, Name}
use Rattle.tape_why.specs.declared.defects.Defect.{Defect}
use Rattle.tape_why.specs.declared.defects.Defect.TheVariants as defect
use Rattle.tape_why.specs.Defects.{share_records, share_name}

-- a live file has a record before record `low`, or at record `high` or after it
abbrev pub is_outside : ℕ → ℕ → List ℕ → Bool
is_outside low high slot = occupies slot && not (lies_between low high slot)

-- two live files have this in common
abbrev pub do_share : Common → List ℕ → List ℕ → Bool
do_share Record a b = share_records a b
do_share Name a b = share_name a b

-- the defect names places of so many slots
abbrev pub IsDefectOf : ℕ → Defect → Type 0
IsDefectOf count (defect.Header f) = Unit {0}
IsDefectOf count (defect.Outside k) = k < count
IsDefectOf count (defect.SharedRecords j k) = (j < count) × (k < count)
IsDefectOf count (defect.SharedName j k) = (j < count) × (k < count)
