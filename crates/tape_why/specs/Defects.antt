-- Why a directory is no legal one: its first defect.
use Rattle.std.specs.Prelude.{◌==◌, ◌&&◌, nat_lt, not, ℕ, suc, Bool, List, [], ◌∷◌, Option, Some, None, option_map, if◌then◌else◌}
use Rattle.lif_model.specs.Numbers.{two_at}
use Rattle.lif_model.specs.Gate.{gate_of}
use Rattle.lif_model.specs.Header.{directory_end, directory_length, directory_start, is_marked}
use Rattle.lif_model.specs.Legal.{are_apart, have_other_names, is_live, lies_between, occupies}
use Rattle.lif_header.specs.declared.header.HeaderFault.{HeaderFault}
use Rattle.lif_header.specs.declared.header.HeaderFault.TheVariants as fault
use Rattle.tape_why.specs.declared.defects.Defect.{Defect}
use Rattle.tape_why.specs.declared.defects.Defect.TheVariants as defect

-- ---- two options

-- the first of two, if there is one, and else the second
abbrev pub or_else : {T : Type 0} → Option T → Option T → Option T
or_else (Some t) second = Some t
or_else None second = second

-- ---- record 0

-- the first test that record 0 of a tape of n records fails
abbrev pub header_fault : ℕ → List ℕ → Option HeaderFault
header_fault n header =
    if not (is_marked header) then Some (fault.Id (two_at header 0))
    else if directory_start header == 0 then Some (fault.Start 0)
    else if directory_length header == 0 then Some (fault.Length 0)
    else if nat_lt (gate_of n) (directory_end header) then Some (fault.Past (directory_end header))
    else None

-- ---- the slots

-- a live file has a record before the directory's end, or after the end of the medium
abbrev pub lies_outside : ℕ → List ℕ → List ℕ → Bool
lies_outside n header slot = occupies slot && not (lies_between (directory_end header) n slot)

abbrev pub share_records : List ℕ → List ℕ → Bool
share_records a b = occupies a && (occupies b && not (are_apart a b))

abbrev pub share_name : List ℕ → List ℕ → Bool
share_name a b = is_live a && (is_live b && not (have_other_names a b))

-- the place, counted from k, of the first of these slots that has the property
abbrev pub place_from : (List ℕ → Bool) → ℕ → List (List ℕ) → Option ℕ
place_from holds k [] = None
place_from holds k (slot ∷ slots) = if holds slot then Some k else place_from holds (suc k) slots

-- the places, counted from k, of the first slot that clashes with a later one, and of the first of these
abbrev pub clash_from : (List ℕ → List ℕ → Bool) → ℕ → List (List ℕ) → Option (ℕ × ℕ)
clash_from clash k [] = None
clash_from clash k (slot ∷ slots) = or_else (option_map (λ j. (k, j)) (place_from (clash slot) (suc k) slots)) (clash_from clash (suc k) slots)

-- the first defect of slots that record 0 of a tape of n records tells of
abbrev pub slots_defect : ℕ → List ℕ → List (List ℕ) → Option Defect
slots_defect n header slots =
    or_else (option_map defect.Outside (place_from (lies_outside n header) 0 slots))
    (or_else (option_map (λ p. defect.SharedRecords p.0 p.1) (clash_from share_records 0 slots))
    (option_map (λ p. defect.SharedName p.0 p.1) (clash_from share_name 0 slots)))

-- the first defect of a directory: that of record 0, and then that of the slots
abbrev pub defect_of : ℕ → List ℕ → List (List ℕ) → Option Defect
defect_of n header slots = or_else (option_map defect.Header (header_fault n header)) (slots_defect n header slots)
