-- The values of `--lose` and `--alter`: lists of faults, separated by commas.
use Rattle.std.specs.Prelude.{ℕ, ◌==◌, nat_le, List, [], ◌∷◌, length, Option, Some, None, if◌then◌else◌, option_and_then}
use Rattle.std.specs.List.{slice_split}
use Rattle.il_script.specs.Digits.{number_up_to, hex_bytes}
use Rattle.il_ring.specs.declared.plan.Planned.{Planned}
use Rattle.il_ring.specs.declared.plan.PlanFault.{PlanFault}
use Rattle.il_ring.specs.declared.plan.PlanFault.TheVariants.{Lose, Alter}
use Rattle.il_words.specs.Halves.{halves_of}
use Rattle.il_words.specs.declared.faults.FaultList.{FaultList}
use Rattle.il_words.specs.declared.faults.FaultList.TheVariants.{Losses, Alterations}

-- a crossing: 1 to 18 digits, the first of them not 0
abbrev pub crossing_in : List ℕ → Option ℕ
crossing_in text = number_up_to 999999999999999999 text

-- an alteration by a byte, which is not 0
abbrev pub change_of : List ℕ → Option PlanFault
change_of [] = None
change_of (change ∷ more) = if change == 0 then None else Some (Alter change)

-- the byte of an alteration: two hex digits of either case
abbrev pub change_in : List ℕ → Option PlanFault
change_in text = option_and_then change_of (hex_bytes 1 text)

-- a fault at a crossing, where both are there
abbrev pub planned : Option ℕ → Option PlanFault → Option Planned
planned (Some hop) (Some fault) = Some (record { hop = hop; fault = fault })
planned _ _ = None

-- an item of `--lose`, H: the crossing at which a frame is lost
abbrev pub loss_in : List ℕ → Option Planned
loss_in item = planned (crossing_in item) (Some Lose)

-- an item of `--alter`, H:XX: the crossing and the byte
abbrev pub alteration_in : List ℕ → Option Planned
alteration_in item = option_and_then (λ (hop, change). planned (crossing_in hop) (change_in change)) (halves_of item)

-- the fault that an item of that option plans
abbrev pub item_in : FaultList → List ℕ → Option Planned
item_in Losses item = loss_in item
item_in Alterations item = alteration_in item

-- one fault before others, where all are there
abbrev pub joined : Option Planned → Option (List Planned) → Option (List Planned)
joined (Some fault) (Some faults) = Some (fault ∷ faults)
joined _ _ = None

-- the faults of all items, where each is one of that option
abbrev pub all_in : FaultList → List (List ℕ) → Option (List Planned)
all_in option [] = Some []
all_in option (item ∷ items) = joined (item_in option item) (all_in option items)

-- the faults of at most so many items
abbrev pub few_in : FaultList → ℕ → List (List ℕ) → Option (List Planned)
few_in option most items = if nat_le (length items) most then all_in option items else None

-- a list of 1 to 64 items
abbrev pub list_in : FaultList → List ℕ → Option (List Planned)
list_in option list = few_in option 64 (slice_split (λ byte. byte == 44) list)

-- an option that is not given lists no faults
abbrev pub list_if : FaultList → Option (List ℕ) → Option (List Planned)
list_if option None = Some []
list_if option (Some list) = list_in option list
