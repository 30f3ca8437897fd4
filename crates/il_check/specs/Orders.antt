-- What the words of a check ask for.
use Rattle.std.specs.Prelude.{ℕ, List, [], ◌∷◌, codes, Option, None, if◌then◌else◌, option_and_then, option_map}
use Rattle.std.specs.Str.{bytes_eq}
use Rattle.il_script.specs.Digits.{number_up_to}

-- the number of devices of the ring, the drive's party, and the names of the images before the trace and after it
pub record CheckOrder : Type 0 where
  pub devices : ℕ
  pub drive : ℕ
  pub before : List ℕ
  pub after : List ℕ

-- the most devices that a ring has
abbrev pub most_devices : ℕ
most_devices = 30

-- the devices and the drive's party, which is one of theirs
abbrev pub party_in : (devices drive : List ℕ) → Option (ℕ × ℕ)
party_in devices drive = option_and_then (λ k. option_map (λ d. (k, d)) (number_up_to k drive)) (number_up_to most_devices devices)

abbrev pub check_order : List ℕ → List ℕ → ℕ × ℕ → CheckOrder
check_order before after party = record { devices = party.0; drive = party.1; before = before; after = after }

-- `check K D BEFORE AFTER`: K is 1 to 30 and D 1 to K, in decimal without leading zeros; any other words ask for nothing
abbrev pub check_asked : List (List ℕ) → Option CheckOrder
check_asked (word ∷ devices ∷ drive ∷ before ∷ after ∷ []) =
    if bytes_eq word (codes "check") then option_map (check_order before after) (party_in devices drive) else None
check_asked words = None
