-- The redo file, which is this project's own: the records at the end of a tape by which several records change at once.
-- On a tape of n records the gate stands at n - 4 and the targets record at n - 3.
use Rattle.std.specs.Prelude.{◌≡◌, ◌+◌, ◌-◌, ◌++◌, ◌&&◌, if◌then◌else◌, nat_lt, nat_le, nat_eq, not, min, ℕ, zero, suc, Bool, true, false, List, [], ◌∷◌, length, map, set, replicate, codes, flat_map}
use Rattle.std.specs.List.{list_all}
use Rattle.std.specs.Str.{bytes_eq}
use Rattle.lif_model.specs.Numbers.{two_at}
use Rattle.lif_model.specs.Tape.{Tape, record_at}
use Rattle.lif_model.specs.Shelf.{piece}
use Rattle.lif_model.specs.Pairs.{all_pairs}
use Rattle.lif_model.specs.Gate.{gate_of, open_text, has_open_gate}
use Rattle.lif_model.specs.Made.{in_two}
use Rattle.lif_model.specs.declared.version.Version.{Version}
use Rattle.lif_model.specs.declared.version.Version.TheVariants.{One, Two}

-- ---- versions: they differ in what the next four functions say of them, and in nothing else

-- those that a targets record may be of
abbrev pub versions : List Version
versions = One ∷ Two ∷ []

-- how many records its redo file has
abbrev pub redo_length : Version → ℕ
redo_length One = 4
redo_length Two = 34

-- how many targets it takes at most
abbrev pub most_targets : Version → ℕ
most_targets One = 2
most_targets Two = 32

-- the first eight bytes of its targets record
abbrev pub redo_text : Version → List ℕ
redo_text One = codes "LIFREDO1"
redo_text Two = codes "LIFREDO2"

-- the record that holds what target i, counted from 0, is to become: version 2 has thirty of them before the gate
abbrev pub data_record : Version → ℕ → ℕ → ℕ
data_record One n i = n - 2 + i
data_record Two n i = if nat_lt i 30 then n - 34 + i else n - 2 + (i - 30)

-- the first record of its redo file
abbrev pub redo_start : Version → ℕ → ℕ
redo_start version n = n - redo_length version

-- ---- the gate

-- the gate record as this project writes it
unfoldable pub open_gate : List ℕ
open_gate = piece open_text

-- a record of zeros, which closes the gate
unfoldable pub zeros : List ℕ
zeros = replicate 256 0

-- ---- the targets

-- the record that names them
abbrev pub targets_place : ℕ → ℕ
targets_place n = n - 3

-- the targets record that names these: the text, their count, their numbers in two bytes each, and zeros
unfoldable pub targets_record : Version → List ℕ → List ℕ
targets_record version targets = piece (redo_text version ++ (in_two (length targets) ++ flat_map in_two targets))

-- at least one target, no more than the version takes, each below the redo file, and distinct
abbrev pub are_targets : Version → ℕ → List ℕ → Bool
are_targets version n targets = nat_lt 0 (length targets) && (nat_le (length targets) (most_targets version)
    && (list_all (λ k. nat_lt k (redo_start version n)) targets && all_pairs (λ j k. not (nat_eq j k)) targets))

-- a count of numbers of two bytes, from place i on
abbrev pub numbers_at : List ℕ → ℕ → ℕ → List ℕ
numbers_at bytes i zero = []
numbers_at bytes i (suc count) = two_at bytes i ∷ numbers_at bytes (i + 2) count

-- the targets that a record of that version names
abbrev pub named_by : Version → List ℕ → List ℕ
named_by version bytes = numbers_at bytes 10 (min (two_at bytes 8) (most_targets version))

-- A record is valid of a version where it is the very record that names its targets, and these may be targets.
unfoldable pub is_valid : Version → ℕ → List ℕ → Bool
is_valid version n bytes = bytes_eq bytes (targets_record version (named_by version bytes)) && are_targets version n (named_by version bytes)

-- what a targets record names, or nothing that is valid
pub data Targets : Type 0 where
  Invalid : Targets
  Valid : Version → List ℕ → Targets

abbrev pub targets_among : List Version → ℕ → List ℕ → Targets
targets_among [] n bytes = Invalid
targets_among (version ∷ rest) n bytes = if is_valid version n bytes then Valid version (named_by version bytes) else targets_among rest n bytes

-- what a targets record says on a tape of n records
abbrev pub targets_of : ℕ → List ℕ → Targets
targets_of n bytes = targets_among versions n bytes

-- ---- the changes

-- record numbers, and what is to stand there
abbrev pub Changes : Type 0
Changes = List (ℕ × List ℕ)

abbrev pub targets_in : Changes → List ℕ
targets_in changes = map (λ c. c.0) changes

-- targets from target i on, each with its data record
abbrev pub held_from : Version → ℕ → Tape → ℕ → List ℕ → Changes
held_from version n tape i [] = []
held_from version n tape i (target ∷ targets) = (target, record_at tape (data_record version n i)) ∷ held_from version n tape (suc i) targets

-- each target with its new content
abbrev pub held_by : ℕ → Tape → Targets → Changes
held_by n tape Invalid = []
held_by n tape (Valid version targets) = held_from version n tape 0 targets

-- the changes that come after the gate, open or closed
abbrev pub behind : Tape → Changes
behind tape = held_by (length tape) tape (targets_of (length tape) (record_at tape (targets_place (length tape))))

-- the open redo: none where the gate is closed or the targets are invalid
abbrev pub redo_of : Tape → Changes
redo_of tape = if has_open_gate tape then behind tape else []

-- the tape with these changes, one after the other
abbrev pub changed : Changes → Tape → Tape
changed [] tape = tape
changed (c ∷ cs) tape = changed cs (set tape c.0 c.1)

-- ---- settled

abbrev pub settled_by : Changes → Tape → Tape
settled_by [] tape = tape
settled_by (c ∷ cs) tape = set (changed (c ∷ cs) tape) (gate_of (length tape)) zeros

-- an open redo is carried out and its gate record becomes zeros; every other tape is settled as it is
abbrev pub settled : Tape → Tape
settled tape = settled_by (redo_of tape) tape

-- settling leaves it
abbrev pub IsSettled : Tape → Type 0
IsSettled tape = settled tape ≡ tape

abbrev pub is_none : Changes → Bool
is_none [] = true
is_none (c ∷ cs) = false

-- nothing is left to settle
abbrev pub is_settled : Tape → Bool
is_settled tape = is_none (redo_of tape)
