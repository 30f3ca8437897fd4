-- Transfers of runs of records: what they leave of a tape, and which bytes they carry. A record has 256 bytes
-- (HP 82161A Owner's Manual).
use Rattle.std.specs.Prelude.{◌≡◌, ◌<◌, ◌≤◌, ◌+◌, ◌/◌, ◌==◌, nat_lt, nat_eq, ◌&&◌, ◌||◌, not, ℕ, zero, suc, Bool, MatchBool, List, [], ◌∷◌, length, take, drop, get_or, Option, Some, Result, Ok, Err}
use Rattle.std.specs.List.{list_any, starts_with}
use Rattle.lif_model.specs.Tape.{Tape, record_at}
use Rattle.lif_model.specs.Stops.{Torn}

-- a write or else a read of a run of records: its first record, and the bytes of all its records
pub record Transfer : Type 0 where
  pub writes : Bool
  pub first : ℕ
  pub bytes : List ℕ

-- ---- pieces

-- how many records the bytes take
abbrev pub records_of : List ℕ → ℕ
records_of bytes = (length bytes + 255) / 256

-- n pieces of 256 bytes from the front
abbrev pub cut_up : ℕ → List ℕ → List (List ℕ)
cut_up zero bytes = []
cut_up (suc n) bytes = take 256 bytes ∷ cut_up n (drop 256 bytes)

-- all pieces of 256 bytes; the last may be shorter
abbrev pub all_pieces : List ℕ → List (List ℕ)
all_pieces bytes = cut_up (records_of bytes) bytes

-- the pieces of 256 bytes whose last byte is there
abbrev pub full_pieces : List ℕ → List (List ℕ)
full_pieces bytes = cut_up (length bytes / 256) bytes

-- ---- what a run leaves

-- the records from `first` on are these pieces, and all others are as before
pub record Replaced (first : ℕ) (pieces : List (List ℕ)) (old new : Tape) : Type 0 where
  pub records : length new ≡ length old
  pub within : (i : ℕ) → i < length pieces → record_at new (first + i) ≡ get_or pieces i []
  pub before : (k : ℕ) → k < first → record_at new k ≡ record_at old k
  pub behind : (k : ℕ) → first + length pieces ≤ k → record_at new k ≡ record_at old k

-- some number of these pieces are written, the first ones; the record of the next piece, if there is
-- one, may hold any bytes, and all others are as before
pub record PartlyReplaced (first : ℕ) (pieces : List (List ℕ)) (old new : Tape) : Type 0 where
  pub count : ℕ
  pub in_range : count ≤ length pieces
  pub written : Tape
  pub replaced : Replaced first (take count pieces) old written
  pub torn : MatchBool (nat_lt count (length pieces)) (Torn (first + count) written new) (new ≡ written)

-- what a write of these pieces at the records from `first` on leaves, where the tape is told
abbrev pub WroteRun : {T E : Type 0} → ℕ → List (List ℕ) → Option Tape → Option Tape → Result T E → Type 0
WroteRun first pieces old new (Ok _) = (t : Tape) → old ≡ Some t → (u : Tape) × (new ≡ Some u) × Replaced first pieces t u
WroteRun first pieces old new (Err _) = (t : Tape) → old ≡ Some t → (u : Tape) × (new ≡ Some u) × PartlyReplaced first pieces t u

-- ---- what transfers carry

-- the other transfer writes a record of this one
abbrev pub is_overwritten_by : Transfer → Transfer → Bool
is_overwritten_by t other =
    other.writes
    && (nat_lt other.first (t.first + records_of t.bytes) && nat_lt t.first (other.first + records_of other.bytes))

-- Among these values, each of which stands for a transfer, there are in this order some that pass the test and lie on the
-- records from n on, each record once, whose bytes joined are these; and no later one writes a record of theirs.
abbrev pub carries : {X : Type 0} → (X → Transfer) → (X → Bool) → List X → ℕ → List ℕ → Bool
carries transfer test [] n bytes = length bytes == 0
carries transfer test (x ∷ xs) n bytes =
    (test x && (((transfer x).first == n) && (starts_with nat_eq bytes (transfer x).bytes && (not (list_any (λ y. is_overwritten_by (transfer x) (transfer y)) xs)
    && carries transfer test xs (n + records_of (transfer x).bytes) (drop (length (transfer x).bytes) bytes)))))
    || carries transfer test xs n bytes

-- the transfers carried exactly these bytes out to the records from n on, or in from them
abbrev pub are_carried_out : List Transfer → ℕ → List ℕ → Bool
are_carried_out list n bytes = carries (λ t. t) (λ t. t.writes) list n bytes

abbrev pub are_carried_in : List Transfer → ℕ → List ℕ → Bool
are_carried_in list n bytes = carries (λ t. t) (λ t. not t.writes) list n bytes
