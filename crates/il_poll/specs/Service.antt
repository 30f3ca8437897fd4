-- The status of a device and its part in a parallel poll. Source: HP-IL Interface Specification,
-- HP 82166-90017, the messages SST, PPE, PPD, PPU and IDY; that the status stands in the lowest six
-- bits, and what it says, is this project's own.
use Rattle.std.specs.Prelude.{ℕ, ◌≡◌, ◌≢◌, ◌+◌, ◌%◌, ◌/◌, ◌^◌, ◌<◌, ◌==◌, Bool, true, false, not, if◌then◌else◌, Option, Some, None, bit_or}
use Rattle.std.specs.Int.{bit_at}
use Rattle.il_poll.specs.declared.service.Assignment.{Assignment}

-- what contracts see of a service state
pub record Service : Type 0 where
  pub status : ℕ
  pub assignment : Option Assignment

-- the bit of a place is one of a byte's eight
abbrev pub IsPlace : Option Assignment → Type 0
IsPlace None = Unit {0}
IsPlace (Some a) = a.bit < 8

-- the status has six bits, and the place is one of the poll's eight
pub record IsService (s : Service) : Type 0 where
  pub status : s.status < 64
  pub place : IsPlace s.assignment

-- a device wants service exactly while its status is not 0
abbrev pub wants_service : ℕ → Bool
wants_service status = not (status == 0)

-- the answer to SST: bit 6 says that service is wanted
abbrev pub status_byte_of : ℕ → ℕ
status_byte_of status = if wants_service status then status + 64 else status

-- the place that PPE n gives: the bit in the lowest three bits, the sense above them
abbrev pub assigned : ℕ → Assignment
assigned n = record { bit = n % 8; sense = (n / 8) == 1 }

-- two truth values are the same
abbrev pub agree : Bool → Bool → Bool
agree true b = b
agree false b = not b

-- the identify byte after a device
abbrev pub polled : Option Assignment → Bool → ℕ → ℕ
polled None wants byte = byte
polled (Some a) wants byte = if agree a.sense wants then bit_or byte (2 ^ a.bit) else byte

-- the same bit by bit: the assigned bit is 1 where the device responds, and every other bit stays
pub record BitByBit (a : Assignment) (responds : Bool) (byte after : ℕ) : Type 0 where
  pub own : bit_at after a.bit ≡ (if responds then 1 else bit_at byte a.bit)
  pub others : (k : ℕ) → k ≢ a.bit → bit_at after k ≡ bit_at byte k

abbrev pub SetsBit : Option Assignment → Bool → ℕ → ℕ → Type 0
SetsBit None wants byte after = after ≡ byte
SetsBit (Some a) wants byte after = BitByBit a (agree a.sense wants) byte after
