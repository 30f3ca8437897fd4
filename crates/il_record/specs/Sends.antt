-- Sends of many bytes.
use Rattle.std.specs.Prelude.{◌≡◌, ◌≤◌, ◌<◌, ℕ, List, ◌++◌, length, take, replicate, Option}
use Rattle.il_ports.specs.Media.{MediumView}
use Rattle.loop_model.specs.Exchanges.{Echo, Send, bytes_of}
use Rattle.loop_model.specs.Devices.{EachBecomes}
use Rattle.il_drive.specs.Resting.{IsFree, HasSought}
use Rattle.il_ring.specs.Rings.{RingView, devices_of, drive_party}
use Rattle.il_ring.specs.Lists.{Each}
use Rattle.il_control.specs.Calls.{Made, BrokenOff, IsTold}
use Rattle.il_record.specs.Came.{OnlyHeard, heard_on}
use Rattle.il_record.specs.Listening.{Hears, HearsPart}

-- so many bytes: these, followed by zeros
abbrev pub filled : ℕ → List ℕ → List ℕ
filled n bytes = take n (bytes ++ replicate n 0)

-- The first i bytes were sent to the device of address a, after the DDL of a number, where one is given. It alone listens, it heard these
-- bytes, by the log too, and no other device heard anything.
pub record SentSo {M : Type 0} (view : M → MediumView) (a : ℕ) (number : Option ℕ) (i : ℕ) (bytes : List ℕ) (r s : RingView M) : Type 0 where
  pub ds : List Echo
  pub sent : bytes_of ds ≡ take i bytes
  pub many : length ds ≡ i
  pub made : Made view (Send a number ds) r s
  pub told : Each (IsTold a) 1 (devices_of s)
  pub unheard : OnlyHeard a r s
  pub by_log : 1 ≤ a → a ≤ length (devices_of r) → heard_on r a unheard.entries ≡ take i bytes
  pub heard : EachBecomes (Hears a (take i bytes)) 1 (devices_of r) (devices_of s)

-- all were
abbrev pub SentAll : {M : Type 0} → (M → MediumView) → ℕ → Option ℕ → List ℕ → RingView M → RingView M → Type 0
SentAll view a number bytes r s = SentSo view a number (length bytes) bytes r s

-- It broke off; the bytes of the frames that were sent by then are the first ones. By the log the device heard so many of them, whole, and
-- it did hear these, and then at most one byte of any value.
pub record SendBroke {M : Type 0} (view : M → MediumView) (a : ℕ) (number : Option ℕ) (bytes : List ℕ) (r s : RingView M) : Type 0 where
  pub ds : List Echo
  pub sent : bytes_of ds ≡ take (length ds) bytes
  pub within : length ds ≤ length bytes
  pub broken : BrokenOff view (Send a number ds) r s
  pub whole : ℕ
  pub whole_within : whole ≤ length bytes
  pub unheard : OnlyHeard a r s
  pub by_log : 1 ≤ a → a ≤ length (devices_of r) → heard_on r a unheard.entries ≡ take whole bytes
  pub heard : EachBecomes (HearsPart a whole bytes) 1 (devices_of r) (devices_of s)

-- The drive, of which every exchange begins so, has sought record n.
abbrev pub Sought : {M : Type 0} → (M → MediumView) → ℕ → ℕ → RingView M → RingView M → Type 0
Sought view d n r s = drive_party r ≡ d → IsFree d r.drive.state → n < (view r.drive.medium).record_count → HasSought view d n r.drive s.drive
