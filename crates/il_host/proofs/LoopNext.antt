-- What the commands of the loop leave of it.
use Rattle.std.proofs.Common.{◌≡◌, ⊎_elim, inl, inr, ◌++◌, ◌∙◌, ℕ, Bool, true, false, List, length, take, refl, sym, ap, ap₂, subst, arith}
use Rattle.std.specs.Prelude.{MatchBool}
use Rattle.il_device.specs.State.{DeviceState, risen_by}
use Rattle.il_device.specs.Takes.{kept_all}
use Rattle.il_ports.specs.Media.{MediumView}
use Rattle.il_drive.specs.State.{status_of}
use Rattle.loop_model.specs.Listening.{HearsAll, HearsInPart}
use Rattle.il_ring.specs.Outcomes.{HearsNothing}
use Rattle.il_ring.specs.Rings.{RingView, drive_party}
use Rattle.il_control.specs.Calls.{Stays}
use Rattle.il_control.proofs.Calls.{hears_then}
use Rattle.il_record.specs.Came.{NoneHeard}
use Rattle.il_record.specs.Runs.{LeavesDevices, Interrupted, NotPolled, Polled, address_asks}
use Rattle.il_script.specs.declared.reply.Reply.{Reply}
use Rattle.il_script.specs.declared.reply.Reply.TheVariants as reply
use Rattle.host_model.specs.Requests.{Item, Asks, Devices, Status, Poll, Say, Lend}
use Rattle.host_model.specs.LoopStates.{LoopState, printer_at}
use Rattle.host_model.specs.RingStates.{loop_on}
use Rattle.host_model.specs.Next.{BoxedBecome, DeviceBehind, HearsSaid, Next, StatusBehind, is_party}
use Rattle.host_model.proofs.Steps.{boxed_same, boxed_then}
use Rattle.il_record.proofs.HeardLogs.{heard_none}
use Rattle.il_record.proofs.Listened.{nothing_in_part}
use Rattle.il_host.proofs.Devices.{boxed_first, boxed_unheard}
use Rattle.il_host.proofs.LoopEvents.{IsOfLoop, Readies}
use Rattle.il_host.proofs.StatusEvents.{ready_leaves}

-- ---- what a device hears

-- nothing: and it wants service if it did
pub record IsStill (d e : DeviceState) : Type 0 where
  pub nothing : HearsNothing d e
  pub wants : e.wants ≡ d.wants

-- of the device at any party
abbrev pub Still : ℕ → DeviceState → DeviceState → Type 0
Still party d e = IsStill d e

-- of the device at any party, which heard nothing
abbrev pub Deaf : ℕ → DeviceState → DeviceState → Type 0
Deaf party d e = HearsNothing d e

-- after nothing
pub hears_all : (bytes : List ℕ) (d e f : DeviceState) → HearsNothing d e → HearsAll bytes e f → HearsAll bytes d f
hears_all bytes d e f first more = record {
  heard = more.heard ∙ ap₂ (λ room heard. kept_all room heard bytes) first.room first.heard;
  heard_count = more.heard_count ∙ ap (risen_by (length bytes)) first.heard_count;
  room = more.room ∙ first.room;
  accessory = more.accessory ∙ first.accessory;
}

-- some of the bytes after nothing
pub hears_part : (whole : ℕ) (bytes : List ℕ) (d e f : DeviceState) → HearsNothing d e → HearsInPart whole bytes e f → HearsInPart whole bytes d f
hears_part whole bytes d e f first more = record { more = more.more; few = more.few; heard = hears_all (take whole bytes ++ more.more) d e f first more.heard }

-- nothing is the first none of any bytes
pub said_none : (bytes : List ℕ) (d e : DeviceState) → HearsNothing d e → HearsSaid bytes reply.FaultFrame d e
said_none bytes d e nothing = (0, omega arith, nothing_in_part bytes true d e nothing)

-- both cases hold
pub either : {A B : Type 0} (b : Bool) → A → B → MatchBool b A B
either true x y = x
either false x y = y

-- ---- one device after a command

-- Where nothing was heard, every command of the loop that ended by a fault of the frames leaves it so.
pub fault_behind : (item : Item) (z : LoopState) (party : ℕ) (d e : DeviceState) → IsOfLoop item → IsStill d e → DeviceBehind item reply.FaultFrame z party d e
fault_behind (Asks (Lend frames)) z party d e of_loop still = record { accessory = still.nothing.accessory; hears = still.nothing; service = λ is. still.wants }
fault_behind (Asks Devices) z party d e of_loop still = record { accessory = still.nothing.accessory; hears = still.nothing; service = λ is. still.wants }
fault_behind (Asks Status) z party d e of_loop still = record { accessory = still.nothing.accessory; hears = still.nothing; service = λ is. still.wants }
fault_behind (Asks Poll) z party d e of_loop still = record { accessory = still.nothing.accessory; hears = still.nothing; service = λ is. still.wants }
fault_behind (Asks (Say bytes)) z party d e of_loop still = record {
  accessory = still.nothing.accessory;
  hears = either (is_party party (printer_at z)) (said_none bytes d e still.nothing) still.nothing;
  service = λ is. still.wants;
}
fault_behind _ z party d e of_loop still = absurd of_loop

-- ---- what `ready` leaves

module _ {M : Type 0} where
  leaves_still : (r m : RingView M) → length m.before ≡ length r.before → LeavesDevices r m → BoxedBecome Still (loop_on r) (loop_on m)
  leaves_still r m place leaves = boxed_first (Stays true) Still r m place leaves.stays (λ party d e stays. record { nothing = stays.nothing; wants = stays.wants refl })

  -- no device heard anything, and each wants service if it did
  pub ready_still : (view : M → MediumView) (was : Bool) (r m : RingView M) → Readies view was r m → BoxedBecome Still (loop_on r) (loop_on m)
  ready_still view true r m ready =
      subst (λ (m : RingView M). BoxedBecome Still (loop_on r) (loop_on m)) (sym ready.0)
      (boxed_same Still (λ party d. record { nothing = record { heard = refl; heard_count = refl; room = refl; accessory = refl }; wants = refl }) (loop_on r))
  ready_still view false r m ready = leaves_still r m (ready_leaves view false r m ready).place ready.1.leaves

  -- the addressing was broken off: what it leaves of the loop
  pub loop_interrupted_next : (view : M → MediumView) (item : Item) (r s : RingView M) → IsOfLoop item → Interrupted view address_asks (drive_party r) r s → LeavesDevices r s
      → Next item reply.FaultFrame (loop_on r) (loop_on s)
  loop_interrupted_next view item r s of_loop broke leaves = record {
    devices = boxed_first (Stays true) (DeviceBehind item reply.FaultFrame (loop_on r)) r s broke.came.units.came.talked.adds.before leaves.stays
        (λ party d e stays. fault_behind item (loop_on r) party d e of_loop (record { nothing = stays.nothing; wants = stays.wants refl }));
    status = by item of_loop;
  }
    where
      by : (item : Item) → IsOfLoop item → StatusBehind item reply.FaultFrame (status_of r.drive.state) (status_of s.drive.state)
      by (Asks (Lend frames)) of_loop = inr leaves.status
      by (Asks Devices) of_loop = leaves.status
      by (Asks Status) of_loop = inr leaves.status
      by (Asks Poll) of_loop = leaves.status
      by (Asks (Say bytes)) of_loop = leaves.status
      by _ of_loop = absurd of_loop

-- ---- the status

module _ {M : Type 0} (view : M → MediumView) (was : Bool) (r m s : RingView M) (ready : Readies view was r m) where
  -- the devices after both
  behind : (S T : ℕ → DeviceState → DeviceState → Type 0) → ((party : ℕ) (d e f : DeviceState) → IsStill d e → S party e f → T party d f) → BoxedBecome S (loop_on m) (loop_on s) → BoxedBecome T (loop_on r) (loop_on s)
  behind S T join more = boxed_then Still S T join (loop_on r) (loop_on m) (loop_on s) (ready_still view was r m ready) more

  status_behind : (answer : Reply) → length s.before ≡ length m.before → NoneHeard m s → BoxedBecome (DeviceBehind (Asks Status) answer (loop_on r)) (loop_on r) (loop_on s)
  status_behind answer place unheard =
      behind Deaf (DeviceBehind (Asks Status) answer (loop_on r))
      (λ party d e f first more. let both = hears_then d e f first.nothing more in record { accessory = both.accessory; hears = both; service = λ is. cc })
      (boxed_unheard Deaf m s place (heard_none (drive_party m) m s unheard) (λ party d e h. h))

  -- the drive told its status
  pub status_next : (byte : ℕ) → Polled view (drive_party m) byte m s → Next (Asks Status) reply.Ok (loop_on r) (loop_on s)
  status_next byte told = record { devices = status_behind reply.Ok told.made.whole.adds.before told.unheard; status = told.drive.rests.free.status }

  -- it was broken off, and the status is as before or 0
  pub status_broken_next : NotPolled view (drive_party m) m s → Next (Asks Status) reply.FaultFrame (loop_on r) (loop_on s)
  status_broken_next not = record {
    devices = status_behind reply.FaultFrame not.broken.broke.adds.before not.unheard;
    status = ⊎_elim (λ same. inr (same ∙ (ready_leaves view was r m ready).status)) (λ none. inl none) not.status;
  }
