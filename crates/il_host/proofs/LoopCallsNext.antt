-- What asking for accessory IDs, polling and printing leave of the loop, once it is ready.
use Rattle.std.proofs.Common.{◌≡◌, ◌==◌, ◌∙◌, ◌≤◌, ℕ, Bool, true, false, List, length, Some, sym, subst}
use Rattle.std.specs.Prelude.{MatchBool}
use Rattle.il_device.specs.State.{DeviceState}
use Rattle.il_ports.specs.Media.{MediumView}
use Rattle.il_drive.specs.State.{status_of}
use Rattle.loop_model.specs.Listening.{HearsAll, HearsInPart}
use Rattle.il_ring.specs.Outcomes.{HearsNothing}
use Rattle.il_ring.specs.Rings.{RingView}
use Rattle.il_control.specs.Calls.{Stays}
use Rattle.il_control.proofs.Calls.{hears_then}
use Rattle.il_record.specs.Asks.{Ask}
use Rattle.il_record.specs.Listening.{Hears, HearsPart}
use Rattle.il_record.specs.LoopCalls.{LeftAlone, NotSaid, Said, LeavesDrive}
use Rattle.il_script.specs.declared.reply.Reply.{Reply}
use Rattle.il_script.specs.declared.reply.Reply.TheVariants as reply
use Rattle.il_script.specs.declared.reply.Code.{Code}
use Rattle.host_model.specs.Requests.{Asks, Devices, Poll, Say}
use Rattle.host_model.specs.LoopStates.{printer_at}
use Rattle.host_model.specs.RingStates.{loop_on}
use Rattle.host_model.specs.Next.{BoxedBecome, DeviceBehind, HearsSaid, Next, is_party}
use Rattle.host_model.proofs.Steps.{boxed_then}
use Rattle.il_host.proofs.Devices.{boxed_first, boxed_to}
use Rattle.il_host.proofs.LoopEvents.{Readies}
use Rattle.il_host.proofs.LoopNext.{IsStill, Still, Deaf, either, hears_all, hears_part, ready_still, said_none}
use Rattle.il_host.proofs.StatusEvents.{ready_leaves}

-- a device that heard nothing in two parts
still_then : (d e f : DeviceState) → IsStill d e → IsStill e f → IsStill d f
still_then d e f first more = record { nothing = hears_then d e f first.nothing more.nothing; wants = more.wants ∙ first.wants }

module _ {M : Type 0} (view : M → MediumView) (was : Bool) (r m s : RingView M) (ready : Readies view was r m) where
  place : {k : ℕ} → k ≡ length m.before → k ≡ length r.before
  place same = same ∙ (ready_leaves view was r m ready).place

  behind : (S T : ℕ → DeviceState → DeviceState → Type 0) → ((party : ℕ) (d e f : DeviceState) → IsStill d e → S party e f → T party d f) → BoxedBecome S (loop_on m) (loop_on s) → BoxedBecome T (loop_on r) (loop_on s)
  behind S T join more = boxed_then Still S T join (loop_on r) (loop_on m) (loop_on s) (ready_still view was r m ready) more

  same_status : status_of s.drive.state ≡ status_of m.drive.state → status_of s.drive.state ≡ status_of r.drive.state
  same_status same = same ∙ (ready_leaves view was r m ready).status

  -- ---- accessory IDs

  deaf_left : (whole : Bool) (asks : List Ask) → LeftAlone view whole asks m s → BoxedBecome Deaf (loop_on r) (loop_on s)
  deaf_left whole asks left =
      behind Deaf Deaf (λ party d e f first more. hears_then d e f first.nothing more)
      (boxed_first (Stays false) Deaf m s left.came.units.came.talked.adds.before left.stays (λ party d e stays. stays.nothing))

  -- each device told its accessory ID, or one was asked for it, and that was broken off
  pub devices_next : (answer : Reply) (whole : Bool) (asks : List Ask) → LeftAlone view whole asks m s → Next (Asks Devices) answer (loop_on r) (loop_on s)
  devices_next answer whole asks left = record {
    devices =
        behind Deaf (DeviceBehind (Asks Devices) answer (loop_on r))
        (λ party d e f first more. let both = hears_then d e f first.nothing more in record { accessory = both.accessory; hears = both; service = λ is. cc })
        (boxed_first (Stays false) Deaf m s left.came.units.came.talked.adds.before left.stays (λ party d e stays. stays.nothing));
    status = same_status left.drive.status;
  }

  -- the devices were polled, or that was broken off
  pub poll_next : (answer : Reply) → BoxedBecome Still (loop_on m) (loop_on s) → LeavesDrive m.drive s.drive → Next (Asks Poll) answer (loop_on r) (loop_on s)
  poll_next answer still drive = record {
    devices =
        behind Still (DeviceBehind (Asks Poll) answer (loop_on r))
        (λ party d e f first more. let both = still_then d e f first more in record { accessory = both.nothing.accessory; hears = both.nothing; service = λ is. both.wants }) still;
    status = same_status drive.status;
  }

  -- ---- printing

  -- no printer is on the loop
  pub say_refused_next : (bytes : List ℕ) (code : Code) (asks : List Ask) → LeftAlone view true asks m s → Next (Asks (Say bytes)) (reply.No code) (loop_on r) (loop_on s)
  say_refused_next bytes code asks left = record {
    devices =
        behind Deaf (DeviceBehind (Asks (Say bytes)) (reply.No code) (loop_on r))
        (λ party d e f first more. let both = hears_then d e f first.nothing more in record { accessory = both.accessory; hears = either (is_party party (printer_at (loop_on r))) both both; service = λ is. cc })
        (boxed_first (Stays false) Deaf m s left.came.units.came.talked.adds.before left.stays (λ party d e stays. stays.nothing));
    status = same_status left.drive.status;
  }

  -- a device was asked for its ID, and that was broken off
  pub say_unnamed_next : (bytes : List ℕ) (asks : List Ask) → LeftAlone view false asks m s → Next (Asks (Say bytes)) reply.FaultFrame (loop_on r) (loop_on s)
  say_unnamed_next bytes asks left = record {
    devices =
        behind Deaf (DeviceBehind (Asks (Say bytes)) reply.FaultFrame (loop_on r))
        (λ party d e f first more. let both = hears_then d e f first.nothing more in record { accessory = both.accessory; hears = either (is_party party (printer_at (loop_on r))) (said_none bytes d f both) both; service = λ is. cc })
        (boxed_first (Stays false) Deaf m s left.came.units.came.talked.adds.before left.stays (λ party d e stays. stays.nothing));
    status = same_status left.drive.status;
  }

-- the devices told their IDs, and then the bytes went to the printer
module _ {M : Type 0} (view : M → MediumView) (was : Bool) (r m n s : RingView M) (ready : Readies view was r m) (asks : List Ask) (left : LeftAlone view true asks m n)
    (a : ℕ) (bytes : List ℕ) (printer : printer_at (loop_on r) ≡ Some a) where
  status_said : status_of s.drive.state ≡ status_of n.drive.state → status_of s.drive.state ≡ status_of r.drive.state
  status_said same = same ∙ left.drive.status ∙ (ready_leaves view was r m ready).status

  hears_said : (b : Bool) (d e f : DeviceState) → HearsNothing d e → MatchBool b (HearsAll bytes e f) (HearsNothing e f) → MatchBool b (HearsAll bytes d f) (HearsNothing d f)
  hears_said true d e f first more = hears_all bytes d e f first more
  hears_said false d e f first more = hears_then d e f first more

  hears_some : (whole : ℕ) (b : Bool) (d e f : DeviceState) → whole ≤ length bytes → HearsNothing d e → MatchBool b (HearsInPart whole bytes e f) (HearsNothing e f) → MatchBool b (HearsSaid bytes reply.FaultFrame d f) (HearsNothing d f)
  hears_some whole true d e f within first more = (whole, within, hears_part whole bytes d e f first more)
  hears_some whole false d e f within first more = hears_then d e f first more

  said_accessory : (b : Bool) (d e f : DeviceState) → HearsNothing d e → MatchBool b (HearsAll bytes e f) (HearsNothing e f) → f.accessory ≡ d.accessory
  said_accessory true d e f first more = more.accessory ∙ first.accessory
  said_accessory false d e f first more = more.accessory ∙ first.accessory

  part_accessory : (whole : ℕ) (b : Bool) (d e f : DeviceState) → HearsNothing d e → MatchBool b (HearsInPart whole bytes e f) (HearsNothing e f) → f.accessory ≡ d.accessory
  part_accessory whole true d e f first more = more.heard.accessory ∙ first.accessory
  part_accessory whole false d e f first more = more.accessory ∙ first.accessory

  by_printer : (A B : Type 0) (party : ℕ) → MatchBool (party == a) A B → MatchBool (is_party party (printer_at (loop_on r))) A B
  by_printer A B party h = subst (λ found. MatchBool (is_party party found) A B) (sym printer) h

  -- the printer heard all bytes
  pub say_next : Said view a bytes n s → Next (Asks (Say bytes)) reply.Ok (loop_on r) (loop_on s)
  say_next said = record {
    devices =
        boxed_then Deaf (Hears a bytes) (DeviceBehind (Asks (Say bytes)) reply.Ok (loop_on r))
        (λ party d e f first more. record {
          accessory = said_accessory (party == a) d e f first more.1;
          hears = by_printer (HearsAll bytes d f) (HearsNothing d f) party (hears_said (party == a) d e f first more.1);
          service = λ is. cc;
        })
        (loop_on r) (loop_on n) (loop_on s) (deaf_left view was r m n ready true asks left)
        (boxed_to (Hears a bytes) (Hears a bytes) n s said.came.units.came.talked.adds.before said.heard (λ party d e h. h));
    status = status_said said.drive.status;
  }

  -- that was broken off
  pub say_broken_next : NotSaid view a bytes n s → Next (Asks (Say bytes)) reply.FaultFrame (loop_on r) (loop_on s)
  say_broken_next said = record {
    devices =
        boxed_then Deaf (HearsPart a said.whole bytes) (DeviceBehind (Asks (Say bytes)) reply.FaultFrame (loop_on r))
        (λ party d e f first more. record {
          accessory = part_accessory said.whole (party == a) d e f first more.1;
          hears = by_printer (HearsSaid bytes reply.FaultFrame d f) (HearsNothing d f) party (hears_some said.whole (party == a) d e f said.within first more.1);
          service = λ is. cc;
        })
        (loop_on r) (loop_on n) (loop_on s) (deaf_left view was r m n ready true asks left)
        (boxed_to (HearsPart a said.whole bytes) (HearsPart a said.whole bytes) n s said.came.units.came.talked.adds.before said.heard (λ party d e h. h));
    status = status_said said.drive.status;
  }
