-- From what a frame does to the part that every device has alike, what it does to the device.
use Rattle.std.proofs.Common.{◌≡◌, ℕ, ◌≤◌, Bool, true, false, Option, Some, None, List, [], ◌∷◌, ◌++◌, length, refl, arith, sym, ap, subst, inl, inr, length-append}
use Rattle.std.specs.Prelude.{◌⊎◌, ◌||◌, if◌then◌else◌, nat_lt}
use Rattle.std.proofs.lemmas.Bool.Decides.{nat_tests}
use Rattle.il_frames.specs.declared.frame.Frame.{Frame}
use Rattle.il_frames.specs.declared.frame.Class.TheVariants as class
use Rattle.il_frames.specs.Frames.{byte_of, framed, same_but_service}
use Rattle.il_frames.specs.Messages.{message_of}
use Rattle.il_poll.specs.Service.{wants_service}
use Rattle.il_device.specs.declared.device.Out.{Out}
use Rattle.il_device.specs.declared.device.Out.TheVariants.{Source}
use Rattle.il_device.specs.declared.interface.OwnFrame.{OwnFrame}
use Rattle.il_device.specs.declared.interface.Turn.{Turn}
use Rattle.il_device.specs.declared.interface.Turn.TheVariants as turn
use Rattle.il_device.specs.State.{DeviceState}
use Rattle.il_device.specs.Takes.{Takes, Answers, AnswersEcho, GoesOn, Ends, Passes, heard_after, may_change_service, identity, eto, ete}
use Rattle.il_device.specs.Interfaces.{InterfaceState, IsInterface, turn_on, interface_after, device_on}

-- no more bytes are kept than there is room for
length-kept : (more : Bool) (room : ℕ) (heard : List ℕ) (byte : ℕ) →
    more ≡ nat_lt (length heard) room → length heard ≤ room →
    length (if more then heard ++ byte ∷ [] else heard) ≤ room
length-kept true room heard byte h le = rw length-append (grind (arith, nat_tests))
length-kept false room heard byte h le = le

pub length-heard_after : (asked : Turn) (room : ℕ) (heard : List ℕ) (byte : ℕ) →
    length heard ≤ room → length (heard_after asked room heard byte) ≤ room
length-heard_after turn.Hear room heard byte le = length-kept (nat_lt (length heard) room) room heard byte refl le
length-heard_after turn.Pass room heard byte le = le
length-heard_after turn.Begin room heard byte le = le
length-heard_after (turn.Identify id) room heard byte le = le
length-heard_after (turn.Compare own) room heard byte le = le

-- the interface k is after the effect of the frame and the answer, which changes the own frame and the
-- status alone
pub record Behind (i : InterfaceState) (f : Frame) (k : InterfaceState) : Type 0 where
  pub rest : k ≡ record (interface_after i f) { own = k.own; service = record (interface_after i f).service { status = k.service.status } }
  pub status : may_change_service (message_of f) ≡ false → k.service.status ≡ i.service.status

pub Behind-effect : (i k : InterfaceState) (f : Frame) → k ≡ interface_after i f → Behind i f k
Behind-effect i k f e = rw e (record { rest = refl; status = λ h. refl })

pub Behind-own : (i j k : InterfaceState) (f : Frame) (own : Option OwnFrame) → j ≡ interface_after i f → k ≡ record j { own = own } → Behind i f k
Behind-own i j k f own e h = rw (h, e) (record { rest = refl; status = λ h. refl })

pub Takes-on :
    (i k : InterfaceState) (heard now : List ℕ) (room : ℕ) (f : Frame) (out : Out) →
    IsInterface i → IsInterface k → length heard ≤ room → room ≤ 8192 → Behind i f k →
    now ≡ heard_after (turn_on i f) room heard (byte_of f) →
    Answers (turn_on i f) (device_on i heard room) f out (device_on k now room) →
    Takes (device_on i heard room) f out (device_on k now room)
Takes-on i k heard now room f out before after fits small behind kept_is answer = record {
  before = record {
    standing = before.standing;
    heard = fits;
    room = small;
    heard_count = before.heard_count;
    frames = before.frames;
  };
  after = record {
    standing = after.standing;
    heard = rw kept_is (length-heard_after (turn_on i f) room heard (byte_of f) fits);
    room = small;
    heard_count = after.heard_count;
    frames = after.frames;
  };
  roles = ap (λ (x : InterfaceState). x.roles) behind.rest;
  assignment = ap (λ (x : InterfaceState). x.service.assignment) behind.rest;
  wants = λ h. ap wants_service (behind.status h);
  heard = kept_is;
  room = refl;
  heard_count = ap (λ (x : InterfaceState). x.heard_count) behind.rest;
  frames = ap (λ (x : InterfaceState). x.frames) behind.rest;
  accessory = ap (λ (x : InterfaceState). x.accessory) behind.rest;
  answer = answer;
}

-- the answer to what is known to be asked
pub Answers-at : (asked known : Turn) (s : DeviceState) (f : Frame) (out : Out) (t : DeviceState) →
    asked ≡ known → Answers known s f out t → Answers asked s f out t
Answers-at asked known s f out t e h = subst (λ (u : Turn). Answers u s f out t) (sym e) h

-- a frame that may pass the device
abbrev pub MayPass : Turn → Type 0
MayPass turn.Pass = Unit {0}
MayPass turn.Hear = Unit {0}
MayPass turn.Begin = Unit {0}
MayPass (turn.Identify id) = ⊥
MayPass (turn.Compare own) = ⊥

pub Answers-pass : (asked : Turn) (s : DeviceState) (f : Frame) (out : Out) (t : DeviceState) →
    MayPass asked → Passes s f out t → Answers asked s f out t
Answers-pass turn.Pass s f out t may h = h
Answers-pass turn.Hear s f out t may h = h
Answers-pass turn.Begin s f out t may h = inl h
Answers-pass (turn.Identify id) s f out t may h = absurd may
Answers-pass (turn.Compare own) s f out t may h = absurd may

pub MayPass-or : (asked : Turn) → (asked ≡ turn.Pass) ⊎ (asked ≡ turn.Hear) → MayPass asked
MayPass-or asked e = elim e [ inl p ↦ rw p tt | inr q ↦ rw q tt ]

-- the accessory ID is sent
pub Answers-identity : (asked : Turn) (id : ℕ) (s : DeviceState) (f : Frame) (out : Out) (t : DeviceState) →
    asked ≡ turn.Identify id → out ≡ Source (framed class.Dab id) → t.own ≡ Some (identity id) → Answers asked s f out t
Answers-identity asked id s f out t is e h = Answers-at asked (turn.Identify id) s f out t is (record {
  answer = e;
  on_loop = h;
  is_data = refl;
  service = λ set. cc;
  runs = refl;
})

-- where there is no room nothing is kept
pub heard_after-roomless : (asked : Turn) (byte : ℕ) → [] ≡ heard_after asked 0 [] byte
heard_after-roomless turn.Hear byte = refl
heard_after-roomless turn.Pass byte = refl
heard_after-roomless turn.Begin byte = refl
heard_after-roomless (turn.Identify id) byte = refl
heard_after-roomless (turn.Compare own) byte = refl

-- a device may end each transmission after its first frame
ended : (over : Bool) (out : Out) (t : DeviceState) → Ends eto out t → GoesOn over out t
ended true out t h = h
ended false out t h = inl h

echo_ended : (right : Bool) (own : OwnFrame) (out : Out) (t : DeviceState) →
    out ≡ Source (if right then eto else ete) → t.own ≡ None → AnswersEcho right own out t
echo_ended false own out t e h = record { answer = e; off_loop = h }
echo_ended true own out t e h = ended (own.stopped || own.last) out t (record { answer = e; off_loop = h })

pub Answers-ended : (asked : Turn) (own : OwnFrame) (s : DeviceState) (f : Frame) (out : Out) (t : DeviceState) →
    asked ≡ turn.Compare own →
    out ≡ Source (if same_but_service own.frame f then eto else ete) → t.own ≡ None → Answers asked s f out t
Answers-ended asked own s f out t is e h = Answers-at asked (turn.Compare own) s f out t is (echo_ended (same_but_service own.frame f) own out t e h)
