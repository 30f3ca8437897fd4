-- Worked examples of the definitions, by hand from the rules of the loop.
use Rattle.std.proofs.Common.{◌≡◌, ℕ, true, false, refl, Some, None, Option, [], ◌∷◌, lit≤, ap}
use Rattle.il_frames.specs.declared.frame.Class.TheVariants as class
use Rattle.il_frames.specs.declared.frame.Frame.{Frame}
use Rattle.il_frames.specs.declared.message.Message.TheVariants as msg
use Rattle.il_frames.specs.Frames.{class_of, framed}
use Rattle.il_frames.specs.Messages.{message_of}
use Rattle.il_poll.specs.Service.{assigned}
use Rattle.il_device.specs.declared.device.Out.{Out}
use Rattle.il_device.specs.declared.device.Out.TheVariants.{Pass, Source}
use Rattle.il_device.specs.declared.interface.OwnFrame.{OwnFrame}
use Rattle.il_device.specs.declared.interface.Turn.TheVariants as turn
use Rattle.il_device.specs.declared.roles.Roles.{Roles}
use Rattle.il_device.specs.Roles.{no_roles, is_own, takes_address, roles_after, stopped, own_after, assignment_after}
use Rattle.il_device.specs.State.{DeviceState, fresh, IsIdle, IsSent, IsCount, IsDevice, risen}
use Rattle.il_device.specs.Passing.{served, identified, counted_on, passed}
use Rattle.il_device.specs.Takes.{eto, ete, turn_of, heard_after, count_after, may_change_service, identity, AnswersEcho, Takes}
use Rattle.il_device.specs.Interfaces.{fresh_interface, turn_on, interface_after, device_on}
use Rattle.il_device.specs.Plain.{status_answer, plain_answer, fresh_plain, TakesAsPlain}

-- a talker, a listener and an idle device, all with address 2
abbrev talker : Roles
talker = record { address = Some 2; talks = true; listens = false }

abbrev listener : Roles
listener = record { address = Some 2; talks = false; listens = true }

abbrev bystander : Roles
bystander = record { address = Some 2; talks = false; listens = false }

-- addresses: 1 to 30, and only where there is none yet
takes_one : takes_address None 1 ≡ true
takes_one = refl

takes_thirty : takes_address None 30 ≡ true
takes_thirty = refl

takes_not_zero : takes_address None 0 ≡ false
takes_not_zero = refl

takes_once : takes_address (Some 2) 3 ≡ false
takes_once = refl

own_two : is_own (Some 2) 2 ≡ true
own_two = refl

none_is_own : is_own None 0 ≡ false
none_is_own = refl

-- IFC keeps the address, AAU does not
ifc : roles_after talker msg.Ifc ≡ bystander
ifc = refl

aau : roles_after talker msg.Aau ≡ no_roles
aau = refl

aad : roles_after no_roles (msg.Aad 2) ≡ bystander
aad = refl

aad_zero : roles_after no_roles (msg.Aad 0) ≡ no_roles
aad_zero = refl

tad : roles_after listener (msg.Tad 2) ≡ talker
tad = refl

-- TAD to another ends talking, and leaves a listener
tad_other : roles_after talker (msg.Tad 3) ≡ bystander
tad_other = refl

tad_other_listener : roles_after listener (msg.Tad 3) ≡ listener
tad_other_listener = refl

unt : roles_after talker msg.Unt ≡ bystander
unt = refl

lad : roles_after talker (msg.Lad 2) ≡ listener
lad = refl

lad_other : roles_after talker (msg.Lad 3) ≡ talker
lad_other = refl

unl : roles_after listener msg.Unl ≡ bystander
unl = refl

-- a byte 41 hex on the loop, not the last
abbrev letter : OwnFrame
letter = record { frame = framed class.Dab 0x41; last = false; stopped = false }

-- NRD stops it, TAD ends it even to the same talker, and LAD to another leaves it
nrd : own_after talker (Some letter) msg.Nrd ≡ Some (record letter { stopped = true })
nrd = refl

nrd_alone : stopped None ≡ None
nrd_alone = refl

tad_again : own_after talker (Some letter) (msg.Tad 2) ≡ None
tad_again = refl

lad_away : own_after talker (Some letter) (msg.Lad 3) ≡ Some letter
lad_away = refl

lad_here : own_after talker (Some letter) (msg.Lad 2) ≡ None
lad_here = refl

-- PPE 9 is for listeners, and outlasts IFC and AAU
ppe : assignment_after listener None (msg.Ppe 9) ≡ Some (record { bit = 1; sense = true })
ppe = refl

ppe_talker : assignment_after talker None (msg.Ppe 9) ≡ None
ppe_talker = refl

ppd_talker : assignment_after talker (Some (assigned 9)) msg.Ppd ≡ Some (assigned 9)
ppd_talker = refl

ppu : assignment_after talker (Some (assigned 9)) msg.Ppu ≡ None
ppu = refl

place_stays : assignment_after listener (Some (assigned 9)) msg.Aau ≡ Some (assigned 9)
place_stays = refl

-- the service bit
end_served : served true (framed class.End 0x0A) ≡ framed class.Esr 0x0A
end_served = refl

dsr_unserved : served false (framed class.Dsr 0x0A) ≡ framed class.Dsr 0x0A
dsr_unserved = refl

-- a device that wants service sets bit 1 at sense 1, and the service bit
identify : identified (Some (assigned 9)) true (framed class.Idy 0x80) ≡ framed class.Isr 0x82
identify = refl

identify_none : identified (Some (assigned 1)) false (framed class.Idy 0x80) ≡ framed class.Idy 0x82
identify_none = refl

-- AAD 01 goes on as AAD 02 after a device that takes it, and AAD 30 as IAA
aad_counted : passed no_roles None false (framed class.Rdy 0x81) ≡ framed class.Rdy 0x82
aad_counted = refl

aad_passed : passed bystander None false (framed class.Rdy 0x81) ≡ framed class.Rdy 0x81
aad_passed = refl

aad_last : message_of (counted_on true 30 (framed class.Rdy 0x9E)) ≡ msg.Iaa
aad_last = refl

-- a command has no service bit
command_passed : passed talker None true (framed class.Cmd 0x3F) ≡ framed class.Cmd 0x3F
command_passed = refl

-- what frames ask: the device of address 2, with accessory ID 32 and room for one byte
abbrev standing : Roles → Option OwnFrame → DeviceState
standing r own = record (fresh (Some 32) 1) { roles = r; own = own }

listener_hears : turn_of (standing listener None) (framed class.End 0x0A) ≡ turn.Hear
listener_hears = refl

talker_compares : turn_of (standing talker (Some letter)) (framed class.Dsr 0x41) ≡ turn.Compare letter
talker_compares = refl

bystander_passes : turn_of (standing bystander None) (framed class.Dab 0x41) ≡ turn.Pass
bystander_passes = refl

talker_begins : turn_of (standing talker None) (framed class.Rdy 0x61) ≡ turn.Begin
talker_begins = refl

busy_talker_passes : turn_of (standing talker (Some letter)) (framed class.Rdy 0x61) ≡ turn.Pass
busy_talker_passes = refl

talker_identifies : turn_of (standing talker None) (framed class.Rdy 0x63) ≡ turn.Identify 32
talker_identifies = refl

nameless_passes : turn_of (record (standing talker None) { accessory = None }) (framed class.Rdy 0x63) ≡ turn.Pass
nameless_passes = refl

-- a byte is kept while there is room, and counted in any case
first_kept : heard_after turn.Hear 1 [] 0x41 ≡ 0x41 ∷ []
first_kept = refl

second_dropped : heard_after turn.Hear 1 (0x41 ∷ []) 0x42 ≡ 0x41 ∷ []
second_dropped = refl

unheard : heard_after turn.Pass 1 [] 0x41 ≡ []
unheard = refl

counted : count_after turn.Hear 7 ≡ 8
counted = refl

-- the greatest count stays
stands : risen 18446744073709551615 ≡ 18446744073709551615
stands = refl

-- DDL may change whether service is wanted, IDY does not
ddl_may : may_change_service (msg.Ddl 4) ≡ true
ddl_may = refl

idy_may_not : may_change_service (msg.Idy 0) ≡ false
idy_may_not = refl

eto_is : message_of eto ≡ msg.Eto
eto_is = refl

ete_is : message_of ete ≡ msg.Ete
ete_is = refl

-- a fresh device is idle, and keeps the rules
fresh_idle : IsIdle (fresh (Some 32) 8192)
fresh_idle = record { roles = refl; assignment = refl; own = refl }

fresh_device : IsDevice (fresh (Some 32) 8192)
fresh_device = record {
  standing = record { address = tt; one_role = refl; sender = tt; in_poll = tt };
  heard = lit≤ tt;
  room = lit≤ tt;
  heard_count = lit≤ tt;
  frames = lit≤ tt;
}

standing_device : (own : Option OwnFrame) (frames : ℕ) → IsSent own true → IsCount frames →
    IsDevice (record (standing talker own) { frames = frames })
standing_device own frames h le = record {
  standing = record { address = (lit≤ tt, lit≤ tt); one_role = refl; sender = h; in_poll = tt };
  heard = lit≤ tt;
  room = lit≤ tt;
  heard_count = lit≤ tt;
  frames = le;
}

-- SAI to a talker: its accessory ID goes on in place of SAI, and is then its own frame
identifies : Takes (standing talker None) (framed class.Rdy 0x63) (Source (framed class.Dab 0x20)) (record (standing talker (Some (identity 0x20))) { frames = 1 })
identifies = record {
  before = standing_device None 0 tt (lit≤ tt);
  after = standing_device (Some (identity 0x20)) 1 (refl, refl) (lit≤ tt);
  roles = refl;
  assignment = refl;
  wants = λ h. refl;
  heard = refl;
  room = refl;
  heard_count = refl;
  frames = refl;
  accessory = refl;
  answer = record { answer = refl; on_loop = refl; is_data = refl; service = λ h. let clash : false ≡ true = h in cc; runs = refl };
}

-- a wrong echo ends the transmission with ETE; the right echo of a stopped frame ends it with ETO
wrong_echo : AnswersEcho false letter (Source ete) (standing talker None)
wrong_echo = record { answer = refl; off_loop = refl }

stopped_echo : AnswersEcho true (record letter { stopped = true }) (Source eto) (standing talker None)
stopped_echo = record { answer = refl; off_loop = refl }

-- a stopped device sends no other byte
abbrev frame_of : Out → Frame
frame_of (Pass f) = f
frame_of (Source f) = f

stopped_sends_none : AnswersEcho true (record letter { stopped = true }) (Source (framed class.Dab 0x42)) (standing talker None) → ⊥
stopped_sends_none h = let clash : class.Dab ≡ class.Rdy = ap (λ (o : Out). class_of (frame_of o)) h.answer in absurd (cc)

-- the part that every device has alike, after AAD 01
interface_aad : (interface_after (fresh_interface None) (framed class.Rdy 0x81)).roles.address ≡ Some 1
interface_aad = refl

interface_turn : turn_on (fresh_interface None) (framed class.Dab 0x41) ≡ turn.Pass
interface_turn = refl

fresh_on : device_on (fresh_interface (Some 32)) [] 8192 ≡ fresh (Some 32) 8192
fresh_on = refl

-- a printer answers SST by the status byte 00, and passes SDA
printer_status : status_answer 0 (message_of (framed class.Rdy 0x61)) (framed class.Rdy 0x61) ≡ Source (framed class.Dab 0)
printer_status = refl

printer_passes : plain_answer (Some 32) 0 turn.Begin (framed class.Rdy 0x60) (framed class.Rdy 0x60) ≡ Pass (framed class.Rdy 0x60)
printer_passes = refl

-- a device that wants service says so in its status byte
status_told : status_answer 3 (message_of (framed class.Rdy 0x61)) (framed class.Rdy 0x61) ≡ Source (framed class.Dab 0x43)
status_told = refl

-- a device without an accessory ID passes every frame, and wants no service where its status is 0
quiet_passes : (room : ℕ) (s : DeviceState) (f : Frame) (out : Out) (t : DeviceState) → TakesAsPlain None 0 room s f out t → out ≡ Pass (passed s.roles t.assignment false f)
quiet_passes room s f out t h = h.answer

quiet_is : fresh_plain None 0 0 [] ≡ fresh None 0
quiet_is = refl
