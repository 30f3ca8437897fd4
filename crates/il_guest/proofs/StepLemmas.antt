-- From what a frame does to the interface of a second controller to what it does to its state.
use Rattle.std.proofs.Common.{◌≡◌, ◌∙◌, ℕ, Bool, true, false, List, [], Option, Some, None, refl, sym, ap, subst, inl, inr, length, length-set, ◌≤◌, lit≤}
use Rattle.std.specs.Prelude.{◌⊎◌}
use Rattle.std.proofs.lemmas.Bool.{and_left, and_right}
use Rattle.il_frames.specs.declared.frame.Frame.{Frame}
use Rattle.il_frames.specs.declared.message.Message.{Message}
use Rattle.il_frames.specs.declared.message.Message.TheVariants as msg
use Rattle.il_frames.specs.Messages.{message_of}
use Rattle.il_poll.specs.declared.service.Assignment.{Assignment}
use Rattle.il_device.specs.declared.roles.Roles.{Roles}
use Rattle.il_device.specs.declared.interface.OwnFrame.{OwnFrame}
use Rattle.il_device.specs.Roles.{roles_after, own_after, assignment_after}
use Rattle.il_poll.specs.Service.{wants_service}
use Rattle.il_device.specs.State.{DeviceState, IsStanding, risen}
use Rattle.il_device.proofs.StandingLemmas.{IsStanding-after}
use Rattle.il_device.specs.Passing.{passed_as}
use Rattle.il_device.specs.Takes.{turn_at, count_after}
use Rattle.il_device.specs.Interfaces.{InterfaceState, IsInterface, interface_after, device_on, placed, passed_on}
use Rattle.il_guest.specs.declared.control.Command.TheVariants as command
use Rattle.il_guest.specs.declared.control.Place.{Place}
use Rattle.il_guest.specs.declared.control.Place.TheVariants as place
use Rattle.il_guest.specs.declared.control.Control.{Control}
use Rattle.il_guest.specs.declared.control.Control.TheVariants as control
use Rattle.il_device.specs.Takes.{eto}
use Rattle.il_frames.specs.Frames.{is_data}
use Rattle.il_frames.specs.NamedFrames.{rfc, nrd, is_frame}
use Rattle.il_guest.specs.Frames.{sst}
use Rattle.il_guest.specs.Steps.{sent_at, command_frame, out_of, IsRoundPlace, IsControl, expecting, command_then, start_then, control_after, told_at, noted}
use Rattle.il_guest.specs.State.{GuestState, IsGuest, roles_in_lead, guest_device}
use Rattle.il_guest.specs.declared.guest.GuestOut.{GuestOut}
use Rattle.il_guest.specs.declared.guest.GuestOut.TheVariants.{Pass}
use Rattle.il_frames.specs.NamedFrames.{is_ifc}
use Rattle.il_guest.specs.Takes.{is_tct, device_after, passed_by, device_led, under_host, leading, takes_control, guest_under, guest_after, answer_under, guest_answer, GuestTakes}
use Rattle.il_guest.proofs.SentLemmas.{said_at, message_of-sent, address-said, own-said, assignment-said, count-said}

-- ---- a frame that passes

is_ifc-true : (m : Message) → is_ifc m ≡ true → m ≡ msg.Ifc
is_ifc-true msg.Ifc e = refl
is_ifc-true m e = cc

-- whatever is on the loop, the address is that of the interface
pub address-led : (c : Control) (r : Roles) → IsControl c → (roles_in_lead c r).address ≡ r.address
address-led control.Host r at = refl
address-led (control.Rounds p) r at = ap (λ (m : Message). (roles_after r m).address) (message_of-sent p at) ∙ address-said r p
address-led control.Silent r at = refl

-- the interface after a message, and the device after it
abbrev interface_at : InterfaceState → Message → InterfaceState
interface_at i m = record i {
  roles = roles_after i.roles m;
  own = own_after i.roles i.own m;
  service = placed i.service (assignment_after i.roles i.service.assignment m);
  heard_count = count_after (turn_at i.roles i.own i.accessory m) i.heard_count;
  frames = risen i.frames;
}

abbrev device_at : DeviceState → Message → DeviceState
device_at d m = record d {
  roles = roles_after d.roles m;
  own = own_after d.roles d.own m;
  assignment = assignment_after d.roles d.assignment m;
  heard_count = count_after (turn_at d.roles d.own d.accessory m) d.heard_count;
  frames = risen d.frames;
}

at_ifc : (i : InterfaceState) (r : Roles) → r.address ≡ i.roles.address → device_on (interface_at i msg.Ifc) [] 0 ≡ device_at (record (device_on i [] 0) { roles = r }) msg.Ifc
at_ifc i r e = ap (λ (a : Option ℕ). record (device_at (record (device_on i [] 0) { roles = r }) msg.Ifc) { roles = record { address = a; talks = false; listens = false } }) (sym e)

-- the device after a frame that passes: any while the host controls, and else IFC
pub device-passed : (i : InterfaceState) (c : Control) (f : Frame) → IsControl c → (c ≡ control.Host) ⊎ (is_ifc (message_of f) ≡ true) → guest_device (interface_after i f) control.Host ≡ device_after (guest_device i c) f
device-passed i c f at (inl host) = rw host refl
device-passed i c f at (inr back) =
    subst (λ (m : Message). device_on (interface_at i m) [] 0 ≡ device_at (record (device_on i [] 0) { roles = roles_in_lead c i.roles }) m)
    (sym (is_ifc-true (message_of f) back)) (at_ifc i (roles_in_lead c i.roles) (address-led c i.roles at))

ifc_passes : (r : Roles) (o : Option Assignment) (wants : Bool) (f : Frame) (m : Message) → m ≡ msg.Ifc → passed_as r o wants f m ≡ f
ifc_passes r o wants f m e = rw e refl

-- the frame that passes
pub frame-passed : (i : InterfaceState) (c : Control) (f : Frame) → (c ≡ control.Host) ⊎ (is_ifc (message_of f) ≡ true) → passed_on (interface_after i f) i.roles f ≡ passed_by (guest_device i c) f
frame-passed i c f (inl host) = rw host refl
frame-passed i c f (inr back) =
    let says = is_ifc-true (message_of f) back in
    ifc_passes i.roles _ _ f (message_of f) says ∙ sym (ifc_passes (roles_in_lead c i.roles) _ _ f (message_of f) says)

-- ---- a frame that comes in the rounds

led_at : (i : InterfaceState) (p : Place) (c : Control) (m : Message) → m ≡ said_at p → i.own ≡ None → i.accessory ≡ None →
    record (device_on (interface_at i m) [] 0) { roles = roles_in_lead c (roles_after i.roles m) } ≡ device_led c (record (device_on i [] 0) { roles = roles_after i.roles m })
led_at i p c m e own accessory =
    let kept : own_after i.roles i.own m ≡ i.own = rw (own, e) (own-said i.roles p) in
    let place : assignment_after i.roles i.service.assignment m ≡ i.service.assignment = rw e (assignment-said i.roles i.service.assignment p) in
    let count : count_after (turn_at i.roles i.own i.accessory m) i.heard_count ≡ i.heard_count = rw (own, accessory, e) (count-said i.roles p i.heard_count) in
    rw (kept, place, count) refl

pub device-led : (i : InterfaceState) (p : Place) (c : Control) → IsRoundPlace p → i.own ≡ None → i.accessory ≡ None → guest_device (interface_after i (sent_at p)) c ≡ device_led c (guest_device i (control.Rounds p))
device-led i p c at own accessory = led_at i p c (message_of (sent_at p)) (message_of-sent p at) own accessory

-- ---- what holds at every moment

standing-led : (r : Roles) (own : Option OwnFrame) (o : Option Assignment) (p : Place) → IsRoundPlace p → own ≡ None → IsStanding r own o → IsStanding (roles_after r (message_of (sent_at p))) own o
standing-led r own o p at none h =
    let said = message_of-sent p at in
    let kept : own_after r own (message_of (sent_at p)) ≡ own = rw (none, said) (own-said r p) in
    let place : assignment_after r o (message_of (sent_at p)) ≡ o = rw said (assignment-said r o p) in
    subst (λ (x : Option OwnFrame). IsStanding (roles_after r (message_of (sent_at p))) x o) kept
    (subst (λ (x : Option Assignment). IsStanding (roles_after r (message_of (sent_at p))) (own_after r own (message_of (sent_at p))) x) place
    (IsStanding-after r own o (message_of (sent_at p)) h))

standing-under : (c : Control) (r : Roles) (own : Option OwnFrame) (o : Option Assignment) → IsControl c → own ≡ None → IsStanding r own o → IsStanding (roles_in_lead c r) own o
standing-under control.Host r own o at none h = h
standing-under (control.Rounds p) r own o at none h = standing-led r own o p at none h
standing-under control.Silent r own o at none h = h

pub IsGuest-view : (i : InterfaceState) (last : ℕ) (c : Control) (found : List (Option ℕ)) → IsInterface i → i.own ≡ None → i.accessory ≡ None → i.service.status ≡ 0 →
    (1 ≤ last) × (last ≤ 30) → IsControl c → length found ≡ 31 → IsGuest (record { device = guest_device i c; last = last; control = c; found = found })
IsGuest-view i last c found h own accessory status range at long = record {
  device = record {
    standing = standing-under c i.roles i.own i.service.assignment at own h.standing;
    heard = lit≤ tt;
    room = lit≤ tt;
    heard_count = h.heard_count;
    frames = h.frames;
  };
  own = own;
  accessory = accessory;
  wants = ap wants_service status;
  heard = refl;
  room = refl;
  last = range;
  control = at;
  found = long;
}

-- the state after a frame that came in the rounds
pub lead-view : (i k : InterfaceState) (last : ℕ) (c : Control) (p : Place) (found now : List (Option ℕ)) (next : Control) (f : Frame) (own : Option ℕ) →
    IsRoundPlace p → c ≡ control.Rounds p → i.own ≡ None → i.accessory ≡ None → k ≡ interface_after i (sent_at p) → own ≡ k.roles.address →
    next ≡ control_after own last p f → now ≡ noted (told_at p f) found →
    record { device = guest_device k next; last = last; control = next; found = now } ≡ leading (record { device = guest_device i c; last = last; control = c; found = found }) p f
lead-view i k last c p found now next f own at rounds none accessory stepped is goes told =
    let address : own ≡ (roles_after i.roles (message_of (sent_at p))).address = is ∙ ap (λ (x : InterfaceState). x.roles.address) stepped in
    let going : next ≡ control_after (roles_after i.roles (message_of (sent_at p))).address last p f = goes ∙ ap (λ (a : Option ℕ). control_after a last p f) address in
    rw (rounds, stepped, told, going)
    (ap (λ (d : DeviceState). record { device = d; last = last; control = control_after (roles_after i.roles (message_of (sent_at p))).address last p f; found = noted (told_at p f) found })
    (device-led i p (control_after (roles_after i.roles (message_of (sent_at p))).address last p f) at none accessory))

-- as many addresses as before are kept
length-noted : (told : Option (ℕ × Option ℕ)) (found : List (Option ℕ)) → length (noted told found) ≡ length found
length-noted None found = refl
length-noted (Some told) found = length-set found told.0 told.1

-- what holds at every moment holds after a frame that came in the rounds
pub IsGuest-lead : (i k : InterfaceState) (last : ℕ) (next : Control) (p : Place) (found now : List (Option ℕ)) (f : Frame) →
    IsRoundPlace p → i.own ≡ None → i.accessory ≡ None → i.service.status ≡ 0 → IsInterface k → k ≡ interface_after i (sent_at p) → (1 ≤ last) × (last ≤ 30) →
    IsControl next → length found ≡ 31 → now ≡ noted (told_at p f) found → IsGuest (record { device = guest_device k next; last = last; control = next; found = now })
IsGuest-lead i k last next p found now f at none accessory status h stepped range goes long told =
    let kept : k.own ≡ None = ap (λ (x : InterfaceState). x.own) stepped ∙ rw (none, message_of-sent p at) (own-said i.roles p) in
    IsGuest-view k last next now h kept (ap (λ (x : InterfaceState). x.accessory) stepped ∙ accessory) (ap (λ (x : InterfaceState). x.service.status) stepped ∙ status) range goes (ap length told ∙ length-noted (told_at p f) found ∙ long)

-- ---- the answers of each kind

expected-not-host : (b : Bool) (p : Place) → expecting b p ≡ control.Host → ⊥
expected-not-host true p e = cc
expected-not-host false p e = cc

-- no frame makes the host control but IFC
pub under-rounds : (c : Control) (s : GuestState) (f : Frame) → (c ≡ control.Host → ⊥) → answer_under c s f ≡ out_of c
under-rounds control.Host s f other = absurd (other refl)
under-rounds (control.Rounds p) s f other = refl
under-rounds control.Silent s f other = refl

pub not-host : (own : Option ℕ) (last : ℕ) (p : Place) (f : Frame) → control_after own last p f ≡ control.Host → ⊥
not-host own last (place.Command c) f e = expected-not-host (is_frame f (command_frame c)) (place.Ready c) e
not-host own last (place.Ready c) f e = expected-not-host (is_frame f rfc) (command_then own last c) e
not-host own last (place.Start a) f e = by_data (is_data f) e
  where
    by_data : (b : Bool) → start_then a f b ≡ control.Host → ⊥
    by_data true e = cc
    by_data false e = expected-not-host (is_frame f sst) (place.Command (command.Unt a)) e
not-host own last (place.Held a d) f e = expected-not-host (is_frame f nrd) (place.Relayed a d) e
not-host own last (place.Relayed a d) f e = expected-not-host (is_frame f eto) (place.Command (command.Unt a)) e

pub takes-lead : (s t : GuestState) (p : Place) (f : Frame) (out : GuestOut) → IsGuest s → IsGuest t → s.control ≡ control.Rounds p → is_ifc (message_of f) ≡ false →
    t ≡ leading s p f → out ≡ out_of t.control → GuestTakes s f out t
takes-lead s t p f out before after rounds other goes answer =
    let state : guest_after s f ≡ leading s p f = rw (rounds, other) refl in
    let under : guest_answer s f ≡ out_of (leading s p f).control =
    ap (λ (x : GuestState). answer_under x.control s f) state ∙ under-rounds (leading s p f).control s f (not-host s.device.roles.address s.last p f) in
    record {
      before = before;
      after = after;
      state = goes ∙ sym state;
      answer = answer ∙ ap (λ (x : GuestState). out_of x.control) goes ∙ sym under;
    }

-- a frame passes where the host controls, but for a TCT that is taken, and where IFC takes control back
abbrev pub DoesPass : Control → GuestState → Frame → Type 0
DoesPass control.Host s f = takes_control s f ≡ false
DoesPass c s f = is_ifc (message_of f) ≡ true

-- one that does not talk takes no control, and a frame other than TCT gives none
pub passes-silent : (c : Control) (s : GuestState) (f : Frame) → c ≡ control.Host → s.device.roles.talks ≡ false → DoesPass c s f
passes-silent c s f host silent = rw host (and_right (is_tct (message_of f)) s.device.roles.talks silent)

pub passes-other : (c : Control) (s : GuestState) (f : Frame) → c ≡ control.Host → is_tct (message_of f) ≡ false → DoesPass c s f
passes-other c s f host other = rw host (and_left (is_tct (message_of f)) s.device.roles.talks other)

pub passes-under : (c : Control) (s : GuestState) (f : Frame) → DoesPass c s f → guest_under c s f ≡ under_host s f
passes-under control.Host s f h = rw h refl
passes-under (control.Rounds p) s f h = rw h refl
passes-under control.Silent s f h = rw h refl

pub takes-pass : (s t : GuestState) (f : Frame) (out : GuestOut) → IsGuest s → IsGuest t → DoesPass s.control s f → t ≡ under_host s f → out ≡ Pass (passed_by s.device f) → GuestTakes s f out t
takes-pass s t f out before after passes goes answer =
    let state = passes-under s.control s f passes in
    record {
      before = before;
      after = after;
      state = goes ∙ sym state;
      answer = answer ∙ sym (ap (λ (x : GuestState). answer_under x.control s f) state);
    }
