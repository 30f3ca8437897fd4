-- Laws of a second controller for those who see it by its state alone.
use Rattle.std.proofs.Common.{◌≡◌, ◌∙◌, ℕ, Bool, true, false, not, if◌then◌else◌, List, [], Option, None, refl, sym, ap, subst}
use Rattle.il_frames.specs.declared.frame.Frame.{Frame}
use Rattle.il_frames.specs.declared.message.Message.{Message}
use Rattle.il_frames.specs.declared.message.Message.TheVariants as msg
use Rattle.il_frames.specs.Frames.{byte_of}
use Rattle.il_frames.specs.Messages.{message_of}
use Rattle.il_device.specs.declared.roles.Roles.{Roles}
use Rattle.il_device.specs.declared.device.Out.TheVariants as device
use Rattle.il_device.specs.declared.interface.OwnFrame.{OwnFrame}
use Rattle.il_device.specs.declared.interface.Turn.{Turn}
use Rattle.il_device.specs.declared.interface.Turn.TheVariants as turn
use Rattle.il_device.specs.State.{DeviceState}
use Rattle.il_device.specs.Takes.{Takes, turn_at, turn_at_data, turn_at_start, turn_of, heard_after, ete}
use Rattle.il_device.proofs.TurnLemmas.{MayPass, Answers-pass, heard_after-roomless}
use Rattle.il_guest.specs.declared.control.Command.TheVariants as command
use Rattle.il_guest.specs.declared.control.Place.{Place}
use Rattle.il_guest.specs.declared.control.Place.TheVariants as place
use Rattle.il_guest.specs.declared.control.Control.{Control}
use Rattle.il_guest.specs.declared.control.Control.TheVariants as control
use Rattle.il_guest.specs.declared.guest.GuestOut.{GuestOut}
use Rattle.il_guest.specs.declared.guest.GuestOut.TheVariants.{Pass, Source, Stop}
use Rattle.il_guest.specs.Frames.{nop}
use Rattle.il_guest.specs.Steps.{IsControl, out_of, control_after, told_at, noted}
use Rattle.il_guest.specs.State.{GuestState, IsGuest, is_leading, none_found, roles_in_lead}
use Rattle.il_frames.specs.NamedFrames.{is_ifc}
use Rattle.il_guest.specs.Takes.{device_after, device_led, passed_by, under_host, taking_control, leading, takes_control, guest_under, guest_after, answer_under, GuestTakes}
use Rattle.il_guest.specs.Courses.{first_control, control_next, told_by_control}
use Rattle.il_guest.proofs.StepLemmas.{DoesPass, passes-under, not-host, address-led}

-- ---- as a device

-- without an accessory ID and a frame of its own on the loop, a device may pass every frame
may-pass-data : (listens : Bool) → MayPass (turn_at_data None listens)
may-pass-data true = tt
may-pass-data false = tt

may-pass-start : (talks : Bool) (asked : Turn) → MayPass asked → MayPass (turn_at_start None talks asked)
may-pass-start true asked h = h
may-pass-start false asked h = tt

may-pass : (r : Roles) (m : Message) → MayPass (turn_at r None None m)
may-pass r (msg.Dab b) = may-pass-data r.listens
may-pass r (msg.Dsr b) = may-pass-data r.listens
may-pass r (msg.End b) = may-pass-data r.listens
may-pass r (msg.Esr b) = may-pass-data r.listens
may-pass r msg.Sda = may-pass-start r.talks turn.Begin tt
may-pass r msg.Sst = may-pass-start r.talks turn.Begin tt
may-pass r msg.Sdi = may-pass-start r.talks turn.Begin tt
may-pass r msg.Sai = may-pass-start r.talks turn.Pass tt
may-pass r _ = tt

-- its device part takes the frame as a device that passes it
device-takes : (s t : GuestState) (f : Frame) → IsGuest s → IsGuest t → t.device ≡ device_after s.device f → Takes s.device f (device.Pass (passed_by s.device f)) t.device
device-takes s t f before after e =
    let may = subst (λ (o : Option OwnFrame). MayPass (turn_at s.device.roles o s.device.accessory (message_of f))) (sym before.own)
    (subst (λ (id : Option ℕ). MayPass (turn_at s.device.roles None id (message_of f))) (sym before.accessory) (may-pass s.device.roles (message_of f))) in
    let none : t.device.heard ≡ heard_after (turn_of s.device f) s.device.room s.device.heard (byte_of f) =
    after.heard ∙ heard_after-roomless (turn_of s.device f) (byte_of f)
    ∙ sym (ap (λ (bytes : List ℕ). heard_after (turn_of s.device f) s.device.room bytes (byte_of f)) before.heard ∙ ap (λ (room : ℕ). heard_after (turn_of s.device f) room [] (byte_of f)) before.room) in
    record {
      before = before.device;
      after = after.device;
      roles = ap (λ (d : DeviceState). d.roles) e;
      assignment = ap (λ (d : DeviceState). d.assignment) e;
      wants = λ h. ap (λ (d : DeviceState). d.wants) e;
      heard = none;
      room = ap (λ (d : DeviceState). d.room) e;
      heard_count = ap (λ (d : DeviceState). d.heard_count) e;
      frames = ap (λ (d : DeviceState). d.frames) e;
      accessory = ap (λ (d : DeviceState). d.accessory) e;
      answer = Answers-pass (turn_of s.device f) s.device f (device.Pass (passed_by s.device f)) t.device may
          (rw e (record { answer = refl; still_own = refl }));
    }

-- a frame passes it as it passes every device, and the host controls then
pub record PassesIt (s : GuestState) (f : Frame) (out : GuestOut) (t : GuestState) : Type 0 where
  pub answer : out ≡ Pass (passed_by s.device f)
  pub device : Takes s.device f (device.Pass (passed_by s.device f)) t.device
  pub control : t.control ≡ control.Host
  pub last : t.last ≡ s.last
  pub found : t.found ≡ s.found

passes-it : (s t : GuestState) (f : Frame) (out : GuestOut) → DoesPass s.control s f → GuestTakes s f out t → PassesIt s f out t
passes-it s t f out passes h =
    let under = passes-under s.control s f passes in
    let state : t ≡ under_host s f = h.state ∙ under in
    record {
      answer = h.answer ∙ ap (λ (x : GuestState). answer_under x.control s f) under;
      device = device-takes s t f h.before h.after (ap (λ (x : GuestState). x.device) state);
      control = ap (λ (x : GuestState). x.control) state;
      last = ap (λ (x : GuestState). x.last) state;
      found = ap (λ (x : GuestState). x.found) state;
    }

-- while the host controls every frame passes but a TCT to the talker
pub passes-host : (s t : GuestState) (f : Frame) (out : GuestOut) → s.control ≡ control.Host → takes_control s f ≡ false → GuestTakes s f out t → PassesIt s f out t
passes-host s t f out host other h = passes-it s t f out (subst (λ (c : Control). DoesPass c s f) (sym host) other) h

-- IFC passes also while it controls
pub passes-ifc : (s t : GuestState) (f : Frame) (out : GuestOut) → is_leading s.control ≡ true → is_ifc (message_of f) ≡ true → GuestTakes s f out t → PassesIt s f out t
passes-ifc s t f out leads back h = passes-it s t f out (by_control s.control leads) h
  where
    by_control : (c : Control) → is_leading c ≡ true → DoesPass c s f
    by_control control.Host e = cc
    by_control (control.Rounds p) e = back
    by_control control.Silent e = back

-- ---- taking control

-- it begins its rounds; its device part has passed the frame
pub record TakesIt (s : GuestState) (f : Frame) (out : GuestOut) (t : GuestState) : Type 0 where
  pub answer : out ≡ Source nop
  pub device : Takes s.device f (device.Pass (passed_by s.device f)) t.device
  pub control : t.control ≡ first_control
  pub last : t.last ≡ s.last
  pub found : t.found ≡ none_found

pub takes-it : (s t : GuestState) (f : Frame) (out : GuestOut) → s.control ≡ control.Host → takes_control s f ≡ true → GuestTakes s f out t → TakesIt s f out t
takes-it s t f out host asked h =
    let under : guest_after s f ≡ taking_control s f = rw (host, asked) refl in
    let state : t ≡ taking_control s f = h.state ∙ under in
    record {
      answer = h.answer ∙ ap (λ (x : GuestState). answer_under x.control s f) under;
      device = device-takes s t f h.before h.after (ap (λ (x : GuestState). x.device) state);
      control = ap (λ (x : GuestState). x.control) state;
      last = ap (λ (x : GuestState). x.last) state;
      found = ap (λ (x : GuestState). x.found) state;
    }

-- ---- in control

-- it controls until an IFC comes, and takes control by TCT alone
abbrev pub leads_then : GuestState → Frame → Bool
leads_then s f = if is_leading s.control then not (is_ifc (message_of f)) else takes_control s f

leads-expecting : (own : Option ℕ) (last : ℕ) (p : Place) (f : Frame) → is_leading (control_after own last p f) ≡ true
leads-expecting own last p f = by_control (control_after own last p f) (not-host own last p f)
  where
    by_control : (c : Control) → (c ≡ control.Host → ⊥) → is_leading c ≡ true
    by_control control.Host other = absurd (other refl)
    by_control (control.Rounds q) other = refl
    by_control control.Silent other = refl

leads-host : (s : GuestState) (f : Frame) (b : Bool) → is_leading (if b then taking_control s f else under_host s f).control ≡ b
leads-host s f true = refl
leads-host s f false = refl

leads-rounds : (s : GuestState) (p : Place) (f : Frame) (b : Bool) → is_leading (if b then under_host s f else leading s p f).control ≡ not b
leads-rounds s p f true = refl
leads-rounds s p f false = leads-expecting s.device.roles.address s.last p f

leads-silent : (s : GuestState) (f : Frame) (b : Bool) → s.control ≡ control.Silent → is_leading (if b then under_host s f else s).control ≡ not b
leads-silent s f true silent = refl
leads-silent s f false silent = rw silent refl

leads-under : (c : Control) (s : GuestState) (f : Frame) → s.control ≡ c → is_leading (guest_under c s f).control ≡ (if is_leading c then not (is_ifc (message_of f)) else takes_control s f)
leads-under control.Host s f e = leads-host s f (takes_control s f)
leads-under (control.Rounds p) s f e = leads-rounds s p f (is_ifc (message_of f))
leads-under control.Silent s f e = leads-silent s f (is_ifc (message_of f)) e

pub leads-until-ifc : (s t : GuestState) (f : Frame) (out : GuestOut) → GuestTakes s f out t → is_leading t.control ≡ leads_then s f
leads-until-ifc s t f out h = ap (λ (x : GuestState). is_leading x.control) h.state ∙ leads-under s.control s f refl

-- a frame that comes while it controls, and is no IFC: it goes on in its rounds, or stays silent, and
-- answers what goes out there
pub record GoesOn (s : GuestState) (f : Frame) (out : GuestOut) (t : GuestState) : Type 0 where
  pub control : t.control ≡ control_next s.device.roles.address s.last s.control f
  pub answer : out ≡ out_of t.control
  pub roles : t.device.roles ≡ roles_in_lead t.control s.device.roles
  pub found : t.found ≡ noted (told_by_control s.control f) s.found
  pub address : t.device.roles.address ≡ s.device.roles.address
  pub last : t.last ≡ s.last

goes-control : (c : Control) (s : GuestState) (f : Frame) → s.control ≡ c → is_leading c ≡ true → is_ifc (message_of f) ≡ false → (guest_under c s f).control ≡ control_next s.device.roles.address s.last c f
goes-control control.Host s f e leads other = cc
goes-control (control.Rounds p) s f e leads other = rw other refl
goes-control control.Silent s f e leads other = rw other e

goes-answer : (c : Control) (s : GuestState) (f : Frame) → is_leading c ≡ true → answer_under c s f ≡ out_of c
goes-answer control.Host s f leads = cc
goes-answer (control.Rounds p) s f leads = refl
goes-answer control.Silent s f leads = refl

goes-address : (c : Control) (s : GuestState) (f : Frame) → is_leading c ≡ true → is_ifc (message_of f) ≡ false → IsControl (guest_under c s f).control → (guest_under c s f).device.roles.address ≡ s.device.roles.address
goes-address control.Host s f leads other range = cc
goes-address (control.Rounds p) s f leads other range =
    let goes : guest_under (control.Rounds p) s f ≡ leading s p f = rw other refl in
    ap (λ (x : GuestState). x.device.roles.address) goes
    ∙ address-led (control_after s.device.roles.address s.last p f) s.device.roles (subst (λ (x : GuestState). IsControl x.control) goes range)
goes-address control.Silent s f leads other range = rw other refl

goes-roles : (c : Control) (s : GuestState) (f : Frame) → s.control ≡ c → is_leading c ≡ true → is_ifc (message_of f) ≡ false → (guest_under c s f).device.roles ≡ roles_in_lead (guest_under c s f).control s.device.roles
goes-roles control.Host s f e leads other = cc
goes-roles (control.Rounds p) s f e leads other = rw other refl
goes-roles control.Silent s f e leads other = rw (other, e) refl

goes-found : (c : Control) (s : GuestState) (f : Frame) → is_leading c ≡ true → is_ifc (message_of f) ≡ false → (guest_under c s f).found ≡ noted (told_by_control c f) s.found
goes-found control.Host s f leads other = cc
goes-found (control.Rounds p) s f leads other = rw other refl
goes-found control.Silent s f leads other = rw other refl

goes-last : (c : Control) (s : GuestState) (f : Frame) → is_leading c ≡ true → is_ifc (message_of f) ≡ false → (guest_under c s f).last ≡ s.last
goes-last control.Host s f leads other = cc
goes-last (control.Rounds p) s f leads other = rw other refl
goes-last control.Silent s f leads other = rw other refl

pub goes-on : (s t : GuestState) (f : Frame) (out : GuestOut) → is_leading s.control ≡ true → is_ifc (message_of f) ≡ false → GuestTakes s f out t → GoesOn s f out t
goes-on s t f out leads other h =
    let control_is = ap (λ (x : GuestState). x.control) h.state ∙ goes-control s.control s f refl leads other in
    let led : is_leading t.control ≡ true = leads-until-ifc s t f out h ∙ rw (leads, other) refl in
    record {
      control = control_is;
      answer = h.answer ∙ ap (λ (x : GuestState). answer_under x.control s f) (sym h.state) ∙ goes-answer t.control s f led;
      roles = subst (λ (x : GuestState). x.device.roles ≡ roles_in_lead x.control s.device.roles) (sym h.state) (goes-roles s.control s f refl leads other);
      found = ap (λ (x : GuestState). x.found) h.state ∙ goes-found s.control s f leads other;
      address = ap (λ (x : GuestState). x.device.roles.address) h.state ∙ goes-address s.control s f leads other (subst (λ (x : GuestState). IsControl x.control) h.state h.after.control);
      last = ap (λ (x : GuestState). x.last) h.state ∙ goes-last s.control s f leads other;
    }

-- from a place of its rounds on its device part has taken the frame, and what goes out has changed its roles
pub goes-device : (s t : GuestState) (p : Place) (f : Frame) (out : GuestOut) → s.control ≡ control.Rounds p → is_ifc (message_of f) ≡ false → GuestTakes s f out t → t.device ≡ device_led t.control s.device
goes-device s t p f out rounds other h =
    let goes : guest_after s f ≡ leading s p f = rw (rounds, other) refl in
    subst (λ (x : GuestState). x.device ≡ device_led x.control s.device) (sym (h.state ∙ goes)) refl

-- ETE silences it at every place of its rounds, and tells no status
pub silent-at-ete : (own : Option ℕ) (last : ℕ) (p : Place) → (control_after own last p ete ≡ control.Silent) × (told_at p ete ≡ None)
silent-at-ete own last (place.Command command.Nop) = (refl, refl)
silent-at-ete own last (place.Command (command.Unl a)) = (refl, refl)
silent-at-ete own last (place.Command (command.Tad a)) = (refl, refl)
silent-at-ete own last (place.Command (command.Unt a)) = (refl, refl)
silent-at-ete own last (place.Ready c) = (refl, refl)
silent-at-ete own last (place.Start a) = (refl, refl)
silent-at-ete own last (place.Held a d) = (refl, refl)
silent-at-ete own last (place.Relayed a d) = (refl, refl)

pub stops-at-ete : (s t : GuestState) (p : Place) (out : GuestOut) → s.control ≡ control.Rounds p → GuestTakes s ete out t → (out ≡ Stop) × (t.control ≡ control.Silent) × (t.found ≡ s.found)
stops-at-ete s t p out rounds h =
    let at = silent-at-ete s.device.roles.address s.last p in
    let goes : guest_after s ete ≡ leading s p ete = rw rounds refl in
    let silent : t.control ≡ control.Silent = ap (λ (x : GuestState). x.control) (h.state ∙ goes) ∙ at.0 in (
      h.answer ∙ ap (λ (x : GuestState). answer_under x.control s ete) (sym h.state) ∙ ap (λ (c : Control). answer_under c s ete) silent,
      silent,
      ap (λ (x : GuestState). x.found) (h.state ∙ goes) ∙ ap (λ told. noted told s.found) at.1,
    )
