-- Laws of a second controller over many frames.
use Rattle.std.proofs.Common.{◌≡◌, ◌∙◌, ℕ, Bool, true, false, not, List, [], ◌∷◌, ◌++◌, map, Option, refl, sym, ap, subst}
use Rattle.std.specs.List.{list_all}
use Rattle.std.proofs.lemmas.Bool.{and_parts, and_from, not-true}
use Rattle.il_frames.specs.declared.frame.Class.{Class}
use Rattle.il_frames.specs.declared.frame.Class.TheVariants as class
use Rattle.il_frames.specs.declared.frame.Frame.{Frame}
use Rattle.il_frames.specs.Frames.{is_data, is_data_class}
use Rattle.il_frames.specs.Messages.{message_at, message_of}
use Rattle.il_device.specs.Takes.{eto}
use Rattle.il_guest.specs.declared.control.Command.{Command}
use Rattle.il_guest.specs.declared.control.Command.TheVariants as command
use Rattle.il_guest.specs.declared.control.Place.{Place}
use Rattle.il_guest.specs.declared.control.Place.TheVariants as place
use Rattle.il_guest.specs.declared.control.Control.{Control}
use Rattle.il_guest.specs.declared.control.Control.TheVariants as control
use Rattle.il_guest.specs.declared.guest.GuestOut.{GuestOut}
use Rattle.il_guest.specs.declared.guest.GuestOut.TheVariants.{Source}
use Rattle.il_frames.specs.NamedFrames.{rfc, nrd, is_frame}
use Rattle.il_guest.specs.Frames.{nop, sst}
use Rattle.il_guest.specs.Rounds.{Move, rounds, is_status_answer, rounds_told}
use Rattle.il_guest.specs.Steps.{IsControl, IsRoundPlace, command_frame, out_of, out_at, command_then, expecting, start_then, control_after}
use Rattle.il_guest.specs.State.{GuestState, is_leading}
use Rattle.il_frames.specs.NamedFrames.{is_ifc}
use Rattle.il_guest.specs.Courses.{first_control, control_next, control_after_all, found_after_all, moves, Runs, is_no_ifc}
use Rattle.il_guest.proofs.SentLemmas.{command_says, message_of-command}
use Rattle.il_guest.proofs.RoundLaws.{is_same-true, moves-rounds}
use Rattle.il_guest.proofs.CourseLaws.{stays-silent, stays-host, rounds-led}
use Rattle.il_guest.proofs.GuestLaws.{leads-until-ifc, goes-on}

-- ---- many frames without an IFC

-- it stands where its rounds lead, has found what was told, and with what it had sent before its answers
-- are what the moves send, and what it sent last
pub record Led (s : GuestState) (fs : List Frame) (outs : List GuestOut) (t : GuestState) : Type 0 where
  pub control : t.control ≡ control_after_all s.device.roles.address s.last s.control fs
  pub found : t.found ≡ found_after_all s.device.roles.address s.last s.control fs s.found
  pub sent : (out_of s.control ∷ outs) ≡ map (λ m. m.sends) (moves s.device.roles.address s.last s.control fs) ++ out_of t.control ∷ []

pub runs-led : (fs : List Frame) (outs : List GuestOut) (s t : GuestState) → is_leading s.control ≡ true → list_all is_no_ifc fs ≡ true → Runs s fs outs t → Led s fs outs t
runs-led [] [] s t leads calm run = record { control = ap (λ (x : GuestState). x.control) run; found = ap (λ (x : GuestState). x.found) run; sent = ap (λ (x : GuestState). out_of x.control ∷ []) (sym run) }
runs-led [] (out ∷ outs) s t leads calm run = absurd run
runs-led (f ∷ fs) [] s t leads calm run = absurd run
runs-led (f ∷ fs) (out ∷ outs) s t leads calm run =
    let u = run.0 in
    let parts = and_parts (is_no_ifc f) (list_all is_no_ifc fs) calm in
    let on = goes-on s u f out leads (not-true (is_ifc (message_of f)) parts.0) run.1 in
    let led : is_leading u.control ≡ true = leads-until-ifc s u f out run.1 ∙ rw leads parts.0 in
    let rest = runs-led fs outs u t led parts.1 run.2 in
    record {
      control = rest.control ∙ rw (on.address, on.last, on.control) refl;
      found = rest.found ∙ rw (on.address, on.last, on.control, on.found) refl;
      sent = ap (λ (os : List GuestOut). out_of s.control ∷ os) (ap (λ (o : GuestOut). o ∷ outs) on.answer ∙ rest.sent ∙ rw (on.address, on.last, on.control) refl);
    }

-- ---- the frames that it waits for

-- none of them is an IFC
no-ifc-command : (c : Command) → is_ifc (command_says c) ≡ false
no-ifc-command command.Nop = refl
no-ifc-command (command.Unl a) = refl
no-ifc-command (command.Tad a) = refl
no-ifc-command (command.Unt a) = refl

no-ifc-data : (k : Class) (byte : ℕ) → is_data_class k ≡ true → is_ifc (message_at k byte) ≡ false
no-ifc-data class.Dab byte e = refl
no-ifc-data class.Dsr byte e = refl
no-ifc-data class.End byte e = refl
no-ifc-data class.Esr byte e = refl
no-ifc-data k byte e = cc

no-ifc-same : (f g : Frame) (p q : Place) → is_ifc (message_of g) ≡ false → expecting (is_frame f g) p ≡ control.Rounds q → is_ifc (message_of f) ≡ false
no-ifc-same f g p q calm e = ap (λ (x : Frame). is_ifc (message_of x)) (is_same-true f g (right (is_frame f g) e)) ∙ calm
  where
    right : (b : Bool) → expecting b p ≡ control.Rounds q → b ≡ true
    right true e = refl
    right false e = cc

no-ifc : (own : Option ℕ) (last : ℕ) (p q : Place) (f : Frame) → IsRoundPlace p → control_after own last p f ≡ control.Rounds q → is_ifc (message_of f) ≡ false
no-ifc own last (place.Command c) q f at e = no-ifc-same f (command_frame c) (place.Ready c) q (ap is_ifc (message_of-command c at) ∙ no-ifc-command c) e
no-ifc own last (place.Ready c) q f at e = no-ifc-same f rfc (command_then own last c) q refl e
no-ifc own last (place.Start a) q f at e = by_data (is_data f) refl e
  where
    by_data : (b : Bool) → is_data f ≡ b → start_then a f b ≡ control.Rounds q → is_ifc (message_of f) ≡ false
    by_data true is e = no-ifc-data f.class f.byte is
    by_data false is e = no-ifc-same f sst (place.Command (command.Unt a)) q refl e
no-ifc own last (place.Held a d) q f at e = no-ifc-same f nrd (place.Relayed a d) q refl e
no-ifc own last (place.Relayed a d) q f at e = no-ifc-same f eto (place.Command (command.Unt a)) q refl e

same-course : (own was : Option ℕ) (last before : ℕ) → own ≡ was → last ≡ before → (c : Control) (fs : List Frame) → control_after_all own last c fs ≡ control_after_all was before c fs
same-course own was last before a l c fs = rw (a, l) refl

-- frames over which it stays in its rounds are no IFC
runs-calm : (fs : List Frame) (outs : List GuestOut) (s t : GuestState) (p q : Place) → s.control ≡ control.Rounds p → control_after_all s.device.roles.address s.last (control.Rounds p) fs ≡ control.Rounds q → Runs s fs outs t → list_all is_no_ifc fs ≡ true
runs-calm [] outs s t p q at e run = refl
runs-calm (f ∷ fs) [] s t p q at e run = absurd run
runs-calm (f ∷ fs) (out ∷ outs) s t p q at e run =
    on (control_after s.device.roles.address s.last p f) refl e (λ r to. runs-calm fs outs run.0 t r q to)
  where
    u : GuestState
    u = run.0

    in_place : IsRoundPlace p
    in_place = subst IsControl at run.1.before.control

    leads : is_leading s.control ≡ true
    leads = rw at refl

    on : (c : Control) → control_after s.device.roles.address s.last p f ≡ c → control_after_all s.device.roles.address s.last c fs ≡ control.Rounds q →
        ((r : Place) → u.control ≡ control.Rounds r → control_after_all u.device.roles.address u.last (control.Rounds r) fs ≡ control.Rounds q → Runs u fs outs t → list_all is_no_ifc fs ≡ true) → list_all is_no_ifc (f ∷ fs) ≡ true
    on (control.Rounds r) is e calm =
        let other = no-ifc s.device.roles.address s.last p r f in_place is in
        let going = goes-on s u f out leads other run.1 in
        let to : u.control ≡ control.Rounds r = going.control ∙ ap (λ (c : Control). control_next s.device.roles.address s.last c f) at ∙ is in
        and_from (is_no_ifc f) (list_all is_no_ifc fs) (ap not other) (calm r to (same-course u.device.roles.address s.device.roles.address u.last s.last going.address going.last (control.Rounds r) fs ∙ e) run.2)
    on control.Silent is e calm = let clash : control.Silent ≡ control.Rounds q = sym (stays-silent s.device.roles.address s.last fs) ∙ e in cc
    on control.Host is e calm = let clash : control.Host ≡ control.Rounds q = sym (stays-host s.device.roles.address s.last fs) ∙ e in cc

-- ---- rounds

-- as the frames of rounds come to it, it sends exactly the frames of these rounds, begins the next, and
-- has found what was told
pub runs-rounds : (all : List (List (Option Frame))) (outs : List GuestOut) (s t : GuestState) → s.control ≡ first_control → list_all (list_all is_status_answer) all ≡ true →
    Runs s (map (λ m. m.comes) (rounds s.device.roles.address s.last all)) outs t →
    (t.control ≡ first_control) × (t.found ≡ rounds_told s.device.roles.address s.last all s.found) × ((Source nop ∷ outs) ≡ map (λ m. m.sends) (rounds s.device.roles.address s.last all) ++ Source nop ∷ [])
runs-rounds all outs s t at legal run =
    let own = s.device.roles.address in
    let fs = map (λ m. m.comes) (rounds own s.last all) in
    let plays = moves-rounds own s.last all s.found legal in
    let calm = runs-calm fs outs s t (place.Command command.Nop) (place.Command command.Nop) at plays.1 run in
    let led = runs-led fs outs s t (rw at refl) calm run in
    let ends : t.control ≡ first_control = led.control ∙ ap (λ (c : Control). control_after_all own s.last c fs) at ∙ plays.1 in (
      ends,
      led.found ∙ ap (λ (c : Control). found_after_all own s.last c fs s.found) at ∙ plays.2,
      ap (λ (c : Control). out_of c ∷ outs) (sym at) ∙ led.sent
          ∙ ap (λ (c : Control). map (λ m. m.sends) (moves own s.last s.control fs) ++ out_of c ∷ []) ends
          ∙ ap (λ (c : Control). map (λ m. m.sends) (moves own s.last c fs) ++ Source nop ∷ []) at
          ∙ ap (λ (ms : List Move). map (λ m. m.sends) ms ++ Source nop ∷ []) plays.0,
    )

-- whatever frames come, none of them an IFC: where it is not silent after them, some rounds begin with
-- its moves and go on with what it sent last
pub runs-begin : (fs : List Frame) (outs : List GuestOut) (s t : GuestState) (q : Place) → s.control ≡ first_control → t.control ≡ control.Rounds q → list_all is_no_ifc fs ≡ true → Runs s fs outs t →
    (all : List (List (Option Frame))) × (next : Frame) × (rest : List Move)
    × (rounds s.device.roles.address s.last all ≡ moves s.device.roles.address s.last first_control fs ++ record { sends = out_at q; comes = next } ∷ rest)
runs-begin fs outs s t q at ends calm run =
    let led = runs-led fs outs s t (rw at refl) calm run in
    rounds-led s.device.roles.address s.last q fs (ap (λ (c : Control). control_after_all s.device.roles.address s.last c fs) (sym at) ∙ sym led.control ∙ ends)
