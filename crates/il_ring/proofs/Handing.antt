-- No device hands control over: after each, a frame that does not do so is one that does not.
use Rattle.std.proofs.Common.{◌≡◌, ◌≤◌, ◌==◌, ℕ, Bool, true, false, List, [], ◌∷◌, Option, Some, None, refl, sym, ap, subst, ◌∙◌}
use Rattle.std.specs.Prelude.{◌-◌, if◌then◌else◌}
use Rattle.il_frames.specs.declared.entry.Entry.{Entry}
use Rattle.il_frames.specs.declared.frame.Class.{Class}
use Rattle.il_frames.specs.declared.frame.Class.TheVariants as class
use Rattle.il_frames.specs.declared.frame.Frame.{Frame}
use Rattle.il_frames.specs.declared.message.Message.{Message}
use Rattle.il_frames.specs.declared.message.Message.TheVariants as msg
use Rattle.il_frames.specs.Frames.{byte_of, class_of, framed, is_data, is_data_class}
use Rattle.il_frames.specs.Messages.{Row, One, Group, message_in, commands, ready_messages, message_at, message_of}
use Rattle.il_device.specs.declared.device.Out.{Out}
use Rattle.il_device.specs.declared.device.Out.TheVariants.{Pass, Source}
use Rattle.il_device.specs.declared.roles.Roles.{Roles}
use Rattle.il_device.specs.State.{DeviceState, risen}
use Rattle.il_device.specs.Takes.{Takes}
use Rattle.il_guest.specs.Frames.{tct}
use Rattle.il_guest.specs.Takes.{is_tct}
use Rattle.il_frames.specs.NamedFrames.{is_frame}
use Rattle.il_frames.specs.NamedFrames.{is_ifc}
use Rattle.loop_model.specs.Roles.{passed_on}
use Rattle.loop_model.proofs.RoleSteps.{changes_roles}
use Rattle.il_ring.specs.declared.plan.Planned.{Planned}
use Rattle.il_ring.specs.declared.plan.PlanFault.{PlanFault}
use Rattle.il_ring.specs.declared.flight.Flight.{Flight}
use Rattle.il_ring.specs.Plans.{next_fault}
use Rattle.il_ring.specs.Flights.{sourced, hit}
use Rattle.il_ring.specs.Journeys.{Trip, answered, Passage, Journey, is_exact, is_identify_class}
use Rattle.il_ring.proofs.Passing.{Carries, Exactly, AsData, AsIdentify, carries_on}
use Rattle.il_ring.proofs.Journeys.{past_devices, past_party}
use Rattle.il_ring.proofs.MessageKinds.{AllRows, in_rows, never_data, never_identify, never_passed}
use Rattle.il_ring.proofs.RoundRoles.{IsQuiet, hit_carries, sent_quiet}

-- ---- each frame carries its own message

-- no row of the tables is a data or identify message
ready_exact : AllRows is_exact ready_messages
ready_exact = (refl, (refl, (refl, (refl, (refl, (refl, (refl, (refl, (refl, ((λ n. refl), (refl, tt)))))))))))

commands_exact : AllRows is_exact commands
commands_exact = (refl, (refl, (refl, (refl, (refl, (refl, (refl, (refl, (refl, (refl, (refl, ((λ n. refl), (refl, ((λ n. refl), (refl, ((λ n. refl), ((λ n. refl), (refl, (refl, (refl, (refl, (refl, ((λ n. refl), ((λ n. refl), tt))))))))))))))))))))))))

carries_class : (k : Class) (byte : ℕ) → Carries (message_at k byte) (framed k byte)
carries_class class.Dab byte = AsData refl refl
carries_class class.Dsr byte = AsData refl refl
carries_class class.End byte = AsData refl refl
carries_class class.Esr byte = AsData refl refl
carries_class class.Cmd byte = Exactly (in_rows is_exact commands byte msg.OtherCmd commands_exact (λ n. refl)) refl
carries_class class.Rdy byte = Exactly (in_rows is_exact ready_messages byte msg.OtherRdy ready_exact (λ n. refl)) refl
carries_class class.Idy byte = AsIdentify refl refl
carries_class class.Isr byte = AsIdentify refl refl

carries_own : (f : Frame) → Carries (message_of f) f
carries_own f = carries_class (class_of f) (byte_of f)

-- ---- a frame that carries no such message

-- it is no message of a data or identify frame, and no device sends it, or makes it of another
pub record NeverMade (bad : Message → Bool) : Type 0 where
  pub no_data : (k : Class) (byte : ℕ) → is_data_class k ≡ true → bad (message_at k byte) ≡ false
  pub no_identify : (k : Class) (byte : ℕ) → is_identify_class k ≡ true → bad (message_at k byte) ≡ false
  pub passed : (m : Message) (r : Roles) → bad m ≡ false → bad (passed_on m r) ≡ false
  pub sent : (f : Flight) (quiet : IsQuiet f) → bad quiet.message ≡ false

-- a kind that holds of none of these messages, and of none that a device sends
pub never_kind : (bad : Message → Bool) → ((n : ℕ) → bad (msg.Dab n) ≡ false) → ((n : ℕ) → bad (msg.Dsr n) ≡ false) → ((n : ℕ) → bad (msg.End n) ≡ false) → ((n : ℕ) → bad (msg.Esr n) ≡ false)
    → ((n : ℕ) → bad (msg.Idy n) ≡ false) → ((n : ℕ) → bad (msg.Isr n) ≡ false) → ((n : ℕ) → bad (msg.Aad n) ≡ false) → bad msg.Iaa ≡ false → ((f : Flight) (quiet : IsQuiet f) → bad quiet.message ≡ false) → NeverMade bad
never_kind bad dab dsr last esr idy isr aad iaa sent = record {
  no_data = never_data bad dab dsr last esr;
  no_identify = never_identify bad idy isr;
  passed = never_passed bad aad iaa;
  sent = sent;
}

-- so holds of the frame that is on its way, if any
abbrev pub OnWay : (Frame → Type 0) → Option Flight → Type 0
OnWay P None = Unit {0}
OnWay P (Some f) = P f.now

module _ (bad : Message → Bool) (never : NeverMade bad) where
  abbrev Lacks : Frame → Type 0
  Lacks f = bad (message_of f) ≡ false

  pub carried_lacks : (m : Message) (f : Frame) → Carries m f → bad m ≡ false → Lacks f
  carried_lacks m f (Exactly exact is) none = ap bad is ∙ none
  carried_lacks m f (AsData keeps is) none = never.no_data (class_of f) (byte_of f) is
  carried_lacks m f (AsIdentify keeps is) none = never.no_identify (class_of f) (byte_of f) is

  pub hit_lacks : (fault : Option PlanFault) (f : Flight) (o : Option Flight) → Lacks f.now → hit fault f ≡ o → OnWay Lacks o
  hit_lacks fault f None none is = tt
  hit_lacks fault f (Some g) none is = carried_lacks (message_of f.now) g.now (hit_carries (message_of f.now) fault f g (carries_own f.now) is) none

  answered_lacks : (k n : ℕ) (log : List Entry) (g : Flight) (out : Out) (d e : DeviceState) → 1 ≤ k → Lacks g.now → Takes d g.now out e → OnWay Lacks (answered n log k g out).flight
  answered_lacks k n log g (Pass h) d e some none takes =
      carried_lacks (passed_on (message_of g.now) d.roles) h (carries_on (message_of g.now) d e g.now h (carries_own g.now) takes) (never.passed (message_of g.now) d.roles none)
  answered_lacks k n log g (Source h) d e some none takes =
      let quiet = sent_quiet k d e g.now h some takes in
      carried_lacks quiet.message h quiet.carries (never.sent (sourced k h) quiet)

  -- past a party, and past devices
  pub passage_lacks : (plan : List Planned) (k : ℕ) (t u : Trip) (d e : DeviceState) → 1 ≤ k → OnWay Lacks t.flight → Passage Takes plan k t d u e → OnWay Lacks u.flight
  passage_lacks plan k t u d e some none passage = past_party Takes plan k t d (λ u e. OnWay Lacks u.flight) (λ is. none) (λ f is gone. tt)
      (λ f g out e is came takes. answered_lacks k (risen t.crossings) t.log g out d e some (hit_lacks (next_fault plan t.crossings) f (Some g) (subst (OnWay Lacks) is none) came) takes) u e passage

  pub journey_lacks : (plan : List Planned) (k : ℕ) (t u : Trip) (ds es : List DeviceState) → 1 ≤ k → OnWay Lacks t.flight → Journey plan k t ds u es → OnWay Lacks u.flight
  journey_lacks plan k t u ds es some none journey =
      (past_devices plan 1 (λ k t. OnWay Lacks t.flight) (λ d e. Unit {0}) (λ k t u d e some none passage. (passage_lacks plan k t u d e some none passage, tt)) k t u ds es some none journey).0

-- ---- TCT and IFC are such

pub tct_never : NeverMade is_tct
tct_never = never_kind is_tct (λ n. refl) (λ n. refl) (λ n. refl) (λ n. refl) (λ n. refl) (λ n. refl) (λ n. refl) refl (λ f quiet. quiet.no_control)

ifc_changes : (m : Message) → changes_roles m ≡ false → is_ifc m ≡ false
ifc_changes msg.Ifc keeps = cc
ifc_changes m keeps = refl

pub ifc_never : NeverMade is_ifc
ifc_never = never_kind is_ifc (λ n. refl) (λ n. refl) (λ n. refl) (λ n. refl) (λ n. refl) (λ n. refl) (λ n. refl) refl (λ f quiet. ifc_changes quiet.message quiet.keeps)

-- ---- TCT alone hands control over

-- if the byte is that of a row, its message does not
abbrev AllKeep : ℕ → List Row → Type 0
AllKeep byte [] = Unit {0}
AllKeep byte (One at m ∷ rows) = ((byte == at) ≡ true → is_tct m ≡ false) × AllKeep byte rows
AllKeep byte (Group first count m ∷ rows) = ((n : ℕ) → is_tct (m n) ≡ false) × AllKeep byte rows

keep_one : (b : Bool) (m n : Message) → (b ≡ true → is_tct m ≡ false) → is_tct n ≡ false → is_tct (if b then m else n) ≡ false
keep_one true m n p q = p refl
keep_one false m n p q = q

keep_in : (rows : List Row) (byte : ℕ) (other : ℕ → Message) → AllKeep byte rows → ((n : ℕ) → is_tct (other n) ≡ false) → is_tct (message_in rows byte other) ≡ false
keep_in [] byte other keep rest = rest byte
keep_in (One at m ∷ rows) byte other keep rest = keep_one (byte == at) m (message_in rows byte other) keep.0 (keep_in rows byte other keep.1 rest)
keep_in (Group first count m ∷ rows) byte other keep rest =
    keep_one _ (m (byte - first)) (message_in rows byte other) (λ is. keep.0 (byte - first)) (keep_in rows byte other keep.1 rest)

ready_keep : (byte : ℕ) → (byte == 0x64) ≡ false → AllKeep byte ready_messages
ready_keep byte other = ((λ is. refl), ((λ is. refl), ((λ is. refl), ((λ is. refl), ((λ is. refl), ((λ is. refl), ((λ is. refl), ((λ is. refl), ((λ is. let clash = sym is ∙ other in cc), ((λ n. refl), ((λ is. refl), tt)))))))))))

commands_keep : (byte : ℕ) → AllKeep byte commands
commands_keep byte = ((λ is. refl), ((λ is. refl), ((λ is. refl), ((λ is. refl), ((λ is. refl), ((λ is. refl), ((λ is. refl), ((λ is. refl), ((λ is. refl), ((λ is. refl), ((λ is. refl), ((λ n. refl), ((λ is. refl), ((λ n. refl), ((λ is. refl), ((λ n. refl), ((λ n. refl), ((λ is. refl), ((λ is. refl), ((λ is. refl), ((λ is. refl), ((λ is. refl), ((λ n. refl), ((λ n. refl), tt))))))))))))))))))))))))

other_class_hands : (k : Class) (byte : ℕ) → is_frame (framed k byte) tct ≡ false → is_tct (message_at k byte) ≡ false
other_class_hands class.Cmd byte other = keep_in commands byte msg.OtherCmd (commands_keep byte) (λ n. refl)
other_class_hands class.Rdy byte other = keep_in ready_messages byte msg.OtherRdy (ready_keep byte other) (λ n. refl)
other_class_hands _ byte other = refl

other_hands : (f : Frame) → is_frame f tct ≡ false → is_tct (message_of f) ≡ false
other_hands f other = other_class_hands (class_of f) (byte_of f) other

-- ---- frames that set out

-- of the host
pub hands_sent : (f : Frame) (flight : Flight) → flight ≡ sourced 0 f → is_frame f tct ≡ false → is_tct (message_of flight.now) ≡ false
hands_sent f flight is other = ap (λ flight. is_tct (message_of flight.now)) is ∙ other_hands f other

-- data and end frames
pub data_hands : (f : Frame) → is_data f ≡ true → is_tct (message_of f) ≡ false
data_hands f is = tct_never.no_data (class_of f) (byte_of f) is

pub data_no_ifc : (f : Frame) → is_data f ≡ true → is_ifc (message_of f) ≡ false
data_no_ifc f is = ifc_never.no_data (class_of f) (byte_of f) is
