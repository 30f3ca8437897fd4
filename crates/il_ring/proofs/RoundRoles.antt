-- What a round does to the devices' roles is what its entries say.
use Rattle.std.proofs.Common.{◌≡◌, ◌≤◌, ◌+◌, ◌++◌, ◌==◌, ◌&&◌, inl, inr, ℕ, Bool, true, false, not, List, [], ◌∷◌, Option, Some, None, refl, sym, ap, ap₂, subst, ◌∙◌, arith, append-nil, append_assoc}
use Rattle.std.specs.Prelude.{if◌then◌else◌}
use Rattle.std.specs.List.{list_all}
use Rattle.std.proofs.lemmas.Bool.{and_parts, and_from, ne_eqb}
use Rattle.std.proofs.lemmas.List.Folds.{list_all-append}
use Rattle.il_frames.specs.declared.frame.Class.{Class}
use Rattle.il_frames.specs.declared.frame.Class.TheVariants as class
use Rattle.il_frames.specs.declared.frame.Frame.{Frame}
use Rattle.il_frames.specs.declared.message.Message.{Message}
use Rattle.il_frames.specs.declared.message.Message.TheVariants as msg
use Rattle.il_frames.specs.declared.entry.Entry.{Entry}
use Rattle.il_frames.specs.Frames.{byte_of, class_of, framed, is_data, is_data_class}
use Rattle.il_frames.specs.Messages.{message_at}
use Rattle.il_device.specs.declared.device.Out.{Out}
use Rattle.il_device.specs.declared.device.Out.TheVariants.{Pass, Source}
use Rattle.il_device.specs.declared.interface.OwnFrame.{OwnFrame}
use Rattle.il_device.specs.declared.interface.Turn.{Turn}
use Rattle.il_device.specs.declared.interface.Turn.TheVariants as turn
use Rattle.il_device.specs.declared.roles.Roles.{Roles}
use Rattle.il_device.specs.Roles.{no_roles}
use Rattle.il_device.specs.State.{DeviceState, risen}
use Rattle.il_device.specs.Takes.{Takes, Answers, AnswersEcho, GoesOn, eto, ete, turn_of}
use Rattle.loop_model.proofs.RoleSteps.{changes_roles}
use Rattle.il_guest.specs.Takes.{is_tct}
use Rattle.il_ring.specs.declared.plan.Planned.{Planned}
use Rattle.il_ring.specs.declared.plan.PlanFault.{PlanFault}
use Rattle.il_ring.specs.declared.plan.PlanFault.TheVariants.{Lose, Alter}
use Rattle.il_ring.specs.declared.flight.Flight.{Flight}
use Rattle.il_ring.specs.Plans.{next_fault}
use Rattle.il_ring.specs.Flights.{sourced, altered_by, hit, lost_at, ended_at}
use Rattle.il_ring.specs.Journeys.{Trip, answered, Passage, Journey, is_exact, is_identify_class}
use Rattle.il_ring.specs.Rings.{roles_of}
use Rattle.il_ring.specs.Polls.{is_poll}
use Rattle.il_ring.specs.Outcomes.{is_other}
use Rattle.il_ring.proofs.CountSteps.{hit_same}
use Rattle.il_ring.proofs.MessageKinds.{never_data}
use Rattle.il_ring.proofs.Passing.{Carries, Exactly, AsData, AsIdentify, keeps_on, kept_by, carries_on, carried_roles}
use Rattle.il_ring.proofs.Journeys.{past_party}

-- ---- what a link leaves of what a frame says

pub data_not_exact : (k : Class) (byte : ℕ) → is_data_class k ≡ true → is_exact (message_at k byte) ≡ false
data_not_exact = never_data is_exact (λ n. refl) (λ n. refl) (λ n. refl) (λ n. refl)

data_not_identify : (k : Class) → is_data_class k ≡ true → is_identify_class k ≡ true → ⊥
data_not_identify class.Idy e f = cc
data_not_identify class.Isr e f = cc
data_not_identify _ e f = cc

-- only data frames are altered
altered_carries : (m : Message) (f : Frame) (change : ℕ) → is_data f ≡ true → Carries m f → Carries m (altered_by change f)
altered_carries m f change is_data_frame (Exactly exact is) = let clash = sym exact ∙ ap is_exact (sym is) ∙ data_not_exact (class_of f) (byte_of f) is_data_frame in cc
altered_carries m f change is_data_frame (AsData keeps is) = AsData keeps is
altered_carries m f change is_data_frame (AsIdentify keeps is) = absurd (data_not_identify (class_of f) is_data_frame is)

some_is : (f g : Flight) → Some f ≡ Some g → f ≡ g
some_is f g e = ap (λ o. elim o [ Some h ↦ h | None ↦ f ]) e

altered_by_link : (m : Message) (f g : Flight) (change : ℕ) (may : Bool) → (is_data f.now && not f.altered) ≡ may → Carries m f.now
    → (if may then Some (record f { now = altered_by change f.now; altered = true }) else None) ≡ Some g → Carries m g.now
altered_by_link m f g change true test carries is =
    subst (λ (g : Flight). Carries m g.now) (some_is (record f { now = altered_by change f.now; altered = true }) g is) (altered_carries m f.now change (and_parts (is_data f.now) (not f.altered) test).0 carries)
altered_by_link m f g change false test carries is = cc

pub hit_carries : (m : Message) (fault : Option PlanFault) (f g : Flight) → Carries m f.now → hit fault f ≡ Some g → Carries m g.now
hit_carries m None f g carries is = subst (λ (g : Flight). Carries m g.now) (some_is f g is) carries
hit_carries m (Some Lose) f g carries is = cc
hit_carries m (Some (Alter change)) f g carries is = altered_by_link m f g change (is_data f.now && not f.altered) refl carries is

-- ---- a frame that a device sends

-- it is a device's, changes neither a role nor a place in the poll, and does not hand control over
pub record IsQuiet (f : Flight) : Type 0 where
  pub from_device : 1 ≤ f.source
  pub message : Message
  pub keeps : changes_roles message ≡ false
  pub no_poll : is_poll message ≡ false
  pub no_control : is_tct message ≡ false
  pub carries : Carries message f.now

-- none, or a quiet one
abbrev pub AreQuiet : Option Flight → Type 0
AreQuiet None = Unit {0}
AreQuiet (Some f) = IsQuiet f

-- What holds of each data or end frame, of ETO and of ETE holds of a frame that a device sends in the place of another.
module _ (P : Frame → Type 0) (data_frames : (f : Frame) → is_data f ≡ true → P f) (at_eto : P eto) (at_ete : P ete) (h : Frame) where
  sent_is : (own : Frame) → Source h ≡ Source own → P own → P h
  sent_is own is so = subst P (ap (λ out. elim out [ Pass f ↦ f | Source f ↦ f ]) (sym is)) so

  sent_on_echo : (over : Bool) (out : Out) (e : DeviceState) → GoesOn over out e → out ≡ Source h → P h
  sent_on_echo true out e ends is = sent_is eto (sym is ∙ ends.answer) at_eto
  sent_on_echo false out e (inl ends) is = sent_is eto (sym is ∙ ends.answer) at_eto
  sent_on_echo false out e (inr sends) is = sent_is sends.0.frame (sym is ∙ sends.1.answer) (data_frames sends.0.frame sends.1.is_data)

  sent_echo : (right : Bool) (out : Out) (e : DeviceState) (own : OwnFrame) → AnswersEcho right own out e → out ≡ Source h → P h
  sent_echo false out e own ends is = sent_is ete (sym is ∙ ends.answer) at_ete
  sent_echo true out e own on is = sent_on_echo _ out e on is

  sent_as : (asked : Turn) (d e : DeviceState) (f : Frame) (out : Out) → Answers asked d f out e → out ≡ Source h → P h
  sent_as turn.Pass d e f out passes is = let clash = sym is ∙ passes.answer in cc
  sent_as turn.Hear d e f out passes is = let clash = sym is ∙ passes.answer in cc
  sent_as turn.Begin d e f out (inl passes) is = let clash = sym is ∙ passes.answer in cc
  sent_as turn.Begin d e f out (inr sends) is = sent_is sends.0.frame (sym is ∙ sends.1.answer) (data_frames sends.0.frame sends.1.is_data)
  sent_as (turn.Identify id) d e f out sends is = sent_is (framed class.Dab id) (sym is ∙ sends.answer) (data_frames (framed class.Dab id) refl)
  sent_as (turn.Compare own) d e f out echo is = sent_echo _ out e own echo is

  pub each_sent : (d e : DeviceState) (f : Frame) → Takes d f (Source h) e → P h
  each_sent d e f takes = sent_as (turn_of d f) d e f (Source h) takes.answer refl

-- such a frame is quiet
pub sent_quiet : (party : ℕ) (d e : DeviceState) (f h : Frame) → 1 ≤ party → Takes d f (Source h) e → IsQuiet (sourced party h)
sent_quiet party d e f h some takes = each_sent (λ h. IsQuiet (sourced party h)) (λ f is. record { from_device = some; message = msg.Dab 0; keeps = refl; no_poll = refl; no_control = refl; carries = AsData refl is })
    (record { from_device = some; message = msg.Eto; keeps = refl; no_poll = refl; no_control = refl; carries = Exactly refl refl })
    (record { from_device = some; message = msg.Ete; keeps = refl; no_poll = refl; no_control = refl; carries = Exactly refl refl }) h d e f takes

-- ---- journeys that leave the roles

pub other_source : (source : ℕ) → 1 ≤ source → not (source == 0) ≡ true
other_source source some = ap not (ne_eqb source 0 (λ e. omega (arith, e, some)))

-- no role changes; the entries are devices', and so is the frame on its way
pub record LeavesRoles (t : Trip) (ds : List DeviceState) (u : Trip) (es : List DeviceState) : Type 0 where
  pub entries : List Entry
  pub log : u.log ≡ t.log ++ entries
  pub others : list_all is_other entries ≡ true
  pub roles : roles_of es ≡ roles_of ds
  pub quiet : AreQuiet u.flight

leaves_none : (t : Trip) → AreQuiet t.flight → LeavesRoles t [] t []
leaves_none t quiet = record { entries = []; log = sym (append-nil t.log); others = refl; roles = refl; quiet = quiet }

abbrev head_of : List Roles → Roles
head_of [] = no_roles
head_of (r ∷ rs) = r

leaves_append : (t m u : Trip) (d e : DeviceState) (ds es : List DeviceState) → LeavesRoles t (d ∷ []) m (e ∷ []) → LeavesRoles m ds u es → LeavesRoles t (d ∷ ds) u (e ∷ es)
leaves_append t m u d e ds es first more = record {
  entries = first.entries ++ more.entries;
  log = more.log ∙ ap (λ log. log ++ more.entries) first.log ∙ append_assoc t.log first.entries more.entries;
  others = list_all-append is_other first.entries more.entries ∙ and_from (list_all is_other first.entries) (list_all is_other more.entries) first.others more.others;
  roles = ap₂ (λ r rs. r ∷ rs) (ap (λ rs. head_of rs) first.roles) more.roles;
  quiet = more.quiet;
}

pub quiet_hit : (fault : Option PlanFault) (f g : Flight) → IsQuiet f → hit fault f ≡ Some g → IsQuiet g
quiet_hit fault f g quiet is = record {
  from_device = omega (arith, quiet.from_device, (hit_same fault f g is).source);
  message = quiet.message;
  keeps = quiet.keeps;
  no_poll = quiet.no_poll;
  no_control = quiet.no_control;
  carries = hit_carries quiet.message fault f g quiet.carries is;
}

quiet_answered : (k n : ℕ) (log : List Entry) (t : Trip) (g : Flight) (out : Out) (d e : DeviceState) → 1 ≤ k → t.log ≡ log → IsQuiet g → Takes d g.now out e → LeavesRoles t (d ∷ []) (answered n log k g out) (e ∷ [])
quiet_answered k n log t g (Pass h) d e some same quiet takes = record {
  entries = [];
  log = sym same ∙ sym (append-nil t.log);
  others = refl;
  roles = ap (λ r. r ∷ []) (carried_roles quiet.message d e g.now (Pass h) quiet.carries takes ∙ kept_by quiet.message d.roles quiet.keeps);
  quiet = record {
    from_device = quiet.from_device;
    message = quiet.message;
    keeps = quiet.keeps;
    no_poll = quiet.no_poll;
    no_control = quiet.no_control;
    carries = subst (λ m. Carries m h) (keeps_on quiet.message d.roles quiet.keeps) (carries_on quiet.message d e g.now h quiet.carries takes);
  };
}
quiet_answered k n log t g (Source h) d e some same quiet takes = record {
  entries = ended_at g k ∷ [];
  log = ap (λ log. log ++ ended_at g k ∷ []) (sym same);
  others = and_from (not (g.source == 0)) true (other_source g.source quiet.from_device) refl;
  roles = ap (λ r. r ∷ []) (carried_roles quiet.message d e g.now (Source h) quiet.carries takes ∙ kept_by quiet.message d.roles quiet.keeps);
  quiet = sent_quiet k d e g.now h some takes;
}

quiet_past : (plan : List Planned) (k : ℕ) (t u : Trip) (d e : DeviceState) → 1 ≤ k → AreQuiet t.flight → Passage Takes plan k t d u e → LeavesRoles t (d ∷ []) u (e ∷ [])
quiet_past plan k t u d e some quiet passage =
    let its : (f : Flight) → t.flight ≡ Some f → IsQuiet f = λ f is. subst AreQuiet is quiet in
    past_party Takes plan k t d (λ u e. LeavesRoles t (d ∷ []) u (e ∷ []))
    (λ is. record { entries = []; log = sym (append-nil t.log); others = refl; roles = refl; quiet = quiet })
    (λ f is gone. record { entries = lost_at f k ∷ []; log = refl; others = and_from (not (f.source == 0)) true (other_source f.source (its f is).from_device) refl; roles = refl; quiet = tt })
    (λ f g out e is came takes. quiet_answered k (risen t.crossings) t.log t g out d e some refl (quiet_hit (next_fault plan t.crossings) f g (its f is) came) takes) u e passage

-- after a device that sent a frame, and if the frame was lost, the roles stay
pub leaves_roles : (plan : List Planned) (k : ℕ) (t u : Trip) (ds es : List DeviceState) → 1 ≤ k → AreQuiet t.flight → Journey plan k t ds u es → LeavesRoles t ds u es
leaves_roles plan k t u [] [] some quiet journey = subst (λ u. LeavesRoles t [] u []) (sym journey) (leaves_none t quiet)
leaves_roles plan k t u (d ∷ ds) (e ∷ es) some quiet journey =
    let one = quiet_past plan k t journey.0 d e some quiet journey.1 in
    leaves_append t journey.0 u d e ds es one (leaves_roles plan (k + 1) journey.0 u ds es (omega arith) one.quiet journey.2)
leaves_roles plan k t u [] (e ∷ es) some quiet journey = absurd journey
leaves_roles plan k t u (d ∷ ds) [] some quiet journey = absurd journey
