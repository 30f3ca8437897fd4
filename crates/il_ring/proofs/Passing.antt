-- Which frame goes on after a device, and what it does to roles.
use Rattle.std.proofs.Common.{◌≡◌, ◌≤◌, ◌+◌, ◌==◌, inl, inr, ⊎_elim, ℕ, suc, Bool, true, false, Option, Some, None, refl, sym, ap, ◌∙◌, arith, nat_le}
use Rattle.std.specs.Prelude.{if◌then◌else◌}
use Rattle.std.proofs.lemmas.Bool.{and_parts, eq-eqb, ne_eqb, leb-true}
use Rattle.std.proofs.Math.Nat.{eq-or-lt_of_le}
use Rattle.il_frames.specs.declared.frame.Class.{Class}
use Rattle.il_frames.specs.declared.frame.Class.TheVariants as class
use Rattle.il_frames.specs.declared.frame.Frame.{Frame}
use Rattle.il_frames.specs.declared.message.Message.{Message}
use Rattle.il_frames.specs.declared.message.Message.TheVariants as msg
use Rattle.il_frames.specs.Frames.{byte_of, class_of, framed, is_data}
use Rattle.il_frames.specs.Messages.{message_of}
use Rattle.il_poll.specs.declared.service.Assignment.{Assignment}
use Rattle.il_device.specs.declared.device.Out.{Out}
use Rattle.il_device.specs.declared.device.Out.TheVariants.{Pass}
use Rattle.il_device.specs.declared.interface.Turn.{Turn}
use Rattle.il_device.specs.declared.interface.Turn.TheVariants as turn
use Rattle.il_device.specs.declared.roles.Roles.{Roles}
use Rattle.il_device.specs.Roles.{takes_address}
use Rattle.il_device.specs.Passing.{counted_on, passed, passed_as}
use Rattle.il_device.specs.State.{DeviceState}
use Rattle.il_device.specs.Takes.{Takes, Answers, turn_of}
use Rattle.il_device.proofs.Laws.{roles_after-data, message_of-counted_on}
use Rattle.loop_model.specs.Roles.{roles_by, passed_on, next_address}
use Rattle.loop_model.proofs.RoleSteps.{changes_roles}
use Rattle.il_ring.proofs.Takings.{passed_frame, stays_data, echo_sends}
use Rattle.il_ring.specs.Journeys.{is_exact, is_identify_class, is_identify}

-- ---- a frame that a device passes on

passes_as : (asked : Turn) (d e : DeviceState) (f h : Frame) (out : Out) → Answers asked d f out e → out ≡ Pass h → h ≡ passed d.roles e.assignment e.wants f
passes_as turn.Pass d e f h out passes is = passed_frame h _ (sym is ∙ passes.answer)
passes_as turn.Hear d e f h out passes is = passed_frame h _ (sym is ∙ passes.answer)
passes_as turn.Begin d e f h out (inl passes) is = passed_frame h _ (sym is ∙ passes.answer)
passes_as turn.Begin d e f h out (inr sends) is = let clash = sym is ∙ sends.1.answer in cc
passes_as (turn.Identify id) d e f h out sends is = let clash = sym is ∙ sends.answer in cc
passes_as (turn.Compare own) d e f h out echo is = absurd (echo_sends own out e _ h echo is)

pub passes_on : (d e : DeviceState) (f h : Frame) → Takes d f (Pass h) e → h ≡ passed d.roles e.assignment e.wants f
passes_on d e f h takes = passes_as (turn_of d f) d e f h (Pass h) takes.answer refl

-- ---- messages

-- The frame does what the message does to roles: it is that message, or neither changes any.
pub data Carries (m : Message) (f : Frame) : Type 0 where
  Exactly : is_exact m ≡ true → message_of f ≡ m → Carries m f
  AsData : changes_roles m ≡ false → is_data f ≡ true → Carries m f
  AsIdentify : changes_roles m ≡ false → is_identify f ≡ true → Carries m f

-- the next address, in the frame that counts on
counts_on : (takes : Bool) (a : ℕ) (f : Frame) → (takes ≡ true → a ≤ 30) → message_of f ≡ msg.Aad a → message_of (counted_on takes a f) ≡ (if takes then next_address a else msg.Aad a)
counts_on false a f low is = is
counts_on true a f low is =
    ⊎_elim
    (λ last. ap (λ a. message_of (counted_on true a f)) last ∙ ap (λ test. if test then msg.Iaa else msg.Aad (suc a)) (sym (eq-eqb a 30 last)))
    (λ lt. message_of-counted_on a f lt ∙ (let up : a + 1 ≡ suc a = omega arith in ap msg.Aad up) ∙ ap (λ test. if test then msg.Iaa else msg.Aad (suc a)) (sym (ne_eqb a 30 (λ e. omega (arith, e, lt)))))
    (eq-or-lt_of_le (low refl))

taken_low : (address : Option ℕ) (a : ℕ) → takes_address address a ≡ true → a ≤ 30
taken_low None a e = leb-true a 30 (and_parts (nat_le 1 a) (nat_le a 30) e).1
taken_low (Some b) a e = cc

exact_passed : (r : Roles) (place : Option Assignment) (wants : Bool) (f : Frame) (m : Message) → is_exact m ≡ true → message_of f ≡ m → message_of (passed_as r place wants f m) ≡ passed_on m r
exact_passed r place wants f (msg.Dab b) exact is = cc
exact_passed r place wants f (msg.Dsr b) exact is = cc
exact_passed r place wants f (msg.End b) exact is = cc
exact_passed r place wants f (msg.Esr b) exact is = cc
exact_passed r place wants f (msg.Idy b) exact is = cc
exact_passed r place wants f (msg.Isr b) exact is = cc
exact_passed r place wants f (msg.Aad a) exact is = counts_on (takes_address r.address a) a f (taken_low r.address a) is
exact_passed r place wants f _ exact is = is

exact_on : (m : Message) (r : Roles) → is_exact m ≡ true → is_exact (passed_on m r) ≡ true
exact_on (msg.Aad a) r exact = by_test (takes_address r.address a) (a == 30)
  where
    by_test : (takes last : Bool) → is_exact (if takes then (if last then msg.Iaa else msg.Aad (suc a)) else msg.Aad a) ≡ true
    by_test true true = refl
    by_test true false = refl
    by_test false last = refl
exact_on (msg.Dab b) r exact = cc
exact_on (msg.Dsr b) r exact = cc
exact_on (msg.End b) r exact = cc
exact_on (msg.Esr b) r exact = cc
exact_on (msg.Idy b) r exact = cc
exact_on (msg.Isr b) r exact = cc
exact_on _ r exact = refl

pub keeps_on : (m : Message) (r : Roles) → changes_roles m ≡ false → passed_on m r ≡ m
keeps_on (msg.Aad a) r e = cc
keeps_on _ r e = refl

pub identify_class : (r : Roles) (place : Option Assignment) (wants : Bool) (k : Class) (byte : ℕ) → is_identify_class k ≡ true → is_identify (passed r place wants (framed k byte)) ≡ true
identify_class r place true class.Idy byte e = refl
identify_class r place false class.Idy byte e = refl
identify_class r place true class.Isr byte e = refl
identify_class r place false class.Isr byte e = refl
identify_class r place wants _ byte e = cc

-- after a device the frame carries what the message is there
pub carries_on : (m : Message) (d e : DeviceState) (f h : Frame) → Carries m f → Takes d f (Pass h) e → Carries (passed_on m d.roles) h
carries_on m d e f h (Exactly exact is) takes =
    let on = passes_on d e f h takes in
    Exactly (exact_on m d.roles exact) (ap message_of on ∙ ap (λ m. message_of (passed_as d.roles e.assignment e.wants f m)) is ∙ exact_passed d.roles e.assignment e.wants f m exact is)
carries_on m d e f h (AsData keeps is) takes = AsData (ap changes_roles (keeps_on m d.roles keeps) ∙ keeps) (stays_data d.own d e f h (Pass h) refl is takes refl)
carries_on m d e f h (AsIdentify keeps is) takes =
    AsIdentify (ap changes_roles (keeps_on m d.roles keeps) ∙ keeps) (ap is_identify (passes_on d e f h takes) ∙ identify_class d.roles e.assignment e.wants (class_of f) (byte_of f) is)

pub kept_by : (m : Message) (r : Roles) → changes_roles m ≡ false → roles_by m r ≡ r
kept_by msg.Ifc r e = cc
kept_by msg.Aau r e = cc
kept_by (msg.Aad a) r e = cc
kept_by (msg.Tad a) r e = cc
kept_by (msg.Lad a) r e = cc
kept_by msg.Unl r e = cc
kept_by msg.Unt r e = cc
kept_by m r e = refl

identify_keeps : (k : Class) (byte : ℕ) (r : Roles) → is_identify_class k ≡ true → roles_by (message_of (framed k byte)) r ≡ r
identify_keeps class.Idy byte r e = refl
identify_keeps class.Isr byte r e = refl
identify_keeps _ byte r e = cc

-- and a device's roles become what the message makes of them
pub carried_roles : (m : Message) (d e : DeviceState) (f : Frame) (out : Out) → Carries m f → Takes d f out e → e.roles ≡ roles_by m d.roles
carried_roles m d e f out (Exactly exact is) takes = takes.roles ∙ ap (λ m. roles_by m d.roles) is
carried_roles m d e f out (AsData keeps is) takes = takes.roles ∙ roles_after-data d.roles f is ∙ sym (kept_by m d.roles keeps)
carried_roles m d e f out (AsIdentify keeps is) takes = takes.roles ∙ identify_keeps (class_of f) (byte_of f) d.roles is ∙ sym (kept_by m d.roles keeps)
