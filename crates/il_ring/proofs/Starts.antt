-- A start message goes past devices without own frames on the loop: the talker may take it, and send a data frame in its
-- place; every other device passes it on.
use Rattle.std.proofs.Common.{◌≡◌, ◌⊎◌, inl, inr, ℕ, Bool, true, false, Option, Some, None, refl, sym, ap, subst, ◌∙◌}
use Rattle.il_frames.specs.declared.frame.Frame.{Frame}
use Rattle.il_frames.specs.declared.message.Message.{Message}
use Rattle.il_frames.specs.declared.message.Message.TheVariants as msg
use Rattle.il_frames.specs.Frames.{is_data}
use Rattle.il_frames.specs.Messages.{message_of}
use Rattle.il_device.specs.declared.device.Out.{Out}
use Rattle.il_device.specs.declared.device.Out.TheVariants.{Pass, Source}
use Rattle.il_device.specs.declared.interface.OwnFrame.{OwnFrame}
use Rattle.il_device.specs.declared.interface.Turn.{Turn}
use Rattle.il_device.specs.declared.interface.Turn.TheVariants as turn
use Rattle.il_device.specs.State.{DeviceState}
use Rattle.il_device.specs.Takes.{Takes, Answers, Sends, turn_of, turn_at, turn_at_start, asked_for_id, identity}
use Rattle.il_device.specs.Roles.{is_start}
use Rattle.il_device.proofs.Laws.{roles_after-start}
use Rattle.il_ring.specs.Outcomes.{LetsPass}
use Rattle.il_ring.proofs.PassKinds.{obeys, begun_obeys, goes_as, start_as}

-- ---- one device

-- it took it, and sent a data frame, which is its own frame on the loop: to SAI its accessory ID
pub record SendsFirst (f : Frame) (d e : DeviceState) (h : Frame) : Type 0 where
  pub talks : d.roles.talks ≡ true
  pub roles : e.roles ≡ d.roles
  pub own : OwnFrame
  pub on_loop : e.own ≡ Some own
  pub frame : own.frame ≡ h
  pub runs : own.stopped ≡ false
  pub id : message_of f ≡ msg.Sai → (n : ℕ) × (d.accessory ≡ Some n) × (own ≡ identity n)
  pub data_frame : is_data h ≡ true

abbrev pub StartAnswer : Frame → DeviceState → Out → DeviceState → Type 0
StartAnswer f d out e = ((out ≡ Pass f) × LetsPass f d e) ⊎ ((h : Frame) × (out ≡ Source h) × SendsFirst f d e h)

lets_pass : (d e : DeviceState) (f : Frame) (out : Out) → is_start (message_of f) ≡ true → turn_of d f ≡ turn.Pass → (message_of f ≡ msg.Sai → d.roles.talks ≡ true → d.accessory ≡ None) → Takes d f out e → StartAnswer f d out e
lets_pass d e f out start asked no_id takes = inl (
  goes_as d e f out asked takes ∙ ap (λ g. Pass g) (start_as d e f (message_of f) start),
  record {
    obeyed = obeys d e f out asked takes;
    roles = takes.roles ∙ roles_after-start d.roles (message_of f) start;
    no_id = no_id;
  },
)

sends_first : (d e : DeviceState) (f : Frame) (out : Out) (own : OwnFrame) → is_start (message_of f) ≡ true → d.roles.talks ≡ true → (message_of f ≡ msg.Sai → (n : ℕ) × (d.accessory ≡ Some n) × (own ≡ identity n)) → Sends own out e → Takes d f out e → StartAnswer f d out e
sends_first d e f out own start talks id sends takes = inr (
  own.frame,
  sends.answer,
  record {
    talks = talks;
    roles = takes.roles ∙ roles_after-start d.roles (message_of f) start;
    own = own;
    on_loop = sends.on_loop;
    frame = refl;
    runs = sends.runs;
    id = id;
    data_frame = sends.is_data;
  },
)

-- what is asked where the accessory ID is
no_begin : (id : Option ℕ) → asked_for_id id ≡ turn.Begin → ⊥
no_begin None is = cc
no_begin (Some id) is = cc

none_asked : (id : Option ℕ) → asked_for_id id ≡ turn.Pass → id ≡ None
none_asked None is = refl
none_asked (Some id) is = cc

one_asked : (id : Option ℕ) (n : ℕ) → asked_for_id id ≡ turn.Identify n → id ≡ Some n
one_asked None n is = cc
one_asked (Some id) n is = cc

by_turn : (d e : DeviceState) (f : Frame) (out : Out) (asked : Turn) (talks : Bool) → is_start (message_of f) ≡ true → d.roles.talks ≡ talks → (asked ≡ turn.Begin) ⊎ ((asked ≡ turn.Pass) ⊎ ((id : ℕ) × (asked ≡ turn.Identify id)))
    → (message_of f ≡ msg.Sai → asked_for_id d.accessory ≡ asked) → turn_of d f ≡ turn_at_start None talks asked → Takes d f out e → StartAnswer f d out e
by_turn d e f out asked false start talks which ids turn_is takes = lets_pass d e f out start turn_is (λ sai talking. let clash = sym talks ∙ talking in cc) takes
by_turn d e f out asked true start talks (inl begins) ids turn_is takes =
    let answer : Answers turn.Begin d f out e = subst (λ u. Answers u d f out e) (turn_is ∙ begins) takes.answer in
    begun answer
  where
    no_sai : message_of f ≡ msg.Sai → ⊥
    no_sai sai = no_begin d.accessory (ids sai ∙ begins)

    begun : Answers turn.Begin d f out e → StartAnswer f d out e
    begun (inl passes) = inl (
      passes.answer ∙ ap (λ g. Pass g) (start_as d e f (message_of f) start),
      record {
        obeyed = begun_obeys d e f out begins_is takes passes.still_own;
        roles = takes.roles ∙ roles_after-start d.roles (message_of f) start;
        no_id = λ sai talking. absurd (no_sai sai);
      },
    )
      where
        begins_is : turn_of d f ≡ turn.Begin
        begins_is = turn_is ∙ begins
    begun (inr sends) = sends_first d e f out sends.0 start talks (λ sai. absurd (no_sai sai)) sends.1 takes
by_turn d e f out asked true start talks (inr (inl none)) ids turn_is takes = lets_pass d e f out start (turn_is ∙ none) (λ sai talking. none_asked d.accessory (ids sai ∙ none)) takes
by_turn d e f out asked true start talks (inr (inr identifies)) ids turn_is takes =
    let answer : Answers (turn.Identify identifies.0) d f out e = subst (λ u. Answers u d f out e) (turn_is ∙ identifies.1) takes.answer in
    sends_first d e f out (identity identifies.0) start talks (λ sai. (identifies.0, one_asked d.accessory identifies.0 (ids sai ∙ identifies.1), refl)) answer takes

asked_which : (id : Option ℕ) → (asked_for_id id ≡ turn.Begin) ⊎ ((asked_for_id id ≡ turn.Pass) ⊎ ((n : ℕ) × (asked_for_id id ≡ turn.Identify n)))
asked_which None = inr (inl refl)
asked_which (Some id) = inr (inr (id, refl))

start_message : (d e : DeviceState) (f : Frame) (out : Out) (m : Message) → message_of f ≡ m → is_start m ≡ true → d.own ≡ None → Takes d f out e → StartAnswer f d out e
start_message d e f out msg.Sda is start own takes = by_turn d e f out turn.Begin d.roles.talks (ap is_start is) refl (inl refl) (λ sai. let clash = sym is ∙ sai in cc) (ap (turn_at d.roles d.own d.accessory) is ∙ ap (λ own. turn_at_start own d.roles.talks turn.Begin) own) takes
start_message d e f out msg.Sst is start own takes = by_turn d e f out turn.Begin d.roles.talks (ap is_start is) refl (inl refl) (λ sai. let clash = sym is ∙ sai in cc) (ap (turn_at d.roles d.own d.accessory) is ∙ ap (λ own. turn_at_start own d.roles.talks turn.Begin) own) takes
start_message d e f out msg.Sdi is start own takes = by_turn d e f out turn.Begin d.roles.talks (ap is_start is) refl (inl refl) (λ sai. let clash = sym is ∙ sai in cc) (ap (turn_at d.roles d.own d.accessory) is ∙ ap (λ own. turn_at_start own d.roles.talks turn.Begin) own) takes
start_message d e f out msg.Sai is start own takes =
    by_turn d e f out (asked_for_id d.accessory) d.roles.talks (ap is_start is) refl (asked_which d.accessory) (λ sai. refl) (ap (turn_at d.roles d.own d.accessory) is ∙ ap (λ own. turn_at_start own d.roles.talks (asked_for_id d.accessory)) own) takes
start_message d e f out _ is start own takes = cc

pub start_answer : (d e : DeviceState) (f : Frame) (out : Out) → is_start (message_of f) ≡ true → d.own ≡ None → Takes d f out e → StartAnswer f d out e
start_answer d e f out start own takes = start_message d e f out (message_of f) refl start own takes
