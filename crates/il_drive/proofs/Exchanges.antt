-- What the messages of an exchange do to the drive where they neither read nor write a record nor begin to send: one
-- function of what the drive stands at. A drive at rest between two exchanges.
use Rattle.std.proofs.Common.{◌≡◌, ℕ, Bool, true, false, List, [], ◌∷◌, ◌++◌, map, refl, ap, subst, ◌∙◌}
use Rattle.std.specs.Prelude.{Option, Some, None, ◌&&◌, ◌==◌, if◌then◌else◌}
use Rattle.std.proofs.lemmas.Bool.{and_parts}
use Rattle.il_ports.specs.Media.{MediumView}
use Rattle.il_frames.specs.declared.frame.Frame.{Frame}
use Rattle.il_frames.specs.declared.message.Message.{Message}
use Rattle.il_frames.specs.declared.message.Message.TheVariants as msg
use Rattle.il_frames.specs.Messages.{message_of}
use Rattle.il_poll.specs.Service.{agree, wants_service}
use Rattle.il_device.specs.declared.device.Out.{Out}
use Rattle.il_device.specs.declared.device.Out.TheVariants.{Pass}
use Rattle.il_device.specs.declared.interface.OwnFrame.{OwnFrame}
use Rattle.il_device.specs.declared.interface.Turn.{Turn}
use Rattle.il_device.specs.declared.interface.Turn.TheVariants as turn
use Rattle.il_device.specs.declared.roles.Roles.{Roles}
use Rattle.il_device.specs.Roles.{roles_after, own_after}
use Rattle.il_device.specs.Passing.{passed_as, is_plain}
use Rattle.il_device.specs.Takes.{turn_at, turn_at_data, turn_at_start, asked_for_id}
use Rattle.il_device.proofs.Laws.{passed_as-plain}
use Rattle.il_drive.specs.declared.commands.ListenerCommand.{ListenerCommand}
use Rattle.il_drive.specs.declared.commands.ListenerCommand.TheVariants as ddl
use Rattle.il_drive.specs.declared.commands.TalkerCommand.{TalkerCommand}
use Rattle.il_drive.specs.declared.commands.TalkerCommand.TheVariants as ddt
use Rattle.il_drive.specs.declared.mode.Mode.{Mode}
use Rattle.il_drive.specs.declared.mode.Mode.TheVariants as mode
use Rattle.il_drive.specs.declared.mode.Start.{Start}
use Rattle.il_drive.specs.Commands.{listener_command, talker_command}
use Rattle.il_drive.specs.State.{DriveState, DriveView, status_of}
use Rattle.il_drive.specs.Steps.{Step, Now, then_by, Did}
use Rattle.il_drive.specs.Table as table
use Rattle.il_drive.specs.Runs.{Ran}

-- ---- what a drive stands at

-- all of its state but counts, accessory ID and the place in a poll
pub record Stance : Type 0 where
  pub roles : Roles
  pub own : Option OwnFrame
  pub status : ℕ
  pub buffer_0 : List ℕ
  pub buffer_1 : List ℕ
  pub pointer : ℕ
  pub position : ℕ
  pub filled : Bool
  pub mode : Mode
  pub begun : Start

abbrev pub stance_of : DriveState → Stance
stance_of s = record {
  roles = s.interface.roles;
  own = s.interface.own;
  status = status_of s;
  buffer_0 = s.buffer_0;
  buffer_1 = s.buffer_1;
  pointer = s.pointer;
  position = s.position;
  filled = s.filled;
  mode = s.mode;
  begun = s.begun;
}

abbrev pub in_mode : Mode → Stance → Stance
in_mode m σ = record σ { mode = m }

abbrev pub resting : Stance → Stance
resting σ = in_mode mode.Rest σ

-- ---- DDL and DDT without the medium

abbrev pub is_quiet_command : Option ListenerCommand → Bool
is_quiet_command (Some ddl.PartialWrite) = false
is_quiet_command (Some ddl.CloseRecord) = false
is_quiet_command _ = true

abbrev pub by_listener_command : Option ListenerCommand → Stance → Stance
by_listener_command None σ = σ
by_listener_command (Some ddl.FillBuffer0) σ = in_mode mode.FillBuffer0 σ
by_listener_command (Some ddl.FillBuffer1) σ = in_mode mode.FillBuffer1 σ
by_listener_command (Some ddl.Write) σ = if σ.status == 0 then record σ { mode = mode.Write; pointer = 0; filled = false } else resting σ
by_listener_command (Some ddl.SetPointer) σ = in_mode mode.SetPointer σ
by_listener_command (Some ddl.Seek) σ = in_mode mode.SeekHigh σ
by_listener_command (Some ddl.PartialWrite) σ = σ
by_listener_command (Some ddl.Rewind) σ = record σ { mode = mode.Rest; position = 0 }
by_listener_command (Some ddl.CloseRecord) σ = σ
by_listener_command (Some ddl.CopyBuffer) σ = record σ { mode = mode.Rest; buffer_1 = σ.buffer_0 }

abbrev pub by_talker_command : Option TalkerCommand → Stance → Stance
by_talker_command None σ = σ
by_talker_command (Some ddt.SendBuffer0) σ = in_mode mode.SendBuffer0 σ
by_talker_command (Some ddt.SendBuffer1) σ = in_mode mode.SendBuffer1 σ
by_talker_command (Some ddt.Read) σ = if σ.status == 0 then record σ { mode = mode.Read; pointer = 0 } else resting σ
by_talker_command (Some ddt.SendPosition) σ = in_mode mode.PositionHigh σ
by_talker_command (Some ddt.ExchangeBuffers) σ = record σ { mode = mode.Rest; buffer_0 = σ.buffer_1; buffer_1 = σ.buffer_0 }

-- ---- messages

abbrev pub cleared : Stance → Stance
cleared σ = record σ { mode = mode.Rest; status = 0; pointer = 0; filled = false }

abbrev pub resting_if_changed : Roles → Stance → Stance
resting_if_changed r σ = if agree r.talks σ.roles.talks && agree r.listens σ.roles.listens then σ else resting σ

-- what a message does beyond roles and own frame; as it came the roles were r
abbrev pub effect_of : Message → Roles → Stance → Stance
effect_of msg.Ifc r σ = resting σ
effect_of msg.Aau r σ = resting σ
effect_of (msg.Tad a) r σ = resting_if_changed r σ
effect_of msg.Unt r σ = resting_if_changed r σ
effect_of (msg.Lad a) r σ = resting_if_changed r σ
effect_of msg.Unl r σ = resting_if_changed r σ
effect_of msg.Sdc r σ = if r.listens then cleared σ else σ
effect_of msg.Dcl r σ = cleared σ
effect_of (msg.Ddl k) r σ = if r.listens then by_listener_command (listener_command k) σ else σ
effect_of (msg.Ddt k) r σ = if r.talks then by_talker_command (talker_command k) σ else σ
effect_of _ r σ = σ

abbrev pub entered : Message → Stance → Stance
entered m σ = record σ { roles = roles_after σ.roles m; own = own_after σ.roles σ.own m }

abbrev pub stance_after : Message → Stance → Stance
stance_after m σ = effect_of m σ.roles (entered m σ)

-- the message asks for nothing but that: no data that are compared or heard, no start message to a talker, no command
-- that may read or write a record
abbrev pub is_passed : Option OwnFrame → Bool → Bool
is_passed None false = true
is_passed _ _ = false

abbrev pub is_quiet : Message → Stance → Bool
is_quiet (msg.Dab b) σ = is_passed σ.own σ.roles.listens
is_quiet (msg.Dsr b) σ = is_passed σ.own σ.roles.listens
is_quiet (msg.End b) σ = is_passed σ.own σ.roles.listens
is_quiet (msg.Esr b) σ = is_passed σ.own σ.roles.listens
is_quiet msg.Sda σ = is_passed None σ.roles.talks
is_quiet msg.Sst σ = is_passed None σ.roles.talks
is_quiet msg.Sdi σ = is_passed None σ.roles.talks
is_quiet msg.Sai σ = is_passed None σ.roles.talks
is_quiet (msg.Ddl k) σ = if σ.roles.listens then is_quiet_command (listener_command k) else true
is_quiet _ σ = true

abbrev pub stance_all : List Message → Stance → Stance
stance_all [] σ = σ
stance_all (m ∷ ms) σ = stance_all ms (stance_after m σ)

abbrev pub are_quiet : List Message → Stance → Bool
are_quiet [] σ = true
are_quiet (m ∷ ms) σ = is_quiet m σ && are_quiet ms (stance_after m σ)

-- each frame says its message
abbrev pub Say : List Frame → List Message → Type 0
Say [] [] = Unit {0}
Say (f ∷ fs) (m ∷ ms) = (message_of f ≡ m) × Say fs ms
Say _ _ = ⊥

-- plain messages go on as they came
abbrev pub GoOn : List Message → List Frame → List Out → Type 0
GoOn [] [] [] = Unit {0}
GoOn (m ∷ ms) (f ∷ fs) (out ∷ outs) = (is_plain m ≡ true → out ≡ Pass f) × GoOn ms fs outs
GoOn _ _ _ = ⊥

abbrev pub are_plain : List Message → Bool
are_plain [] = true
are_plain (m ∷ ms) = is_plain m && are_plain ms

pub all_pass : (ms : List Message) (fs : List Frame) (outs : List Out) → are_plain ms ≡ true → GoOn ms fs outs → outs ≡ map (λ (f : Frame). Pass f) fs
all_pass [] [] [] plain go = refl
all_pass [] [] (out ∷ outs) plain go = absurd go
all_pass [] (f ∷ fs) outs plain go = absurd go
all_pass (m ∷ ms) [] outs plain go = absurd go
all_pass (m ∷ ms) (f ∷ fs) [] plain go = absurd go
all_pass (m ∷ ms) (f ∷ fs) (out ∷ outs) plain go =
    let both = and_parts (is_plain m) (are_plain ms) plain in
    λ i. go.0 both.0 i ∷ all_pass ms fs outs both.1 go.1 i

-- ---- one message

data_passes : (own : Option OwnFrame) (listens : Bool) → is_passed own listens ≡ true → turn_at_data own listens ≡ turn.Pass
data_passes None true h = cc
data_passes None false h = refl
data_passes (Some own) listens h = cc

start_passes : (own : Option OwnFrame) (talks : Bool) (asked : Turn) → is_passed None talks ≡ true → turn_at_start own talks asked ≡ turn.Pass
start_passes None true asked h = cc
start_passes None false asked h = refl
start_passes (Some own) talks asked h = refl

quiet_turn : (accessory : Option ℕ) (m : Message) (σ : Stance) → is_quiet m σ ≡ true → turn_at σ.roles σ.own accessory m ≡ turn.Pass
quiet_turn accessory (msg.Dab b) σ h = data_passes σ.own σ.roles.listens h
quiet_turn accessory (msg.Dsr b) σ h = data_passes σ.own σ.roles.listens h
quiet_turn accessory (msg.End b) σ h = data_passes σ.own σ.roles.listens h
quiet_turn accessory (msg.Esr b) σ h = data_passes σ.own σ.roles.listens h
quiet_turn accessory msg.Sda σ h = start_passes σ.own σ.roles.talks turn.Begin h
quiet_turn accessory msg.Sst σ h = start_passes σ.own σ.roles.talks turn.Begin h
quiet_turn accessory msg.Sdi σ h = start_passes σ.own σ.roles.talks turn.Begin h
quiet_turn accessory msg.Sai σ h = start_passes σ.own σ.roles.talks (asked_for_id accessory) h
quiet_turn accessory _ σ h = refl

-- the step comes at once to a state that stands so
abbrev pub ComesTo : Step DriveState → Stance → Type 0
ComesTo step σ = (t : DriveState) × (step ≡ Now t) × (stance_of t ≡ σ)

written_by : (b : Bool) (s : DriveState) → ComesTo (Now (if b then table.in_mode mode.Write (table.emptied s) else table.at_rest s))
    (if b then record (stance_of s) { mode = mode.Write; pointer = 0; filled = false } else resting (stance_of s))
written_by true s = (_, refl, refl)
written_by false s = (_, refl, refl)

listened_quiet : (command : Option ListenerCommand) (n : ℕ) (s : DriveState) → is_quiet_command command ≡ true → ComesTo (table.listened_to command n s) (by_listener_command command (stance_of s))
listened_quiet None n s h = (_, refl, refl)
listened_quiet (Some ddl.FillBuffer0) n s h = (_, refl, refl)
listened_quiet (Some ddl.FillBuffer1) n s h = (_, refl, refl)
listened_quiet (Some ddl.Write) n s h = written_by (status_of s == 0) s
listened_quiet (Some ddl.SetPointer) n s h = (_, refl, refl)
listened_quiet (Some ddl.Seek) n s h = (_, refl, refl)
listened_quiet (Some ddl.PartialWrite) n s h = cc
listened_quiet (Some ddl.Rewind) n s h = (_, refl, refl)
listened_quiet (Some ddl.CloseRecord) n s h = cc
listened_quiet (Some ddl.CopyBuffer) n s h = (_, refl, refl)

read_by : (b : Bool) (s : DriveState) → stance_of (if b then table.in_mode mode.Read (record s { pointer = 0 }) else table.at_rest s) ≡ (if b then record (stance_of s) { mode = mode.Read; pointer = 0 } else resting (stance_of s))
read_by true s = refl
read_by false s = refl

talked_quiet : (command : Option TalkerCommand) (s : DriveState) → stance_of (table.talked_by command s) ≡ by_talker_command command (stance_of s)
talked_quiet None s = refl
talked_quiet (Some ddt.SendBuffer0) s = refl
talked_quiet (Some ddt.SendBuffer1) s = refl
talked_quiet (Some ddt.Read) s = read_by (status_of s == 0) s
talked_quiet (Some ddt.SendPosition) s = refl
talked_quiet (Some ddt.ExchangeBuffers) s = refl

changed_by : (b : Bool) (s : DriveState) → stance_of (if b then s else table.at_rest s) ≡ (if b then stance_of s else resting (stance_of s))
changed_by true s = refl
changed_by false s = refl

cleared_by : (b : Bool) (s : DriveState) → stance_of (if b then table.cleared s else s) ≡ (if b then cleared (stance_of s) else stance_of s)
cleared_by true s = refl
cleared_by false s = refl

told_by : (b : Bool) (command : Option TalkerCommand) (s : DriveState) → stance_of (if b then table.talked_by command s else s) ≡ (if b then by_talker_command command (stance_of s) else stance_of s)
told_by true command s = talked_quiet command s
told_by false command s = refl

asked_by : (b : Bool) (command : Option ListenerCommand) (n : ℕ) (s : DriveState) → (if b then is_quiet_command command else true) ≡ true
    → ComesTo (if b then table.listened_to command n s else Now s) (if b then by_listener_command command (stance_of s) else stance_of s)
asked_by true command n s h = listened_quiet command n s h
asked_by false command n s h = (s, refl, refl)

obeyed_quiet : (m : Message) (n : ℕ) (r : Roles) (σ : Stance) (s : DriveState) → r ≡ σ.roles → is_quiet m σ ≡ true → ComesTo (table.obeyed m n r s) (effect_of m r (stance_of s))
obeyed_quiet msg.Ifc n r σ s e h = (_, refl, refl)
obeyed_quiet msg.Aau n r σ s e h = (_, refl, refl)
obeyed_quiet (msg.Tad a) n r σ s e h = (_, refl, changed_by _ s)
obeyed_quiet msg.Unt n r σ s e h = (_, refl, changed_by _ s)
obeyed_quiet (msg.Lad a) n r σ s e h = (_, refl, changed_by _ s)
obeyed_quiet msg.Unl n r σ s e h = (_, refl, changed_by _ s)
obeyed_quiet msg.Sdc n r σ s e h = (_, refl, cleared_by r.listens s)
obeyed_quiet msg.Dcl n r σ s e h = (_, refl, refl)
obeyed_quiet (msg.Ddl k) n r σ s e h = asked_by r.listens (listener_command k) n s (ap (λ (r : Roles). if r.listens then is_quiet_command (listener_command k) else true) e ∙ h)
obeyed_quiet (msg.Ddt k) n r σ s e h = (_, refl, told_by r.talks (talker_command k) s)
obeyed_quiet _ n r σ s e h = (s, refl, refl)

-- a quiet message leads at once to where its effect says, and goes on
pub step_quiet : (n : ℕ) (s : DriveState) (f : Frame) (m : Message) → message_of f ≡ m → is_quiet m (stance_of s) ≡ true
    → (t : DriveState) × (table.drive_step n s f ≡ Now (table.passes s.interface.roles f t)) × (stance_of t ≡ stance_after m (stance_of s))
step_quiet n s f m is h =
    let i = s.interface in
    let r = i.roles in
    let u = table.behind_effect f s in
    let passes : turn_at r i.own i.accessory (message_of f) ≡ turn.Pass = ap (turn_at r i.own i.accessory) is ∙ quiet_turn i.accessory m (stance_of s) h in
    let obeys = obeyed_quiet m n r (stance_of s) u refl h in (
      obeys.0,
      ap (λ asked. table.answered asked n r f u) passes ∙ ap (λ m. then_by (table.passes r f) (table.obeyed m n r u)) is ∙ ap (then_by (table.passes r f)) obeys.1,
      obeys.2 ∙ ap (λ n. effect_of m r (entered n (stance_of s))) is,
    )

-- ---- many

module _ {M : Type 0} (view : M → MediumView) where
  -- The frames led by their effects to where the drive stands, and the medium is as before.
  pub record WentBy (ms : List Message) (fs : List Frame) (outs : List Out) (v w : DriveView M) : Type 0 where
    pub stance : stance_of w.state ≡ stance_all ms (stance_of v.state)
    pub medium : w.medium ≡ v.medium
    pub answers : GoOn ms fs outs

  pub goes_by : (ms : List Message) (fs : List Frame) (outs : List Out) (v w : DriveView M) → Say fs ms → are_quiet ms (stance_of v.state) ≡ true → Ran view v fs outs w → WentBy ms fs outs v w
  goes_by [] [] [] v w say quiet ran = record { stance = ap (λ (v : DriveView M). stance_of v.state) ran; medium = ap (λ (v : DriveView M). v.medium) ran; answers = tt }
  goes_by [] [] (out ∷ outs) v w say quiet ran = absurd ran
  goes_by [] (f ∷ fs) outs v w say quiet ran = absurd say
  goes_by (m ∷ ms) [] outs v w say quiet ran = absurd say
  goes_by (m ∷ ms) (f ∷ fs) [] v w say quiet ran = absurd ran
  goes_by (m ∷ ms) (f ∷ fs) (out ∷ outs) v w say quiet ran =
      let s = v.state in
      let u = ran.0 in
      let both = and_parts (is_quiet m (stance_of s)) (are_quiet ms (stance_after m (stance_of s))) quiet in
      let step = step_quiet (view v.medium).record_count s f m say.0 both.0 in
      let did : Did view (Now (table.passes s.interface.roles f step.0)) (u.state, out) v.medium u.medium = subst (λ step. Did view step (u.state, out) v.medium u.medium) step.1 ran.1 in
      let stands : stance_of u.state ≡ stance_after m (stance_of s) = ap (λ x. stance_of x.0) did.0 ∙ step.2 in
      let more = goes_by ms fs outs u w say.1 (ap (are_quiet ms) stands ∙ both.1) ran.2 in
      record {
        stance = more.stance ∙ ap (stance_all ms) stands;
        medium = more.medium ∙ did.1;
        answers = (λ plain. ap (λ x. x.1) did.0 ∙ ap (λ f. Pass f) (ap (λ m. passed_as s.interface.roles step.0.interface.service.assignment (wants_service (status_of step.0)) f m) say.0 ∙ passed_as-plain s.interface.roles _ _ f m plain), more.answers);
      }

  -- ---- a run in its two parts

  pub record Parted (fs gs : List Frame) (outs : List Out) (v w : DriveView M) : Type 0 where
    pub first : List Out
    pub more : List Out
    pub middle : DriveView M
    pub answers : outs ≡ first ++ more
    pub before : Ran view v fs first middle
    pub behind : Ran view middle gs more w

  pub parts : (fs gs : List Frame) (outs : List Out) (v w : DriveView M) → Ran view v (fs ++ gs) outs w → Parted fs gs outs v w
  parts [] gs outs v w ran = record { first = []; more = outs; middle = v; answers = refl; before = refl; behind = ran }
  parts (f ∷ fs) gs [] v w ran = absurd ran
  parts (f ∷ fs) gs (out ∷ outs) v w ran =
      let rest = parts fs gs outs ran.0 w ran.2 in
      record { first = out ∷ rest.first; more = rest.more; middle = rest.middle; answers = ap (λ outs. out ∷ outs) rest.answers; before = (ran.0, ran.1, rest.before); behind = rest.behind }
