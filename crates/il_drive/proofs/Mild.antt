-- Frames that ask nothing of the drive but its name, or nothing but its status: they leave its medium, also where they
-- break off, and its status, which may be told and then 0 where they ask for it.
pub use Rattle.il_drive.specs.Resting.{IsMildFor, OneByte}
use Rattle.std.proofs.Common.{◌≡◌, ◌∙◌, ◌⊎◌, inl, inr, ℕ, Bool, true, false, List, [], ◌∷◌, Option, Some, None, refl, sym, ap, subst}
use Rattle.std.specs.Prelude.{◌&&◌, ◌||◌, if◌then◌else◌}
use Rattle.std.proofs.lemmas.Bool.{and_parts}
use Rattle.il_frames.specs.declared.frame.Frame.{Frame}
use Rattle.il_frames.specs.declared.message.Message.{Message}
use Rattle.il_frames.specs.declared.message.Message.TheVariants as msg
use Rattle.il_frames.specs.declared.frame.Class.TheVariants as class
use Rattle.il_frames.specs.Frames.{byte_of, framed, same_but_service}
use Rattle.il_frames.specs.Messages.{message_of}
use Rattle.il_poll.specs.Service.{agree, status_byte_of}
use Rattle.il_device.specs.declared.device.Out.{Out}
use Rattle.il_device.specs.declared.device.Out.TheVariants.{Pass, Source}
use Rattle.il_device.specs.declared.interface.OwnFrame.{OwnFrame}
use Rattle.il_device.specs.declared.roles.Roles.{Roles}
use Rattle.il_device.specs.Roles.{roles_after, own_after, assignment_after, is_data_message, is_own, takes_address}
use Rattle.il_device.specs.State.{risen}
use Rattle.il_device.specs.Interfaces.{placed, turn_on}
use Rattle.il_device.specs.Takes.{turn_at, count_after, eto, ete, turn_at_data, turn_at_start, asked_for_id}
use Rattle.il_device.specs.declared.interface.Turn.{Turn}
use Rattle.il_device.specs.declared.interface.Turn.TheVariants as turn
use Rattle.il_ports.specs.Media.{MediumView}
use Rattle.il_drive.specs.declared.mode.Mode.{Mode}
use Rattle.il_drive.specs.declared.mode.Mode.TheVariants as mode
use Rattle.il_drive.specs.declared.mode.Start.{Start}
use Rattle.il_drive.specs.declared.mode.Start.TheVariants as start
use Rattle.il_drive.specs.State.{DriveState, DriveView, status_of}
use Rattle.il_drive.specs.Steps.{Step, Now, then_by, Did}
use Rattle.il_drive.specs.Table as table
use Rattle.il_drive.specs.Runs.{Ran}
use Rattle.il_frames.specs.NamedFrames.{ifc, unl}

-- What frames may ask the drive for, `what` below, is named as the start that answers it: its name by SAI, its status
-- by SST.
abbrev pub is_name : Start → Bool
is_name start.Identity = true
is_name start.Status = false
is_name start.Data = false

abbrev pub is_status : Start → Bool
is_status start.Status = true
is_status start.Identity = false
is_status start.Data = false

-- the message neither clears a drive nor asks it for anything but this, nor is a command of a number
abbrev pub is_mild_for : Start → Message → Bool
is_mild_for what msg.Sda = false
is_mild_for what msg.Sst = is_status what
is_mild_for what msg.Sdi = false
is_mild_for what msg.Sai = is_name what
is_mild_for what msg.Sdc = false
is_mild_for what msg.Dcl = false
is_mild_for what (msg.Ddl k) = false
is_mild_for what (msg.Ddt k) = false
is_mild_for what m = true

abbrev pub AllMildFor : Start → List Frame → Type 0
AllMildFor what [] = Unit {0}
AllMildFor what (f ∷ fs) = (is_mild_for what (message_of f) ≡ true) × AllMildFor what fs

-- the status after such frames: as it was, or told and then 0 where they may ask for it
abbrev pub StatusLeft : Start → ℕ → ℕ → Type 0
StatusLeft start.Status old new = (new ≡ old) ⊎ (new ≡ 0)
StatusLeft start.Identity old new = new ≡ old
StatusLeft start.Data old new = new ≡ old

pub left_same : (what : Start) (old new : ℕ) → new ≡ old → StatusLeft what old new
left_same start.Status old new same = inl same
left_same start.Identity old new same = same
left_same start.Data old new same = same

left_then : (what : Start) (old mid new : ℕ) → StatusLeft what old mid → StatusLeft what mid new → StatusLeft what old new
left_then start.Status old mid new (inl same) (inl more) = inl (more ∙ same)
left_then start.Status old mid new (inr none) (inl more) = inr (more ∙ none)
left_then start.Status old mid new first (inr none) = inr none
left_then start.Identity old mid new first more = more ∙ first
left_then start.Data old mid new first more = more ∙ first

-- after the right echo of what was asked for
left_told : (what : Start) (u s : DriveState) → status_of u ≡ status_of s → StatusLeft what (status_of s) (status_of (table.acknowledged what u))
left_told start.Status u s same = inr refl
left_told start.Identity u s same = same
left_told start.Data u s same = same

asks_name : (what : Start) → is_name what ≡ true → start.Identity ≡ what
asks_name start.Identity is = refl
asks_name start.Status is = cc
asks_name start.Data is = cc

asks_status : (what : Start) → is_status what ≡ true → start.Status ≡ what
asks_status start.Status is = refl
asks_status start.Identity is = cc
asks_status start.Data is = cc

-- ---- one message

-- what a message does to every device
abbrev behind : Message → ℕ → DriveState → DriveState
behind m heard s = record s {
  interface = record {
    roles = roles_after s.interface.roles m;
    own = own_after s.interface.roles s.interface.own m;
    service = placed s.interface.service (assignment_after s.interface.roles s.interface.service.assignment m);
    heard_count = heard;
    frames = risen s.interface.frames;
    accessory = s.interface.accessory;
  };
}

told_to_talk : (own : Bool) (r : Roles) (m : Mode) → (r.listens ≡ false) ⊎ (m ≡ mode.Rest) → ((if own then record r { talks = true; listens = false } else record r { talks = false }).listens ≡ false) ⊎ (m ≡ mode.Rest)
told_to_talk true r m deaf = inl refl
told_to_talk false r m deaf = deaf

told_to_listen : (own : Bool) (r : Roles) (m : Mode) → (r.listens ≡ false) ⊎ (m ≡ mode.Rest)
    → (agree r.talks (if own then record r { talks = false; listens = true } else r).talks && agree r.listens (if own then record r { talks = false; listens = true } else r).listens) ≡ true
    → ((if own then record r { talks = false; listens = true } else r).listens ≡ false) ⊎ (m ≡ mode.Rest)
told_to_listen false r m deaf same = deaf
told_to_listen true r m (inr rests) same = inr rests
told_to_listen true r m (inl none) same = let both = and_parts (agree r.talks false) (agree r.listens true) same in let clash : false ≡ true = sym (ap (λ b. agree b true) none) ∙ both.1 in cc

addressed_deaf : (b : Bool) (a : ℕ) (r : Roles) (m : Mode) → (r.listens ≡ false) ⊎ (m ≡ mode.Rest) → ((if b then record r { address = Some a } else r).listens ≡ false) ⊎ (m ≡ mode.Rest)
addressed_deaf true a r m deaf = deaf
addressed_deaf false a r m deaf = deaf

-- whether its roles are as before
abbrev as_before : Message → ℕ → DriveState → Bool
as_before m heard s = agree s.interface.roles.talks (behind m heard s).interface.roles.talks && agree s.interface.roles.listens (behind m heard s).interface.roles.listens

module _ (what : Start) where
  -- the step comes at once to such a drive, of that status
  record ToMild (step : Step DriveState) (s : DriveState) : Type 0 where
    state : DriveState
    is : step ≡ Now state
    status : status_of state ≡ status_of s
    mild : IsMildFor what state

  resting : (u s : DriveState) → OneByte what u.interface.own u.begun u.interface.roles.talks → status_of u ≡ status_of s → ToMild (Now (table.at_rest u)) s
  resting u s sends status = record { state = table.at_rest u; is = refl; status = status; mild = record { deaf = inr refl; sends = sends } }

  as_it_is : (u s : DriveState) → (u.interface.roles.listens ≡ false) ⊎ (u.mode ≡ mode.Rest) → OneByte what u.interface.own u.begun u.interface.roles.talks → status_of u ≡ status_of s → ToMild (Now u) s
  as_it_is u s deaf sends status = record { state = u; is = refl; status = status; mild = record { deaf = deaf; sends = sends } }

  -- a drive that rests if its roles changed
  changed : (b : Bool) (u s : DriveState) → (b ≡ true → (u.interface.roles.listens ≡ false) ⊎ (u.mode ≡ mode.Rest)) → OneByte what u.interface.own u.begun u.interface.roles.talks → status_of u ≡ status_of s → ToMild (Now (if b then u else table.at_rest u)) s
  changed true u s deaf sends status = as_it_is u s (deaf refl) sends status
  changed false u s deaf sends status = resting u s sends status

  sends_listening : (own : Bool) (frame : Option OwnFrame) (by : Start) (r : Roles) → OneByte what frame by r.talks → OneByte what (if own then None else frame) by (if own then record r { talks = false; listens = true } else r).talks
  sends_listening true frame by r sends = tt
  sends_listening false frame by r sends = sends

  sends_stopped : (frame : Option OwnFrame) (by : Start) (talks : Bool) → OneByte what frame by talks → OneByte what (own_after (record { address = None; talks = talks; listens = false }) frame msg.Nrd) by talks
  sends_stopped None by talks sends = tt
  sends_stopped (Some own) by talks sends = sends

  addressed_sends : (b : Bool) (a : ℕ) (r : Roles) (frame : Option OwnFrame) (by : Start) → OneByte what frame by r.talks → OneByte what frame by (if b then record r { address = Some a } else r).talks
  addressed_sends true a r frame by sends = sends
  addressed_sends false a r frame by sends = sends

  obeyed_mild : (m : Message) (n heard : ℕ) (s : DriveState) → is_mild_for what m ≡ true → IsMildFor what s → ToMild (table.obeyed m n s.interface.roles (behind m heard s)) s
  obeyed_mild msg.Ifc n heard s is mild = resting (behind msg.Ifc heard s) s tt refl
  obeyed_mild msg.Aau n heard s is mild = resting (behind msg.Aau heard s) s tt refl
  obeyed_mild (msg.Tad a) n heard s is mild = changed (as_before (msg.Tad a) heard s) (behind (msg.Tad a) heard s) s (λ same. told_to_talk (is_own s.interface.roles.address a) s.interface.roles s.mode mild.deaf) tt refl
  obeyed_mild msg.Unt n heard s is mild = changed (as_before msg.Unt heard s) (behind msg.Unt heard s) s (λ same. mild.deaf) tt refl
  obeyed_mild (msg.Lad a) n heard s is mild =
      changed (as_before (msg.Lad a) heard s) (behind (msg.Lad a) heard s) s (told_to_listen (is_own s.interface.roles.address a) s.interface.roles s.mode mild.deaf) (sends_listening (is_own s.interface.roles.address a) s.interface.own s.begun s.interface.roles mild.sends) refl
  obeyed_mild msg.Unl n heard s is mild = changed (as_before msg.Unl heard s) (behind msg.Unl heard s) s (λ same. inl refl) mild.sends refl
  obeyed_mild (msg.Aad a) n heard s is mild =
      as_it_is (behind (msg.Aad a) heard s) s (addressed_deaf (takes_address s.interface.roles.address a) a s.interface.roles s.mode mild.deaf) (addressed_sends (takes_address s.interface.roles.address a) a s.interface.roles s.interface.own s.begun mild.sends) refl
  obeyed_mild msg.Nrd n heard s is mild = as_it_is (behind msg.Nrd heard s) s mild.deaf (sends_stopped s.interface.own s.begun s.interface.roles.talks mild.sends) refl
  obeyed_mild msg.Sdc n heard s is mild = cc
  obeyed_mild msg.Dcl n heard s is mild = cc
  obeyed_mild (msg.Ddl k) n heard s is mild = cc
  obeyed_mild (msg.Ddt k) n heard s is mild = cc
  obeyed_mild m n heard s is mild = as_it_is (behind m heard s) s mild.deaf mild.sends refl

  -- ---- one frame

  record MildOut (step : Step (DriveState × Out)) (s : DriveState) : Type 0 where
    state : DriveState
    out : Out
    is : step ≡ Now (state, out)
    status : StatusLeft what (status_of s) (status_of state)
    mild : IsMildFor what state

  passes : (m : Message) (n heard : ℕ) (f : Frame) (s : DriveState) → message_of f ≡ m → is_mild_for what m ≡ true → IsMildFor what s → MildOut (table.answered turn.Pass n s.interface.roles f (behind m heard s)) s
  passes m n heard f s says is mild =
      let r = s.interface.roles in
      let to = obeyed_mild m n heard s is mild in
      record {
        state = to.state;
        out = (table.passes r f to.state).1;
        is = ap (λ m₂. then_by (table.passes r f) (table.obeyed m₂ n r (behind m heard s))) says ∙ ap (then_by (table.passes r f)) to.is;
        status = left_same what (status_of s) (status_of to.state) to.status;
        mild = to.mild;
      }

  -- a data or end frame
  heeds : (own : Option OwnFrame) (listens : Bool) (n : ℕ) (r : Roles) (f : Frame) (u s : DriveState) → (u.interface.roles.listens ≡ false) ⊎ (u.mode ≡ mode.Rest) → (listens ≡ true → u.interface.roles.listens ≡ true) → OneByte what own u.begun u.interface.roles.talks
      → u.interface.own ≡ own → status_of u ≡ status_of s → MildOut (table.answered turn.Pass n r f u) s → MildOut (table.answered (turn_at_data own listens) n r f u) s
  heeds None false n r f u s deaf hears sends is status pass = pass
  heeds None true n r f u s (inl none) hears sends is status pass = let clash : false ≡ true = sym none ∙ hears refl in cc
  heeds None true n r f u s (inr rests) hears sends is status pass = record {
    state = u;
    out = (table.passes r f u).1;
    is = ap (λ m. then_by (table.passes r f) (table.heard_in m (byte_of f) n u)) rests;
    status = left_same what (status_of s) (status_of u) status;
    mild = record { deaf = inr rests; sends = subst (λ own. OneByte what own u.begun u.interface.roles.talks) (sym is) tt };
  }
  heeds (Some own) listens n r f u s deaf hears sends is status pass = by (same_but_service own.frame f)
    where
      over : (end : Frame) (v : DriveState) → StatusLeft what (status_of s) (status_of v) → MildOut (Now (table.ends end v)) s
      over end v left = record { state = (table.ends end v).0; out = (table.ends end v).1; is = refl; status = left; mild = record { deaf = inr refl; sends = tt } }

      last : (stopped : Bool) → (stopped || own.last) ≡ true
      last true = refl
      last false = sends.0

      by : (right : Bool) → MildOut (table.compared right own n u) s
      by false = over ete u (left_same what (status_of s) (status_of u) status)
      by true = subst (λ step. MildOut step s) (sym (ap (λ b. table.went_on b n u) (last own.stopped) ∙ ap (λ b. Now (table.ends eto (table.acknowledged b u))) sends.1)) (over eto (table.acknowledged what u) (left_told what u s status))

  -- a start message: to a talker that sends nothing yet it is what is asked for
  starts : (own : Option OwnFrame) (talks : Bool) (asked : Turn) (n : ℕ) (r : Roles) (f : Frame) (u s : DriveState) → MildOut (table.answered turn.Pass n r f u) s → (talks ≡ true → MildOut (table.answered asked n r f u) s) → MildOut (table.answered (turn_at_start own talks asked) n r f u) s
  starts (Some own) talks asked n r f u s pass begins = pass
  starts None false asked n r f u s pass begins = pass
  starts None true asked n r f u s pass begins = begins refl

  -- the one frame goes out
  one_out : (by : Start) (byte : ℕ) (u s : DriveState) → by ≡ what → (u.interface.roles.listens ≡ false) ⊎ (u.mode ≡ mode.Rest) → u.interface.roles.talks ≡ true → status_of u ≡ status_of s → MildOut (Now (table.sends by true byte u)) s
  one_out by byte u s asked deaf talks status = record {
    state = (table.sends by true byte u).0;
    out = (table.sends by true byte u).1;
    is = refl;
    status = left_same what (status_of s) (status_of u) status;
    mild = record { deaf = deaf; sends = (refl, asked, talks) };
  }

  -- SAI
  names : (accessory : Option ℕ) (n : ℕ) (r : Roles) (f : Frame) (u s : DriveState) → start.Identity ≡ what → (u.interface.roles.listens ≡ false) ⊎ (u.mode ≡ mode.Rest) → u.interface.roles.talks ≡ true → status_of u ≡ status_of s
      → MildOut (table.answered turn.Pass n r f u) s → MildOut (table.answered (asked_for_id accessory) n r f u) s
  names None n r f u s asked deaf talks status pass = pass
  names (Some id) n r f u s asked deaf talks status pass = one_out start.Identity id u s asked deaf talks status

  answers_mild : (m : Message) (n heard : ℕ) (f : Frame) (s : DriveState) → message_of f ≡ m → is_mild_for what m ≡ true → IsMildFor what s → MildOut (table.answered (turn_at s.interface.roles s.interface.own s.interface.accessory m) n s.interface.roles f (behind m heard s)) s
  answers_mild (msg.Dab b) n heard f s says is mild = heeds s.interface.own s.interface.roles.listens n s.interface.roles f (behind (msg.Dab b) heard s) s mild.deaf (λ l. l) mild.sends refl refl (passes (msg.Dab b) n heard f s says is mild)
  answers_mild (msg.Dsr b) n heard f s says is mild = heeds s.interface.own s.interface.roles.listens n s.interface.roles f (behind (msg.Dsr b) heard s) s mild.deaf (λ l. l) mild.sends refl refl (passes (msg.Dsr b) n heard f s says is mild)
  answers_mild (msg.End b) n heard f s says is mild = heeds s.interface.own s.interface.roles.listens n s.interface.roles f (behind (msg.End b) heard s) s mild.deaf (λ l. l) mild.sends refl refl (passes (msg.End b) n heard f s says is mild)
  answers_mild (msg.Esr b) n heard f s says is mild = heeds s.interface.own s.interface.roles.listens n s.interface.roles f (behind (msg.Esr b) heard s) s mild.deaf (λ l. l) mild.sends refl refl (passes (msg.Esr b) n heard f s says is mild)
  answers_mild msg.Sai n heard f s says is mild =
      let pass = passes msg.Sai n heard f s says is mild in
      let r = s.interface.roles in
      let u = behind msg.Sai heard s in
      starts s.interface.own r.talks (asked_for_id s.interface.accessory) n r f u s pass (λ talks. names s.interface.accessory n r f u s (asks_name what is) mild.deaf talks refl pass)
  answers_mild msg.Sda n heard f s says is mild = cc
  answers_mild msg.Sst n heard f s says is mild =
      let r = s.interface.roles in
      let u = behind msg.Sst heard s in
      starts s.interface.own r.talks turn.Begin n r f u s (passes msg.Sst n heard f s says is mild)
      (λ talks. subst (λ step. MildOut step s) (sym (ap (λ m. table.began m n r f u) says)) (one_out start.Status (status_byte_of (status_of u)) u s (asks_status what is) mild.deaf talks refl))
  answers_mild msg.Sdi n heard f s says is mild = cc
  answers_mild m n heard f s says is mild = passes m n heard f s says is mild

  step_mild : (n : ℕ) (s : DriveState) (f : Frame) → is_mild_for what (message_of f) ≡ true → IsMildFor what s → MildOut (table.drive_step n s f) s
  step_mild n s f is mild = answers_mild (message_of f) n (count_after (turn_on s.interface f) s.interface.heard_count) f s refl is mild

  -- UNL to a drive that sends nothing
  step_unl : (n : ℕ) (s : DriveState) → s.interface.own ≡ None → MildOut (table.drive_step n s unl) s
  step_unl n s silent =
      let r = s.interface.roles in
      let u = table.behind_effect unl s in
      let to : ToMild (Now (table.at_rest_if_changed r u)) s = changed (agree r.talks u.interface.roles.talks && agree r.listens u.interface.roles.listens) u s (λ same. inl refl) (subst (λ own. OneByte what own s.begun r.talks) (sym silent) tt) refl in
      record {
        state = to.state;
        out = (table.passes r unl to.state).1;
        is = ap (then_by (table.passes r unl)) to.is;
        status = left_same what (status_of s) (status_of to.state) to.status;
        mild = to.mild;
      }

-- ---- many

pub record StaysMildFor {M : Type 0} (what : Start) (view : M → MediumView) (v w : DriveView M) : Type 0 where
  pub status : StatusLeft what (status_of v.state) (status_of w.state)
  pub medium : w.medium ≡ v.medium
  pub mild : IsMildFor what w.state

module _ {M : Type 0} {what : Start} (view : M → MediumView) where
  one_mild : (f : Frame) (out : Out) (v u : DriveView M) → MildOut what (table.drive_step (view v.medium).record_count v.state f) v.state → Did view (table.drive_step (view v.medium).record_count v.state f) (u.state, out) v.medium u.medium → StaysMildFor what view v u
  one_mild f out v u to did =
      let now : Did view (Now (to.state, to.out)) (u.state, out) v.medium u.medium = subst (λ step. Did view step (u.state, out) v.medium u.medium) to.is did in
      let is : u.state ≡ to.state = ap (λ x. x.0) now.0 in
      record {
        status = subst (λ t. StatusLeft what (status_of v.state) (status_of t)) (sym is) to.status;
        medium = now.1;
        mild = subst (IsMildFor what) (sym is) to.mild;
      }

  pub mild_then : (u v w : DriveView M) → StaysMildFor what view u v → StaysMildFor what view v w → StaysMildFor what view u w
  mild_then u v w first more = record { status = left_then what (status_of u.state) (status_of v.state) (status_of w.state) first.status more.status; medium = more.medium ∙ first.medium; mild = more.mild }

  pub mild_ran : (fs : List Frame) (outs : List Out) (v w : DriveView M) → IsMildFor what v.state → AllMildFor what fs → Ran view v fs outs w → StaysMildFor what view v w
  mild_ran [] [] v w mild all ran = subst (StaysMildFor what view v) (sym ran) (record { status = left_same what (status_of v.state) (status_of v.state) refl; medium = refl; mild = mild })
  mild_ran [] (out ∷ outs) v w mild all ran = absurd ran
  mild_ran (f ∷ fs) [] v w mild all ran = absurd ran
  mild_ran (f ∷ fs) (out ∷ outs) v w mild all ran =
      let first = one_mild f out v ran.0 (step_mild what (view v.medium).record_count v.state f all.0 mild) ran.1 in
      mild_then v ran.0 w first (mild_ran fs outs ran.0 w first.mild all.1 ran.2)

  -- from UNL on
  pub unl_ran : (fs : List Frame) (outs : List Out) (v w : DriveView M) → v.state.interface.own ≡ None → AllMildFor what fs → Ran view v (unl ∷ fs) outs w → StaysMildFor what view v w
  unl_ran fs [] v w silent all ran = absurd ran
  unl_ran fs (out ∷ outs) v w silent all ran =
      let first = one_mild unl out v ran.0 (step_unl what (view v.medium).record_count v.state silent) ran.1 in
      mild_then v ran.0 w first (mild_ran fs outs ran.0 w first.mild all ran.2)

-- ---- frames that ask for the name alone

abbrev pub is_mild : Message → Bool
is_mild m = is_mild_for start.Identity m

abbrev pub AllMild : List Frame → Type 0
AllMild fs = AllMildFor start.Identity fs

abbrev pub IsMild : DriveState → Type 0
IsMild s = IsMildFor start.Identity s

abbrev pub StaysMild : {M : Type 0} → (M → MediumView) → DriveView M → DriveView M → Type 0
StaysMild view v w = StaysMildFor start.Identity view v w

-- ---- from IFC on, whatever it did before

step_ifc : (what : Start) (n : ℕ) (s : DriveState) → MildOut what (table.drive_step n s ifc) s
step_ifc what n s =
    let u = table.behind_effect ifc s in
    record { state = table.at_rest u; out = (table.passes s.interface.roles ifc (table.at_rest u)).1; is = refl; status = left_same what (status_of s) (status_of s) refl; mild = record { deaf = inr refl; sends = tt } }

pub ifc_one : {M : Type 0} (what : Start) (view : M → MediumView) (outs : List Out) (v w : DriveView M) → Ran view v (ifc ∷ []) outs w → StaysMildFor what view v w
ifc_one what view [] v w ran = absurd ran
ifc_one what view (out ∷ []) v w ran =
    subst (StaysMildFor what view v) (sym ran.2) (one_mild view ifc out v ran.0 (step_ifc what (view v.medium).record_count v.state) ran.1)
ifc_one what view (out ∷ x ∷ outs) v w ran = absurd ran.2

pub ifc_ran : {M : Type 0} (view : M → MediumView) (fs : List Frame) (outs : List Out) (v w : DriveView M) → AllMild fs → Ran view v (ifc ∷ fs) outs w → StaysMild view v w
ifc_ran view fs [] v w all ran = absurd ran
ifc_ran view fs (out ∷ outs) v w all ran =
    let first = one_mild view ifc out v ran.0 (step_ifc start.Identity (view v.medium).record_count v.state) ran.1 in
    mild_then view v ran.0 w first (mild_ran view fs outs ran.0 w first.mild all ran.2)

-- ---- what a drive answers that is asked for its status alone

-- It passes a message on, and its status stays; or it tells its status; or it ends after the right echo, and its
-- status is 0 then, or after another.
abbrev pub Says : Message → DriveState → Out → DriveState → Type 0
Says m s (Pass g) t = status_of t ≡ status_of s
Says m s (Source g) t =
    ((g ≡ framed class.Dab (status_byte_of (status_of s))) × (status_of t ≡ status_of s))
    ⊎ (((g ≡ eto) × (is_data_message m ≡ true) × (status_of t ≡ 0)) ⊎ ((g ≡ ete) × (status_of t ≡ status_of s)))

record SaysOut (m : Message) (step : Step (DriveState × Out)) (s : DriveState) : Type 0 where
  state : DriveState
  out : Out
  is : step ≡ Now (state, out)
  says : Says m s out state

passes_says : (m : Message) (n heard : ℕ) (f : Frame) (s : DriveState) → message_of f ≡ m → is_mild_for start.Status m ≡ true → IsMildFor start.Status s → SaysOut m (table.answered turn.Pass n s.interface.roles f (behind m heard s)) s
passes_says m n heard f s named is mild =
    let r = s.interface.roles in
    let to = obeyed_mild start.Status m n heard s is mild in
    record {
      state = to.state;
      out = (table.passes r f to.state).1;
      is = ap (λ m₂. then_by (table.passes r f) (table.obeyed m₂ n r (behind m heard s))) named ∙ ap (then_by (table.passes r f)) to.is;
      says = to.status;
    }

heeds_says : (m : Message) (own : Option OwnFrame) (listens : Bool) (n : ℕ) (r : Roles) (f : Frame) (u s : DriveState) → is_data_message m ≡ true → (u.interface.roles.listens ≡ false) ⊎ (u.mode ≡ mode.Rest) → (listens ≡ true → u.interface.roles.listens ≡ true)
    → OneByte start.Status own u.begun u.interface.roles.talks → status_of u ≡ status_of s → SaysOut m (table.answered turn.Pass n r f u) s → SaysOut m (table.answered (turn_at_data own listens) n r f u) s
heeds_says m None false n r f u s bytes deaf hears sends status pass = pass
heeds_says m None true n r f u s bytes (inl none) hears sends status pass = let clash : false ≡ true = sym none ∙ hears refl in cc
heeds_says m None true n r f u s bytes (inr rests) hears sends status pass = record {
  state = u;
  out = (table.passes r f u).1;
  is = ap (λ m. then_by (table.passes r f) (table.heard_in m (byte_of f) n u)) rests;
  says = status;
}
heeds_says m (Some own) listens n r f u s bytes deaf hears sends status pass = by (same_but_service own.frame f)
  where
    last : (stopped : Bool) → (stopped || own.last) ≡ true
    last true = refl
    last false = sends.0

    by : (right : Bool) → SaysOut m (table.compared right own n u) s
    by false = record { state = (table.ends ete u).0; out = (table.ends ete u).1; is = refl; says = inr (inr (refl, status)) }
    by true = record {
      state = (table.ends eto (table.acknowledged start.Status u)).0;
      out = (table.ends eto (table.acknowledged start.Status u)).1;
      is = ap (λ b. table.went_on b n u) (last own.stopped) ∙ ap (λ b. Now (table.ends eto (table.acknowledged b u))) sends.1;
      says = inr (inl (refl, bytes, refl));
    }

tells_says : (own : Option OwnFrame) (talks : Bool) (n : ℕ) (r : Roles) (f : Frame) (u s : DriveState) → message_of f ≡ msg.Sst → status_of u ≡ status_of s → SaysOut msg.Sst (table.answered turn.Pass n r f u) s
    → SaysOut msg.Sst (table.answered (turn_at_start own talks turn.Begin) n r f u) s
tells_says (Some own) talks n r f u s named status pass = pass
tells_says None false n r f u s named status pass = pass
tells_says None true n r f u s named status pass = record {
  state = (table.sends start.Status true (status_byte_of (status_of u)) u).0;
  out = (table.sends start.Status true (status_byte_of (status_of u)) u).1;
  is = ap (λ m. table.began m n r f u) named;
  says = inl (ap (λ status. framed class.Dab (status_byte_of status)) status, status);
}

answers_says : (m : Message) (n heard : ℕ) (f : Frame) (s : DriveState) → message_of f ≡ m → is_mild_for start.Status m ≡ true → IsMildFor start.Status s
    → SaysOut m (table.answered (turn_at s.interface.roles s.interface.own s.interface.accessory m) n s.interface.roles f (behind m heard s)) s
answers_says (msg.Dab b) n heard f s named is mild = heeds_says (msg.Dab b) s.interface.own s.interface.roles.listens n s.interface.roles f (behind (msg.Dab b) heard s) s refl mild.deaf (λ l. l) mild.sends refl (passes_says (msg.Dab b) n heard f s named is mild)
answers_says (msg.Dsr b) n heard f s named is mild = heeds_says (msg.Dsr b) s.interface.own s.interface.roles.listens n s.interface.roles f (behind (msg.Dsr b) heard s) s refl mild.deaf (λ l. l) mild.sends refl (passes_says (msg.Dsr b) n heard f s named is mild)
answers_says (msg.End b) n heard f s named is mild = heeds_says (msg.End b) s.interface.own s.interface.roles.listens n s.interface.roles f (behind (msg.End b) heard s) s refl mild.deaf (λ l. l) mild.sends refl (passes_says (msg.End b) n heard f s named is mild)
answers_says (msg.Esr b) n heard f s named is mild = heeds_says (msg.Esr b) s.interface.own s.interface.roles.listens n s.interface.roles f (behind (msg.Esr b) heard s) s refl mild.deaf (λ l. l) mild.sends refl (passes_says (msg.Esr b) n heard f s named is mild)
answers_says msg.Sai n heard f s named is mild = cc
answers_says msg.Sda n heard f s named is mild = cc
answers_says msg.Sst n heard f s named is mild = tells_says s.interface.own s.interface.roles.talks n s.interface.roles f (behind msg.Sst heard s) s named refl (passes_says msg.Sst n heard f s named is mild)
answers_says msg.Sdi n heard f s named is mild = cc
answers_says m n heard f s named is mild = passes_says m n heard f s named is mild

-- where it takes such a frame
pub mild_says : {M : Type 0} (view : M → MediumView) (f : Frame) (out : Out) (v u : DriveView M) → is_mild_for start.Status (message_of f) ≡ true → IsMildFor start.Status v.state
    → Did view (table.drive_step (view v.medium).record_count v.state f) (u.state, out) v.medium u.medium → Says (message_of f) v.state out u.state
mild_says view f out v u is mild did =
    let to = answers_says (message_of f) (view v.medium).record_count (count_after (turn_on v.state.interface f) v.state.interface.heard_count) f v.state refl is mild in
    let now : Did view (Now (to.state, to.out)) (u.state, out) v.medium u.medium = subst (λ step. Did view step (u.state, out) v.medium u.medium) to.is did in
    subst (λ x. Says (message_of f) v.state x.1 x.0) (sym now.0) to.says
