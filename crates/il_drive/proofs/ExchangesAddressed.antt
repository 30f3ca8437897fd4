-- The drive that an exchange addresses: it listens or talks, rests, and has nothing on the loop. What clears it, what
-- gives it its address, and the seek.
use Rattle.std.proofs.Common.{◌≡◌, ◌<◌, ◌≤◌, ◌+◌, ◌*◌, ℕ, Bool, true, false, List, [], ◌∷◌, map, refl, ap, ◌∙◌, arith, eqb-true}
use Rattle.std.specs.Prelude.{Some, None, ◌==◌, nat_lt, if◌then◌else◌}
use Rattle.std.proofs.lemmas.Bool.{eq-eqb, lt-ltb, le-leb}
use Rattle.il_ports.specs.Media.{MediumView}
use Rattle.il_frames.specs.declared.frame.Class.TheVariants as class
use Rattle.il_frames.specs.declared.frame.Frame.{Frame}
use Rattle.il_frames.specs.declared.message.Message.{Message}
use Rattle.il_frames.specs.declared.message.Message.TheVariants as msg
use Rattle.il_frames.specs.Frames.{byte_of, framed, is_data}
use Rattle.il_frames.specs.Messages.{message_at, message_of}
use Rattle.il_frames.proofs.ReadBack.{all_below, all_below-at}
use Rattle.il_device.specs.declared.device.Out.{Out}
use Rattle.il_device.specs.declared.device.Out.TheVariants.{Pass}
use Rattle.il_device.specs.declared.roles.Roles.{Roles}
use Rattle.il_device.proofs.Laws.{message_of-aad, roles_after-data, own_after-data}
use Rattle.il_drive.specs.declared.mode.Fault.TheVariants as fault
use Rattle.il_drive.specs.declared.mode.Mode.TheVariants as mode
use Rattle.il_drive.specs.State.{DriveState, DriveView}
use Rattle.il_drive.specs.Table as table
use Rattle.il_drive.specs.Runs.{Ran}
use Rattle.il_drive.proofs.Beginning.{seek_message, seeks}
use Rattle.il_drive.specs.Resting.{IsFree, IsAtRest, sdc, HasSought}
use Rattle.il_drive.proofs.Exchanges.{all_pass, are_plain, Stance, stance_of, stance_all, are_quiet, Say, goes_by, parts}

-- ---- frames

abbrev pub unl : Frame
unl = framed class.Cmd 0x3F

abbrev pub unt : Frame
unt = framed class.Cmd 0x5F

abbrev pub rfc : Frame
rfc = framed class.Rdy 0x00

abbrev pub ifc : Frame
ifc = framed class.Cmd 0x90

abbrev pub aau : Frame
aau = framed class.Cmd 0x9A

abbrev pub lad : ℕ → Frame
lad p = framed class.Cmd (0x20 + p)

abbrev pub tad : ℕ → Frame
tad p = framed class.Cmd (0x40 + p)

abbrev pub aad : ℕ → Frame
aad p = framed class.Rdy (0x80 + p)

abbrev is_lad : ℕ → Message → Bool
is_lad n m = elim m [ msg.Lad a ↦ a == n | _ ↦ false ]

is_lad-true : (n : ℕ) (m : Message) → is_lad n m ≡ true → m ≡ msg.Lad n
is_lad-true n (msg.Lad a) h = ap msg.Lad (eqb-true a n h)
is_lad-true n _ h = cc

all_lad : all_below (λ n. is_lad n (message_at class.Cmd (0x20 + n))) 31 ≡ true
unfolding all_below
all_lad = refl

pub message_of-lad : (n : ℕ) → n ≤ 30 → message_of (lad n) ≡ msg.Lad n
message_of-lad n h = is_lad-true n (message_at class.Cmd (0x20 + n)) (all_below-at (λ k. is_lad k (message_at class.Cmd (0x20 + k))) 31 n all_lad (omega arith))

abbrev is_tad : ℕ → Message → Bool
is_tad n m = elim m [ msg.Tad a ↦ a == n | _ ↦ false ]

is_tad-true : (n : ℕ) (m : Message) → is_tad n m ≡ true → m ≡ msg.Tad n
is_tad-true n (msg.Tad a) h = ap msg.Tad (eqb-true a n h)
is_tad-true n _ h = cc

all_tad : all_below (λ n. is_tad n (message_at class.Cmd (0x40 + n))) 31 ≡ true
unfolding all_below
all_tad = refl

pub message_of-tad : (n : ℕ) → n ≤ 30 → message_of (tad n) ≡ msg.Tad n
message_of-tad n h = is_tad-true n (message_at class.Cmd (0x40 + n)) (all_below-at (λ k. is_tad k (message_at class.Cmd (0x40 + k))) 31 n all_tad (omega arith))

-- ---- the drive that is addressed

abbrev pub listener : ℕ → Roles
listener p = record { address = Some p; talks = false; listens = true }

abbrev pub talker : ℕ → Roles
talker p = record { address = Some p; talks = true; listens = false }

abbrev pub bystander : ℕ → Roles
bystander p = record { address = Some p; talks = false; listens = false }

-- with these roles, nothing on the loop, and at rest
abbrev pub turned : Roles → Stance → Stance
turned r σ = record σ { roles = r; own = None; mode = mode.Rest }

-- UNL, RFC, LAD, RFC; and the same with TAD
abbrev pub to_listen : ℕ → List Message
to_listen p = msg.Unl ∷ msg.Rfc ∷ msg.Lad p ∷ msg.Rfc ∷ []

abbrev pub to_talk : ℕ → List Message
to_talk p = msg.Unl ∷ msg.Rfc ∷ msg.Tad p ∷ msg.Rfc ∷ []

abbrev with_roles : ℕ → Bool → Bool → Stance → Stance
with_roles p talks listens σ = record σ { roles = record { address = Some p; talks = talks; listens = listens } }

listens_then : (p : ℕ) (talks listens : Bool) (σ : Stance) → stance_all (to_listen p) (with_roles p talks listens σ) ≡ turned (listener p) σ
listens_then p true true σ = rw (eq-eqb p p refl) refl
listens_then p true false σ = rw (eq-eqb p p refl) refl
listens_then p false true σ = rw (eq-eqb p p refl) refl
listens_then p false false σ = rw (eq-eqb p p refl) refl

talks_then : (p : ℕ) (listens : Bool) (σ : Stance) → stance_all (to_talk p) (with_roles p false listens σ) ≡ turned (talker p) σ
talks_then p true σ = rw (eq-eqb p p refl) refl
talks_then p false σ = rw (eq-eqb p p refl) refl

-- whatever it stood at
pub listens_from : (p : ℕ) (σ : Stance) → σ.roles.address ≡ Some p → stance_all (to_listen p) σ ≡ turned (listener p) σ
listens_from p σ at = ap (λ address. stance_all (to_listen p) (record σ { roles = record σ.roles { address = address } })) at ∙ listens_then p σ.roles.talks σ.roles.listens σ

pub talks_from : (p : ℕ) (σ : Stance) → σ.roles.address ≡ Some p → σ.roles.talks ≡ false → stance_all (to_talk p) σ ≡ turned (talker p) σ
talks_from p σ at mute =
    (λ i. stance_all (to_talk p) (record σ { roles = record { address = at i; talks = mute i; listens = σ.roles.listens } })) ∙ talks_then p σ.roles.listens σ

-- a device without an address takes one from 1 to 30
takes_it : (p : ℕ) (σ : Stance) → 1 ≤ p → p ≤ 30 → stance_all (msg.Ifc ∷ msg.Rfc ∷ msg.Aau ∷ msg.Rfc ∷ msg.Aad p ∷ []) σ ≡ turned (bystander p) σ
takes_it p σ one le = rw (le-leb 1 p one, le-leb p 30 le) refl

-- data leave it
pub stance_of-data : (s : DriveState) (f : Frame) → is_data f ≡ true → stance_of (table.behind_effect f s) ≡ stance_of s
stance_of-data s f h = λ i. record (stance_of s) { roles = roles_after-data s.interface.roles f h i; own = own_after-data s.interface.roles s.interface.own f h i }

-- a stance between two exchanges, and at rest
pub free_at : (p : ℕ) (s : DriveState) (σ : Stance) → stance_of s ≡ σ → σ.roles.address ≡ Some p → σ.roles.talks ≡ false → σ.own ≡ None → σ.status ≡ 0 → IsFree p s
free_at p s σ is at mute silent good = record {
  address = ap (λ (σ : Stance). σ.roles.address) is ∙ at;
  mute = ap (λ (σ : Stance). σ.roles.talks) is ∙ mute;
  silent = ap (λ (σ : Stance). σ.own) is ∙ silent;
  status = ap (λ (σ : Stance). σ.status) is ∙ good;
}

pub rests_at : (p : ℕ) (s : DriveState) (σ : Stance) → stance_of s ≡ σ → σ.roles.address ≡ Some p → σ.roles.talks ≡ false → σ.own ≡ None → σ.mode ≡ mode.Rest → σ.status ≡ 0 → IsAtRest p s
rests_at p s σ is at mute silent rest good = record { free = free_at p s σ is at mute silent good; mode = ap (λ (σ : Stance). σ.mode) is ∙ rest }

module _ {M : Type 0} (view : M → MediumView) where
  -- the drive listens, and then these messages come
  pub goes_listening : (p : ℕ) (ms : List Message) (fs : List Frame) (outs : List Out) (v w : DriveView M) → p ≤ 30 → v.state.interface.roles.address ≡ Some p
      → Say fs ms → are_quiet ms (turned (listener p) (stance_of v.state)) ≡ true → Ran view v (unl ∷ rfc ∷ lad p ∷ rfc ∷ fs) outs w
      → (stance_of w.state ≡ stance_all ms (turned (listener p) (stance_of v.state))) × (w.medium ≡ v.medium)
  goes_listening p ms fs outs v w le at say quiet ran =
      let σ = stance_of v.state in
      let went = goes_by view (msg.Unl ∷ msg.Rfc ∷ msg.Lad p ∷ msg.Rfc ∷ ms) (unl ∷ rfc ∷ lad p ∷ rfc ∷ fs) outs v w (refl, (refl, (message_of-lad p le, (refl, say))))
      (ap (are_quiet ms) (listens_from p σ at) ∙ quiet) ran in
      (went.stance ∙ ap (stance_all ms) (listens_from p σ at), went.medium)

  -- the drive talks, and then these messages come
  pub goes_talking : (p : ℕ) (ms : List Message) (fs : List Frame) (outs : List Out) (v w : DriveView M) → p ≤ 30 → v.state.interface.roles.address ≡ Some p → v.state.interface.roles.talks ≡ false
      → Say fs ms → are_quiet ms (turned (talker p) (stance_of v.state)) ≡ true → are_plain ms ≡ true → Ran view v (unl ∷ rfc ∷ tad p ∷ rfc ∷ fs) outs w
      → (stance_of w.state ≡ stance_all ms (turned (talker p) (stance_of v.state))) × (w.medium ≡ v.medium) × (outs ≡ map (λ (f : Frame). Pass f) (unl ∷ rfc ∷ tad p ∷ rfc ∷ fs))
  goes_talking p ms fs outs v w le at mute say quiet plain ran =
      let σ = stance_of v.state in
      let went = goes_by view (msg.Unl ∷ msg.Rfc ∷ msg.Tad p ∷ msg.Rfc ∷ ms) (unl ∷ rfc ∷ tad p ∷ rfc ∷ fs) outs v w (refl, (refl, (message_of-tad p le, (refl, say))))
      (ap (are_quiet ms) (talks_from p σ at mute) ∙ quiet) ran in
      (went.stance ∙ ap (stance_all ms) (talks_from p σ at mute), went.medium, all_pass (msg.Unl ∷ msg.Rfc ∷ msg.Tad p ∷ msg.Rfc ∷ ms) (unl ∷ rfc ∷ tad p ∷ rfc ∷ fs) outs plain went.answers)

  -- ---- clearing

  -- UNL, LAD, SDC: the drive is at rest, whatever it stood at
  pub clears : (p : ℕ) (outs : List Out) (v w : DriveView M) → p ≤ 30 → v.state.interface.roles.address ≡ Some p → Ran view v (unl ∷ rfc ∷ lad p ∷ rfc ∷ sdc ∷ rfc ∷ []) outs w
      → IsAtRest p w.state × (w.medium ≡ v.medium)
  clears p outs v w le at ran =
      let went = goes_listening p (msg.Sdc ∷ msg.Rfc ∷ []) (sdc ∷ rfc ∷ []) outs v w le at (refl, (refl, tt)) refl ran in (
        rests_at p w.state _ went.0 refl refl refl refl refl,
        went.1,
      )

  -- IFC, AAU and AAD: the drive has that address and no role, whatever it stood at
  pub is_addressed : (p : ℕ) (outs : List Out) (v w : DriveView M) → 1 ≤ p → p ≤ 30 → Ran view v (ifc ∷ rfc ∷ aau ∷ rfc ∷ aad p ∷ []) outs w
      → (stance_of w.state ≡ turned (bystander p) (stance_of v.state)) × (w.medium ≡ v.medium)
  is_addressed p outs v w one le ran =
      let went = goes_by view (msg.Ifc ∷ msg.Rfc ∷ msg.Aau ∷ msg.Rfc ∷ msg.Aad p ∷ []) (ifc ∷ rfc ∷ aau ∷ rfc ∷ aad p ∷ []) outs v w (refl, (refl, (refl, (refl, (message_of-aad p le, tt))))) refl ran in
      (went.stance ∙ takes_it p (stance_of v.state) one le, went.medium)

  -- ---- the seek

  pub seeks_record : (p k : ℕ) (high low : Frame) (outs : List Out) (v w : DriveView M) → p ≤ 30 → IsFree p v.state → is_data high ≡ true → is_data low ≡ true
      → 256 * byte_of high + byte_of low ≡ k → k < (view v.medium).record_count
      → Ran view v (unl ∷ rfc ∷ lad p ∷ rfc ∷ seek_message ∷ rfc ∷ high ∷ low ∷ []) outs w → HasSought view p k v w
  seeks_record p k high low outs v w le free dh dl is lt ran =
      let part = parts view (unl ∷ rfc ∷ lad p ∷ rfc ∷ seek_message ∷ rfc ∷ []) (high ∷ low ∷ []) outs v w ran in
      let u = part.middle in
      let went = goes_listening p (msg.Ddl 4 ∷ msg.Rfc ∷ []) (seek_message ∷ rfc ∷ []) part.first v u le free.address (refl, (refl, tt)) refl part.before in
      let sought = seeks view high low part.more u w
      (record { listens = ap (λ (σ : Stance). σ.roles.listens) went.0; silent = ap (λ (σ : Stance). σ.own) went.0; mode = ap (λ (σ : Stance). σ.mode) went.0 }) dh dl part.behind in
      let half = table.in_mode (mode.SeekLow (byte_of high)) (table.behind_effect high u.state) in
      let there : nat_lt (256 * byte_of high + byte_of low) (view u.medium).record_count ≡ true = lt-ltb (256 * byte_of high + byte_of low) (view u.medium).record_count (omega (arith, is, lt, ap (λ m. (view m).record_count) went.1)) in
      let found : w.state ≡ table.at_rest (record (table.behind_effect low half) { position = 256 * byte_of high + byte_of low }) =
      sought.0 ∙ ap (λ b. if b then table.at_rest (record (table.behind_effect low half) { position = 256 * byte_of high + byte_of low }) else table.faulty fault.NoRecord (table.behind_effect low half)) there in
      let stance : stance_of w.state ≡ record (turned (listener p) (stance_of v.state)) { position = k } =
      ap stance_of found ∙ ap (λ (σ : Stance). record σ { mode = mode.Rest; position = 256 * byte_of high + byte_of low }) (stance_of-data half low dl ∙ ap (λ (σ : Stance). record σ { mode = mode.SeekLow (byte_of high) }) (stance_of-data u.state high dh ∙ went.0))
      ∙ ap (λ k. record (turned (listener p) (stance_of v.state)) { position = k }) is in
      record {
        rests = rests_at p w.state _ stance refl refl refl refl free.status;
        position = ap (λ (σ : Stance). σ.position) stance;
        buffer_0 = ap (λ (σ : Stance). σ.buffer_0) stance;
        medium = sought.1 ∙ went.1;
      }
