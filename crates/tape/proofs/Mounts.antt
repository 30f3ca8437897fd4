-- What a host does for a command of the volume, as jobs see it.
use Rattle.std.proofs.Common.{◌≡◌, ◌∙◌, ℕ, Bor, true, List, [], Option, Some, None, inl, inr, refl, sym, ap}
use Rattle.std.specs.Prelude.{Bool, IfSome, is_some, option_map, option_and_then}
use Rattle.lif_model.specs.Tape.{Tape}
use Rattle.lif_model.specs.Volume.{Volume}
use Rattle.lif_model.specs.Packing.{finished_volume_of}
use Rattle.lif_model.specs.Apply.{VolumeCommand, Dir, Label, Fetch, Store, Rename, Purge, Format, Adopt, Upgrade, Batch, apply}
use Rattle.lif_model.specs.declared.refusal.Refusal.{Refusal}
use Rattle.lif_model.specs.Header.{HeaderParts}
use Rattle.lif_dir.specs.Tables.{Table}
use Rattle.lif_dir.specs.declared.entries.Slot.{Slot}
use Rattle.loop_model.specs.Units.{RecordUnit}
use Rattle.il_ring.specs.declared.plan.Planned.{Planned}
use Rattle.il_ring.specs.Plans.{hops_of}
use Rattle.loop_model.specs.Reach.{met}
use Rattle.il_script.specs.declared.reply.Reply.{Reply}
use Rattle.il_script.specs.declared.reply.Reply.TheVariants as reply
use Rattle.lif_model.specs.Stops.{LeavesOnly}
use Rattle.host_model.specs.Requests.{Asks, OfVolume}
use Rattle.host_model.specs.Stops.{MayBeLeft}
use Rattle.host_model.specs.HostStates.{volume_at}
use Rattle.host_model.specs.Replies.{refused_as}
use Rattle.host_model.specs.Steps.{CountsWhole, HasReplyCause}
use Rattle.host_model.specs.Tapes.{only_reads, only_settles}
use Rattle.host_model.specs.Directories.{IsKeptBehind}
use Rattle.il_host.specs.HostView.{HostView, Performed}
use Rattle.il_host.specs.Kept.{FileRead, GivesFile, TellsKept}
use Rattle.tape_volumes.specs.Volumes.{DoneWhole, Commanded, IsFileAt, content_by, file_on, CountsFault, StopLeaves, OwnsGate, IsDirectoryAt, reply_by, volume_shown, changes_nothing, is_reading}
use Rattle.tape.specs.Mounts.{content_read, mounted_in, mounted}

-- the tape that is told
told_tape : (tape : Option Tape) (before : Option Volume) → option_map finished_volume_of tape ≡ Some before → (t : Tape) × (tape ≡ Some t) × (finished_volume_of t ≡ before)
told_tape None before e = cc
told_tape (Some t) before e = (t, refl, cc)

shown_at : (tape : Option Tape) (after : Option Volume) → is_some tape ≡ true → option_and_then finished_volume_of tape ≡ after → option_map finished_volume_of tape ≡ Some after
shown_at None after told e = cc
shown_at (Some t) after told e = ap Some e

same_answer : (refusal : Option Refusal) → refused_as refusal ≡ reply_by refusal
same_answer None = refl
same_answer (Some refusal) = refl

-- a command that changes nothing, as an item of a run
reads_only : (command : VolumeCommand) → is_reading command ≡ true → only_reads (Asks (OfVolume command)) ≡ true
reads_only Dir reading = refl
reads_only Label reading = refl
reads_only (Fetch name) reading = refl
reads_only (Store name kind implementation bytes) reading = cc
reads_only (Rename old new) reading = cc
reads_only (Purge name) reading = cc
reads_only (Format label slots) reading = cc
reads_only Adopt reading = cc
reads_only Upgrade reading = cc
reads_only (Batch parts) reading = cc

settles_only : (r : Reply) (command : VolumeCommand) → changes_nothing r command ≡ true → only_settles r (Asks (OfVolume command)) ≡ true
settles_only reply.Ok command still = reads_only command still
settles_only (reply.No code) command still = refl
settles_only reply.FaultFrame command still = cc
settles_only reply.FaultMedium command still = cc

module _ (command : VolumeCommand) (r : Reply) (v w : HostView) (did : Performed (Asks (OfVolume command)) r v w) (plan : v.plan ≡ []) where
  caused : (answer : Reply) (units : List RecordUnit) → HasReplyCause answer (met (hops_of v.plan) v.state.crossings w.state.crossings) v.state.faults w.state.faults units → CountsFault answer v.state.faults w.state.faults
  caused reply.Ok units cause = cause.1
  caused (reply.No code) units cause = cause.1
  caused reply.FaultMedium units cause = cause.1
  caused reply.FaultFrame units cause = absurd (cause.0 (ap (λ (p : List Planned). met (hops_of p) v.state.crossings w.state.crossings) plan))

  module _ (before : Option Volume) (told : option_map finished_volume_of v.state.tape ≡ Some before) where
    tape : (t : Tape) × (v.state.tape ≡ Some t) × (finished_volume_of t ≡ before)
    tape = told_tape v.state.tape before told

    at : volume_at v.state ≡ before
    at = ap (λ (x : Option Tape). option_and_then finished_volume_of x) tape.1 ∙ tape.2

    is_told : is_some v.state.tape ≡ true
    is_told = ap is_some tape.1

    now : (after : Option Volume) → volume_at w.state ≡ after → option_map finished_volume_of w.state.tape ≡ Some after
    now after e = shown_at w.state.tape after (did.step.acts.replied.told ∙ is_told) e

    abbrev made : Option Volume → Option Refusal × Option Volume
    made x = apply v.state.records command x

    whole : (answer : Reply) → CountsFault answer v.state.faults w.state.faults → CountsWhole (Asks (OfVolume command)) answer v.state w.state
        → DoneWhole answer (reply_by (made before).0) (OwnsGate v.state.tape) before (made before).1 (volume_shown w.state.tape)
    whole reply.Ok cause counts = (counts.0 ∙ same_answer (made (volume_at v.state)).0 ∙ ap (λ x. reply_by (made x).0) at, now (made before).1 (counts.1 ∙ ap (λ x. (made x).1) at))
    whole (reply.No code) cause counts = (counts.0 ∙ same_answer (made (volume_at v.state)).0 ∙ ap (λ x. reply_by (made x).0) at, now (made before).1 (counts.1 ∙ ap (λ x. (made x).1) at))
    whole reply.FaultMedium cause counts = λ own. elim (counts own) [
      | inl same ↦ inl (now before (same ∙ at))
      | inr other ↦ inr (now (made before).1 (other ∙ ap (λ x. (made x).1) at))
    ]
    whole reply.FaultFrame cause counts = cause

  -- the tapes that a stop may leave
  left : (x : Tape) → MayBeLeft (Asks (OfVolume command)) v.state x → StopLeaves command (mounted_in v.state) x
  left x may = λ own. (may.own own).0

  stops : is_some v.state.tape ≡ true → LeavesOnly v.moment w.moment v.left_since w.left_since (StopLeaves command (mounted_in v.state))
  stops told =
      let leaves = did.stops told in
      record {
        later = leaves.later;
        each = λ x since. left x (leaves.each x since);
        earlier = λ m x le since. elim (leaves.earlier m x le since) [
          | inl past ↦ inl past
          | inr within ↦ inr (left x within)
        ];
      }

  pub did_mounted : (r ≡ reply.Ok → w.state.kept ≡ true) → Commanded command r (mounted v) (mounted w)
  did_mounted kept =
      let cause = caused r _ (did.step.acts.exchanged refl).cause in
      record {
        valid = (did.valid, did.plan ∙ plan);
        did = record {
          records = did.step.acts.replied.size;
          seen = did.step.acts.replied.told;
          own = did.step.acts.replied.gate;
          cause = cause;
          whole = λ before told. whole before told r cause (did.step.acts.replied.whole (λ of. is_told before told));
          same = λ still t u is now. did.step.tape.same (settles_only r command still) t u is now;
          reads = λ reading t u is now clear. did.step.tape.reads (reads_only command reading) t u is now clear;
          kept = kept;
        };
        beside = record { stops = stops; same = did.images.same; others = did.images.others };
      }

-- the directory that is kept is that of the volume which is shown
pub kept_mounted : (v : HostView) (header : HeaderParts) (slots : List Slot) → TellsKept v.state header slots → IsDirectoryAt (volume_shown v.state.tape) header slots
kept_mounted v header slots tells before is_shown =
    let tape = told_tape v.state.tape before is_shown in
    let is = tells tape.0 tape.1 in
    (is.0, sym tape.2 ∙ sym (ap (λ (x : Option Tape). option_and_then finished_volume_of x) tape.1) ∙ is.1, record { header_is = is.2; bytes_are = is.3; slots_are = is.4 })

-- a command that replied ok leaves the directory kept
pub kept_ok : (command : VolumeCommand) (was : Bool) (r : Reply) (now : Bool) → IsKeptBehind command was r now → r ≡ reply.Ok → now ≡ true
kept_ok Dir was reply.Ok now is ok = is
kept_ok Label was reply.Ok now is ok = is
kept_ok (Fetch name) was reply.Ok now is ok = is
kept_ok (Store name kind implementation bytes) was reply.Ok now is ok = is
kept_ok (Rename old new) was reply.Ok now is ok = is
kept_ok (Purge name) was reply.Ok now is ok = is
kept_ok (Format label slots) was reply.Ok now is ok = is
kept_ok Adopt was reply.Ok now is ok = is
kept_ok Upgrade was reply.Ok now is ok = is
kept_ok (Batch parts) was reply.Ok now is ok = is
kept_ok command was (reply.No code) now is ok = cc
kept_ok command was reply.FaultFrame now is ok = cc
kept_ok command was reply.FaultMedium now is ok = cc

pub kept_directory : (v : HostView) (found : Option (HeaderParts × Bor Table)) → IfSome found (λ d. TellsKept v.state d.0 d.1.now.slots) → IfSome found (λ d. IsDirectoryAt (volume_shown v.state.tape) d.0 d.1.now.slots)
kept_directory v None tells = tt
kept_directory v (Some d) tells = kept_mounted v d.0 d.1.now.slots tells

-- the file that a host has read is that of the volume which is shown
pub read_mounted : (v : HostView) (name : List ℕ) (file : FileRead) → GivesFile v.state name file → IsFileAt (volume_shown v.state.tape) name (content_read file)
read_mounted v name file reads volume is_shown =
    let tape = told_tape v.state.tape (Some volume) is_shown in
    let is = reads tape.0 tape.1 in
    let same : volume ≡ is.0 = is_same (sym tape.2 ∙ sym (ap (λ (x : Option Tape). option_and_then finished_volume_of x) tape.1) ∙ is.1) in
    ap (λ (u : Volume). file_on u name) same ∙ (λ i. content_by (is.3 i) (is.6 i))
    ∙ (λ i. Some (record { kind = sym is.4 i; field = sym is.5 i; bytes = file.bytes }))
  where
    is_same : {a b : Volume} → Some a ≡ Some b → a ≡ b
    is_same e = cc
