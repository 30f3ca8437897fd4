-- A command that tells the lines of a text is a fetch with another reply.
use Rattle.std.proofs.Common.{◌≡◌, ◌∙◌, ⊎_elim, inl, inr, ◌++◌, ℕ, Bool, false, not, List, Option, Some, None, refl, sym, ap, subst}
use Rattle.std.specs.Prelude.{Err, true}
use Rattle.lif_model.specs.Apply.{Fetch, apply, next_unless}
use Rattle.lif_model.specs.Volume.{Volume}
use Rattle.lif_model.specs.declared.refusal.Refusal.{Refusal}
use Rattle.lif_model.proofs.Moments.{weaker}
use Rattle.il_device.specs.State.{DeviceState}
use Rattle.il_frames.specs.declared.entry.Entry.{Entry}
use Rattle.il_ports.specs.declared.records.Trouble.{Trouble}
use Rattle.il_ports.specs.declared.records.Trouble.TheVariants as trouble
use Rattle.il_script.specs.Replies.{is_ok, reply_line}
use Rattle.il_script.specs.declared.reply.Reply.{Reply}
use Rattle.il_script.specs.declared.reply.Reply.TheVariants as reply
use Rattle.lif_volume.specs.declared.fault.VolumeFault.{VolumeFault}
use Rattle.lif_volume.specs.declared.fault.VolumeFault.TheVariants.{Refused, Trouble as Troubled}
use Rattle.loop_model.proofs.DeviceLaws.{each_weaker}
use Rattle.loop_model.specs.Effect.{ends_as}
use Rattle.loop_model.specs.Units.{RecordUnit, units_of}
use Rattle.il_ring.specs.declared.plan.Planned.{Planned}
use Rattle.host_model.specs.Requests.{Asks, Get, OfVolume}
use Rattle.host_model.specs.LoopStates.{LoopState, all_roles, device_count, ring_of}
use Rattle.host_model.specs.HostStates.{HostState, volume_at}
use Rattle.host_model.specs.Next.{BoxedBecome, DeviceBehind, Next, StatusBehindVolume}
use Rattle.host_model.specs.Replies.{got_as, if_text, lines_of_file, lines_text, refused_as, reply_text}
use Rattle.host_model.specs.Steps.{EitherVolume, Event, Exchanged, HasReplyCause, HearsLog, IsCarried, Acts, IsStep, KeepsDirectory, LeavesOnTape, Replied, TellsReply, Travels, is_fault, is_frame_fault, event}
use Rattle.host_model.specs.Stops.{MayBeLeft}
use Rattle.host_model.proofs.Tapes.{tape_faulted}
use Rattle.il_host.specs.HostView.{HostView, Performed}
use Rattle.il_host.specs.Standings.{fault_of, volume_reply}

abbrev Lines : Type 0
Lines = Option (List (List ℕ))

-- ---- replies

-- the reply after that of the fetch
abbrev got : Reply → Lines → Reply
got reply.Ok lines = if_text lines
got r lines = r

-- such a reply is not ok
pub never_ok : (r : Reply) → is_ok r ≡ false → r ≡ reply.Ok → (A : Type 0) → A
never_ok r off is A = let clash : false ≡ true = sym off ∙ ap is_ok is in absurd (false_no clash)
  where
    false_no : false ≡ true → ⊥
    false_no clash = cc

frame_same : (r : Reply) (lines : Lines) → is_frame_fault (got r lines) ≡ is_frame_fault r
frame_same reply.Ok None = refl
frame_same _ _ = refl

fault_same : (r : Reply) (lines : Lines) → is_fault (got r lines) ≡ is_fault r
fault_same reply.Ok None = refl
fault_same _ _ = refl

got_reply : (r : Reply) (why : Option Refusal) (lines found : Lines) → (r ≡ reply.Ok → lines ≡ found) → r ≡ refused_as why → got r lines ≡ got_as why found
got_reply r None lines found same is = ap (λ r. got r lines) is ∙ ap if_text (same is)
got_reply r (Some why) lines found same is = ap (λ r. got r lines) is

-- a fetch leaves the volume
fetch_leaves : (n : ℕ) (name : List ℕ) (v : Option Volume) → (apply n (Fetch name) v).1 ≡ v
fetch_leaves n name v = by v (apply n (Fetch name) v).0
  where
    by : (v : Option Volume) (why : Option Refusal) → next_unless n (Fetch name) v why ≡ v
    by None None = refl
    by (Some v) None = refl
    by v (Some why) = refl

-- ---- a step

abbrev fetching : List ℕ → Reply → List Entry → HostState → HostState → Event
fetching name r log s t = event (Asks (OfVolume (Fetch name))) r log s t

abbrev getting : List ℕ → Reply → List Entry → HostState → HostState → Event
getting name r log s t = event (Asks (Get name)) r log s t

module _ (name : List ℕ) (log : List Entry) (s t : HostState) where
  either_got : EitherVolume (Asks (OfVolume (Fetch name))) s t → EitherVolume (Asks (Get name)) s t
  either_got so = ⊎_elim (λ same. inl same) (λ turned. inl (turned ∙ fetch_leaves s.records name (volume_at s))) so

  replied_got : (r : Reply) (lines : Lines) → (r ≡ reply.Ok → TellsReply (Asks (Get name)) s → lines ≡ lines_of_file name (volume_at s))
      → Replied (fetching name r log s t) → Replied (getting name (got r lines) log s t)
  replied_got (reply.No code) lines same so = record {
    may = tt;
    whole = λ tells.
        let is = so.whole tells in
        (got_reply (reply.No code) (apply s.records (Fetch name) (volume_at s)).0 lines (lines_of_file name (volume_at s)) (λ ok. same ok tells) is.0, is.1 ∙ fetch_leaves s.records name (volume_at s));
    stays = λ other. cc;
    told = so.told;
    size = so.size;
    gate = so.gate;
    foreign = so.foreign;
  }
  replied_got reply.Ok None same so = record {
    may = tt;
    whole = λ tells.
        let is = so.whole tells in
        (got_reply reply.Ok (apply s.records (Fetch name) (volume_at s)).0 None (lines_of_file name (volume_at s)) (λ ok. same ok tells) is.0, is.1 ∙ fetch_leaves s.records name (volume_at s));
    stays = λ other. cc;
    told = so.told;
    size = so.size;
    gate = so.gate;
    foreign = so.foreign;
  }
  replied_got reply.Ok (Some lines) same so = record {
    may = tt;
    whole = λ tells.
        let is = so.whole tells in
        (got_reply reply.Ok (apply s.records (Fetch name) (volume_at s)).0 (Some lines) (lines_of_file name (volume_at s)) (λ ok. same ok tells) is.0, is.1 ∙ fetch_leaves s.records name (volume_at s));
    stays = λ other. cc;
    told = so.told;
    size = so.size;
    gate = so.gate;
    foreign = so.foreign;
  }
  replied_got _ lines same so = record { may = refl; whole = λ tells own. either_got (so.whole tells own); stays = λ other. cc; told = so.told; size = so.size; gate = so.gate; foreign = so.foreign }

  status_got : (r : Reply) (lines : Lines) (now : ℕ) → StatusBehindVolume r now → StatusBehindVolume (got r lines) now
  status_got reply.Ok None now so = so
  status_got _ _ now so = so

  next_got : (r : Reply) (lines : Lines) (z y : LoopState) → Next (Asks (OfVolume (Fetch name))) r z y → Next (Asks (Get name)) (got r lines) z y
  next_got r lines z y so = record {
    devices = record {
      before = each_weaker (DeviceBehind (Asks (OfVolume (Fetch name))) r z) (DeviceBehind (Asks (Get name)) (got r lines) z) behind 1 z.before y.before so.devices.before;
      after = each_weaker (DeviceBehind (Asks (OfVolume (Fetch name))) r z) (DeviceBehind (Asks (Get name)) (got r lines) z) behind _ z.after y.after so.devices.after;
    };
    status = status_got r lines y.status so.status;
  }
    where
      behind : (party : ℕ) (d e : DeviceState) → DeviceBehind (Asks (OfVolume (Fetch name))) r z party d e → DeviceBehind (Asks (Get name)) (got r lines) z party d e
      behind party d e so = record { accessory = so.accessory; hears = so.hears; service = so.service }

  cause_got : (r : Reply) (lines : Lines) (hops : List ℕ) (before now : ℕ) (units : List RecordUnit) → HasReplyCause r hops before now units → HasReplyCause (got r lines) hops before now units
  cause_got reply.Ok None hops before now units so = so
  cause_got _ _ hops before now units so = so

  carried_got : (r : Reply) (lines : Lines) (n : ℕ) (v : Option Volume) (units : List RecordUnit) → IsCarried (Asks (OfVolume (Fetch name))) r n v units → IsCarried (Asks (Get name)) (got r lines) n v units
  carried_got reply.Ok (Some lines) n (Some v) units so = so
  carried_got _ _ n _ units so = tt

  exchanged_got : (r : Reply) (lines : Lines) (plan : List Planned) → Exchanged plan (fetching name r log s t) → Exchanged plan (getting name (got r lines) log s t)
  exchanged_got r lines plan so = record {
    reading = so.reading;
    ends = subst (λ (b : Bool). ends_as (not b) so.reading.pieces ≡ true) (sym (frame_same r lines)) so.ends;
    course = refl;
    begins = so.begins;
    outside = so.outside;
    cause = cause_got r lines _ _ _ (units_of (ring_of s.loop) so.reading.pieces) so.cause;
    effect = so.effect;
    carried = carried_got r lines s.records (volume_at s) (units_of (ring_of s.loop) so.reading.pieces) so.carried;
  }

  travels_got : (r : Reply) (lines : Lines) → Travels (fetching name r log s t) → Travels (getting name (got r lines) log s t)
  travels_got r lines so = record { one_talker = so.one_talker; commands = so.commands; roles = so.roles; crossings = so.crossings; frames = so.frames; guest = so.guest; short = so.short }

  acts_got : (r : Reply) (lines : Lines) (plan : List Planned) → (r ≡ reply.Ok → TellsReply (Asks (Get name)) s → lines ≡ lines_of_file name (volume_at s))
      → Acts plan (fetching name r log s t) → Acts plan (getting name (got r lines) log s t)
  acts_got r lines plan same so = record {
    replied = replied_got r lines same so.replied;
    next = next_got r lines s.loop t.loop so.next;
    travels = travels_got r lines so.travels;
    heard = λ other. subst (λ (b : Bool). BoxedBecome (HearsLog (device_count s.loop) (all_roles s.loop) log (not b)) s.loop t.loop) (sym (frame_same r lines)) (so.heard refl);
    exchanged = λ other. exchanged_got r lines plan (so.exchanged refl);
    lent = λ frames is. cc;
    by_plan = so.by_plan;
    ready = λ frames. so.ready refl ∙ sym (ap not (frame_same r lines));
    controls = so.controls;
    clears = λ frames. so.clears refl;
    sound = λ of. so.sound refl ∙ sym (ap not (fault_same r lines));
    unsound = λ other. cc;
    still = λ none. cc;
  }

  kept_got : (r : Reply) (lines : Lines) → KeepsDirectory (fetching name r log s t) → KeepsDirectory (getting name (got r lines) log s t)
  kept_got reply.Ok None so = record { kept = so.kept; log = λ on. inr (refl, so.log on) }
  kept_got reply.Ok (Some lines) so = record { kept = so.kept; log = λ on. so.log on }
  kept_got (reply.No code) lines so = record { kept = so.kept; log = λ on. inl (so.log on) }
  kept_got _ lines so = record { kept = so.kept; log = λ on. tt }

  tape_got : (r : Reply) (lines : Lines) → LeavesOnTape (fetching name r log s t) → LeavesOnTape (getting name (got r lines) log s t)
  tape_got reply.Ok None so = record { plain = λ of ok. cc; same = λ on. so.same refl; writes = λ on. so.writes refl; reads = λ on. so.reads refl; commits = λ ok changes t was off. tt; written = λ x y was now. tt; again = λ is. cc }
  tape_got reply.Ok (Some lines) so = record { plain = λ of ok. so.plain refl refl; same = λ on. so.same refl; writes = λ on. so.writes refl; reads = λ on. so.reads refl; commits = λ ok changes t was off. tt; written = λ x y was now. tt; again = λ is. cc }
  tape_got (reply.No code) lines so = record { plain = λ of ok. cc; same = λ on. so.same refl; writes = λ on. so.writes refl; reads = λ on. so.reads refl; commits = λ ok changes t was off. tt; written = λ x y was now. tt; again = λ is. cc }
  tape_got reply.FaultFrame lines so = tape_faulted (getting name reply.FaultFrame log s t) refl (λ on. so.reads refl)
  tape_got reply.FaultMedium lines so = tape_faulted (getting name reply.FaultMedium log s t) refl (λ on. so.reads refl)

  step_got : (r : Reply) (lines : Lines) (plan : List Planned) → (r ≡ reply.Ok → TellsReply (Asks (Get name)) s → lines ≡ lines_of_file name (volume_at s))
      → IsStep plan (fetching name r log s t) → IsStep plan (getting name (got r lines) log s t)
  step_got r lines plan same so = record { acts = acts_got r lines plan same so.acts; directory = kept_got r lines so.directory; tape = tape_got r lines so.tape }

-- ---- a host

module _ (name : List ℕ) (v w : HostView) where
  behind_got : (r : Reply) (lines : Lines) (text : List ℕ) → (r ≡ reply.Ok → TellsReply (Asks (Get name)) v.state → lines ≡ lines_of_file name (volume_at v.state))
      → (TellsReply (Asks (Get name)) v.state → text ≡ reply_text (Asks (Get name)) v.state w.log (got r lines))
      → Performed (Asks (OfVolume (Fetch name))) r v w → Performed (Asks (Get name)) (got r lines) v (record w { text = text })
  behind_got r lines text same told so = record {
    valid = so.valid;
    plan = so.plan;
    step = step_got name w.log v.state w.state r lines v.plan same so.step;
    text = told;
    stops = λ tells. weaker v.moment w.moment v.left_since w.left_since (MayBeLeft (Asks (Get name)) v.state) (MayBeLeft (Asks (OfVolume (Fetch name))) v.state) (so.stops tells)
        (λ c left. record {
          own = λ gate. let so = left.own gate in (⊎_elim (λ before. before) (λ turned. turned ∙ fetch_leaves v.state.records name (volume_at v.state)) so.0, so.1);
          foreign = left.foreign;
        });
    images = so.images;
    calls = λ is. let few = so.calls refl in record { all = few.all; on_tape = few.on_tape; from_kept = few.from_kept };
  }

  -- a fetch that was refused, or faulted
  pub not_got : (r : Reply) → is_ok r ≡ false → Performed (Asks (OfVolume (Fetch name))) r v w → Performed (Asks (Get name)) r v w
  not_got reply.Ok not_ok so = never_ok reply.Ok not_ok refl _
  not_got (reply.No code) not_ok so = behind_got (reply.No code) None w.text (λ ok. never_ok _ refl ok _) so.text so
  not_got reply.FaultFrame not_ok so = behind_got reply.FaultFrame None w.text (λ ok. never_ok _ refl ok _) so.text so
  not_got reply.FaultMedium not_ok so = behind_got reply.FaultMedium None w.text (λ ok. never_ok _ refl ok _) so.text so

  -- a fetch with ok, of a file with these lines, or of one that is no text
  pub got_lines : (lines : Lines) → (TellsReply (Asks (Get name)) v.state → lines ≡ lines_of_file name (volume_at v.state))
      → Performed (Asks (OfVolume (Fetch name))) reply.Ok v w → Performed (Asks (Get name)) (if_text lines) v (record w { text = lines_text lines ++ reply_line (if_text lines) })
  got_lines lines same so = behind_got reply.Ok lines (lines_text lines ++ reply_line (if_text lines)) (λ ok. same) (told lines same) so
    where
      told : (lines : Lines) → (TellsReply (Asks (Get name)) v.state → lines ≡ lines_of_file name (volume_at v.state))
          → TellsReply (Asks (Get name)) v.state → lines_text lines ++ reply_line (if_text lines) ≡ reply_text (Asks (Get name)) v.state w.log (if_text lines)
      told None same tells = refl
      told (Some lines) same tells = ap (λ (l : Lines). lines_text l ++ reply_line reply.Ok) (same tells)

-- ---- replies that are not ok

pub fault_not_ok : (e : Trouble) → is_ok (fault_of e) ≡ false
fault_not_ok trouble.Frame = refl
fault_not_ok trouble.Medium = refl

pub error_not_ok : (fault : VolumeFault) → is_ok (volume_reply {T = Unit {0}} (Err fault)) ≡ false
error_not_ok (Refused why) = refl
error_not_ok (Troubled e) = fault_not_ok e
