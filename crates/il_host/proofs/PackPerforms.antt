-- A packing of the volume, as a host performs it.
use Rattle.std.proofs.Common.{◌≡◌, ◌∙◌, ◌≤◌, ◌+◌, ◌*◌, ◌++◌, ℕ, true, false, List, [], Some, None, refl, sym, ap, ap₂, subst, arith}
use Rattle.std.specs.Prelude.{Result, Ok, Err, is_some, option_and_then}
use Rattle.lif_model.specs.Tape.{Tape}
use Rattle.lif_model.specs.Volume.{is_foreign_gated, volume_in}
use Rattle.lif_model.specs.Apply.{Dir}
use Rattle.lif_model.specs.declared.refusal.Refusal.{Refusal}
use Rattle.il_device.specs.State.{DeviceState}
use Rattle.il_frames.specs.declared.entry.Entry.{Entry}
use Rattle.lif_model.specs.Shelf.{IsSize}
use Rattle.lif_model.proofs.Sizes.{size_bounds}
use Rattle.il_ports.specs.Media.{IsMedium, MediumView}
use Rattle.il_ports.specs.Stores.{Begun, Continues, GoesOn, IsQuiet, IsReady, IsStore, RecordsView}
use Rattle.il_ports.specs.declared.records.Trouble.{Trouble}
use Rattle.il_ports.specs.declared.records.Trouble.TheVariants as trouble
use Rattle.lif_volume.specs.Answers.{store_answer}
use Rattle.lif_volume.specs.Changing.{SettlesForeign}
use Rattle.lif_volume.specs.Commands.{SettlesOnly}
use Rattle.lif_volume.specs.Views.{IsOpen}
use Rattle.lif_volume.specs.declared.fault.VolumeFault.{VolumeFault}
use Rattle.lif_volume.specs.declared.fault.VolumeFault.TheVariants.{Refused, Trouble as Troubled}
use Rattle.lif_volume.specs.declared.volume.Volume.{Volume}
use Rattle.lif_volume.proofs.Gated.{held_settled}
use Rattle.lif_model.specs.Packing.{finished_volume_of, has_mark, pack_refusal, packed}
use Rattle.lif_model.specs.Redo.{redo_of, settled}
use Rattle.lif_model.specs.Commit.{IsSettleWrite}
use Rattle.il_ports.specs.Transfers.{GoesOnBy, WritesOnly}
use Rattle.loop_model.specs.Effect.{Transferred}
use Rattle.lif_pack.specs.Packs.{AnswersPack, KeepsFiled, PacksTo, SettlesRefused, StaysPacked}
use Rattle.lif_model.specs.Finished.{IsPlain, IsPackedOn}
use Rattle.lif_pack.specs.Tasks.{KeepsFiles}
use Rattle.lif_pack.specs.declared.memory.Packer.{Packer}
use Rattle.lif_pack.specs.declared.pack.Packed.{Packed}
use Rattle.lif_pack.proofs.Agreeing.{settles_finished}
use Rattle.loop_model.proofs.DeviceLaws.{each_weaker}
use Rattle.il_ring.specs.declared.plan.Planned.{Planned}
use Rattle.il_ring.specs.declared.ring.Ring.{Ring}
use Rattle.il_ring.specs.Rings.{RingView}
use Rattle.il_record.specs.declared.records.LoopRecords.{LoopRecords}
use Rattle.il_record.specs.LoopStores.{LoopView, view_of}
use Rattle.il_record.specs.IsStore.{is_store_of}
use Rattle.il_script.specs.Replies.{code_of, reply_line}
use Rattle.il_script.specs.declared.reply.Reply.{Reply}
use Rattle.il_script.specs.declared.reply.Reply.TheVariants as reply
use Rattle.host_model.specs.Requests.{Asks, Lend, OfVolume, Pack, is_of_volume, uses_frames}
use Rattle.host_model.specs.HostStates.{HasOwnGate, HostState, volume_at}
use Rattle.host_model.specs.Next.{DeviceBehind}
use Rattle.host_model.specs.Replies.{packed_line, packed_text, packed_unless, refused_as, reply_of, reply_text, volume_behind}
use Rattle.host_model.specs.Steps.{Acts, CountsWhole, Event, LeavesOnTape, MayReply, Replied, TellsReply, event, packs_as}
use Rattle.host_model.specs.Tapes.{OnlySettling}
use Rattle.host_model.specs.LoopStates.{ring_of}
use Rattle.host_model.proofs.Steps.{ring_stays}
use Rattle.host_model.proofs.Tapes.{is_fault, tape_faulted}
use Rattle.il_host.proofs.KeptDirectories.{told_log}
use Rattle.host_model.specs.Stops.{StopsLeave}
use Rattle.host_model.proofs.Fronts.{controls_still}
use Rattle.il_host.specs.HostView.{Performed}
use Rattle.il_host.specs.declared.file_buffer.FileBuffer.{FileBuffer}
use Rattle.il_host.specs.Hosts.{Space, space_of, IsUsable, host_in, loop_in, store_in, volume_in as seen_volume}
use Rattle.il_host.specs.Preparing.{StaysUnsound}
use Rattle.il_host.specs.Standings.{FitsAnswer, HasDriveStatus, IsHostRing, MakesSound, event_at, fault_of, state_at, volume_reply}
use Rattle.il_host.proofs.LeftTapes.{one_tape}
use Rattle.il_host.proofs.HostVolumes.{begun_left, event_kept, fault_text, forgotten_unsound, performed}
use Rattle.il_host.proofs.VolumeAsked.{asked_seen, asked_transferred}
use Rattle.il_host.proofs.VolumeCarries.{CarriesAs}
use Rattle.il_host.proofs.VolumeCommands.{volume_broke, volume_done}
use Rattle.il_host.proofs.VolumePerforms.{Performs, performs_of}
use Rattle.il_host.proofs.VolumeReplied.{IsSeenAs, LeavesBy, broke_quiet, broke_stops, fits_fault, item_broke, item_replied, item_stops, made_quiet, quiet_then, seen_as, seen_still, tape_still, told_now, told_tape, turned}
use Rattle.il_host.proofs.VolumeStarts.{Emptied, volume_begun}
use Rattle.il_host.proofs.VolumeSteps.{TellsLoop}

-- ---- what is said of the loop is said of every command of the volume that carries no bytes of a file

pub loop_of_pack : (plan : List Planned) (answered : Reply) (log : List Entry) (s t : HostState) → TellsLoop plan (event (Asks (OfVolume Dir)) answered log s t) → TellsLoop plan (event (Asks Pack) answered log s t)
loop_of_pack plan answered log s t so = record {
  next = record {
    devices = record {
      before = each_weaker (DeviceBehind (Asks (OfVolume Dir)) answered s.loop) (DeviceBehind (Asks Pack) answered s.loop) behind 1 s.loop.before t.loop.before so.next.devices.before;
      after = each_weaker (DeviceBehind (Asks (OfVolume Dir)) answered s.loop) (DeviceBehind (Asks Pack) answered s.loop) behind _ s.loop.after t.loop.after so.next.devices.after;
    };
    status = so.next.status;
  };
  travels = record { one_talker = so.travels.one_talker; commands = so.travels.commands; roles = so.travels.roles; crossings = so.travels.crossings; frames = so.travels.frames; guest = so.travels.guest; short = so.travels.short };
  heard = so.heard;
  exchanged = record {
    reading = so.exchanged.reading;
    ends = so.exchanged.ends;
    course = refl;
    begins = λ of. so.exchanged.begins refl;
    outside = so.exchanged.outside;
    cause = so.exchanged.cause;
    effect = so.exchanged.effect;
    carried = tt;
  };
  by_plan = so.by_plan;
  ready = so.ready;
  clears = so.clears;
  sound = so.sound;
}
  where
    behind : (party : ℕ) (d e : DeviceState) → DeviceBehind (Asks (OfVolume Dir)) answered s.loop party d e → DeviceBehind (Asks Pack) answered s.loop party d e
    behind party d e so = record { accessory = so.accessory; hears = so.hears; service = so.service }

pub pack_step : (plan : List Planned) (e : Event) → e.item ≡ Asks Pack → Replied e → TellsLoop plan e → Acts plan e
pack_step plan e is replied loop = record {
  replied = replied;
  next = loop.next;
  travels = loop.travels;
  heard = λ other. loop.heard;
  exchanged = λ other. loop.exchanged;
  lent = λ frames lends. let clash : Asks Pack ≡ Asks (Lend frames) = sym is ∙ lends in cc;
  by_plan = loop.by_plan;
  ready = λ frames. loop.ready;
  controls = λ on. controls_still plan e loop.exchanged;
  clears = λ frames. loop.clears;
  sound = λ of. loop.sound;
  unsound = λ other. let clash : true ≡ false = sym (ap is_of_volume is) ∙ other in cc;
  still = λ none. let clash : true ≡ false = sym (ap uses_frames is) ∙ none in cc;
}

-- ---- the reply

module _ {S : Type 0} (v w : RecordsView S) (s t : HostState) (log : List Entry) (before : IsSeenAs s v) (after : IsSeenAs t w)
    (leaves_files : (x : Tape) → v.tape ≡ Some x → is_foreign_gated x ≡ false → LeavesBy (KeepsFiles v.record_count x) v w)
    (foreign : (x : Tape) → v.tape ≡ Some x → is_foreign_gated x ≡ true → SettlesOnly v w x) where
  abbrev Same : Tape → Type 0
  Same c = packs_as s.records (finished_volume_of c) ≡ packs_as s.records (volume_at s)

  same_left : (x c : Tape) → s.tape ≡ Some x → KeepsFiles v.record_count x c → Same c
  same_left x c is keeps =
      ap (λ n. packs_as n (finished_volume_of c)) before.records ∙ (λ i. (keeps.files i, keeps.again i))
      ∙ ap₂ (λ n tape. packs_as n (option_and_then finished_volume_of tape)) (sym before.records) (sym is)

  pub pack_stops : (answered : Reply) (u : RecordsView S) → IsQuiet u v → StopsLeave (event (Asks Pack) answered log s t) u.moment w.moment u.left_since w.left_since
  pack_stops = item_stops (Asks Pack) refl v w s t log before after Same (λ c so. so) (KeepsFiles v.record_count) same_left (λ x c keeps. keeps.own_gate) leaves_files foreign

  files_now : (u : Tape) → t.tape ≡ Some u → Same u → packs_as s.records (volume_at t) ≡ packs_as s.records (volume_at s)
  files_now u is so = ap (λ tape. packs_as s.records (option_and_then finished_volume_of tape)) is ∙ so

  files_same : HasOwnGate s → is_some s.tape ≡ true → packs_as s.records (volume_at t) ≡ packs_as s.records (volume_at s)
  files_same own told =
      let tape = told_tape s.tape told in
      let so = (turned (Asks Pack) refl v w s t log before after Same (λ c so. so) (KeepsFiles v.record_count) same_left (λ x c keeps. keeps.own_gate) leaves_files foreign tape.0 tape.1 own).after in
      files_now so.0 (after.tape ∙ so.1) (same_left tape.0 so.0 tape.1 so.2)

  module _ (told_so : is_some w.tape ≡ is_some v.tape) (size : w.record_count ≡ v.record_count) where
    by_reply : (answered : Reply) → MayReply (Asks Pack) answered → (is_some s.tape ≡ true → CountsWhole (Asks Pack) answered s t) → Replied (event (Asks Pack) answered log s t)
    by_reply = item_replied (Asks Pack) refl v w s t log before after Same (λ c so. so) (KeepsFiles v.record_count) same_left (λ x c keeps. keeps.own_gate) leaves_files foreign told_so size

    told_behind : is_some s.tape ≡ true → is_some t.tape ≡ true
    told_behind told = told_now (Asks Pack) refl v w s t log before after Same (λ c so. so) (KeepsFiles v.record_count) same_left (λ x c keeps. keeps.own_gate) leaves_files foreign told_so size ∙ told

    module _ (told : is_some s.tape ≡ true) where
      x : (tape : Tape) × (s.tape ≡ Some tape)
      x = told_tape s.tape told

      y : (tape : Tape) × (t.tape ≡ Some tape)
      y = told_tape t.tape (told_behind told)

      shown_x : volume_at s ≡ finished_volume_of x.0
      shown_x = ap (option_and_then finished_volume_of) x.1

      shown_y : volume_at t ≡ finished_volume_of y.0
      shown_y = ap (option_and_then finished_volume_of) y.1

      -- it was packed
      packed_so : (answer : Packed) → PacksTo v.record_count x.0 y.0 (Ok answer) → (reply.Ok ≡ reply_of (Asks Pack) s) × (volume_at t ≡ volume_behind (Asks Pack) s)
      packed_so answer is =
          let volume : volume_at s ≡ Some is.volume = shown_x ∙ is.shown in
          let may : pack_refusal s.records (volume_at s) ≡ None = (λ i. pack_refusal (before.records i) (volume i)) ∙ is.may in (
            ap refused_as (sym may),
            shown_y ∙ is.shown_after ∙ ap (λ n. Some (packed n is.volume)) (sym before.records)
                ∙ sym ((λ i. packed_unless s.records (may i) (volume i))),
          )

      -- it was refused
      refused_so : (why : Refusal) → PacksTo v.record_count x.0 y.0 (Err (Refused why)) → (reply.No (code_of why) ≡ reply_of (Asks Pack) s) × (volume_at t ≡ volume_behind (Asks Pack) s)
      refused_so why is =
          let may : pack_refusal s.records (volume_at s) ≡ Some why = (λ i. pack_refusal (before.records i) (shown_x i)) ∙ is.0 in
          let stays : volume_at t ≡ volume_at s = shown_y ∙ ap finished_volume_of is.1 ∙ ap volume_in (settles_finished x.0) ∙ sym shown_x in
          (ap refused_as (sym may), stays ∙ sym (ap (λ o. packed_unless s.records o (volume_at s)) may))

    pub pack_replied : (answer : Result Packed VolumeFault) → ((x y : Tape) → v.tape ≡ Some x → w.tape ≡ Some y → PacksTo v.record_count x y answer) → Replied (event (Asks Pack) (volume_reply answer) log s t)
    pack_replied (Ok answer) packs = by_reply reply.Ok tt (λ told. packed_so told answer (packs (x told).0 (y told).0 (sym before.tape ∙ (x told).1) (sym after.tape ∙ (y told).1)))
    pack_replied (Err (Refused why)) packs = by_reply (reply.No (code_of why)) tt (λ told. refused_so told why (packs (x told).0 (y told).0 (sym before.tape ∙ (x told).1) (sym after.tape ∙ (y told).1)))
    pack_replied (Err (Troubled trouble.Frame)) packs = by_reply reply.FaultFrame refl (λ told own. files_same own told)
    pack_replied (Err (Troubled trouble.Medium)) packs = by_reply reply.FaultMedium refl (λ told own. files_same own told)

-- ---- the performance

-- the answer of the store fits the reply
fits_answer : {T : Type 0} (answer : Result T VolumeFault) → FitsAnswer (store_answer answer) (volume_reply answer)
fits_answer (Ok x) = refl
fits_answer (Err (Refused why)) = refl
fits_answer (Err (Troubled e)) = fits_fault (Unit {0}) e

module _ {M S : Type 0} (view : M → MediumView) (seen : S → RingView M) (o a q : S) (old begun new : LoopView M)
    (valid : (view_of view seen o old).valid) (here : seen o ≡ old.ring) (there : seen a ≡ begun.ring) (empties : Begun (view_of view seen o old) (view_of view seen a begun))
    (room : IsHostRing view old.ring) (low : HasDriveStatus new.ring) (left : 1 ≤ (view_of view seen q new).calls_left) where
  emptied : Emptied view old begun
  emptied = volume_begun view seen o a old begun valid here there empties

  -- The store could not be made sound.
  pub pack_not_asked : (e : Trouble) → IsStore (view_of view seen o old) → MakesSound {T = Unit {0}} view begun new (Err e) → (e ≡ trouble.Frame) × Performs view seen o q (Asks Pack) reply.FaultFrame old new
  pack_not_asked e store makes =
      let loop = volume_broke view Dir begun new emptied.stands emptied.log emptied.begins (emptied.room room) low (Unit {0}) seen q e left makes in
      let still = broke_quiet view seen a q begun new emptied.stands (Unit {0}) e makes in
      let s = state_at view begun in
      let t = state_at view new in
      let before = seen_as view seen a begun in
      let after = seen_as view seen q new in
      let same = tape_still (Asks Pack) (view_of view seen a begun) (view_of view seen q new) s t (new.ring.books.log) before after still in
      let replied = item_broke (Asks Pack) (view_of view seen a begun) (view_of view seen q new) s t (new.ring.books.log) before after still refl refl
      (ap (λ tape. packs_as s.records (option_and_then finished_volume_of tape)) same) in
      let first = subst (λ (s : HostState). IsSeenAs s (view_of view seen o old)) (sym emptied.state) (seen_as view seen o old) in
      let stops = broke_stops (Asks Pack) reply.FaultFrame (view_of view seen o old) (view_of view seen q new) s t (new.ring.books.log) first store
      (quiet_then (view_of view seen o old) (view_of view seen a begun) (view_of view seen q new) empties.quiet still.quiet) in (
        loop.0,
        performs_of view seen o a q (Asks Pack) old begun new emptied reply.FaultFrame
            (pack_step (begun.ring.books.plan) (event_at view (Asks Pack) reply.FaultFrame begun new) refl replied (loop_of_pack (begun.ring.books.plan) reply.FaultFrame (new.ring.books.log) s t loop.1)) stops loop.2,
      )

  -- It was made sound as p, and the volume was packed.
  module _ (p : S) (calls : ℕ) (mid : LoopView M) (makes : MakesSound {T = Unit {0}} view begun mid (Ok tt)) (agrees : seen p ≡ mid.ring)
      (answer : Result Packed VolumeFault) (goes : GoesOn calls (view_of view seen p mid) (view_of view seen q new) (store_answer answer))
      (leaves_files : (t : Tape) → (view_of view seen p mid).tape ≡ Some t → is_foreign_gated t ≡ false → LeavesBy (KeepsFiles (view_of view seen p mid).record_count t) (view_of view seen p mid) (view_of view seen q new))
      (foreign : (t : Tape) → (view_of view seen p mid).tape ≡ Some t → is_foreign_gated t ≡ true → SettlesOnly (view_of view seen p mid) (view_of view seen q new) t)
      (packs : (t u : Tape) → (view_of view seen p mid).tape ≡ Some t → (view_of view seen q new).tape ≡ Some u → PacksTo (view_of view seen p mid).record_count t u answer) where
    pub pack_performs : Performs view seen o q (Asks Pack) (volume_reply answer) old new
    pack_performs =
        let s = state_at view begun in
        let t = state_at view new in
        let quiet = made_quiet view seen a p begun mid emptied.stands tt emptied.unbroken makes in
        let before = seen_still s (view_of view seen a begun) (view_of view seen p mid) (seen_as view seen a begun) quiet.quiet quiet.size in
        let after = seen_as view seen q new in
        let loop = volume_done view Dir begun new emptied.stands emptied.log emptied.begins (emptied.room room) low tt seen p q calls mid (store_answer answer) (volume_reply answer) emptied.unbroken makes agrees goes (fits_answer answer)
        (dir_carries answer) left in
        let replied = pack_replied (view_of view seen p mid) (view_of view seen q new) s t (new.ring.books.log) before after leaves_files foreign goes.continues.told goes.continues.size answer packs in
        let stops = pack_stops (view_of view seen p mid) (view_of view seen q new) s t (new.ring.books.log) before after leaves_files foreign (volume_reply answer) (view_of view seen o old)
        (quiet_then (view_of view seen o old) (view_of view seen a begun) (view_of view seen p mid) empties.quiet quiet.quiet) in
        performs_of view seen o a q (Asks Pack) old begun new emptied (volume_reply answer)
        (pack_step (begun.ring.books.plan) (event_at view (Asks Pack) (volume_reply answer) begun new) refl replied (loop_of_pack (begun.ring.books.plan) (volume_reply answer) (new.ring.books.log) s t loop.0)) stops loop.1
      where
        dir_carries : (answer : Result Packed VolumeFault) → CarriesAs Dir (volume_reply answer) (state_at view begun).records (volume_at (state_at view begun)) (view_of view seen q new).transferred
        dir_carries answer = tt

-- ---- a host

-- the store was made sound as m: there is room to pack
module _ {M I : Type 0} {D : I → Type 0} (view : M → MediumView) (seen : Ring M I D → RingView M) (o b m : Volume (LoopRecords M I D)) (text_space : ℕ) (space : Space)
    (usable : IsUsable view (store_in view seen) (seen_volume o) (loop_in seen o.records) text_space space) (began : Begun (store_in view seen o.records) (store_in view seen b.records))
    (sounds : Continues {T = Unit {0}} 1 (store_in view seen b.records) (store_in view seen m.records) (Ok tt)) where
  pub ready_to_pack : IsReady (15 * (store_in view seen m.records).record_count + 120) (store_in view seen m.records)
  ready_to_pack = record {
    valid = sounds.valid;
    sound = sounds.sound;
    left = omega (arith, begun_left view seen o b m text_space space usable began, sounds.left, sounds.size, began.size);
  }

-- its medium is no larger than the largest
pub small_to_pack : (asked begun old : ℕ) → asked ≡ begun → begun ≡ old → IsSize old → asked ≤ 8192
small_to_pack asked begun old one two size = let bounds = size_bounds old size in omega (arith, one, two, bounds.1)

-- as much memory for files and slots
pub same_space : (v w : FileBuffer) (p q : Packer) → v.room ≡ w.room → p.slots.room ≡ q.slots.room → space_of v p ≡ space_of w q
same_space v w p q files slots i = record { file = files i; slots = slots i }

module _ {M I : Type 0} {D : I → Type 0} (view : M → MediumView) (seen : Ring M I D → RingView M) (o b n : Volume (LoopRecords M I D)) (text_space : ℕ) (space : Space)
    (usable : IsUsable view (store_in view seen) (seen_volume o) (loop_in seen o.records) text_space space) (began : Begun (store_in view seen o.records) (store_in view seen b.records))
    (law : (x : M) → IsMedium (view x)) (opens : IsOpen (store_in view seen) (seen_volume n)) (low : HasDriveStatus (loop_in seen n.records).ring) where
  abbrev state : List ℕ → HostState
  state before = (host_in view seen o before text_space space).state

  pub pack_unsound : (e : Trouble) (before : List ℕ) → StaysUnsound view seen b n e
      → Performed (Asks Pack) (fault_of e) (host_in view seen o before text_space space) (host_in view seen n (reply_line (fault_of e)) text_space space)
  pack_unsound e before stays =
      let store = is_store_of view seen o.records.ring (loop_in seen o.records) law in
      let used = stays.sounds.left in
      let left : 1 ≤ (store_in view seen n.records).calls_left = omega (arith, begun_left view seen o b n text_space space usable began, used) in
      let off = forgotten_unsound view seen o b n text_space space usable began e stays in
      let did = pack_not_asked view seen o.records.ring b.records.ring n.records.ring (loop_in seen o.records) (loop_in seen b.records) (loop_in seen n.records)
      usable.volume_open.valid refl refl began usable.log low left e store stays.makes in
      performed view seen o b n text_space space usable began opens (Asks Pack) (fault_of e) before (reply_line (fault_of e)) (stays.sounds.size ∙ began.size)
      (subst (λ e. Performs view seen o.records.ring n.records.ring (Asks Pack) (fault_of e) (loop_in seen o.records) (loop_in seen n.records)) (sym did.0) did.1)
      (record { kept = off; log = λ on. tt })
      (λ told. sym (fault_text (Asks Pack) (state before) ((loop_in seen n.records).ring.books.log) e))
      (λ is. (
        (omega (arith, used), λ other. cc, λ other. cc),
        λ t told on. let clash : true ≡ false = sym on ∙ off in cc,
        tape_faulted (event_kept view seen o b n text_space space usable began opens (Asks Pack) (fault_of e)) (ap (λ x. is_fault (fault_of x)) did.0) (λ on. cc),
      ))

  -- the store was made sound as m
  module _ (m : Volume (LoopRecords M I D)) (makes : MakesSound {T = Unit {0}} view (loop_in seen b.records) (loop_in seen m.records) (Ok tt))
      (sounds : Continues {T = Unit {0}} 1 (store_in view seen b.records) (store_in view seen m.records) (Ok tt)) where
    size_made : (store_in view seen m.records).record_count ≡ (store_in view seen o.records).record_count
    size_made = sounds.size ∙ began.size

    seen_made : (before : List ℕ) → IsSeenAs (state before) (store_in view seen m.records)
    seen_made before =
        let so = asked_seen view seen o.records.ring b.records.ring m.records.ring (loop_in seen o.records) (loop_in seen b.records) (loop_in seen m.records)
        usable.volume_open.valid refl refl began tt makes in
        record { tape = so.tape; records = so.records }

    -- the text of its reply
    packed_text_is : (before : List ℕ) (answer : Packed) → AnswersPack (store_in view seen) (seen_volume m) (seen_volume n) (Ok answer) → is_some (store_in view seen n.records).tape ≡ is_some (store_in view seen m.records).tape
        → TellsReply (Asks Pack) (state before) → packed_text answer.files answer.free ++ reply_line reply.Ok ≡ reply_text (Asks Pack) (state before) ((loop_in seen n.records).ring.books.log) reply.Ok
    packed_text_is before answer answers told_so tells =
        let so = seen_made before in
        let t = told_tape (state before).tape (tells refl) in
        let m_told : (store_in view seen m.records).tape ≡ Some t.0 = sym so.tape ∙ t.1 in
        let u = told_tape (store_in view seen n.records).tape (told_so ∙ ap is_some m_told) in
        let is = answers t.0 u.0 m_told u.1 in
        let volume : volume_at (state before) ≡ Some is.volume = ap (option_and_then finished_volume_of) t.1 ∙ is.shown in
        ap (λ lines. lines ++ reply_line reply.Ok)
        ((λ i. packed_text (is.files i) (is.free i)) ∙ sym (λ i. packed_line (so.records i) (volume i)))

    -- what it leaves of the tape, and what it writes
    pack_tape : (answer : Result Packed VolumeFault) (before : List ℕ) → Performs view seen o.records.ring n.records.ring (Asks Pack) (volume_reply answer) (loop_in seen o.records) (loop_in seen n.records)
        → AnswersPack (store_in view seen) (seen_volume m) (seen_volume n) answer
        → StaysPacked (store_in view seen) (seen_volume m) (seen_volume n) answer → SettlesRefused (store_in view seen) (seen_volume m) (seen_volume n) answer
        → LeavesOnTape (event_kept view seen o b n text_space space usable began opens (Asks Pack) (volume_reply answer))
    pack_tape answer before did answers again refusal = by answer did answers again refusal
      where
        count : ℕ
        count = (store_in view seen o.records).record_count

        at_asked : (t : Tape) → (state before).tape ≡ Some t → (store_in view seen m.records).tape ≡ Some t
        at_asked t was = sym (seen_made before).tape ∙ was

        told_behind : (u : Tape) → (state_at view (loop_in seen n.records)).tape ≡ Some u → (store_in view seen n.records).tape ≡ Some u
        told_behind u now = sym (seen_as view seen n.records.ring (loop_in seen n.records)).tape ∙ now

        none : (store_in view seen m.records).transferred []
        none =
            asked_transferred view seen o.records.ring b.records.ring m.records.ring (loop_in seen o.records) (loop_in seen b.records) (loop_in seen m.records)
            usable.volume_open.valid refl refl began tt makes

        -- a log of settling
        settles : (answered : Reply) → Performs view seen o.records.ring n.records.ring (Asks Pack) answered (loop_in seen o.records) (loop_in seen n.records) → (t : Tape)
            → GoesOnBy (IsSettleWrite (store_in view seen m.records).record_count (redo_of t)) (store_in view seen m.records).transferred (store_in view seen n.records).transferred
            → OnlySettling count (ring_of (state_at view (loop_in seen o.records)).loop) ((loop_in seen n.records).ring.books.log) t
        settles answered ran t goes_by =
            let ring = ring_stays _ (state_at view (loop_in seen o.records)).loop (state_at view (loop_in seen n.records)).loop ran.step.next.devices in
            let more = goes_by.goes_on [] none in
            record {
              list = more.0;
              transferred = subst (λ l. Transferred l ((loop_in seen n.records).ring.books.log) more.0) ring (told_log view seen n.records.ring (loop_in seen n.records) more.0 more.1);
              only = subst (λ k. WritesOnly (IsSettleWrite k (redo_of t)) more.0) size_made more.2;
            }

        by : (answer : Result Packed VolumeFault) → Performs view seen o.records.ring n.records.ring (Asks Pack) (volume_reply answer) (loop_in seen o.records) (loop_in seen n.records)
            → AnswersPack (store_in view seen) (seen_volume m) (seen_volume n) answer
            → StaysPacked (store_in view seen) (seen_volume m) (seen_volume n) answer → SettlesRefused (store_in view seen) (seen_volume m) (seen_volume n) answer
            → LeavesOnTape (event_kept view seen o b n text_space space usable began opens (Asks Pack) (volume_reply answer))
        by (Ok a) ran answers again refusal = record {
          plain = λ of ok t u was now.
              let is = answers t u (at_asked t was) (told_behind u now) in
              subst (λ k. IsPlain k u) size_made (record { is_settled = is.is_settled; clear = ap (has_mark (store_in view seen m.records).record_count) is.is_packed.has ∙ is.is_packed.unmarked });
          same = λ on. cc;
          writes = λ on. cc;
          reads = λ on. cc;
          commits = λ ok changes t was off. tt;
          written = λ t u was now. let is = answers t u (at_asked t was) (told_behind u now) in record { volume = is.volume; shown = is.shown; outside = is.outside };
          again = λ is ok t u was now packed.
              let so = again t (at_asked t was) (subst (λ k. IsPackedOn k t) (sym size_made) packed) in
              (one_tape (store_in view seen n.records).tape u (settled t) (told_behind u now) so.2, settles reply.Ok ran t (so.1 t (at_asked t was)));
        }
        by (Err (Refused why)) ran answers again refusal = record {
          plain = λ of ok. cc;
          same = λ on t u was now. (answers t u (at_asked t was) (told_behind u now)).1;
          writes = λ on t was off. settles (reply.No (code_of why)) ran t (refusal why refl t (at_asked t was));
          reads = λ on. cc;
          commits = λ ok changes t was off. tt;
          written = λ t u was now. tt;
          again = λ is ok. cc;
        }
        by (Err (Troubled trouble.Frame)) ran answers again refusal = tape_faulted (event_kept view seen o b n text_space space usable began opens (Asks Pack) reply.FaultFrame) refl (λ on. cc)
        by (Err (Troubled trouble.Medium)) ran answers again refusal = tape_faulted (event_kept view seen o b n text_space space usable began opens (Asks Pack) reply.FaultMedium) refl (λ on. cc)

    pub pack_done : (answer : Result Packed VolumeFault) (before after : List ℕ)
        → GoesOn (15 * (store_in view seen m.records).record_count + 120) (store_in view seen m.records) (store_in view seen n.records) (store_answer answer)
        → n.kept ≡ None → AnswersPack (store_in view seen) (seen_volume m) (seen_volume n) answer
        → KeepsFiled (store_in view seen) (seen_volume m) (seen_volume n) → SettlesForeign (store_in view seen) (seen_volume m) (seen_volume n)
        → StaysPacked (store_in view seen) (seen_volume m) (seen_volume n) answer → SettlesRefused (store_in view seen) (seen_volume m) (seen_volume n) answer
        → (TellsReply (Asks Pack) (state before) → after ≡ reply_text (Asks Pack) (state before) ((loop_in seen n.records).ring.books.log) (volume_reply answer))
        → Performed (Asks Pack) (volume_reply answer) (host_in view seen o before text_space space) (host_in view seen n after text_space space)
    pack_done answer before after goes none answers files foreign again refusal text =
        let off : is_some n.kept ≡ false = ap is_some none in
        let left : 1 ≤ (store_in view seen n.records).calls_left = omega (arith, begun_left view seen o b n text_space space usable began, sounds.left, goes.continues.left, size_made) in
        let did = pack_performs view seen o.records.ring b.records.ring n.records.ring (loop_in seen o.records) (loop_in seen b.records) (loop_in seen n.records)
        usable.volume_open.valid refl refl began usable.log low left
        m.records.ring _ (loop_in seen m.records) makes refl answer goes
        (λ t told own. let so = files t told own in record { stops = so.stops; after = so.after })
        (λ t told held. foreign t told (held_settled t held)) answers in
        performed view seen o b n text_space space usable began opens (Asks Pack) (volume_reply answer) before after (goes.continues.size ∙ size_made) did
        (record { kept = off; log = λ on. tt }) text
        (λ is. (
          (omega (arith, sounds.left, goes.continues.left, size_made), λ other. cc, λ other. cc),
          λ t told on. let clash : true ≡ false = sym on ∙ off in cc,
          pack_tape answer before did answers again refusal,
        ))

    -- with ok, and with an error
    pub packed_host : (answer : Packed) (before : List ℕ)
        → GoesOn {T = Unit {0}} (15 * (store_in view seen m.records).record_count + 120) (store_in view seen m.records) (store_in view seen n.records) (Ok tt)
        → n.kept ≡ None → AnswersPack (store_in view seen) (seen_volume m) (seen_volume n) (Ok answer)
        → KeepsFiled (store_in view seen) (seen_volume m) (seen_volume n) → SettlesForeign (store_in view seen) (seen_volume m) (seen_volume n)
        → StaysPacked (store_in view seen) (seen_volume m) (seen_volume n) (Ok answer) → SettlesRefused (store_in view seen) (seen_volume m) (seen_volume n) (Ok answer)
        → Performed (Asks Pack) reply.Ok (host_in view seen o before text_space space) (host_in view seen n (packed_text answer.files answer.free ++ reply_line reply.Ok) text_space space)
    packed_host answer before goes none answers files foreign again refusal =
        pack_done (Ok answer) before (packed_text answer.files answer.free ++ reply_line reply.Ok) goes none answers files foreign again refusal
        (packed_text_is before answer answers goes.continues.told)

    pub not_packed_host : (fault : VolumeFault) (before : List ℕ)
        → GoesOn (15 * (store_in view seen m.records).record_count + 120) (store_in view seen m.records) (store_in view seen n.records) (store_answer {T = Packed} (Err fault))
        → n.kept ≡ None → AnswersPack (store_in view seen) (seen_volume m) (seen_volume n) (Err fault)
        → KeepsFiled (store_in view seen) (seen_volume m) (seen_volume n) → SettlesForeign (store_in view seen) (seen_volume m) (seen_volume n)
        → StaysPacked (store_in view seen) (seen_volume m) (seen_volume n) (Err fault) → SettlesRefused (store_in view seen) (seen_volume m) (seen_volume n) (Err fault)
        → Performed (Asks Pack) (volume_reply {T = Unit {0}} (Err fault)) (host_in view seen o before text_space space) (host_in view seen n (reply_line (volume_reply {T = Unit {0}} (Err fault))) text_space space)
    not_packed_host fault before goes none answers files foreign again refusal = by fault goes answers again refusal
      where
        by : (fault : VolumeFault) → GoesOn (15 * (store_in view seen m.records).record_count + 120) (store_in view seen m.records) (store_in view seen n.records) (store_answer {T = Packed} (Err fault))
            → AnswersPack (store_in view seen) (seen_volume m) (seen_volume n) (Err fault)
            → StaysPacked (store_in view seen) (seen_volume m) (seen_volume n) (Err fault) → SettlesRefused (store_in view seen) (seen_volume m) (seen_volume n) (Err fault)
            → Performed (Asks Pack) (volume_reply {T = Unit {0}} (Err fault)) (host_in view seen o before text_space space) (host_in view seen n (reply_line (volume_reply {T = Unit {0}} (Err fault))) text_space space)
        by (Refused why) goes answers again refusal = pack_done (Err (Refused why)) before (reply_line (reply.No (code_of why))) goes none answers files foreign again refusal (λ told. refl)
        by (Troubled e) goes answers again refusal = pack_done (Err (Troubled e)) before (reply_line (fault_of e)) goes none answers files foreign again refusal (λ told. sym (fault_text (Asks Pack) (state before) ((loop_in seen n.records).ring.books.log) e))
