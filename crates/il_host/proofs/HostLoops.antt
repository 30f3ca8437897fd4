-- A command that asks the devices of the loop, as a host performs it.
use Rattle.std.proofs.Common.{◌≡◌, ◌∙◌, ◌≤◌, ◌+◌, ◌*◌, ◌++◌, ◌-◌, ◌^◌, ◌/◌, ◌<◌, ℕ, suc, false, List, length, Option, None, Some, option_map, refl, sym, ap, subst, arith}
use Rattle.std.specs.Prelude.{Result, Ok, Err, Bool, true, [], ◌∷◌, find, if◌then◌else◌, is_some}
use Rattle.std.specs.List.{All, position}
use Rattle.std.proofs.lemmas.List.Elements.{All-head, All-tail}
use Rattle.il_device.specs.State.{DeviceState}
use Rattle.loop_model.specs.Polls.{polled_along}
use Rattle.il_host.specs.Shorts.{IsShort}
use Rattle.lif_model.proofs.Sizes.{size_bounds}
use Rattle.il_frames.specs.declared.frame.Frame.{Frame}
use Rattle.il_ports.specs.Media.{MediumView, IsMedium}
use Rattle.il_ports.specs.Stores.{Begun, IsStore}
use Rattle.il_ports.specs.declared.records.Trouble.{Trouble}
use Rattle.il_ports.specs.declared.records.Trouble.TheVariants as trouble
use Rattle.lif_volume.specs.Views.{IsOpen}
use Rattle.lif_volume.specs.declared.volume.Volume.{Volume}
use Rattle.il_ring.specs.declared.ring.Ring.{Ring}
use Rattle.il_ring.specs.Rings.{RingView, devices_of, drive_party, has_id, paper_of, printer_id, spare_of}
use Rattle.il_control.specs.Calls.{idy}
use Rattle.il_record.specs.declared.records.LoopRecords.{LoopRecords}
use Rattle.il_record.specs.declared.records.Since.{Since}
use Rattle.il_record.specs.Asks.{up_to}
use Rattle.il_guest.specs.State.{GuestState}
use Rattle.il_ring.specs.Guests.{guest_mind}
use Rattle.il_record.specs.Called.{Called, LeavesLent, LeavesStore, LendCalls}
use Rattle.il_record.specs.IsStore.{is_store_of}
use Rattle.il_record.specs.LoopCalls.{AllNamed, LeftAlone, NotSaid, Said, id_asks}
use Rattle.il_record.specs.LoopStores.{Addresses, LoopView, view_of}
use Rattle.il_record.specs.Polls.{HasPolled, PollBroke, poll_asks}
use Rattle.il_record.specs.Runs.{NotPolled, Polled}
use Rattle.il_script.specs.declared.reply.Reply.{Reply}
use Rattle.il_script.specs.declared.reply.Reply.TheVariants as reply
use Rattle.il_script.specs.declared.reply.Code.TheVariants as code
use Rattle.il_script.specs.declared.limits.TheConstants.{LONGEST_PAYLOAD, MOST_FRAMES}
use Rattle.il_script.specs.Replies.{reply_line}
use Rattle.host_model.specs.Requests.{Asks, Devices, Item, Lend, Paper, Poll, Say, Status}
use Rattle.host_model.specs.LoopStates.{paper_on, printer_at}
use Rattle.host_model.specs.HostStates.{HostState}
use Rattle.host_model.specs.Replies.{device_lines, if_printer, paper_line, poll_line, reply_text, status_line}
use Rattle.host_model.specs.Steps.{KeepsDirectory}
use Rattle.il_host.specs.HostView.{Performed}
use Rattle.il_host.specs.Hosts.{Space, IsUsable, host_in, loop_in, store_in, volume_in}
use Rattle.il_host.specs.Standings.{HasDriveId, fault_of}
use Rattle.il_host.specs.Texts.{found_lines}
use Rattle.il_frames.specs.declared.entry.Entry.{Entry}
use Rattle.il_host.proofs.KeptDirectories.{forgotten}
use Rattle.il_host.proofs.HostVolumes.{begun_calls, event_kept, fault_text, performed}
use Rattle.il_host.proofs.LoopEvents.{IsOfLoop, not_of_volume}
use Rattle.il_host.proofs.LoopReady.{ready_err}
use Rattle.il_host.proofs.LoopPerforms.{devices_broke, devices_performs, lend_broke, lend_lines, lend_performs, loop_unready, poll_broke, poll_performs, printer_told, say_broke, say_no_printer, say_performs, say_unnamed, status_broke, status_performs}
use Rattle.il_host.proofs.PaperPerforms.{paper_performs}
use Rattle.il_host.proofs.VolumePerforms.{Performs}

-- ---- room

-- the ring of a store with room for so many calls has room for their entries
pub ring_room : {M S : Type 0} (view : M → MediumView) (seen : S → RingView M) (p : S) (l : LoopView M) (k calls : ℕ) → (view_of view seen p l).valid → 1 ≤ calls → calls ≤ (view_of view seen p l).calls_left → k ≤ 300 * calls + 32
    → k ≤ spare_of l.ring
ring_room view seen p l k calls valid some left enough = omega (arith, some, left, enough)

-- ---- the paper

paper_text : (found : Option (List ℕ × ℕ)) (s : HostState) (log : List Entry) → found ≡ paper_on s.loop → paper_line found ++ reply_line (if_printer found) ≡ reply_text (Asks Paper) s log (if_printer found)
paper_text None s log is = refl
paper_text (Some p) s log is = ap (λ found. paper_line found ++ reply_line reply.Ok) is

-- what is kept of it is short, where all devices keep to their room
abbrev pub kept_of : Option (List ℕ × ℕ) → List ℕ
kept_of None = []
kept_of (Some p) = p.0

pub paper_short : (devices : List DeviceState) (found : Option (List ℕ × ℕ)) → All IsShort devices → found ≡ paper_of devices → length (kept_of found) ≤ 8192
paper_short devices found all is = subst (λ found. length (kept_of found) ≤ 8192) (sym is) (of_all devices all)
  where
    first : (test : Bool) (d : DeviceState) (rest : Option DeviceState) → IsShort d → length (kept_of (option_map (λ (d : DeviceState). (d.heard, d.heard_count)) rest)) ≤ 8192
        → length (kept_of (option_map (λ (d : DeviceState). (d.heard, d.heard_count)) (if test then Some d else rest))) ≤ 8192
    first true d rest is short = omega (arith, is.heard, is.room)
    first false d rest is short = short

    of_all : (devices : List DeviceState) → All IsShort devices → length (kept_of (paper_of devices)) ≤ 8192
    of_all [] all = omega arith
    of_all (d ∷ devices) all = first (has_id printer_id d.accessory) d (find (λ d. has_id printer_id d.accessory) devices) (All-head IsShort d devices all) (of_all devices (All-tail IsShort d devices all))

-- ---- a volume whose records were lent

-- it keeps no directory
abbrev pub lent : {M I : Type 0} {D : I → Type 0} → Volume (LoopRecords M I D) → LoopRecords M I D → Volume (LoopRecords M I D)
lent v records = record v { records = records; kept = None }

-- it is open as before
pub lent_open_by : {M I : Type 0} {D : I → Type 0} (view : M → MediumView) (seen : Ring M I D → RingView M) (v : Volume (LoopRecords M I D)) (lends records : LoopRecords M I D) → IsOpen (store_in view seen) (volume_in v) → lends ≡ v.records
    → (store_in view seen records).valid → (store_in view seen records).record_count ≡ (store_in view seen lends).record_count → IsOpen (store_in view seen) (volume_in (lent v records))
lent_open_by {M} {I} {D} view seen v lends records opens same valid sized =
    let size : (store_in view seen records).record_count ≡ (store_in view seen v.records).record_count = sized ∙ ap (λ (l : LoopRecords M I D). (store_in view seen l).record_count) same in
    record {
      valid = valid;
      size = subst (λ n. 37 < n) (sym size) opens.size;
      small = subst (λ n. n < 2 ^ 16) (sym size) opens.small;
      room = opens.room ∙ ap (λ n. 8 * (n - 5)) (sym size);
      legal = tt;
      known = λ t told. tt;
      gate = λ t told. tt;
      end = λ t told. tt;
    }

pub lent_open : {M I T : Type 0} {D : I → Type 0} (view : M → MediumView) (seen : Ring M I D → RingView M) (v : Volume (LoopRecords M I D)) (lends records : LoopRecords M I D) (k : ℕ) (P : Type 0) (answer : Result T Trouble)
    → IsOpen (store_in view seen) (volume_in v) → lends ≡ v.records → LeavesStore k P (store_in view seen lends) (store_in view seen records) answer → IsOpen (store_in view seen) (volume_in (lent v records))
lent_open view seen v lends records k P answer opens same leaves = lent_open_by view seen v lends records opens same leaves.valid leaves.size

-- what a call leaves of records that were lent is what it leaves of those of the volume
pub left_lent_as : {M I T : Type 0} {D : I → Type 0} (view : M → MediumView) (seen : Ring M I D → RingView M) (lends records new : LoopRecords M I D) (answer : Result T Trouble) → lends ≡ records
    → LeavesStore 1 ((store_in view seen lends).failed None) (store_in view seen lends) (store_in view seen new) answer → LeavesStore 1 ((store_in view seen records).failed None) (store_in view seen records) (store_in view seen new) answer
left_lent_as {M} {I} {T} {D} view seen lends records new answer same leaves = subst (λ (l : LoopRecords M I D). LeavesStore 1 ((store_in view seen l).failed None) (store_in view seen l) (store_in view seen new) answer) same leaves

-- ---- a host over a volume that was o before, and b after the emptying of its log

module _ {M I : Type 0} {D : I → Type 0} (view : M → MediumView) (seen : Ring M I D → RingView M) (o b : Volume (LoopRecords M I D)) (text_space : ℕ) (space : Space)
    (usable : IsUsable view (store_in view seen) (volume_in o) (loop_in seen o.records) text_space space) (began : Begun (store_in view seen o.records) (store_in view seen b.records))
    (law : (m : M) → IsMedium (view m)) (before : List ℕ) where
  -- its records became these
  abbrev Ran : LoopRecords M I D → Item → Reply → Type 0
  Ran l item answered = Performs view seen o.records.ring l.ring item answered (loop_in seen o.records) (loop_in seen l)

  -- the host with this volume and this text
  abbrev Behind : Volume (LoopRecords M I D) → Item → Reply → List ℕ → Type 0
  Behind n item answered text = Performed item answered (host_in view seen o before text_space space) (host_in view seen n text text_space space)

  store : IsStore (store_in view seen o.records)
  store = is_store_of view seen o.records.ring (loop_in seen o.records) law

  left_begun : 2763 ≤ (store_in view seen b.records).calls_left
  left_begun = let left = begun_calls view seen o b o text_space space usable began in let size = size_bounds (store_in view seen o.records).record_count usable.size in omega (arith, left, size.0, size.1)

  -- the directory is forgotten
  forgets : (n : Volume (LoopRecords M I D)) (item : Item) (answered : Reply) (opens : IsOpen (store_in view seen) (volume_in n)) → IsOfLoop item → is_some n.kept ≡ false
      → KeepsDirectory (event_kept view seen o b n text_space space usable began opens item answered)
  forgets n item answered opens of_loop off =
      let event = event_kept view seen o b n text_space space usable began opens item answered in
      let is = forgotten item (is_some o.kept) answered event.before event.log (is_some n.kept) of_loop off in
      record { kept = is.0; log = λ on. is.1 }

  -- it replied a fault
  faulted : (n : Volume (LoopRecords M I D)) (item : Item) (e : Trouble) → IsOfLoop item → IsOpen (store_in view seen) (volume_in n) → is_some n.kept ≡ false → (store_in view seen n.records).record_count ≡ (store_in view seen o.records).record_count
      → (e ≡ trouble.Frame) × Ran n.records item reply.FaultFrame → Behind n item (fault_of e) (reply_line (fault_of e))
  faulted n item e of_loop opens off size did =
      performed view seen o b n text_space space usable began opens item (fault_of e) before (reply_line (fault_of e)) size
      (subst (λ e. Ran n.records item (fault_of e)) (sym did.0) did.1) (forgets n item (fault_of e) opens of_loop off)
      (λ told. sym (fault_text item (host_in view seen o before text_space space).state ((loop_in seen n.records).ring.books.log) e)) (λ is. absurd (not_of_volume item of_loop is))

  -- the loop was not ready, and could not be addressed
  pub not_ready : (n : Volume (LoopRecords M I D)) (item : Item) (P : Type 0) (e : Trouble) → IsOpen (store_in view seen) (volume_in n) → IsOfLoop item
      → Addresses {T = Unit {0}} view (loop_in seen b.records).ready (loop_in seen b.records) (loop_in seen n.records) (Err e)
      → LeavesStore {T = Unit {0}} 1 P (store_in view seen b.records) (store_in view seen n.records) (Err e) → n.kept ≡ (if (loop_in seen b.records).ready then b.kept else None) → Behind n item (fault_of e) (reply_line (fault_of e))
  not_ready n item P e opens of_loop addresses leaves kept =
      let left : 1 ≤ (store_in view seen n.records).calls_left = let enough = left_begun in let used = leaves.left in omega (arith, enough, used) in
      faulted n item e of_loop opens (ap is_some (kept ∙ ap (λ idle. if idle then b.kept else None) (ready_err (Unit {0}) view e (loop_in seen b.records).ready (loop_in seen b.records) (loop_in seen n.records) addresses).0)) (leaves.size ∙ began.size)
      (loop_unready view seen o.records.ring b.records.ring (loop_in seen o.records) (loop_in seen b.records)
      usable.volume_open.valid refl refl began n.records.ring (loop_in seen n.records) store usable.log left
      (Unit {0}) item e of_loop addresses)

  -- the ring told of a printer's paper, if there is one
  module _ (found : Option (List ℕ × ℕ)) (ring : RingView M) (lends : LoopRecords M I D) (same : lends ≡ b.records) (at : ring ≡ (loop_in seen lends).ring) (is : found ≡ paper_of (ring.before ++ ring.after)) where
    paper_here : found ≡ paper_of ((loop_in seen b.records).ring.before ++ (loop_in seen b.records).ring.after)
    paper_here = is ∙ ap (λ (r : RingView M). paper_of (r.before ++ r.after)) (at ∙ ap (λ (l : LoopRecords M I D). (loop_in seen l).ring) same)

    paper_ran : (found ≡ paper_on (host_in view seen o before text_space space).state.loop) × Ran b.records (Asks Paper) (if_printer found)
    paper_ran =
        paper_performs view seen o.records.ring b.records.ring (loop_in seen o.records) (loop_in seen b.records)
        usable.volume_open.valid refl refl began store usable.log found paper_here

    -- it is that of the loop before
    pub paper_before : found ≡ paper_on (host_in view seen o before text_space space).state.loop
    paper_before = paper_ran.0

    pub paper_told : IsOpen (store_in view seen) (volume_in b) → b.kept ≡ o.kept → Behind b (Asks Paper) (if_printer found) (paper_line found ++ reply_line (if_printer found))
    paper_told opens kept =
        performed view seen o b b text_space space usable began opens (Asks Paper) (if_printer found) before (paper_line found ++ reply_line (if_printer found)) began.size paper_ran.1
        (record { kept = ap is_some kept; log = λ on. tt })
        (λ told. paper_text found (host_in view seen o before text_space space).state ((loop_in seen b.records).ring.books.log) paper_ran.0) (λ is. cc)

  -- the loop is ready, the volume is m, and its records are lent
  module _ (m : Volume (LoopRecords M I D)) (x : Unit {0}) (P : Type 0) (addresses : Addresses {T = Unit {0}} view (loop_in seen b.records).ready (loop_in seen b.records) (loop_in seen m.records) (Ok x))
      (leaves_ready : LeavesStore {T = Unit {0}} 1 P (store_in view seen b.records) (store_in view seen m.records) (Ok x)) (opens : IsOpen (store_in view seen) (volume_in m)) (lends : LoopRecords M I D) (same : lends ≡ m.records) where
    addressed : Addresses {T = Unit {0}} view (loop_in seen b.records).ready (loop_in seen b.records) (loop_in seen lends) (Ok x)
    addressed = subst (λ (l : LoopRecords M I D). Addresses {T = Unit {0}} view (loop_in seen b.records).ready (loop_in seen b.records) (loop_in seen l) (Ok x)) (sym same) addresses

    ready : LeavesStore {T = Unit {0}} 1 P (store_in view seen b.records) (store_in view seen lends) (Ok x)
    ready = subst (λ (l : LoopRecords M I D). LeavesStore {T = Unit {0}} 1 P (store_in view seen b.records) (store_in view seen l) (Ok x)) (sym same) leaves_ready

    left_ready : 2762 ≤ (store_in view seen lends).calls_left
    left_ready = let left = left_begun in let used = ready.left in omega (arith, left, used)

    -- so a call has room
    pub room_ready : 1000 ≤ spare_of (loop_in seen lends).ring
    room_ready = let left = left_ready in ring_room view seen lends.ring (loop_in seen lends) 1000 4 ready.valid (omega arith) (omega (arith, left)) (omega arith)

    -- and so has a lend
    pub lend_room : (frames : ℕ) → frames ≤ MOST_FRAMES → 4 * frames + 48 ≤ spare_of (loop_in seen lends).ring
    lend_room frames few = let left = left_ready in ring_room view seen lends.ring (loop_in seen lends) (4 * frames + 48) 2760 ready.valid (omega arith) (omega (arith, left)) (omega (arith, few))

    -- one call: the records are l then
    module _ (l : LoopRecords M I D) where
      replied : {T : Type 0} (item : Item) (k : ℕ) (Q : Type 0) (answer : Result T Trouble) (lines : List ℕ) → LeavesStore k Q (store_in view seen lends) (store_in view seen l) answer → Ran l item reply.Ok → IsOfLoop item
          → ((log : List Entry) → reply_text item (host_in view seen o before text_space space).state log reply.Ok ≡ lines ++ reply_line reply.Ok) → Behind (lent m l) item reply.Ok (lines ++ reply_line reply.Ok)
      replied item k Q answer lines leaves ran of_loop text =
          performed view seen o b (lent m l) text_space space usable began (lent_open view seen m lends l k Q answer opens same leaves) item reply.Ok before (lines ++ reply_line reply.Ok) (leaves.size ∙ ready.size ∙ began.size) ran
          (forgets (lent m l) item reply.Ok (lent_open view seen m lends l k Q answer opens same leaves) of_loop refl) (λ told. sym (text ((loop_in seen l).ring.books.log))) (λ is. absurd (not_of_volume item of_loop is))

      call_faulted : {T : Type 0} (item : Item) (k : ℕ) (Q : Type 0) (answer : Result T Trouble) (e : Trouble) → IsOfLoop item → LeavesStore k Q (store_in view seen lends) (store_in view seen l) answer → (e ≡ trouble.Frame) × Ran l item reply.FaultFrame
          → Behind (lent m l) item (fault_of e) (reply_line (fault_of e))
      call_faulted item k Q answer e of_loop leaves did = faulted (lent m l) item e of_loop (lent_open view seen m lends l k Q answer opens same leaves) refl (leaves.size ∙ ready.size ∙ began.size) did

      left_called : {T : Type 0} (k : ℕ) (Q : Type 0) (answer : Result T Trouble) → k ≤ 2 → LeavesStore k Q (store_in view seen lends) (store_in view seen l) answer → 1 ≤ (store_in view seen l).calls_left
      left_called k Q answer few leaves = let enough = left_ready in let used = leaves.left in omega (arith, enough, used, few)

      -- ---- the status

      pub status_told : (byte : ℕ) (on : Since) → Called (λ r s. Polled view (drive_party r) byte r s) true (loop_in seen lends).sound on (loop_in seen lends) (loop_in seen l)
          → LeavesStore {T = ℕ} 1 (Unit {0}) (store_in view seen lends) (store_in view seen l) (Ok byte) → Behind (lent m l) (Asks Status) reply.Ok (status_line byte ++ reply_line reply.Ok)
      status_told byte on did leaves =
          let ran = status_performs view seen o.records.ring b.records.ring (loop_in seen o.records) (loop_in seen b.records)
          usable.volume_open.valid refl refl began x (loop_in seen lends) addressed l.ring (loop_in seen l) store usable.log (left_called 1 (Unit {0}) (Ok byte) (omega arith) leaves)
          on byte did in
          replied (Asks Status) 1 (Unit {0}) (Ok byte) (status_line byte) leaves ran.1 tt (λ log. ap (λ byte. status_line byte ++ reply_line reply.Ok) (sym ran.0))

      pub status_failed : (e : Trouble) (off : Since) → (e ≡ trouble.Frame) × Called (λ r s. NotPolled view (drive_party r) r s) false false off (loop_in seen lends) (loop_in seen l)
          → LeavesStore {T = ℕ} 1 (Unit {0}) (store_in view seen lends) (store_in view seen l) (Err e) → Behind (lent m l) (Asks Status) (fault_of e) (reply_line (fault_of e))
      status_failed e off did leaves =
          call_faulted {T = ℕ} (Asks Status) 1 (Unit {0}) (Err e) e tt leaves
          (status_broke view seen o.records.ring b.records.ring (loop_in seen o.records) (loop_in seen b.records)
          usable.volume_open.valid refl refl began x (loop_in seen lends) addressed l.ring (loop_in seen l) store usable.log (left_called {T = ℕ} 1 (Unit {0}) (Err e) (omega arith) leaves)
          off e did)

      -- ---- the parallel poll

      pub poll_told : (f : Frame) (on : Since) → Called (HasPolled view f) true (loop_in seen lends).sound on (loop_in seen lends) (loop_in seen l)
          → LeavesStore {T = Frame} 1 (Unit {0}) (store_in view seen lends) (store_in view seen l) (Ok f) → Behind (lent m l) (Asks Poll) reply.Ok (poll_line f ++ reply_line reply.Ok)
      poll_told f on did leaves =
          let ran = poll_performs view seen o.records.ring b.records.ring (loop_in seen o.records) (loop_in seen b.records)
          usable.volume_open.valid refl refl began x (loop_in seen lends) addressed l.ring (loop_in seen l) store usable.log (left_called 1 (Unit {0}) (Ok f) (omega arith) leaves)
          on f did in
          replied (Asks Poll) 1 (Unit {0}) (Ok f) (poll_line f) leaves ran.1 tt (λ log. ap (λ f. poll_line f ++ reply_line reply.Ok) (sym ran.0))

      pub poll_failed : (e : Trouble) (off : Since) → (e ≡ trouble.Frame) × Called (λ r s. PollBroke view 54 (poll_asks (length (devices_of r)) (polled_along 1 (devices_of r) idy)) r s) false false off (loop_in seen lends) (loop_in seen l)
          → LeavesStore {T = Frame} 1 (Unit {0}) (store_in view seen lends) (store_in view seen l) (Err e) → Behind (lent m l) (Asks Poll) (fault_of e) (reply_line (fault_of e))
      poll_failed e off did leaves =
          call_faulted {T = Frame} (Asks Poll) 1 (Unit {0}) (Err e) e tt leaves
          (poll_broke view seen o.records.ring b.records.ring (loop_in seen o.records) (loop_in seen b.records)
          usable.volume_open.valid refl refl began x (loop_in seen lends) addressed l.ring (loop_in seen l) store usable.log (left_called {T = Frame} 1 (Unit {0}) (Err e) (omega arith) leaves)
          off 54 e did)

      -- ---- a lend

      -- By the last address, which a second controller has, if there is one. The ring is shown by these records.
      module _ (address frames : ℕ) (few : frames ≤ MOST_FRAMES) (first : RingView M) (shown : LoopRecords M I D) (shows : shown ≡ m.records) (at : first ≡ (loop_in seen shown).ring)
          (counts : address ≡ length (devices_of first)) (last : is_some first.guest ≡ true → 1 ≤ length first.after)
          (leaves : LeavesLent ((2 * frames + 309) / 300) (store_in view seen lends) (store_in view seen l)) where
        by : (address ≡ length (devices_of (loop_in seen lends).ring)) × (is_some (loop_in seen lends).ring.guest ≡ true → 1 ≤ length (loop_in seen lends).ring.after)
        by = subst (λ (m : RingView M). (address ≡ length (devices_of m)) × (is_some m.guest ≡ true → 1 ≤ length m.after)) (at ∙ ap (λ (l : LoopRecords M I D). (loop_in seen l).ring) (shows ∙ sym same)) (counts, last)

        open_lent : IsOpen (store_in view seen) (volume_in (lent m l))
        open_lent = lent_open_by view seen m lends l opens same leaves.valid leaves.size

        left_lent : 1 ≤ (store_in view seen l).calls_left
        left_lent = let enough = left_ready in let used = leaves.left in omega (arith, enough, used, few)

        size_lent : (store_in view seen l).record_count ≡ (store_in view seen o.records).record_count
        size_lent = leaves.size ∙ ready.size ∙ began.size

        lend_ended : (answered : Reply) (lines : List ℕ) → Ran l (Asks (Lend frames)) answered → lines ≡ reply_text (Asks (Lend frames)) (host_in view seen o before text_space space).state ((loop_in seen l).ring.books.log) answered
            → Behind (lent m l) (Asks (Lend frames)) answered lines
        lend_ended answered lines ran text =
            performed view seen o b (lent m l) text_space space usable began open_lent (Asks (Lend frames)) answered before lines size_lent ran
            (forgets (lent m l) (Asks (Lend frames)) answered open_lent tt refl) (λ told. text) (λ is. cc)

        -- a second controller took control, and has found what it tells
        pub lend_told : (taken : Bool) → taken ≡ true → (guest : Option GuestState) (ring : RingView M) (told : LoopRecords M I D) → told ≡ l → ring ≡ (loop_in seen told).ring → guest_mind guest ≡ ring.guest
            → (log : List Entry) → log ≡ ring.books.log → LendCalls address frames (loop_in seen lends) (loop_in seen l) (Ok taken) → Behind (lent m l) (Asks (Lend frames)) reply.Ok (found_lines address guest log ++ reply_line reply.Ok)
        lend_told taken took guest ring told tells stands mind log logged did_so =
            let did : LendCalls address frames (loop_in seen lends) (loop_in seen l) (Ok true) = subst (λ taken. LendCalls address frames (loop_in seen lends) (loop_in seen l) (Ok taken)) took did_so in
            let ran = lend_performs view seen o.records.ring b.records.ring (loop_in seen o.records) (loop_in seen b.records)
            usable.volume_open.valid refl refl began x (loop_in seen lends) addressed l.ring (loop_in seen l) store usable.log left_lent
            address frames true by did in
            lend_ended reply.Ok (found_lines address guest log ++ reply_line reply.Ok) ran
            (ap (λ lines. lines ++ reply_line reply.Ok)
            (ap (found_lines address guest) (logged ∙ ap (λ (r : RingView M). r.books.log) (stands ∙ ap (λ (l : LoopRecords M I D). (loop_in seen l).ring) tells)) ∙ lend_lines view seen o.records.ring b.records.ring (loop_in seen o.records) (loop_in seen b.records)
            usable.volume_open.valid refl refl began x (loop_in seen lends) addressed l.ring (loop_in seen l) store usable.log left_lent
            address frames by did guest (mind ∙ ap (λ (r : RingView M). r.guest) (stands ∙ ap (λ (l : LoopRecords M I D). (loop_in seen l).ring) tells))))

        -- nobody took it
        pub lend_not_taken : (taken : Bool) → taken ≡ false → LendCalls address frames (loop_in seen lends) (loop_in seen l) (Ok taken) → Behind (lent m l) (Asks (Lend frames)) (reply.No code.NoTaker) (reply_line (reply.No code.NoTaker))
        lend_not_taken taken untaken did_so =
            let did : LendCalls address frames (loop_in seen lends) (loop_in seen l) (Ok false) = subst (λ taken. LendCalls address frames (loop_in seen lends) (loop_in seen l) (Ok taken)) untaken did_so in
            lend_ended (reply.No code.NoTaker) (reply_line (reply.No code.NoTaker))
            (lend_performs view seen o.records.ring b.records.ring (loop_in seen o.records) (loop_in seen b.records)
            usable.volume_open.valid refl refl began x (loop_in seen lends) addressed l.ring (loop_in seen l) store usable.log left_lent
            address frames false by did) refl

        -- it was broken off
        pub lend_failed : (e : Trouble) → LendCalls address frames (loop_in seen lends) (loop_in seen l) (Err e) → Behind (lent m l) (Asks (Lend frames)) (fault_of e) (reply_line (fault_of e))
        lend_failed e did =
            faulted (lent m l) (Asks (Lend frames)) e tt open_lent refl size_lent
            (lend_broke view seen o.records.ring b.records.ring (loop_in seen o.records) (loop_in seen b.records)
            usable.volume_open.valid refl refl began x (loop_in seen lends) addressed l.ring (loop_in seen l) store usable.log left_lent
            address frames e by did)

      -- ---- accessory IDs

      pub devices_told : (ids : List (Option ℕ)) (on : Since) (u : Unit {0}) → HasDriveId (loop_in seen o.records).ring → Called (λ r s. AllNamed view ids r s) true (loop_in seen lends).sound on (loop_in seen lends) (loop_in seen l)
          → LeavesStore {T = Unit {0}} 2 (Unit {0}) (store_in view seen lends) (store_in view seen l) (Ok u) → Behind (lent m l) (Asks Devices) reply.Ok (device_lines 1 ids ++ reply_line reply.Ok)
      devices_told ids on u has did leaves =
          let ran = devices_performs view seen o.records.ring b.records.ring (loop_in seen o.records) (loop_in seen b.records)
          usable.volume_open.valid refl refl began x (loop_in seen lends) addressed l.ring (loop_in seen l) store usable.log (left_called 2 (Unit {0}) (Ok u) (omega arith) leaves)
          on ids has did in
          replied (Asks Devices) 2 (Unit {0}) (Ok u) (device_lines 1 ids) leaves ran.1 tt (λ log. ap (λ ids. device_lines 1 ids ++ reply_line reply.Ok) (sym ran.0))

      pub devices_failed : (e : Trouble) (off : Since) → HasDriveId (loop_in seen o.records).ring → (e ≡ trouble.Frame) × Called (λ r s. LeftAlone view false (up_to (id_asks (devices_of r)) (length (devices_of r))) r s) false false off (loop_in seen lends) (loop_in seen l)
          → LeavesStore {T = Unit {0}} 2 (Unit {0}) (store_in view seen lends) (store_in view seen l) (Err e) → Behind (lent m l) (Asks Devices) (fault_of e) (reply_line (fault_of e))
      devices_failed e off has did leaves =
          call_faulted {T = Unit {0}} (Asks Devices) 2 (Unit {0}) (Err e) e tt leaves
          (devices_broke view seen o.records.ring b.records.ring (loop_in seen o.records) (loop_in seen b.records)
          usable.volume_open.valid refl refl began x (loop_in seen lends) addressed l.ring (loop_in seen l) store usable.log (left_called {T = Unit {0}} 2 (Unit {0}) (Err e) (omega arith) leaves)
          off e has did)

      pub unnamed_failed : (e : Trouble) (off : Since) (bytes : List ℕ) → HasDriveId (loop_in seen o.records).ring → (e ≡ trouble.Frame) × Called (λ r s. LeftAlone view false (up_to (id_asks (devices_of r)) (length (devices_of r))) r s) false false off (loop_in seen lends) (loop_in seen l)
          → LeavesStore {T = Unit {0}} 2 (Unit {0}) (store_in view seen lends) (store_in view seen l) (Err e) → Behind (lent m l) (Asks (Say bytes)) (fault_of e) (reply_line (fault_of e))
      unnamed_failed e off bytes has did leaves =
          call_faulted {T = Unit {0}} (Asks (Say bytes)) 2 (Unit {0}) (Err e) e tt leaves
          (say_unnamed view seen o.records.ring b.records.ring (loop_in seen o.records) (loop_in seen b.records)
          usable.volume_open.valid refl refl began x (loop_in seen lends) addressed l.ring (loop_in seen l) store usable.log (left_called {T = Unit {0}} 2 (Unit {0}) (Err e) (omega arith) leaves)
          off bytes e has did)

      -- the devices told their accessory IDs, and the first printer has this address, if there is one
      module _ (ids : List (Option ℕ)) (on : Since) (u : Unit {0}) (has : HasDriveId (loop_in seen o.records).ring) (did : Called (λ r s. AllNamed view ids r s) true (loop_in seen lends).sound on (loop_in seen lends) (loop_in seen l))
          (named : LeavesStore {T = Unit {0}} 2 (Unit {0}) (store_in view seen lends) (store_in view seen l) (Ok u)) (bytes : List ℕ) (found : Option ℕ) (first : found ≡ option_map suc (position (has_id printer_id) ids)) where
        open_named : IsOpen (store_in view seen) (volume_in (lent m l))
        open_named = lent_open view seen m lends l 2 (Unit {0}) (Ok u) opens same named

        printer : found ≡ printer_at (host_in view seen o before text_space space).state.loop
        printer = first ∙ printer_told view seen o.records.ring b.records.ring (loop_in seen o.records) (loop_in seen b.records)
            usable.volume_open.valid refl refl began x (loop_in seen lends) addressed on ids (loop_in seen l) has did

        pub no_printer : found ≡ None → Behind (lent m l) (Asks (Say bytes)) (reply.No code.NoPrinter) (reply_line (reply.No code.NoPrinter))
        no_printer none =
            let ran = say_no_printer view seen o.records.ring b.records.ring (loop_in seen o.records) (loop_in seen b.records)
            usable.volume_open.valid refl refl began x (loop_in seen lends) addressed l.ring (loop_in seen l) store usable.log (left_called 2 (Unit {0}) (Ok u) (omega arith) named)
            on ids bytes has (sym none ∙ printer) did in
            performed view seen o b (lent m l) text_space space usable began open_named (Asks (Say bytes)) (reply.No code.NoPrinter) before (reply_line (reply.No code.NoPrinter)) (named.size ∙ ready.size ∙ began.size) ran
            (forgets (lent m l) (Asks (Say bytes)) (reply.No code.NoPrinter) open_named tt refl) (λ told. refl) (λ is. cc)

        -- the records are lent again, and become q
        module _ (few : length bytes ≤ LONGEST_PAYLOAD) (address : ℕ) (at : found ≡ Some address) (again : LoopRecords M I D) (same_again : again ≡ l) where
          left_again : 2760 ≤ (store_in view seen again).calls_left
          left_again = let left = left_ready in let used = named.left in subst (λ (l : LoopRecords M I D). 2760 ≤ (store_in view seen l).calls_left) (sym same_again) (omega (arith, left, used))

          pub room_named : length bytes + 1000 ≤ spare_of (loop_in seen again).ring
          room_named =
              let left = left_again in
              let valid = subst (λ (l : LoopRecords M I D). (store_in view seen l).valid) (sym same_again) named.valid in
              ring_room view seen again.ring (loop_in seen again) (length bytes + 1000) 2760 valid (omega arith) left (omega (arith, few))

          module _ (q : LoopRecords M I D) where
            did_again : Called (λ r s. AllNamed view ids r s) true (loop_in seen lends).sound on (loop_in seen lends) (loop_in seen again)
            did_again = subst (λ (l : LoopRecords M I D). Called (λ r s. AllNamed view ids r s) true (loop_in seen lends).sound on (loop_in seen lends) (loop_in seen l)) (sym same_again) did

            left_said : {T : Type 0} (answer : Result T Trouble) → LeavesStore ((length bytes + 306) / 300) (Unit {0}) (store_in view seen again) (store_in view seen q) answer → 1 ≤ (store_in view seen q).calls_left
            left_said answer leaves = let left = left_again in let used = leaves.left in omega (arith, left, used, few)

            open_said : {T : Type 0} (answer : Result T Trouble) → LeavesStore ((length bytes + 306) / 300) (Unit {0}) (store_in view seen again) (store_in view seen q) answer → IsOpen (store_in view seen) (volume_in (lent m q))
            open_said answer leaves = lent_open view seen (lent m l) again q ((length bytes + 306) / 300) (Unit {0}) answer open_named same_again leaves

            size_said : {T : Type 0} (answer : Result T Trouble) → LeavesStore ((length bytes + 306) / 300) (Unit {0}) (store_in view seen again) (store_in view seen q) answer → (store_in view seen q).record_count ≡ (store_in view seen o.records).record_count
            size_said answer leaves = leaves.size ∙ ap (λ (l : LoopRecords M I D). (store_in view seen l).record_count) same_again ∙ named.size ∙ ready.size ∙ began.size

            pub say_told : (more : Since) (w : Unit {0}) → Called (λ r s. Said view address bytes r s) true (loop_in seen again).sound more (loop_in seen again) (loop_in seen q)
                → LeavesStore {T = Unit {0}} ((length bytes + 306) / 300) (Unit {0}) (store_in view seen again) (store_in view seen q) (Ok w) → Behind (lent m q) (Asks (Say bytes)) reply.Ok (reply_line reply.Ok)
            say_told more w said leaves =
                let ran = say_performs view seen o.records.ring b.records.ring (loop_in seen o.records) (loop_in seen b.records)
                usable.volume_open.valid refl refl began x (loop_in seen lends) addressed q.ring (loop_in seen q) store usable.log (left_said (Ok w) leaves)
                on ids (loop_in seen again) did_again has address (sym at ∙ printer) bytes more said in
                performed view seen o b (lent m q) text_space space usable began (open_said (Ok w) leaves) (Asks (Say bytes)) reply.Ok before (reply_line reply.Ok) (size_said (Ok w) leaves) ran
                (forgets (lent m q) (Asks (Say bytes)) reply.Ok (open_said (Ok w) leaves) tt refl) (λ told. refl) (λ is. cc)

            pub say_failed : (e : Trouble) (off : Since) → (e ≡ trouble.Frame) × Called (λ r s. NotSaid view address bytes r s) false false off (loop_in seen again) (loop_in seen q)
                → LeavesStore {T = Unit {0}} ((length bytes + 306) / 300) (Unit {0}) (store_in view seen again) (store_in view seen q) (Err e) → Behind (lent m q) (Asks (Say bytes)) (fault_of e) (reply_line (fault_of e))
            say_failed e off broke leaves =
                faulted (lent m q) (Asks (Say bytes)) e tt (open_said {T = Unit {0}} (Err e) leaves) refl (size_said {T = Unit {0}} (Err e) leaves)
                (say_broke view seen o.records.ring b.records.ring (loop_in seen o.records) (loop_in seen b.records)
                usable.volume_open.valid refl refl began x (loop_in seen lends) addressed q.ring (loop_in seen q) store usable.log (left_said {T = Unit {0}} (Err e) leaves)
                on ids (loop_in seen again) did_again has address (sym at ∙ printer) bytes off e broke)
