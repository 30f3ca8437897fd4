-- The commands that make and tell texts, as a host performs them.
use Rattle.std.proofs.Common.{◌≡◌, ◌∙◌, ◌++◌, ℕ, true, List, take, Option, sym, ap, subst, refl}
use Rattle.std.specs.Prelude.{Ok, is_some, option_and_then, replicate}
use Rattle.il_frames.specs.declared.entry.Entry.{Entry}
use Rattle.il_ports.specs.Media.{IsMedium, MediumView}
use Rattle.il_ports.specs.Stores.{Begun, IsStore, RecordsView}
use Rattle.il_ring.specs.declared.ring.Ring.{Ring}
use Rattle.il_ring.specs.Rings.{RingView}
use Rattle.il_record.specs.declared.records.LoopRecords.{LoopRecords}
use Rattle.il_record.specs.IsStore.{is_store_of}
use Rattle.il_record.specs.LoopStores.{LoopView, view_of}
use Rattle.il_script.specs.declared.reply.Code.{Code}
use Rattle.il_script.specs.Sheet.{Sheet}
use Rattle.il_script.specs.declared.reply.Reply.{Reply}
use Rattle.il_script.specs.declared.reply.Reply.TheVariants as reply
use Rattle.il_script.specs.Replies.{reply_line}
use Rattle.lif_model.specs.Apply.{Fetch, Store}
use Rattle.lif_model.specs.Tape.{Tape}
use Rattle.lif_model.specs.Volume.{volume_of}
use Rattle.lif_model.specs.Packing.{finished_volume_of}
use Rattle.lif_volume.specs.Commands.{FetchedFile, FetchesByRun, FetchesFile, IsTold}
use Rattle.lif_volume.specs.Did.{Reads}
use Rattle.lif_volume.specs.Views.{IsOpen, VolumeView}
use Rattle.lif_volume.specs.declared.volume.Fetched.{Fetched}
use Rattle.lif_volume.specs.declared.volume.Volume.{Volume}
use Rattle.loop_model.specs.Roles.{is_at_most_one, talkers}
use Rattle.host_model.specs.Requests.{Asks, Get, NoCommand, OfVolume, text_type}
use Rattle.host_model.specs.LoopStates.{all_roles}
use Rattle.host_model.specs.HostStates.{HostState}
use Rattle.host_model.specs.Replies.{if_text, lines_of_file, lines_of_found, lines_of_type, lines_text}
use Rattle.host_model.specs.Steps.{Event, Acts, event}
use Rattle.host_model.proofs.NoCommands.{no_command}
use Rattle.il_host.specs.HostView.{HostView, Performed}
use Rattle.il_host.specs.Kept.{FileRead, GivesFile}
use Rattle.il_host.specs.Hosts.{Space, IsUsable, host_in, loop_in, store_in, volume_in}
use Rattle.il_host.specs.IsHosts.{is_host_at}
use Rattle.il_host.specs.Texts.{data_text}
use Rattle.il_host.specs.Standings.{Ends, HasDriveStatus, IsHostRing, state_at}
use Rattle.il_host.proofs.Getting.{got_lines}
use Rattle.il_host.proofs.HostReads.{fetched}
use Rattle.il_host.proofs.HostVolumes.{performed, told_asked}
use Rattle.il_host.proofs.LoopPerforms.{quiet_stops}
use Rattle.il_host.proofs.VolumePerforms.{Performs}
use Rattle.il_host.proofs.Prepared.{IsPrepared, behind_prepared}
use Rattle.il_host.proofs.VolumeReplied.{seen_as}
use Rattle.il_host.proofs.VolumeStarts.{Emptied, volume_begun}

-- ---- nothing is done

-- The log was emptied, and an item was refused that is no command.
no_command_performs : {M S : Type 0} (view : M → MediumView) (seen : S → RingView M) (o a : S) (old begun : LoopView M) → (view_of view seen o old).valid → seen o ≡ old.ring → seen a ≡ begun.ring
    → Begun (view_of view seen o old) (view_of view seen a begun) → IsStore (view_of view seen o old) → IsHostRing view old.ring
    → (code : Code) → is_at_most_one (talkers (all_roles (state_at view old).loop)) ≡ true → Performs view seen o a (NoCommand code) (reply.No code) old begun
no_command_performs view seen o a old begun valid here there empties store room code one = record {
  step = subst (λ (s : HostState). Acts (old.ring.books.plan) (event_to (begun.ring.books.log) s)) (sym emptied.state)
      (subst (λ (log : List Entry). Acts (old.ring.books.plan) (event_to log (state_at view old))) (sym emptied.log) (no_command (old.ring.books.plan) code (state_at view old) one).acts);
  stops = quiet_stops (NoCommand code) (reply.No code) (begun.ring.books.log) (state_at view old) (state_at view begun) (view_of view seen o old) (view_of view seen a begun) (seen_as view seen o old) store empties.quiet;
  keeps = record { plan = emptied.plan; room = emptied.room room; images = emptied.images };
}
  where
    emptied : Emptied view old begun
    emptied = volume_begun view seen o a old begun valid here there empties

    event_to : List Entry → HostState → Event
    event_to log s = event (NoCommand code) (reply.No code) log (state_at view old) s

module _ {M I : Type 0} {D : I → Type 0} (view : M → MediumView) (seen : Ring M I D → RingView M) (o b : Volume (LoopRecords M I D)) (text_space : ℕ) (space : Space)
    (usable : IsUsable view (store_in view seen) (volume_in o) (loop_in seen o.records) text_space space) (began : Begun (store_in view seen o.records) (store_in view seen b.records)) where
  pub nothing_done : (before : List ℕ) (code : Code) → ((m : M) → IsMedium (view m)) → IsOpen (store_in view seen) (volume_in b) → b.kept ≡ o.kept
      → Performed (NoCommand code) (reply.No code) (host_in view seen o before text_space space) (host_in view seen b (reply_line (reply.No code)) text_space space)
  nothing_done before code law opens kept =
      performed view seen o b b text_space space usable began opens (NoCommand code) (reply.No code) before (reply_line (reply.No code)) began.size
      (no_command_performs view seen o.records.ring b.records.ring (loop_in seen o.records) (loop_in seen b.records)
      usable.volume_open.valid refl refl began
      (is_store_of view seen o.records.ring (loop_in seen o.records) law) usable.log code
      (is_host_at view seen o before text_space space law usable).one)
      (record { kept = ap is_some kept; log = λ on. tt }) (λ told. refl) (λ is. cc)

-- ---- a text that is stored

module _ {name text made : List ℕ} {answered : Reply} {v w : HostView} where
  -- the text is this one
  pub stored_as : text ≡ made → Performed (Asks (OfVolume (Store name text_type (replicate 4 0) text))) answered v w → Performed (Asks (OfVolume (Store name text_type (replicate 4 0) made))) answered v w
  stored_as same did = subst (λ (text : List ℕ). Performed (Asks (OfVolume (Store name text_type (replicate 4 0) text))) answered v w) same did

-- ---- the last line

module _ {V : Type 0} {a b given : Reply} {n m : V} {page last : Sheet} {f g : Space} where
  -- the reply is this one
  pub ends_as : a ≡ b → Ends a n page f given m last g → Ends b n page f given m last g
  ends_as same ends = subst (λ (r : Reply). Ends r n page f given m last g) same ends

-- ---- lines

-- by the clauses of `fetch`
lines_told : {R S : Type 0} (view : R → RecordsView S) (old : VolumeView R) (t : Tape) → IsTold view old t → (name : List ℕ) (file : Fetched) (into : List ℕ) → FetchesFile name view old file into
    → lines_of_file name (volume_of t) ≡ lines_of_type file.kind (take file.length into)
lines_told view old t told name file into fetches = by (fetches t told)
  where
    by : FetchedFile t name file into → lines_of_file name (volume_of t) ≡ lines_of_type file.kind (take file.length into)
    by found =
        ap (lines_of_file name) found.of_tape
        ∙ (λ i. lines_of_found (found.named i) (found.bytes i))
        ∙ ap (λ (kind : ℕ). lines_of_type kind (take file.length into)) (sym found.kind)

module _ {M I : Type 0} {D : I → Type 0} (view : M → MediumView) (seen : Ring M I D → RingView M) (o b f n : Volume (LoopRecords M I D)) (text_space : ℕ) (space : Space)
    (usable : IsUsable view (store_in view seen) (volume_in o) (loop_in seen o.records) text_space space) (began : Begun (store_in view seen o.records) (store_in view seen b.records))
    (law : (x : M) → IsMedium (view x)) (p : IsPrepared view seen o b f) (opened : IsOpen (store_in view seen) (volume_in f))
    (opens : IsOpen (store_in view seen) (volume_in n)) (low : HasDriveStatus (loop_in seen n.records).ring) where
  -- the file that is held is that of the volume
  pub file_read : (name : List ℕ) (file : Fetched) (into before : List ℕ) {shown : List ℕ} {held : FileRead} → held ≡ record { fetched = file; bytes = shown } → shown ≡ take file.length into
      → FetchesFile name (store_in view seen) (volume_in f) file into → GivesFile (host_in view seen o before text_space space).state name held
  file_read name file into before is same fetches =
      subst (λ (h : FileRead). GivesFile (host_in view seen o before text_space space).state name h) (sym (is ∙ ap (λ (bytes : List ℕ). let h : FileRead = record { fetched = file; bytes = bytes } in h) same)) gives
    where
      gives : GivesFile (host_in view seen o before text_space space).state name (record { fetched = file; bytes = take file.length into })
      gives t told =
          let u = told_asked view seen o b n text_space space usable began (Fetch name) opens low p.m tt p.makes p.sounds p.same before (λ of. ap is_some told) in
          let so = behind_prepared view seen o b f text_space space usable began law p n (Fetch name) u.0 u.2 in
          let found = fetches so.tape so.told in (
            found.volume,
            ap (λ (tape : Option Tape). option_and_then finished_volume_of tape) u.1 ∙ sym so.finished.volume ∙ found.of_tape,
            found.slot,
            found.named,
            found.kind,
            found.implementation,
            found.bytes,
          )

  -- the lines that are told are those of the file
  pub lines_got : (name : List ℕ) (file : Fetched) (into shown before : List ℕ) → shown ≡ take file.length into
      → Reads (Fetch name) (store_in view seen) (volume_in f) (volume_in n) (Ok file) → FetchesFile name (store_in view seen) (volume_in f) file into → FetchesByRun name (store_in view seen) (volume_in f) (volume_in n) file into
      → Performed (Asks (Get name)) (if_text (lines_of_type file.kind shown)) (host_in view seen o before text_space space)
      (host_in view seen n (lines_text (lines_of_type file.kind shown) ++ reply_line (if_text (lines_of_type file.kind shown))) text_space space)
  lines_got name file into shown before is did fetches run =
      got_lines name (host_in view seen o before text_space space) (host_in view seen n (data_text file.kind file.implementation shown ++ reply_line reply.Ok) text_space space) (lines_of_type file.kind shown)
      (λ tells.
      let t = told_asked view seen o b n text_space space usable began (Fetch name) opens low p.m tt p.makes p.sounds p.same before tells in
      let so = behind_prepared view seen o b f text_space space usable began law p n (Fetch name) t.0 t.2 in
      ap (lines_of_type file.kind) is ∙ sym (lines_told (store_in view seen) (volume_in f) so.tape so.told name file into fetches)
      ∙ ap (lines_of_file name) so.finished.volume ∙ ap (λ (tape : Option Tape). lines_of_file name (option_and_then finished_volume_of tape)) (sym t.1))
      (fetched view seen o b f n text_space space usable began law p opened opens low name file into shown before is did fetches run)
