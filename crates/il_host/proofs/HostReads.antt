-- The commands that tell a label or the bytes of a file, as a host performs them.
use Rattle.std.proofs.Common.{◌≡◌, ◌≤◌, ◌+◌, ◌++◌, ◌∙◌, ℕ, List, map, take, Option, Some, None, refl, sym, ap, arith}
use Rattle.std.specs.Prelude.{Result, Ok, Err, IfSome, option_map, unwrap_or}
use Rattle.std.specs.FinMap.{empty}
use Rattle.lif_dir.specs.Entries.{slot_bytes}
use Rattle.lif_model.specs.Tape.{Tape}
use Rattle.lif_model.specs.Volume.{volume_of}
use Rattle.lif_model.specs.Apply.{VolumeCommand, Dir, Fetch, Label}
use Rattle.lif_model.specs.Directory.{length_of}
use Rattle.lif_model.specs.Header.{HeaderParts}
use Rattle.lif_model.specs.Legal.{slot_named}
use Rattle.lif_model.proofs.Legal.{legal_tells}
use Rattle.lif_plan.specs.Directories.{IsLegalDirectory}
use Rattle.il_ports.specs.Media.{IsMedium, MediumView}
use Rattle.il_ports.specs.Stores.{Begun, RecordsView}
use Rattle.lif_volume.specs.Answers.{store_answer}
use Rattle.lif_pack.specs.declared.memory.Packer.{Packer}
use Rattle.lif_volume.specs.Changing.{SettlesForeign, TurnsVolume}
use Rattle.lif_volume.specs.Commands.{AnswersTo, Consults, FetchesByRun, FetchesFile, IsRefusedExactly, IsTold, Labels, fetching, mounting, reading, records_named}
use Rattle.lif_volume.specs.Did.{Reads}
use Rattle.lif_volume.specs.Views.{IsOpen, VolumeView}
use Rattle.lif_volume.specs.declared.fault.VolumeFault.{VolumeFault}
use Rattle.lif_volume.specs.declared.fault.VolumeFault.TheVariants.{Refused, Trouble as Troubled}
use Rattle.lif_volume.specs.declared.volume.Fetched.{Fetched}
use Rattle.lif_volume.specs.declared.volume.Listing.{Listing}
use Rattle.lif_volume.specs.declared.volume.Volume.{Volume}
use Rattle.il_ring.specs.declared.ring.Ring.{Ring}
use Rattle.il_ring.specs.Rings.{RingView}
use Rattle.il_record.specs.declared.records.LoopRecords.{LoopRecords}
use Rattle.il_script.specs.declared.reply.Reply.TheVariants as reply
use Rattle.il_script.specs.Replies.{reply_line}
use Rattle.host_model.specs.Requests.{Asks, OfVolume}
use Rattle.host_model.specs.HostStates.{volume_at}
use Rattle.host_model.specs.Replies.{told_of}
use Rattle.il_host.specs.HostView.{Performed, calls_to_pack}
use Rattle.il_host.specs.Hosts.{Space, IsUsable, host_in, loop_in, store_in, volume_in}
use Rattle.il_host.specs.Standings.{HasDriveStatus, volume_reply}
use Rattle.il_host.specs.Texts.{data_text, label_text}
use Rattle.il_host.proofs.FileCarries.{fetch_carried}
use Rattle.il_host.proofs.KeptDirectories.{Minds, minds_dir, minds_fetched, minds_label, minds_not_fetched}
use Rattle.il_host.proofs.HostVolumes.{done, most_calls, mounting_few, refused}
use Rattle.il_host.proofs.Prepared.{IsPrepared, answers_prepared, few_prepared, goes_prepared, minds_prepared, shows_prepared, some_prepared, told_prepared, turns_prepared}
use Rattle.il_host.proofs.Texts.{data_told, label_told, short_slot}
use Rattle.il_host.proofs.VolumeCarries.{CarriesAs}
use Rattle.il_host.proofs.VolumeReplied.{reads_turn}

-- ---- the buffer for files

-- it stays as long, and so does the room for files and slots
pub same_room : {a b : ℕ} (packer : Packer) → a ≡ b → ◌≡◌ {A = Space} (record { file = a; slots = packer.slots.room }) (record { file = b; slots = packer.slots.room })
same_room packer same = ap (λ (k : ℕ). let space : Space = record { file = k; slots = packer.slots.room } in space) same

-- ---- how many records a fetch takes

-- those of a file of a legal directory are no more than those of the tape
records_few : (n : ℕ) (header : HeaderParts) (slots : List (List ℕ)) → IsLegalDirectory n header slots → (name : List ℕ) → records_named slots name ≤ n
records_few n header slots legal name = by (slot_named slots name) refl
  where
    by : (found : Option (List ℕ)) → slot_named slots name ≡ found → unwrap_or (option_map length_of found) 0 ≤ n
    by None is = omega arith
    by (Some slot) is = short_slot n (record { header = legal.bytes; slots = slots; files = empty }) name slot (legal_tells n legal.bytes slots legal.legal) is

reading_few : {T : Type 0} (slots : List (List ℕ)) (name : List ℕ) (answer : Result T VolumeFault) → reading slots name answer ≤ records_named slots name
reading_few slots name (Ok x) = omega arith
reading_few slots name (Err (Refused why)) = omega arith
reading_few slots name (Err (Troubled e)) = omega arith

pub fetching_few : {R S T : Type 0} (view : R → RecordsView S) (old : VolumeView R) (name : List ℕ) (answer : Result T VolumeFault) → IsOpen view old
    → fetching (view old.records).record_count name old.kept (map slot_bytes old.slots) answer ≤ most_calls (view old.records).record_count
fetching_few view old name answer is = by old.kept is.legal
  where
    by : (kept : Option HeaderParts) → IfSome kept (λ header. IsLegalDirectory (view old.records).record_count header (map slot_bytes old.slots))
        → fetching (view old.records).record_count name kept (map slot_bytes old.slots) answer ≤ most_calls (view old.records).record_count
    by None legal = omega (arith, is.size)
    by (Some header) legal = omega (arith, reading_few (map slot_bytes old.slots) name answer, records_few (view old.records).record_count header (map slot_bytes old.slots) legal name)

-- ---- the commands

module _ {M I : Type 0} {D : I → Type 0} (view : M → MediumView) (seen : Ring M I D → RingView M) (o b f n : Volume (LoopRecords M I D)) (text_space : ℕ) (space : Space)
    (usable : IsUsable view (store_in view seen) (volume_in o) (loop_in seen o.records) text_space space) (began : Begun (store_in view seen o.records) (store_in view seen b.records))
    (law : (x : M) → IsMedium (view x)) (p : IsPrepared view seen o b f) (opened : IsOpen (store_in view seen) (volume_in f))
    (opens : IsOpen (store_in view seen) (volume_in n)) (low : HasDriveStatus (loop_in seen n.records).ring) where
  abbrev made : ℕ
  made = (store_in view seen p.m.records).record_count

  -- a command that changes no volume replied ok, and told these lines
  read_done : {T : Type 0} (x : T) (command : VolumeCommand) (calls : ℕ) (calls_on : Tape → ℕ) (before lines : List ℕ) → calls ≤ most_calls (store_in view seen f.records).record_count
      → Consults calls calls_on (store_in view seen) (volume_in f) (volume_in n) (Ok x) → AnswersTo command (store_in view seen) (volume_in f) (volume_in n) (Ok x)
      → TurnsVolume command (store_in view seen) (volume_in f) (volume_in n) → SettlesForeign (store_in view seen) (volume_in f) (volume_in n)
      → CarriesAs command reply.Ok (host_in view seen o before text_space space).state.records (volume_at (host_in view seen o before text_space space).state) (store_in view seen n.records).transferred
      → Minds (store_in view seen) (volume_in f) (volume_in n) command (Ok x) → ((t : Tape) → IsTold (store_in view seen) (volume_in f) t → told_of command (volume_of t) ≡ lines)
      → Performed (Asks (OfVolume command)) reply.Ok (host_in view seen o before text_space space) (host_in view seen n (lines ++ reply_line reply.Ok) text_space space)
  read_done x command calls calls_on before lines few consults answers turns settles carries minds text =
      done view seen o b n text_space space usable began command opens low p.m tt p.makes p.sounds p.same x (calls_to_pack made + calls) before lines
      (few_prepared view seen o b f text_space space usable began law p n command opens low calls few)
      (goes_prepared view seen o b f text_space space usable began law p n command opens low calls (Ok tt) consults.goes_on)
      (turns_prepared view seen o b f text_space space usable began law p n command opens low turns settles)
      (answers_prepared view seen o b f text_space space usable began law p n command opens low (Ok x) turns answers)
      carries
      (minds_prepared view seen o b f text_space space usable began law p n command opens low (Ok x) calls (Ok tt) turns consults.goes_on minds)
      (told_prepared view seen o b f text_space space usable began law p n command opens low lines text)

  -- it was refused, or the store failed
  pub read_refused : (T : Type 0) (fault : VolumeFault) (command : VolumeCommand) (calls : ℕ) (calls_on : Tape → ℕ) (before : List ℕ) → calls ≤ most_calls (store_in view seen f.records).record_count
      → Consults {T = T} calls calls_on (store_in view seen) (volume_in f) (volume_in n) (Err fault) → AnswersTo {T = T} command (store_in view seen) (volume_in f) (volume_in n) (Err fault)
      → TurnsVolume command (store_in view seen) (volume_in f) (volume_in n) → SettlesForeign (store_in view seen) (volume_in f) (volume_in n)
      → Minds {T = T} (store_in view seen) (volume_in f) (volume_in n) command (Err fault)
      → Performed (Asks (OfVolume command)) (volume_reply {T = Unit {0}} (Err fault)) (host_in view seen o before text_space space) (host_in view seen n (reply_line (volume_reply {T = Unit {0}} (Err fault))) text_space space)
  read_refused T fault command calls calls_on before few consults answers turns settles minds =
      refused view seen o b n text_space space usable began command opens low p.m tt p.makes p.sounds p.same T fault (calls_to_pack made + calls) before
      (few_prepared view seen o b f text_space space usable began law p n command opens low calls few)
      (goes_prepared view seen o b f text_space space usable began law p n command opens low calls (store_answer {T = T} (Err fault)) consults.goes_on)
      (turns_prepared view seen o b f text_space space usable began law p n command opens low turns settles)
      (answers_prepared view seen o b f text_space space usable began law p n command opens low {T = T} (Err fault) turns answers)
      (minds_prepared view seen o b f text_space space usable began law p n command opens low {T = T} (Err fault) calls (store_answer {T = T} (Err fault)) turns consults.goes_on minds)

  few_mounting : (view_size : (store_in view seen n.records).record_count ≡ (store_in view seen f.records).record_count) → mounting (store_in view seen f.records).record_count (volume_in f).kept (volume_in n).kept ≤ most_calls (store_in view seen f.records).record_count
  few_mounting size = mounting_few (store_in view seen) (volume_in f) (volume_in n) opens size

  -- the volume that is listed
  pub listed : (listing : Listing) (lines before : List ℕ) → Reads Dir (store_in view seen) (volume_in f) (volume_in n) (Ok listing)
      → ((t : Tape) → IsTold (store_in view seen) (volume_in f) t → told_of Dir (volume_of t) ≡ lines)
      → Performed (Asks (OfVolume Dir)) reply.Ok (host_in view seen o before text_space space) (host_in view seen n (lines ++ reply_line reply.Ok) text_space space)
  listed listing lines before did text =
      let turns = reads_turn Dir (store_in view seen) (volume_in f) (volume_in n) (Ok listing) did in
      read_done listing Dir _ _ before lines (few_mounting did.consults.goes_on.continues.size) did.consults did.answers turns.0 turns.1 tt
      (minds_dir (store_in view seen) (volume_in f) (volume_in n) (Ok listing) did.consults did.transfers did.settling) text

  pub not_listed : (fault : VolumeFault) (before : List ℕ) → Reads {T = Listing} Dir (store_in view seen) (volume_in f) (volume_in n) (Err fault)
      → Performed (Asks (OfVolume Dir)) (volume_reply {T = Unit {0}} (Err fault)) (host_in view seen o before text_space space) (host_in view seen n (reply_line (volume_reply {T = Unit {0}} (Err fault))) text_space space)
  not_listed fault before did =
      let turns = reads_turn {T = Listing} Dir (store_in view seen) (volume_in f) (volume_in n) (Err fault) did in
      read_refused Listing fault Dir _ _ before (few_mounting did.consults.goes_on.continues.size) did.consults did.answers turns.0 turns.1
      (minds_dir {T = Listing} (store_in view seen) (volume_in f) (volume_in n) (Err fault) did.consults did.transfers did.settling)

  pub labelled : (label before : List ℕ) → Reads Label (store_in view seen) (volume_in f) (volume_in n) (Ok label) → IsRefusedExactly (store_in view seen) (volume_in f) (Ok label) → Labels (store_in view seen) (volume_in f) label
      → Performed (Asks (OfVolume Label)) reply.Ok (host_in view seen o before text_space space) (host_in view seen n (label_text label ++ reply_line reply.Ok) text_space space)
  labelled label before did exactly labels =
      let turns = reads_turn Label (store_in view seen) (volume_in f) (volume_in n) (Ok label) did in
      read_done label Label _ _ before (label_text label) (few_mounting did.consults.goes_on.continues.size) did.consults did.answers turns.0 turns.1 tt
      (minds_label (store_in view seen) (volume_in f) (volume_in n) (Ok label) did.consults did.transfers did.settling)
      (λ t told. label_told (store_in view seen) (volume_in f) (volume_in n) t told label exactly labels)

  pub not_labelled : (fault : VolumeFault) (before : List ℕ) → Reads {T = List ℕ} Label (store_in view seen) (volume_in f) (volume_in n) (Err fault)
      → Performed (Asks (OfVolume Label)) (volume_reply {T = Unit {0}} (Err fault)) (host_in view seen o before text_space space) (host_in view seen n (reply_line (volume_reply {T = Unit {0}} (Err fault))) text_space space)
  not_labelled fault before did =
      let turns = reads_turn {T = List ℕ} Label (store_in view seen) (volume_in f) (volume_in n) (Err fault) did in
      read_refused (List ℕ) fault Label _ _ before (few_mounting did.consults.goes_on.continues.size) did.consults did.answers turns.0 turns.1
      (minds_label {T = List ℕ} (store_in view seen) (volume_in f) (volume_in n) (Err fault) did.consults did.transfers did.settling)

  -- the bytes that are told are the file's
  pub fetched : (name : List ℕ) (file : Fetched) (into shown before : List ℕ) → shown ≡ take file.length into
      → Reads (Fetch name) (store_in view seen) (volume_in f) (volume_in n) (Ok file) → FetchesFile name (store_in view seen) (volume_in f) file into → FetchesByRun name (store_in view seen) (volume_in f) (volume_in n) file into
      → Performed (Asks (OfVolume (Fetch name))) reply.Ok (host_in view seen o before text_space space) (host_in view seen n (data_text file.kind file.implementation shown ++ reply_line reply.Ok) text_space space)
  fetched name file into shown before is did fetches run =
      let turns = reads_turn (Fetch name) (store_in view seen) (volume_in f) (volume_in n) (Ok file) did in
      read_done file (Fetch name) _ _ before (data_text file.kind file.implementation shown)
      (fetching_few (store_in view seen) (volume_in f) name (Ok file) opened) did.consults did.answers turns.0 turns.1
      (fetch_carried (store_in view seen) (volume_in f) (volume_in n) (host_in view seen o before text_space space).state
      (shows_prepared view seen o b f text_space space usable began law p n (Fetch name) opens low before)
      (some_prepared view seen o b f text_space space usable began law p)
      name into file fetches run did.transfers)
      (minds_fetched (store_in view seen) (volume_in f) (volume_in n) name file into opened did.consults fetches run did.transfers did.settling)
      (λ t told. data_told (store_in view seen) (volume_in f) (volume_in n) t told name file into fetches ∙ ap (data_text file.kind file.implementation) (sym is))

  -- it was refused, or the store failed
  pub not_fetched : (name : List ℕ) (fault : VolumeFault) (before : List ℕ) → Reads {T = Fetched} (Fetch name) (store_in view seen) (volume_in f) (volume_in n) (Err fault)
      → Performed (Asks (OfVolume (Fetch name))) (volume_reply {T = Unit {0}} (Err fault)) (host_in view seen o before text_space space) (host_in view seen n (reply_line (volume_reply {T = Unit {0}} (Err fault))) text_space space)
  not_fetched name fault before did =
      let turns = reads_turn {T = Fetched} (Fetch name) (store_in view seen) (volume_in f) (volume_in n) (Err fault) did in
      read_refused Fetched fault (Fetch name) _ _ before (fetching_few {T = Fetched} (store_in view seen) (volume_in f) name (Err fault) opened) did.consults did.answers turns.0 turns.1
      (minds_not_fetched {T = Fetched} (store_in view seen) (volume_in f) (volume_in n) name fault opened did.consults did.transfers did.settling)
