-- What a command of the volume leaves of the directory in memory, how few records it reads and writes, and what its log has where the
-- directory was kept.
use Rattle.std.proofs.lemmas.Bool.Decides.{nat_tests}
use Rattle.std.proofs.Common.{◌≡◌, ◌∙◌, ◌≤◌, ◌<◌, ◌+◌, ◌==◌, ◌++◌, ℕ, Bool, true, false, not, if◌then◌else◌, List, [], ◌∷◌, map, take, Option, Some, None, refl, sym, ap, subst, arith}
use Rattle.std.specs.Prelude.{Result, Ok, Err, IfSome, is_some, option_map, unwrap_or}
use Rattle.std.specs.FinMap.{get}
use Rattle.lif_dir.specs.Entries.{slot_bytes}
use Rattle.lif_model.specs.Tape.{Tape}
use Rattle.lif_model.specs.Header.{HeaderParts}
use Rattle.lif_model.specs.Directory.{start_of, length_of, slots_of}
use Rattle.lif_model.specs.declared.version.Version.{Version}
use Rattle.lif_model.specs.Redo.{Changes, IsSettled, redo_of, settled}
use Rattle.lif_model.specs.Commit.{IsSettleWrite}
use Rattle.lif_model.specs.Legal.{slot_named}
use Rattle.lif_model.specs.Volume.{Volume, volume_of}
use Rattle.lif_model.specs.Apply.{VolumeCommand, Dir, Label, Fetch, Store, Rename, Purge, Adopt, Upgrade, Batch, Format}
use Rattle.lif_model.specs.Transfers.{Transfer}
use Rattle.lif_model.specs.Writing.{NewFile, files_written, with_files, chosen_place, changes_of, with_file}
use Rattle.lif_model.specs.declared.refusal.Refusal.{Refusal}
use Rattle.lif_model.specs.declared.refusal.Refusal.TheVariants as refusal
use Rattle.lif_model.proofs.Directory.{volume_tells}
use Rattle.lif_plan.specs.Refusals.{keeps_behind}
use Rattle.lif_redo.specs.Writing.{writes_among, runs_filed}
use Rattle.il_frames.specs.declared.entry.Entry.{Entry}
use Rattle.il_ports.specs.Media.{MediumView}
use Rattle.il_ports.specs.Stores.{RecordsView}
use Rattle.il_ports.specs.declared.records.Trouble.{Trouble}
use Rattle.il_ports.specs.declared.records.Trouble.TheVariants as trouble
use Rattle.loop_model.specs.Effect.{Transferred}
use Rattle.loop_model.specs.Loops.{Loop}
use Rattle.il_ring.specs.Rings.{RingView}
use Rattle.il_record.specs.LoopStores.{LoopView, view_of}
use Rattle.lif_volume.specs.Views.{VolumeView, IsOpen, IsDirectoryOf}
use Rattle.lif_volume.specs.Commands.{OnlySettles, WritesBySettling, Consults, EndsWithRead, FetchesByRun, FetchesFile, directory_records, fetching, fetching_on, mounting, mounting_on, reading, records_named}
use Rattle.lif_volume.specs.Changing.{writes_if_any, carrying, changing, keeps_behind_command}
use Rattle.lif_model.specs.Changing.{changes_filed, files_when}
use Rattle.lif_volume.specs.Did.{Alters}
use Rattle.lif_volume.specs.declared.fault.VolumeFault.{VolumeFault}
use Rattle.lif_volume.specs.declared.fault.VolumeFault.TheVariants.{Refused, Trouble as Troubled}
use Rattle.lif_volume.specs.declared.volume.Fetched.{Fetched}
use Rattle.lif_volume.proofs.Making.{files_are}
use Rattle.il_script.specs.declared.reply.Code.{Code}
use Rattle.il_script.specs.declared.reply.Code.TheVariants as code
use Rattle.il_script.specs.declared.reply.Reply.{Reply}
use Rattle.il_script.specs.declared.reply.Reply.TheVariants as reply
use Rattle.il_script.specs.Replies.{code_of}
use Rattle.host_model.specs.Requests.{Asks, Devices, Get, Pack, Item, NoCommand, OfVolume, Paper, Poll, Say, Status, is_of_volume, uses_frames, Lend}
use Rattle.host_model.specs.LoopStates.{ring_of}
use Rattle.host_model.specs.HostStates.{HostState}
use Rattle.host_model.specs.Steps.{is_fault}
use Rattle.host_model.specs.Directories.{AsksLittle, HasFilesAndCommit, HasOnly, HasTransfers, AreFilesAndCommit, IsCommitOf, IsKeptAfter, IsKeptBehind, LogOfKept, has_volume, run_read}
use Rattle.host_model.proofs.RingStates.{ring_on}
use Rattle.host_model.specs.Tapes.{only_reads}
use Rattle.il_host.proofs.LeftTapes.{TapeLeft, left_altered, left_read}
use Rattle.il_host.specs.HostView.{most_beside, records_asked}
use Rattle.il_host.proofs.LoopEvents.{IsOfLoop}
use Rattle.il_host.specs.Standings.{fault_of, state_at, volume_reply}

-- ---- whether it is kept

code_kept : (why : Refusal) → keeps_behind why ≡ has_volume (code_of why)
code_kept refusal.NotLif = refl
code_kept _ = refl

-- every command but `format` and a batch, and those two
refused_kept : (T : Type 0) (command : VolumeCommand) (was : Bool) (why : Refusal) (now : Bool) → now ≡ keeps_behind_command {T = T} command was (Err (Refused why))
    → IsKeptBehind command was (reply.No (code_of why)) now
refused_kept T Dir was why now is = is ∙ code_kept why
refused_kept T Label was why now is = is ∙ code_kept why
refused_kept T (Fetch name) was why now is = is ∙ code_kept why
refused_kept T (Store name kind implementation bytes) was why now is = is ∙ code_kept why
refused_kept T (Rename old new) was why now is = is ∙ code_kept why
refused_kept T (Purge name) was why now is = is ∙ code_kept why
refused_kept T Adopt was why now is = is ∙ code_kept why
refused_kept T Upgrade was why now is = is ∙ code_kept why
refused_kept T (Format label slots) was refusal.NoRoom now is = λ on. is ∙ on
refused_kept _ _ was _ now is = is

-- whatever the command is, ok and a fault decide
ok_kept : {T : Type 0} (x : T) (command : VolumeCommand) (was now : Bool) → now ≡ keeps_behind_command command was (Ok x) → IsKeptBehind command was reply.Ok now
ok_kept x Dir was now is = is
ok_kept x _ was now is = is

-- after ok it is kept
pub ok_is_kept : (command : VolumeCommand) (was : Bool) (r : Reply) (now : Bool) → IsKeptBehind command was r now → r ≡ reply.Ok → now ≡ true
ok_is_kept command was r now is ok = by command (subst (λ q. IsKeptBehind command was q now) ok is)
  where
    by : (command : VolumeCommand) → IsKeptBehind command was reply.Ok now → now ≡ true
    by Dir is = is
    by _ is = is

-- a fault forgets it
pub forgets_it : (command : VolumeCommand) (was : Bool) (e : Trouble) → IsKeptBehind command was (fault_of e) false
forgets_it Dir was trouble.Frame = refl
forgets_it Dir was trouble.Medium = refl
forgets_it Label was trouble.Frame = refl
forgets_it Label was trouble.Medium = refl
forgets_it (Fetch name) was trouble.Frame = refl
forgets_it (Fetch name) was trouble.Medium = refl
forgets_it (Store name kind implementation bytes) was trouble.Frame = refl
forgets_it (Store name kind implementation bytes) was trouble.Medium = refl
forgets_it (Rename old new) was trouble.Frame = refl
forgets_it (Rename old new) was trouble.Medium = refl
forgets_it (Purge name) was trouble.Frame = refl
forgets_it (Purge name) was trouble.Medium = refl
forgets_it Adopt was trouble.Frame = refl
forgets_it Adopt was trouble.Medium = refl
forgets_it Upgrade was trouble.Frame = refl
forgets_it Upgrade was trouble.Medium = refl
forgets_it (Batch parts) was trouble.Frame = refl
forgets_it (Batch parts) was trouble.Medium = refl
forgets_it (Format label slots) was trouble.Frame = refl
forgets_it (Format label slots) was trouble.Medium = refl

fault_forgets : (T : Type 0) (e : Trouble) (command : VolumeCommand) (was : Bool) → keeps_behind_command {T = T} command was (Err (Troubled e)) ≡ false
fault_forgets T e Dir was = refl
fault_forgets _ e _ was = refl

pub kept_as : {T : Type 0} (command : VolumeCommand) (was : Bool) (answer : Result T VolumeFault) (now : Bool) → now ≡ keeps_behind_command command was answer
    → IsKeptBehind command was (volume_reply answer) now
kept_as command was (Ok x) now is = ok_kept x command was now is
kept_as {T} command was (Err (Refused why)) now is = refused_kept T command was why now is
kept_as {T} command was (Err (Troubled e)) now is = subst (IsKeptBehind command was (fault_of e)) (sym (is ∙ fault_forgets T e command was)) (forgets_it command was e)

-- a directory that was kept, or not, after one that is kept too wherever the first was
pub kept_longer : (command : VolumeCommand) (was mid : Bool) (r : Reply) (now : Bool) → (was ≡ true → mid ≡ true) → IsKeptBehind command mid r now → IsKeptBehind command was r now
kept_longer (Format label slots) was mid (reply.No c) now more is = by c is
  where
    by : (c : Code) → IsKeptBehind (Format label slots) mid (reply.No c) now → IsKeptBehind (Format label slots) was (reply.No c) now
    by code.NoRoom is = λ on. is (more on)
    by code.BadLine is = is
    by code.BadName is = is
    by code.NotLif is = is
    by code.NoFile is = is
    by code.Exists is = is
    by code.NoSlot is = is
    by code.NoRedo is = is
    by code.InUse is = is
    by code.Protected is = is
    by code.NoPrinter is = is
    by code.LineTooLong is = is
    by code.BatchTooLarge is = is
    by code.NeedsUpgrade is = is
    by code.OutOfOrder is = is
    by code.NotText is = is
    by code.NoTaker is = is
kept_longer _ was mid _ now more is = is

-- an item that sends no frame leaves that
pub still_kept : (item : Item) (was : Bool) (r : Reply) (now : Bool) → uses_frames item ≡ false → IsKeptAfter item was r now → now ≡ was
still_kept (Asks Paper) was r now none is = is
still_kept (NoCommand code) was r now none is = is
still_kept _ was r now none is = cc

-- and an item that is not of the volume keeps none that was not kept
pub kept_before : (item : Item) (was : Bool) (r : Reply) (now : Bool) → is_of_volume item ≡ false → IsKeptAfter item was r now → now ≡ true → was ≡ true
kept_before (Asks (OfVolume command)) was r now other is on = cc
kept_before (Asks (Get name)) was r now other is on = cc
kept_before (Asks Pack) was r now other is on = cc
kept_before (Asks Paper) was r now other is on = sym is ∙ on
kept_before (NoCommand code) was r now other is on = sym is ∙ on
kept_before _ was r now other is on = let clash : true ≡ false = sym on ∙ is in cc

-- and where it is kept the store is sound
command_sound : (command : VolumeCommand) (was : Bool) (r : Reply) (now : Bool) → IsKeptBehind command was r now → now ≡ true → is_fault r ≡ false
command_sound command was reply.Ok now is on = refl
command_sound command was (reply.No code) now is on = refl
command_sound command was reply.FaultFrame now is on =
    let off : now ≡ false = off_behind command is in let clash : true ≡ false = sym on ∙ off in cc
  where
    off_behind : (command : VolumeCommand) → IsKeptBehind command was reply.FaultFrame now → now ≡ false
    off_behind Dir is = is
    off_behind _ is = is
command_sound command was reply.FaultMedium now is on =
    let off : now ≡ false = off_behind command is in let clash : true ≡ false = sym on ∙ off in cc
  where
    off_behind : (command : VolumeCommand) → IsKeptBehind command was reply.FaultMedium now → now ≡ false
    off_behind Dir is = is
    off_behind _ is = is

pub sound_kept : (item : Item) (r : Reply) (was now before after : Bool) → (is_of_volume item ≡ true → after ≡ not (is_fault r)) → (uses_frames item ≡ false → after ≡ before) → (was ≡ true → before ≡ true)
    → IsKeptAfter item was r now → now ≡ true → after ≡ true
sound_kept (Asks (OfVolume command)) r was now before after sound still kept is on = sound refl ∙ ap not (command_sound command was r now is on)
sound_kept (Asks (Get name)) r was now before after sound still kept is on = sound refl ∙ ap not (command_sound (Fetch name) was r now is on)
sound_kept (Asks Paper) r was now before after sound still kept is on = still refl ∙ kept (sym is ∙ on)
sound_kept (NoCommand code) r was now before after sound still kept is on = still refl ∙ kept (sym is ∙ on)
sound_kept _ r was now before after sound still kept is on = let clash : true ≡ false = sym on ∙ is in cc

-- a command of the loop that sends frames forgets it
pub forgotten : (item : Item) (was : Bool) (r : Reply) (s : HostState) (log : List Entry) (now : Bool) → IsOfLoop item → now ≡ false → IsKeptAfter item was r now × LogOfKept item r s log
forgotten (Asks Devices) was r s log now of_loop off = (off, tt)
forgotten (Asks Status) was r s log now of_loop off = (off, tt)
forgotten (Asks Poll) was r s log now of_loop off = (off, tt)
forgotten (Asks (Say bytes)) was r s log now of_loop off = (off, tt)
forgotten (Asks (Lend frames)) was r s log now of_loop off = (off, tt)
forgotten _ was r s log now of_loop off = absurd of_loop

-- ---- the log of a store

-- its list of reads and writes is that of the log
pub told_log : {M S : Type 0} (view : M → MediumView) (seen : S → RingView M) (p : S) (l : LoopView M) (list : List Transfer)
    → (view_of view seen p l).transferred list → Transferred (ring_of (state_at view l).loop) (l.ring.books.log) list
told_log view seen p l list so = subst (λ (k : Loop). Transferred k l.ring.books.log list) (sym (ring_on l.ring)) so

-- ---- what is said of a command of the volume

pub record Minds {R S T : Type 0} (view : R → RecordsView S) (x y : VolumeView R) (command : VolumeCommand) (answer : Result T VolumeFault) : Type 0 where
  pub kept : IsKeptBehind command (is_some x.kept) (volume_reply answer) (is_some y.kept)
  -- by a log that has the list of the store since it was emptied, and is empty where the store is as it was
  pub log : is_some x.kept ≡ true → (view x.records).transferred [] → (s : HostState) (log : List Entry) → s.tape ≡ (view x.records).tape → s.records ≡ (view x.records).record_count → (y.records ≡ x.records → log ≡ [])
      → ((list : List Transfer) → (view y.records).transferred list → Transferred (ring_of s.loop) log list) → AsksLittle command (volume_reply answer) s log
  pub on_tape : (t : Tape) → (view x.records).tape ≡ Some t → (view x.records).calls_left ≤ (view y.records).calls_left + (directory_records (settled t) + records_asked (Asks (OfVolume command)) (settled t) + 143)
  pub from_kept : (t : Tape) → (view x.records).tape ≡ Some t → is_some x.kept ≡ true → (view x.records).calls_left + 1 ≤ (view y.records).calls_left + (records_asked (Asks (OfVolume command)) (settled t) + most_beside (Asks (OfVolume command)))
  pub tape : TapeLeft view x y command answer

pub some_beside : (item : Item) → 12 ≤ most_beside item
some_beside (Asks (OfVolume Dir)) = omega arith
some_beside _ = omega arith

pub few_beside : (command : VolumeCommand) → most_beside (Asks (OfVolume command)) ≤ 80
few_beside Dir = omega arith
few_beside _ = omega arith

-- a refusal leaves an empty log, and of a fault nothing is said
by_fault : (T : Type 0) (command : VolumeCommand) (fault : VolumeFault) (s : HostState) (log : List Entry) → ((why : Refusal) → fault ≡ Refused why → log ≡ []) → AsksLittle command (volume_reply {T = T} (Err fault)) s log
by_fault T command (Refused why) s log none = none why refl
by_fault T command (Troubled trouble.Frame) s log none = tt
by_fault T command (Troubled trouble.Medium) s log none = tt

pub few_mounted : (t : Tape) (old : Option HeaderParts) → mounting_on t old ≤ 71 + directory_records (settled t)
few_mounted t (Some header) = omega arith
few_mounted t None = omega arith

none_mounted : (t : Tape) (old : Option HeaderParts) → is_some old ≡ true → mounting_on t old ≡ 0
none_mounted t (Some header) on = refl
none_mounted t None on = cc

-- ---- those that read the directory alone

module _ {R S T : Type 0} (view : R → RecordsView S) (x y : VolumeView R) (answer : Result T VolumeFault)
    (consults : Consults (mounting (view x.records).record_count x.kept y.kept) (λ t. mounting_on t x.kept) view x y answer) (transfers : WritesBySettling view x y answer) (settling : OnlySettles view x y) where
  still : is_some x.kept ≡ true → y.records ≡ x.records
  still on = consults.idle (by x.kept on)
    where
      by : (old : Option HeaderParts) → is_some old ≡ true → mounting (view x.records).record_count old y.kept ≡ 0
      by (Some header) on = refl
      by None on = cc

  few_kept : (t : Tape) → (view x.records).tape ≡ Some t → is_some x.kept ≡ true → (view x.records).calls_left + 1 ≤ (view y.records).calls_left + (0 + 12)
  few_kept t told on = omega (arith, consults.few t told, none_mounted t x.kept on)

  few_on : (t : Tape) → (view x.records).tape ≡ Some t → (view x.records).calls_left ≤ (view y.records).calls_left + (directory_records (settled t) + 0 + 143)
  few_on t told = omega (arith, consults.few t told, few_mounted t x.kept)

  pub minds_dir : Minds view x y Dir answer
  minds_dir = record { kept = kept_as Dir (is_some x.kept) answer (is_some y.kept) consults.kept; log = λ on first s log tape size none told. by answer s log (none (still on)); on_tape = few_on; from_kept = few_kept; tape = left_read view x y Dir refl answer consults.settles transfers settling }
    where
      by : (answer : Result T VolumeFault) (s : HostState) (log : List Entry) → log ≡ [] → AsksLittle Dir (volume_reply answer) s log
      by (Ok a) s log none = λ t v told of. none
      by (Err fault) s log none = by_fault T Dir fault s log (λ why is. none)

  pub minds_label : Minds view x y Label answer
  minds_label = record { kept = kept_as Label (is_some x.kept) answer (is_some y.kept) consults.kept; log = λ on first s log tape size none told. by answer s log (none (still on)); on_tape = few_on; from_kept = few_kept; tape = left_read view x y Label refl answer consults.settles transfers settling }
    where
      by : (answer : Result T VolumeFault) (s : HostState) (log : List Entry) → log ≡ [] → AsksLittle Label (volume_reply answer) s log
      by (Ok a) s log none = λ t v told of. none
      by (Err fault) s log none = by_fault T Label fault s log (λ why is. none)

-- ---- a fetch

reading_few : {T : Type 0} (slots : List (List ℕ)) (name : List ℕ) (answer : Result T VolumeFault) → reading slots name answer ≤ records_named slots name
reading_few slots name (Ok x) = omega arith
reading_few slots name (Err (Refused why)) = omega arith
reading_few slots name (Err (Troubled e)) = omega arith

-- the slot's length decides whether a run is made
read_of : (l : Loop) (log : List Entry) (slot bytes : List ℕ) (none : Bool) → (none ≡ true → log ≡ []) → (none ≡ false → Transferred l log (record { writes = false; first = start_of slot; bytes = bytes } ∷ []))
    → HasTransfers l log (if none then [] else record { writes = false; first = start_of slot; bytes = bytes } ∷ [])
read_of l log slot bytes true quiet read = quiet refl
read_of l log slot bytes false quiet read = read refl

is_zero : (n : ℕ) → (n == 0) ≡ true → n ≡ 0
is_zero n is = grind (arith, is, nat_tests)

is_some_number : (n : ℕ) → (n == 0) ≡ false → 0 < n
is_some_number n is = grind (arith, is, nat_tests)

same_volume : (a b : Volume) (volume : Option Volume) → volume ≡ Some a → volume ≡ Some b → a ≡ b
same_volume a b volume one two = let both : Some a ≡ Some b = sym one ∙ two in cc

module _ {R S T : Type 0} (view : R → RecordsView S) (x y : VolumeView R) (name : List ℕ) (answer : Result T VolumeFault) (opens : IsOpen view x)
    (consults : Consults (fetching (view x.records).record_count name x.kept (map slot_bytes x.slots) answer) (λ t. fetching_on t name x.kept answer) view x y answer) (transfers : WritesBySettling view x y answer) (settling : OnlySettles view x y) where
  fetch_few_on : (t : Tape) → (view x.records).tape ≡ Some t → (view x.records).calls_left ≤ (view y.records).calls_left + (directory_records (settled t) + records_named (slots_of (settled t)) name + 143)
  fetch_few_on t told = omega (arith, consults.few t told, few_mounted t x.kept, reading_few (slots_of (settled t)) name answer)

  fetch_few_kept : (t : Tape) → (view x.records).tape ≡ Some t → is_some x.kept ≡ true → (view x.records).calls_left + 1 ≤ (view y.records).calls_left + (records_named (slots_of (settled t)) name + 12)
  fetch_few_kept t told on = omega (arith, consults.few t told, none_mounted t x.kept on, reading_few (slots_of (settled t)) name answer)

  -- the directory that is kept is that of the tape, which is settled
  kept_of : (t : Tape) → (view x.records).tape ≡ Some t → is_some x.kept ≡ true → (header : HeaderParts) × (x.kept ≡ Some header) × IsDirectoryOf t header x.slots
  kept_of t told on = by x.kept refl on (opens.known t told)
    where
      by : (old : Option HeaderParts) → x.kept ≡ old → is_some old ≡ true → IfSome old (λ h. IsDirectoryOf t h x.slots) → (header : HeaderParts) × (x.kept ≡ Some header) × IsDirectoryOf t header x.slots
      by (Some header) is on known = (header, is, known)
      by None is on known = cc

  minds_fetch_by : (is_some x.kept ≡ true → (view x.records).transferred [] → (s : HostState) (log : List Entry) → s.tape ≡ (view x.records).tape → (y.records ≡ x.records → log ≡ [])
      → ((list : List Transfer) → (view y.records).transferred list → Transferred (ring_of s.loop) log list) → AsksLittle (Fetch name) (volume_reply answer) s log) → Minds view x y (Fetch name) answer
  minds_fetch_by log = record {
    kept = kept_as (Fetch name) (is_some x.kept) answer (is_some y.kept) consults.kept;
    log = λ on first s entries tape size none told. log on first s entries tape none told;
    on_tape = fetch_few_on;
    from_kept = fetch_few_kept;
    tape = left_read view x y (Fetch name) refl answer consults.settles transfers settling;
  }

-- it was refused, or the store failed
pub minds_not_fetched : {R S T : Type 0} (view : R → RecordsView S) (x y : VolumeView R) (name : List ℕ) (fault : VolumeFault) → IsOpen view x
    → Consults {T = T} (fetching {T = T} (view x.records).record_count name x.kept (map slot_bytes x.slots) (Err fault)) (λ t. fetching_on {T = T} t name x.kept (Err fault)) view x y (Err fault) → WritesBySettling {T = T} view x y (Err fault) → OnlySettles view x y → Minds {T = T} view x y (Fetch name) (Err fault)
minds_not_fetched {T = T} view x y name fault opens consults transfers settling =
    minds_fetch_by view x y name (Err fault) opens consults transfers settling (λ on first s log tape none told. by_fault T (Fetch name) fault s log (λ why is. none (consults.idle (calls why is x.kept on))))
  where
    calls : (why : Refusal) → fault ≡ Refused why → (old : Option HeaderParts) → is_some old ≡ true → fetching {T = T} (view x.records).record_count name old (map slot_bytes x.slots) (Err fault) ≡ 0
    calls why is (Some header) on = ap (λ (f : VolumeFault). reading {T = T} (map slot_bytes x.slots) name (Err f)) is
    calls why is None on = cc

-- ok
pub minds_fetched : {R S : Type 0} (view : R → RecordsView S) (x y : VolumeView R) (name : List ℕ) (fetched : Fetched) (into : List ℕ) → IsOpen view x
    → Consults (fetching (view x.records).record_count name x.kept (map slot_bytes x.slots) (Ok fetched)) (λ t. fetching_on t name x.kept (Ok fetched)) view x y (Ok fetched)
    → FetchesFile name view x fetched into → FetchesByRun name view x y fetched into → WritesBySettling view x y (Ok fetched) → OnlySettles view x y → Minds view x y (Fetch name) (Ok fetched)
minds_fetched view x y name fetched into opens consults file run transfers settling =
    minds_fetch_by view x y name (Ok fetched) opens consults transfers settling (λ on first s log tape none told t v here of. only on first s log none told t v (sym tape ∙ here) of)
  where
    only : is_some x.kept ≡ true → (view x.records).transferred [] → (s : HostState) (log : List Entry) → (y.records ≡ x.records → log ≡ []) → ((list : List Transfer) → (view y.records).transferred list → Transferred (ring_of s.loop) log list)
        → (t : Tape) (v : Volume) → (view x.records).tape ≡ Some t → volume_of t ≡ Some v → HasTransfers (ring_of s.loop) log (run_read (slot_named v.slots name) (get v.files name))
    only on first s log none told t v here of =
        let is = file t here in
        let same : is.volume ≡ v = same_volume is.volume v (volume_of t) is.of_tape of in
        let named : slot_named v.slots name ≡ Some is.slot = ap (λ (w : Volume). slot_named w.slots name) (sym same) ∙ is.named in
        let bytes : get v.files name ≡ Some (take fetched.length into) = ap (λ (w : Volume). get w.files name) (sym same) ∙ is.bytes in
        let kept = kept_of view x y name (Ok fetched) opens consults transfers settling t here on in
        let slots : slots_of (settled t) ≡ v.slots = sym (volume_tells (settled t) v of).2 in
        let there : slot_named (slots_of (settled t)) name ≡ Some is.slot = ap (λ (xs : List (List ℕ)). slot_named xs name) slots ∙ named in
        let mine : slot_named (map slot_bytes x.slots) name ≡ Some is.slot =
        ap (λ (xs : List (List ℕ)). slot_named xs name) (kept.2.directory.bytes ∙ ap slots_of (sym kept.2.settled)) ∙ there in
        subst (λ (o : Option (List ℕ)). HasTransfers (ring_of s.loop) log (run_read o (get v.files name))) (sym named)
        (subst (λ (o : Option (List ℕ)). HasTransfers (ring_of s.loop) log (run_read (Some is.slot) o)) (sym bytes)
        (read_of (ring_of s.loop) log is.slot (take fetched.length into) (length_of is.slot == 0)
        (λ zero_long. none (consults.idle (calls is.slot mine (is_zero (length_of is.slot) zero_long) x.kept on)))
        (λ some_long.
        let more : 0 < fetched.length = omega (arith, is.length, is_some_number (length_of is.slot) some_long) in
        let read = subst (λ (o : Option (List ℕ)). IfSome o (λ slot. ends_with t slot)) there (run t here more) in
        let ends = read.goes_on [] first in
        told (record { writes = false; first = start_of is.slot; bytes = take fetched.length into } ∷ [])
        (subst (λ (more : List Transfer). (view y.records).transferred (more ++ record { writes = false; first = start_of is.slot; bytes = take fetched.length into } ∷ [])) (ends.3 on) ends.1))))
      where
        ends_with : Tape → List ℕ → Type 0
        ends_with t slot = EndsWithRead (IsSettleWrite (view x.records).record_count (redo_of t)) (is_some x.kept) (start_of slot) (take fetched.length into) (view x.records).transferred (view y.records).transferred

        calls : (slot : List ℕ) → slot_named (map slot_bytes x.slots) name ≡ Some slot → length_of slot ≡ 0 → (old : Option HeaderParts) → is_some old ≡ true → fetching (view x.records).record_count name old (map slot_bytes x.slots) (Ok fetched) ≡ 0
        calls slot named zero_long (Some header) on = ap (λ (o : Option (List ℕ)). unwrap_or (option_map length_of o) 0) named ∙ zero_long
        calls slot named zero_long None on = cc

-- ---- those that change the volume

-- these commands tell nothing
abbrev pub TellsNothing : VolumeCommand → Type 0
TellsNothing Dir = ⊥
TellsNothing Label = ⊥
TellsNothing (Fetch name) = ⊥
TellsNothing command = Unit {0}

reads_nothing : (command : VolumeCommand) → TellsNothing command → only_reads (Asks (OfVolume command)) ≡ false
reads_nothing Dir nothing = absurd nothing
reads_nothing Label nothing = absurd nothing
reads_nothing (Fetch name) nothing = absurd nothing
reads_nothing _ nothing = refl

refused_calls : (T : Type 0) (n : ℕ) (command : VolumeCommand) (old new : Option HeaderParts) (why : Refusal) → TellsNothing command → is_some old ≡ true → changing {T = T} n command old new (Err (Refused why)) ≡ 0
refused_calls T n command None new why nothing on = cc
refused_calls T n Dir (Some header) new why nothing on = absurd nothing
refused_calls T n Label (Some header) new why nothing on = absurd nothing
refused_calls T n (Fetch name) (Some header) new why nothing on = absurd nothing
refused_calls _ n _ _ new why nothing on = refl

-- beside the records of the files
carrying_few : {T : Type 0} (n : ℕ) (command : VolumeCommand) (t : Tape) (answer : Result T VolumeFault) → TellsNothing command
    → (carrying n command None answer ≤ records_asked (Asks (OfVolume command)) t + 72) × (carrying n command None answer + 1 ≤ records_asked (Asks (OfVolume command)) t + most_beside (Asks (OfVolume command)))
carrying_few n Dir t answer nothing = absurd nothing
carrying_few n Label t answer nothing = absurd nothing
carrying_few n (Fetch name) t answer nothing = absurd nothing
carrying_few n (Store name kind implementation bytes) t (Ok x) nothing = (omega arith, omega arith)
carrying_few n (Store name kind implementation bytes) t (Err (Refused why)) nothing = (omega arith, omega arith)
carrying_few n (Store name kind implementation bytes) t (Err (Troubled e)) nothing = (omega arith, omega arith)
carrying_few n (Rename before later) t (Ok x) nothing = (omega arith, omega arith)
carrying_few n (Rename before later) t (Err (Refused why)) nothing = (omega arith, omega arith)
carrying_few n (Rename before later) t (Err (Troubled e)) nothing = (omega arith, omega arith)
carrying_few n (Purge name) t (Ok x) nothing = (omega arith, omega arith)
carrying_few n (Purge name) t (Err (Refused why)) nothing = (omega arith, omega arith)
carrying_few n (Purge name) t (Err (Troubled e)) nothing = (omega arith, omega arith)
carrying_few n Adopt t (Ok x) nothing = (omega arith, omega arith)
carrying_few n Adopt t (Err (Refused why)) nothing = (omega arith, omega arith)
carrying_few n Adopt t (Err (Troubled e)) nothing = (omega arith, omega arith)
carrying_few n Upgrade t (Ok x) nothing = (omega arith, omega arith)
carrying_few n Upgrade t (Err (Refused why)) nothing = (omega arith, omega arith)
carrying_few n Upgrade t (Err (Troubled e)) nothing = (omega arith, omega arith)
carrying_few n (Batch parts) t (Ok x) nothing = (omega arith, omega arith)
carrying_few n (Batch parts) t (Err (Refused why)) nothing = (omega arith, omega arith)
carrying_few n (Batch parts) t (Err (Troubled e)) nothing = (omega arith, omega arith)
carrying_few n (Format label slots) t (Ok x) nothing = (omega arith, omega arith)
carrying_few n (Format label slots) t (Err (Refused why)) nothing = (omega arith, omega arith)
carrying_few n (Format label slots) t (Err (Troubled e)) nothing = (omega arith, omega arith)

has_files : (n : ℕ) (l : Loop) (log : List Entry) (files : List NewFile) (changes : Changes) → (files ≡ [] → changes ≡ [] → log ≡ []) → ((list : List Transfer) × Transferred l log list × AreFilesAndCommit n files changes list)
    → HasFilesAndCommit n l log files changes
has_files n l log [] [] quiet some = quiet refl refl
has_files n l log _ _ quiet some = some

pub is_commit : (version : Version) (n : ℕ) (was_open : Bool) (changes writes : Changes) → writes ≡ writes_if_any version n was_open changes → IsCommitOf n changes writes
is_commit version n was_open [] writes is = is
is_commit version n was_open (c ∷ cs) writes is = (version, was_open, is)

has_only : (command : VolumeCommand) (n : ℕ) (l : Loop) (log : List Entry) (v : Volume) (t : Tape) → TellsNothing command
    → HasFilesAndCommit n l log (files_written n command v (chosen_place n command v)) (changes_of n command v (with_file n command v (chosen_place n command v) t)) → HasOnly command n l log v t
has_only Dir n l log v t nothing has = absurd nothing
has_only Label n l log v t nothing has = absurd nothing
has_only (Fetch name) n l log v t nothing has = absurd nothing
has_only _ n l log v t nothing has = has

pub minds_altered : {R S T : Type 0} (view : R → RecordsView S) (x y : VolumeView R) (command : VolumeCommand) (answer : Result T VolumeFault) → TellsNothing command → IsOpen view x → Alters command view x y answer
    → Minds view x y command answer
minds_altered {T = T} view x y command answer nothing opens alters = record {
  kept = kept_as command (is_some x.kept) answer (is_some y.kept) alters.kept;
  log = λ on first s log tape size none told. by answer alters on first s log tape size none told;
  on_tape = λ t told. omega (arith, alters.most t told, few_mounted t x.kept, (carrying_few (view x.records).record_count command (settled t) answer nothing).0);
  from_kept = λ t told on. omega (arith, alters.most t told, none_mounted t x.kept on, (carrying_few (view x.records).record_count command (settled t) answer nothing).1);
  tape = left_altered view x y command (reads_nothing command nothing) answer alters.written alters.transfers;
}
  where
    settled_kept : (t : Tape) → (old : Option HeaderParts) → is_some old ≡ true → IfSome old (λ h. IsDirectoryOf t h x.slots) → IsSettled t
    settled_kept t (Some header) on known = known.settled
    settled_kept t None on known = cc

    by : (answer : Result T VolumeFault) → Alters command view x y answer → is_some x.kept ≡ true → (view x.records).transferred [] → (s : HostState) (log : List Entry) → s.tape ≡ (view x.records).tape → s.records ≡ (view x.records).record_count → (y.records ≡ x.records → log ≡ [])
        → ((list : List Transfer) → (view y.records).transferred list → Transferred (ring_of s.loop) log list) → AsksLittle command (volume_reply answer) s log
    by (Err (Refused why)) alters on first s log tape size none told = none (alters.idle (refused_calls T (view x.records).record_count command x.kept y.kept why nothing on))
    by (Ok a) alters on first s log tape size none told = λ t v here of.
        let n : ℕ = (view x.records).record_count in
        let at : (view x.records).tape ≡ Some t = sym tape ∙ here in
        let rests : settled t ≡ t = settled_kept t x.kept on (opens.known t at) in
        let files = files_written n command v (chosen_place n command v) in
        let changes = changes_of n command v (with_file n command v (chosen_place n command v) t) in
        let files_same : files_when n command (volume_of t) ≡ files = ap (files_when n command) of ∙ files_are n command v in
        let changes_same : changes_filed n command (volume_of t) (settled t) ≡ changes =
        (λ i. changes_filed n command (of i) (rests i)) ∙ ap (λ (fs : List NewFile). changes_of n command v (with_files fs t)) (files_are n command v) in
        let all = (alters.transfers t at).goes_on [] first in
        let parts = all.5 in
        subst (λ (k : ℕ). HasOnly command k (ring_of s.loop) log v t) (sym size)
        (has_only command n (ring_of s.loop) log v t nothing
        (has_files n (ring_of s.loop) log files changes (λ no_files no_changes. none (alters.idle_on t at (none_mounted t x.kept on) (files_same ∙ no_files) (changes_same ∙ no_changes))) (
          all.1,
          told all.1 (subst (λ (f : List Transfer). (view y.records).transferred (f ++ all.1)) (all.4 on) all.2),
          record {
            more = parts.more;
            are = parts.are ∙ ap (λ (fs : List NewFile). runs_filed fs ++ parts.more) files_same;
            single = parts.single;
            commit = subst (λ (cs : Changes). IsCommitOf n cs (writes_among parts.more)) changes_same (is_commit _ n _ (changes_filed n command (volume_of t) (settled t)) (writes_among parts.more) parts.writes);
          },
        )))
    by (Err (Troubled trouble.Frame)) alters on first s log tape size none told = tt
    by (Err (Troubled trouble.Medium)) alters on first s log tape size none told = tt
