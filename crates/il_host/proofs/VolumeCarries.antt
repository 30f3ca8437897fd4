-- The bytes that a store, a batch or a fetch carries, by the list of transfers that the volume tells.
use Rattle.std.proofs.lemmas.Bool.Decides.{nat_tests}
use Rattle.std.proofs.Common.{◌≡◌, ◌∙◌, ◌==◌, ◌&&◌, ◌||◌, ◌++◌, ◌∷◌, [], ℕ, Bool, true, false, not, List, length, map, Option, Some, None, refl, sym, ap, subst, arith}
use Rattle.std.specs.List.{list_any}
use Rattle.std.specs.Str.{bytes_eq}
use Rattle.std.proofs.lemmas.Bool.{and_parts}
use Rattle.std.proofs.lemmas.Slice.Eq.{bytes_eq-Decides}
use Rattle.std.specs.Prelude.{All, OnOk, Result}
use Rattle.std.specs.FinMap.{get}
use Rattle.il_ports.specs.Media.{MediumView}
use Rattle.il_ports.specs.declared.records.Trouble.{Trouble}
use Rattle.il_ports.specs.declared.records.Trouble.TheVariants as trouble
use Rattle.lif_model.specs.Apply.{VolumeCommand, Fetch, Store, Batch, IsWellFormed}
use Rattle.lif_model.specs.Directory.{start_of, length_of}
use Rattle.lif_model.specs.Fit.{Place, At, fit_in}
use Rattle.lif_model.specs.Legal.{slot_named}
use Rattle.lif_model.specs.Made.{file_length, filled}
use Rattle.lif_model.specs.Parts.{Part}
use Rattle.lif_model.specs.Transfers.{Transfer, are_carried_in, are_carried_out}
use Rattle.lif_model.specs.Volume.{Volume}
use Rattle.lif_model.specs.Writing.{NewFile, files_left}
use Rattle.lif_model.proofs.Parts.{each_file}
use Rattle.loop_model.specs.Effect.{all_good, is_good, is_in, is_out, transfer_of, Transferred}
use Rattle.lif_volume.specs.declared.fault.VolumeFault.{VolumeFault}
use Rattle.loop_model.specs.Exchanges.{IsWhole}
use Rattle.loop_model.specs.Units.{RecordUnit, units_of}
use Rattle.il_ring.specs.Rings.{RingView, devices_of, drive_party}
use Rattle.il_control.specs.Calls.{loop_of}
use Rattle.il_script.specs.declared.reply.Reply.{Reply}
use Rattle.il_script.specs.declared.reply.Reply.TheVariants as reply
use Rattle.host_model.specs.Requests.{Asks, OfVolume}
use Rattle.host_model.specs.HostStates.{volume_at}
use Rattle.host_model.specs.RingStates.{state_on}
use Rattle.host_model.specs.Steps.{IsCarried, IsFetchedFrom, IsStoredAt, WentOut, in_one}
use Rattle.il_host.specs.Standings.{fault_of}
use Rattle.il_host.proofs.VolumeExchanges.{CarriesBy}
use Rattle.loop_model.proofs.WholeReadings.{carries_in_whole, carries_out_whole, same_transfers}

-- one of the transfers that pass the test begins at record n and has by itself all these bytes
abbrev pub by_one : (Transfer → Bool) → List Transfer → ℕ → List ℕ → Bool
by_one test list n bytes = list_any (λ t. test t && ((t.first == n) && bytes_eq t.bytes bytes)) list

abbrev pub writes_records : Transfer → Bool
writes_records t = t.writes

abbrev pub reads_records : Transfer → Bool
reads_records t = not t.writes

pub or_true : (b : Bool) → (b || true) ≡ true
or_true true = refl
or_true false = refl

and_true : (b : Bool) → (b && true) ≡ b
and_true true = refl
and_true false = refl

or_parts : (a b c : Bool) → (a || b) ≡ true → (a ≡ true → c ≡ true) → (b ≡ true → c ≡ true) → c ≡ true
or_parts true b c is first next = first refl
or_parts false b c is first next = next is

same_number : (n : ℕ) → (n == n) ≡ true
same_number n = grind (arith, nat_tests)

-- such a one among others
pub one_among : (test : Transfer → Bool) (before after : List Transfer) (t : Transfer) → test t ≡ true → by_one test (before ++ t ∷ after) t.first t.bytes ≡ true
one_among test [] after t is = λ i. (is i && (same_number t.first i && (bytes_eq-Decides t.bytes t.bytes).1 refl i)) || by_one test after t.first t.bytes
one_among test (x ∷ xs) after t is = (λ i. (test x && ((x.first == t.first) && bytes_eq x.bytes t.bytes)) || one_among test xs after t is i) ∙ or_true (test x && ((x.first == t.first) && bytes_eq x.bytes t.bytes))

-- among more transfers too
pub one_later : (test : Transfer → Bool) (before list : List Transfer) (n : ℕ) (bytes : List ℕ) → by_one test list n bytes ≡ true → by_one test (before ++ list) n bytes ≡ true
one_later test [] list n bytes is = is
one_later test (x ∷ xs) list n bytes is = (λ i. (test x && ((x.first == n) && bytes_eq x.bytes bytes)) || one_later test xs list n bytes is i) ∙ or_true (test x && ((x.first == n) && bytes_eq x.bytes bytes))

-- units that all have status 0 have one where their transfers have one
one_out : (units : List RecordUnit) (n : ℕ) (bytes : List ℕ) → all_good units ≡ true → by_one writes_records (map transfer_of units) n bytes ≡ true → in_one is_out units n bytes ≡ true
one_out [] n bytes good is = is
one_out (w ∷ ws) n bytes good is =
    let both = and_parts (is_good w.status) (all_good ws) good in
    or_parts (w.writes && ((w.first == n) && bytes_eq w.bytes bytes)) (by_one writes_records (map transfer_of ws) n bytes) (in_one is_out (w ∷ ws) n bytes) is
    (λ here. (λ i. ((w.writes && both.0 i) && ((w.first == n) && bytes_eq w.bytes bytes)) || in_one is_out ws n bytes) ∙ (λ i. (and_true w.writes i && ((w.first == n) && bytes_eq w.bytes bytes)) || in_one is_out ws n bytes) ∙ (λ i. here i || in_one is_out ws n bytes))
    (λ later. (λ i. (is_out w && ((w.first == n) && bytes_eq w.bytes bytes)) || one_out ws n bytes both.1 later i) ∙ or_true (is_out w && ((w.first == n) && bytes_eq w.bytes bytes)))

one_in : (units : List RecordUnit) (n : ℕ) (bytes : List ℕ) → all_good units ≡ true → by_one reads_records (map transfer_of units) n bytes ≡ true → in_one is_in units n bytes ≡ true
one_in [] n bytes good is = is
one_in (w ∷ ws) n bytes good is =
    let both = and_parts (is_good w.status) (all_good ws) good in
    or_parts (not w.writes && ((w.first == n) && bytes_eq w.bytes bytes)) (by_one reads_records (map transfer_of ws) n bytes) (in_one is_in (w ∷ ws) n bytes) is
    (λ here. (λ i. ((not w.writes && both.0 i) && ((w.first == n) && bytes_eq w.bytes bytes)) || in_one is_in ws n bytes) ∙ (λ i. (and_true (not w.writes) i && ((w.first == n) && bytes_eq w.bytes bytes)) || in_one is_in ws n bytes) ∙ (λ i. here i || in_one is_in ws n bytes))
    (λ later. (λ i. (is_in w && ((w.first == n) && bytes_eq w.bytes bytes)) || one_in ws n bytes both.1 later i) ∙ or_true (is_in w && ((w.first == n) && bytes_eq w.bytes bytes)))

-- these transfers put the bytes of a file, filled up to whole records, to its place
pub record StoresTo (place : Place) (bytes : List ℕ) (list : List Transfer) : Type 0 where
  pub slot : ℕ
  pub start : ℕ
  pub at : place ≡ At slot start
  pub carried : are_carried_out list start (filled bytes) ≡ true
  pub one : by_one writes_records list start (filled bytes) ≡ true

-- these brought the bytes of a file in from its records
pub record FetchesFrom (slot bytes : Option (List ℕ)) (list : List Transfer) : Type 0 where
  pub found : List ℕ
  pub told : List ℕ
  pub slot_is : slot ≡ Some found
  pub bytes_are : bytes ≡ Some told
  pub carried : are_carried_in list (start_of found) told ≡ true
  pub one : ((length_of found == 0) || by_one reads_records list (start_of found) told) ≡ true

-- the bytes of a file go out to its place, filled up to whole records
abbrev pub GoesOut : List Transfer → NewFile → Type 0
GoesOut list f = (are_carried_out list f.start (filled f.bytes) ≡ true) × (by_one writes_records list f.start (filled f.bytes) ≡ true)

module _ {M : Type 0} (view : M → MediumView) (was : Bool) (r s : RingView M) (same : loop_of s ≡ loop_of r) (list : List Transfer) (told : Transferred (loop_of s) s.books.log list) where
  told_before : Transferred (loop_of r) s.books.log list
  told_before = subst (λ l. Transferred l s.books.log list) same told

  same_list : (a : IsWhole (loop_of r) s.books.log) → map transfer_of (units_of (loop_of r) a.reading.pieces) ≡ list
  same_list a = same_transfers (length (devices_of r)) (drive_party r) s.books.log list a told_before

  went_out : (n : ℕ) (bytes : List ℕ) (a : IsWhole (loop_of r) s.books.log) → all_good (units_of (loop_of r) a.reading.pieces) ≡ true → are_carried_out list n bytes ≡ true → by_one writes_records list n bytes ≡ true
      → WentOut (units_of (loop_of r) a.reading.pieces) n bytes
  went_out n bytes a good carried one = (
    carries_out_whole (length (devices_of r)) (drive_party r) s.books.log list n bytes a good told_before carried,
    one_out (units_of (loop_of r) a.reading.pieces) n bytes good (ap (λ (ts : List Transfer). by_one writes_records ts n bytes) (same_list a) ∙ one),
  )

  read_in_one : (none : Bool) (n : ℕ) (bytes : List ℕ) (a : IsWhole (loop_of r) s.books.log) → all_good (units_of (loop_of r) a.reading.pieces) ≡ true → (none || by_one reads_records list n bytes) ≡ true
      → (none || in_one is_in (units_of (loop_of r) a.reading.pieces) n bytes) ≡ true
  read_in_one true n bytes a good one = refl
  read_in_one false n bytes a good one = one_in (units_of (loop_of r) a.reading.pieces) n bytes good (ap (λ (ts : List Transfer). by_one reads_records ts n bytes) (same_list a) ∙ one)

  -- a store
  pub store_carries : (name : List ℕ) (kind : ℕ) (implementation bytes : List ℕ)
      → ((v : Volume) → volume_at (state_on view was false r) ≡ Some v → StoresTo (fit_in (view r.drive.medium).record_count v (file_length bytes)) bytes list)
      → CarriesBy view (Store name kind implementation bytes) reply.Ok was r s
  store_carries name kind implementation bytes stores ok a good = by (volume_at (state_on view was false r)) refl
    where
      by : (found : Option Volume) → volume_at (state_on view was false r) ≡ found → IsCarried (Asks (OfVolume (Store name kind implementation bytes))) reply.Ok (view r.drive.medium).record_count found (units_of (loop_of r) a.reading.pieces)
      by None is = tt
      by (Some v) is =
          let so = stores v is in
          subst (λ place. IsStoredAt place bytes (units_of (loop_of r) a.reading.pieces)) (sym so.at)
          (went_out so.start (filled bytes) a good so.carried so.one)

  -- a batch
  pub batch_carries : (parts : List Part) → ((v : Volume) → volume_at (state_on view was false r) ≡ Some v → All (GoesOut list) (files_left (view r.drive.medium).record_count parts v))
      → CarriesBy view (Batch parts) reply.Ok was r s
  batch_carries parts goes ok a good = by (volume_at (state_on view was false r)) refl
    where
      by : (found : Option Volume) → volume_at (state_on view was false r) ≡ found → IsCarried (Asks (OfVolume (Batch parts))) reply.Ok (view r.drive.medium).record_count found (units_of (loop_of r) a.reading.pieces)
      by None is = tt
      by (Some v) is = each_file (GoesOut list) (λ f. WentOut (units_of (loop_of r) a.reading.pieces) f.start (filled f.bytes)) (files_left (view r.drive.medium).record_count parts v)
          (λ f out. went_out f.start (filled f.bytes) a good out.0 out.1) (goes v is)

  -- a fetch
  pub fetch_carries : (name : List ℕ) → ((v : Volume) → volume_at (state_on view was false r) ≡ Some v → FetchesFrom (slot_named v.slots name) (get v.files name) list)
      → CarriesBy view (Fetch name) reply.Ok was r s
  fetch_carries name fetches ok a good = by (volume_at (state_on view was false r)) refl
    where
      by : (found : Option Volume) → volume_at (state_on view was false r) ≡ found → IsCarried (Asks (OfVolume (Fetch name))) reply.Ok (view r.drive.medium).record_count found (units_of (loop_of r) a.reading.pieces)
      by None is = tt
      by (Some v) is =
          let so = fetches v is in
          subst (λ slot. IsFetchedFrom slot (get v.files name) (units_of (loop_of r) a.reading.pieces)) (sym so.slot_is)
          (subst (λ bytes. IsFetchedFrom (Some so.found) bytes (units_of (loop_of r) a.reading.pieces)) (sym so.bytes_are) (
            carries_in_whole (length (devices_of r)) (drive_party r) s.books.log list (start_of so.found) so.told a good told_before so.carried,
            read_in_one (length_of so.found == 0) (start_of so.found) so.told a good so.one,
          ))

-- ---- by every command

-- With ok, some list of transfers since the log was emptied carries the bytes of a store or fetch, or of each file that a batch leaves.
-- Of the others nothing is said.
abbrev pub CarriesAs : VolumeCommand → Reply → ℕ → Option Volume → (List Transfer → Type 0) → Type 0
CarriesAs (Store name kind implementation bytes) reply.Ok n (Some v) transferred = (list : List Transfer) × transferred list × StoresTo (fit_in n v (file_length bytes)) bytes list
CarriesAs (Fetch name) reply.Ok n (Some v) transferred = (list : List Transfer) × transferred list × FetchesFrom (slot_named v.slots name) (get v.files name) list
CarriesAs (Batch parts) reply.Ok n (Some v) transferred = (list : List Transfer) × transferred list × All (GoesOut list) (files_left n parts v)
CarriesAs command answer n volume transferred = Unit {0}

-- the parts of a batch that is done are well formed
abbrev pub IsFormedAs : {T : Type 0} → VolumeCommand → Result T VolumeFault → Type 0
IsFormedAs (Batch parts) answer = OnOk answer (IsWellFormed (Batch parts))
IsFormedAs command answer = Unit {0}

-- nothing is said with another reply than ok
abbrev pub NotDone : Reply → Type 0
NotDone reply.Ok = ⊥
NotDone other = Unit {0}

pub not_carried : (command : VolumeCommand) (answer : Reply) (n : ℕ) (volume : Option Volume) (transferred : List Transfer → Type 0) → NotDone answer → CarriesAs command answer n volume transferred
not_carried command reply.Ok n volume transferred not = absurd not
not_carried (Store name kind implementation bytes) (reply.No code) n volume transferred not = tt
not_carried (Store name kind implementation bytes) reply.FaultFrame n volume transferred not = tt
not_carried (Store name kind implementation bytes) reply.FaultMedium n volume transferred not = tt
not_carried (Fetch name) (reply.No code) n volume transferred not = tt
not_carried (Fetch name) reply.FaultFrame n volume transferred not = tt
not_carried (Fetch name) reply.FaultMedium n volume transferred not = tt
not_carried (Batch parts) (reply.No code) n volume transferred not = tt
not_carried (Batch parts) reply.FaultFrame n volume transferred not = tt
not_carried (Batch parts) reply.FaultMedium n volume transferred not = tt
not_carried command (reply.No code) n volume transferred not = tt
not_carried command reply.FaultFrame n volume transferred not = tt
not_carried command reply.FaultMedium n volume transferred not = tt

-- as after a fault
pub none_carried : (command : VolumeCommand) (e : Trouble) (n : ℕ) (volume : Option Volume) (transferred : List Transfer → Type 0) → CarriesAs command (fault_of e) n volume transferred
none_carried command trouble.Frame n volume transferred = not_carried command reply.FaultFrame n volume transferred tt
none_carried command trouble.Medium n volume transferred = not_carried command reply.FaultMedium n volume transferred tt

module _ {M : Type 0} (view : M → MediumView) (was : Bool) (r s : RingView M) (same : loop_of s ≡ loop_of r) where
  abbrev volume_here : Option Volume
  volume_here = volume_at (state_on view was false r)

  abbrev records_here : ℕ
  records_here = (view r.drive.medium).record_count

  -- one volume is another
  same_volume : (v w : Volume) → volume_here ≡ Some v → volume_here ≡ Some w → v ≡ w
  same_volume v w one two = let both : Some v ≡ Some w = sym one ∙ two in cc

  ok_store : (name : List ℕ) (kind : ℕ) (implementation bytes : List ℕ) (found : Option Volume) → volume_here ≡ found → CarriesAs (Store name kind implementation bytes) reply.Ok records_here found (λ list. Transferred (loop_of s) s.books.log list)
      → CarriesBy view (Store name kind implementation bytes) reply.Ok was r s
  ok_store name kind implementation bytes None is so = λ ok a good. subst (λ found. IsCarried (Asks (OfVolume (Store name kind implementation bytes))) reply.Ok records_here found (units_of (loop_of r) a.reading.pieces)) (sym is) tt
  ok_store name kind implementation bytes (Some v) is so =
      store_carries view was r s same so.0 so.1 name kind implementation bytes (λ w is_w. subst (λ v. StoresTo (fit_in records_here v (file_length bytes)) bytes so.0) (same_volume v w is is_w) so.2)

  ok_fetch : (name : List ℕ) (found : Option Volume) → volume_here ≡ found → CarriesAs (Fetch name) reply.Ok records_here found (λ list. Transferred (loop_of s) s.books.log list) → CarriesBy view (Fetch name) reply.Ok was r s
  ok_fetch name None is so = λ ok a good. subst (λ found. IsCarried (Asks (OfVolume (Fetch name))) reply.Ok records_here found (units_of (loop_of r) a.reading.pieces)) (sym is) tt
  ok_fetch name (Some v) is so =
      fetch_carries view was r s same so.0 so.1 name (λ w is_w. subst (λ (v : Volume). FetchesFrom (slot_named v.slots name) (get v.files name) so.0) (same_volume v w is is_w) so.2)

  ok_batch : (parts : List Part) (found : Option Volume) → volume_here ≡ found → CarriesAs (Batch parts) reply.Ok records_here found (λ list. Transferred (loop_of s) s.books.log list) → CarriesBy view (Batch parts) reply.Ok was r s
  ok_batch parts None is so = λ ok a good. subst (λ found. IsCarried (Asks (OfVolume (Batch parts))) reply.Ok records_here found (units_of (loop_of r) a.reading.pieces)) (sym is) tt
  ok_batch parts (Some v) is so =
      batch_carries view was r s same so.0 so.1 parts (λ w is_w. subst (λ (v : Volume). All (GoesOut so.0) (files_left records_here parts v)) (same_volume v w is is_w) so.2)

  -- as the command of a host carries them
  pub carries_by : (command : VolumeCommand) (answer : Reply) → CarriesAs command answer records_here volume_here (λ list. Transferred (loop_of s) s.books.log list) → CarriesBy view command answer was r s
  carries_by command (reply.No code) so = λ ok. cc
  carries_by command reply.FaultFrame so = λ ok. cc
  carries_by command reply.FaultMedium so = λ ok. cc
  carries_by (Store name kind implementation bytes) reply.Ok so = ok_store name kind implementation bytes volume_here refl so
  carries_by (Fetch name) reply.Ok so = ok_fetch name volume_here refl so
  carries_by (Batch parts) reply.Ok so = ok_batch parts volume_here refl so
  carries_by _ _ so = λ ok a good. tt
