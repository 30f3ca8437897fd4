-- The reads and writes that the clauses of a volume tell of a store and of a fetch carry the bytes of the file.
use Rattle.std.proofs.Common.{◌≡◌, ◌⊎◌, ◌∙◌, ◌<◌, ◌≤◌, ◌+◌, ◌++◌, ◌*◌, ◌&&◌, ◌||◌, ◌==◌, ℕ, zero, suc, Bool, true, false, not, if◌then◌else◌, nat_eq, nat_lt, List, [], ◌∷◌, length, map, get_or, take, Option, Some, None, option_and_then, inl, inr, refl, sym, ap, subst, arith, append_assoc}
use Rattle.std.specs.Prelude.{IfSome, Ok, is_some}
use Rattle.std.specs.FinMap.{get}
use Rattle.std.specs.List.{list_any}
use Rattle.std.proofs.lemmas.Bool.{and_parts, and_right, eqb-true, ltb-true, le-ltb}
use Rattle.std.proofs.lemmas.List.{append-nil}
use Rattle.il_ports.specs.Stores.{IsStore, RecordsView}
use Rattle.il_ports.specs.Transfers.{WritesOnly}
use Rattle.lif_model.specs.Apply.{Fetch, Store, VolumeCommand, refusal_of}
use Rattle.lif_model.specs.declared.refusal.Refusal.{Refusal}
use Rattle.lif_model.specs.Commit.{IsSettleWrite, IsTarget, close_writes, commit_writes, content_writes, settle_writes}
use Rattle.lif_model.specs.Directory.{length_of, slots_of, start_of}
use Rattle.lif_model.specs.Fit.{At, Place, fit_in, redo_place}
use Rattle.lif_model.specs.Gate.{gate_of, has_open_gate}
use Rattle.lif_model.specs.Header.{capacity_of, directory_end, directory_start}
use Rattle.lif_model.specs.Legal.{slot_named}
use Rattle.lif_model.specs.Made.{file_length, filled, new_entry, with_type}
use Rattle.lif_model.specs.declared.version.Version.{Version}
use Rattle.lif_model.specs.Redo.{Changes, redo_length, redo_of, redo_start, settled, zeros}
use Rattle.lif_model.specs.Tape.{Tape}
use Rattle.lif_model.specs.Transfers.{Transfer, are_carried_in, are_carried_out, is_overwritten_by, records_of}
use Rattle.lif_model.specs.Volume.{IsVolume, Volume, is_adopted_with, volume_of}
use Rattle.lif_model.specs.Parts as part
use Rattle.lif_model.specs.Writing.{IsSlotWritten, SlotWrites, part_files, changes_at, changes_by, changes_of, entry_on, last_slot, stored_writes, with_slots}
use Rattle.lif_model.proofs.Adopted.{adopted_version}
use Rattle.lif_model.proofs.Directory.{settled_shape, volume_in_is, volume_tells}
use Rattle.lif_model.proofs.Fit.{IsPlaceIn, fit_tells}
use Rattle.lif_model.proofs.Made.{file_has_records, length_filled}
use Rattle.lif_model.proofs.Outcomes.{target_slot}
use Rattle.lif_model.proofs.Places.{place_below_redo}
use Rattle.lif_model.proofs.Redo.{data_place, redo_places}
use Rattle.lif_model.proofs.StoredFile.{IsStorable, storable}
use Rattle.lif_model.proofs.Transfers.{carries-first, carries-later, carries-nothing}
use Rattle.lif_redo.specs.Writing.{AreSingle, run_of, writes_among}
use Rattle.lif_model.specs.Changing.{version_for, file_when}
use Rattle.lif_plan.proofs.Planning.{version_is_redo}
use Rattle.lif_volume.specs.declared.volume.Fetched.{Fetched}
use Rattle.lif_volume.specs.Commands.{EndsWithRead, FetchedFile, FetchesByRun, FetchesFile, IsTold, WritesBySettling}
use Rattle.lif_volume.specs.Changing.{AddsCommit, commit_when, file_runs, writes_if_any}
use Rattle.lif_volume.specs.Did.{Alters}
use Rattle.lif_volume.specs.Views.{VolumeView}
use Rattle.il_script.specs.declared.reply.Reply.TheVariants as reply
use Rattle.host_model.specs.HostStates.{HostState, volume_at}
use Rattle.il_host.proofs.VolumeCarries.{CarriesAs, FetchesFrom, StoresTo, by_one, one_among, or_true, reads_records, writes_records}

-- ---- one transfer

-- The last transfer is a read of all these bytes, and it carries them in.
pub last_carried_in : (more : List Transfer) (first : ℕ) (bytes : List ℕ) → are_carried_in (more ++ record { writes = false; first = first; bytes = bytes } ∷ []) first bytes ≡ true
last_carried_in more first bytes =
    let last : Transfer = record { writes = false; first = first; bytes = bytes } in
    carries-later (λ (t : Transfer). t) (λ (t : Transfer). not t.writes) more (last ∷ []) first bytes
    (subst (λ (b : List ℕ). are_carried_in (last ∷ []) first b ≡ true) (append-nil bytes)
    (carries-first (λ (t : Transfer). t) (λ (t : Transfer). not t.writes) last [] [] refl refl refl))

-- A write of all these bytes carries them out, if no later transfer writes over it.
pub written_carried_out : (first more : List Transfer) (start : ℕ) (bytes : List ℕ)
    → list_any (λ y. is_overwritten_by (record { writes = true; first = start; bytes = bytes }) y) more ≡ false
    → are_carried_out (first ++ record { writes = true; first = start; bytes = bytes } ∷ more) start bytes ≡ true
written_carried_out first more start bytes kept =
    let run : Transfer = record { writes = true; first = start; bytes = bytes } in
    carries-later (λ (t : Transfer). t) (λ (t : Transfer). t.writes) first (run ∷ more) start bytes
    (subst (λ (b : List ℕ). are_carried_out (run ∷ more) start b ≡ true) (append-nil bytes)
    (carries-first (λ (t : Transfer). t) (λ (t : Transfer). t.writes) run more [] refl kept
    (carries-nothing (λ (t : Transfer). t) (λ (t : Transfer). t.writes) more (start + records_of bytes))))

-- ---- a fetch

-- the volume of the state is that of the store's tape
pub record ShowsVolume {S : Type 0} (s : HostState) (v : RecordsView S) : Type 0 where
  pub volume : volume_at s ≡ option_and_then volume_of v.tape
  pub records : s.records ≡ v.record_count

-- some reads and writes were told before
abbrev pub TellsSome : (List Transfer → Type 0) → Type 0
TellsSome transferred = (list : List Transfer) × transferred list

module _ {R S : Type 0} (view : R → RecordsView S) (old new : VolumeView R) (s : HostState) (seen : ShowsVolume s (view old.records)) (begun : TellsSome (view old.records).transferred) where
  pub volume_seen : (tape : Option Tape) → (view old.records).tape ≡ tape → volume_at s ≡ option_and_then volume_of tape
  volume_seen tape told = seen.volume ∙ ap (option_and_then volume_of) told

  module _ (name into : List ℕ) (fetched : Fetched) (file : FetchesFile name view old fetched into) (run : FetchesByRun name view old new fetched into) (settles : WritesBySettling view old new (Ok fetched)) where
    module _ (t : Tape) (told : IsTold view old t) where
      there : FetchedFile t name fetched into
      there = file t told

      slots_are : there.volume.slots ≡ slots_of (settled t)
      slots_are = (volume_tells (settled t) there.volume there.of_tape).2

      -- a file that has records
      read_in : 0 < fetched.length → (list : List Transfer) × (view new.records).transferred list × FetchesFrom (slot_named there.volume.slots name) (get there.volume.files name) list
      read_in some =
          let here : slot_named (slots_of (settled t)) name ≡ Some there.slot = ap (λ (xs : List (List ℕ)). slot_named xs name) (sym slots_are) ∙ there.named in
          let ends = subst (λ (o : Option (List ℕ)). IfSome o (λ slot. EndsWithRead (IsSettleWrite (view old.records).record_count (redo_of t)) (is_some old.kept) (start_of slot) (take fetched.length into) (view old.records).transferred (view new.records).transferred)) here (run t told some) in
          let more = ends.goes_on begun.0 begun.1 in
          let before : List Transfer = begun.0 ++ more.0 in
          let last : List Transfer = record { writes = false; first = start_of there.slot; bytes = take fetched.length into } ∷ [] in (
            before ++ last,
            subst (view new.records).transferred (sym (append_assoc begun.0 more.0 last)) more.1,
            record {
              found = there.slot;
              told = take fetched.length into;
              slot_is = there.named;
              bytes_are = there.bytes;
              carried = last_carried_in before (start_of there.slot) (take fetched.length into);
              one = (λ i. (length_of there.slot == 0) || one_among reads_records before [] (record { writes = false; first = start_of there.slot; bytes = take fetched.length into }) refl i) ∙ or_true (length_of there.slot == 0);
            },
          )

      -- a file without records
      read_none : fetched.length ≡ 0 → (list : List Transfer) × (view new.records).transferred list × FetchesFrom (slot_named there.volume.slots name) (get there.volume.files name) list
      read_none none =
          let more = (settles t told).goes_on begun.0 begun.1 in
          let all : List Transfer = begun.0 ++ more.0 in (
            all,
            more.1,
            record {
              found = there.slot;
              told = take fetched.length into;
              slot_is = there.named;
              bytes_are = there.bytes;
              carried = ap (λ (k : ℕ). are_carried_in all (start_of there.slot) (take k into)) none ∙ carries-nothing (λ (t : Transfer). t) (λ (t : Transfer). not t.writes) all (start_of there.slot);
              one =
                  let empty : length_of there.slot ≡ 0 = omega (arith, there.length, none) in
                  ap (λ (k : ℕ). (k == 0) || by_one reads_records all (start_of there.slot) (take fetched.length into)) empty;
            },
          )

      fetches : (k : ℕ) → fetched.length ≡ k → (list : List Transfer) × (view new.records).transferred list × FetchesFrom (slot_named there.volume.slots name) (get there.volume.files name) list
      fetches zero none = read_none none
      fetches (suc k) some = read_in (omega (arith, some))

    -- With ok, the reads and writes of a fetch carry the bytes of its file in.
    pub fetch_carried : CarriesAs (Fetch name) reply.Ok s.records (volume_at s) (view new.records).transferred
    fetch_carried = by (view old.records).tape refl
      where
        by : (tape : Option Tape) → (view old.records).tape ≡ tape → CarriesAs (Fetch name) reply.Ok s.records (volume_at s) (view new.records).transferred
        by None none = subst (λ (v : Option Volume). CarriesAs (Fetch name) reply.Ok s.records v (view new.records).transferred) (sym (volume_seen None none)) tt
        by (Some t) told = subst (λ (v : Option Volume). CarriesAs (Fetch name) reply.Ok s.records v (view new.records).transferred) (sym (volume_seen (Some t) told ∙ (there t told).of_tape)) (fetches t told fetched.length refl)

-- ---- which records a store writes
-- These laws tell of volumes alone, and may move down to the crate that defines them.

abbrev pub EachRecord : (ℕ → Type 0) → Changes → Type 0
EachRecord P [] = Unit {0}
EachRecord P (c ∷ cs) = P c.0 × EachRecord P cs

each_then : (P : ℕ → Type 0) (a b : Changes) → EachRecord P a → EachRecord P b → EachRecord P (a ++ b)
each_then P [] b one two = two
each_then P (c ∷ cs) b one two = (one.0, each_then P cs b one.1 two)

pub each_target : (P : ℕ → Type 0) (cs : Changes) → ((k : ℕ) → IsTarget cs k → P k) → EachRecord P cs
each_target P [] all = tt
each_target P (c ∷ cs) all = (all c.0 (inl refl), each_target P cs (λ k target. all k (inr target)))

-- those of a commit, or none
pub each_if_any : (P : ℕ → Type 0) (version : Version) (n : ℕ) (was_open : Bool) (cs : Changes) → EachRecord P (commit_writes version n was_open cs) → EachRecord P (writes_if_any version n was_open cs)
each_if_any P version n was_open [] each = tt
each_if_any P version n was_open (c ∷ cs) each = each

-- A commit writes records of the redo file and its targets.
module _ (P : ℕ → Type 0) (version : Version) (n : ℕ) (long : redo_length version < n) (behind : (k : ℕ) → redo_start version n ≤ k → P k) where
  each_content : (i : ℕ) (cs : Changes) → EachRecord P (content_writes version n i cs)
  each_content i [] = tt
  each_content i (c ∷ cs) = (behind _ (data_place version n i long).0, each_content (suc i) cs)

  each_close : (was_open : Bool) → EachRecord P (close_writes n was_open)
  each_close true = (behind _ (redo_places version n).0, tt)
  each_close false = tt

  each_settle : (cs : Changes) → EachRecord P cs → EachRecord P (settle_writes n cs)
  each_settle [] each = tt
  each_settle (c ∷ cs) each = each_then P (c ∷ cs) ((gate_of n, zeros) ∷ []) each (behind _ (redo_places version n).0, tt)

  pub each_commit : (was_open : Bool) (cs : Changes) → EachRecord P cs → EachRecord P (commit_writes version n was_open cs)
  each_commit was_open cs each =
      each_then P (close_writes n was_open) _ (each_close was_open)
      (each_then P (content_writes version n 0 cs) _ (each_content 0 cs)
      (behind _ (redo_places version n).1, (behind _ (redo_places version n).0, each_settle cs each)))

-- The slots of a new file lie within the directory.
stored_within : (n : ℕ) (v : Volume) (count i start : ℕ) → IsVolume n v → IsPlaceIn n v count i start → (entry : List ℕ) (tape : Tape) (j : ℕ)
    → IsSlotWritten (stored_writes v i entry tape) j → j < capacity_of v.header
stored_within n v count i start volume place entry tape j written = go (nat_eq i (redo_place v.slots)) refl written
  where
    here : i < capacity_of v.header
    here = elim place.candidate [
      | inl purged ↦ omega (arith, purged.1, volume.room)
      | inr own ↦ let can = and_parts (suc (redo_place v.slots) == length v.slots) (nat_lt (length v.slots) (capacity_of v.header)) own.1 in omega (arith, own.0, eqb-true (suc (redo_place v.slots)) (length v.slots) can.0, volume.room)
    ]

    behind : nat_eq i (redo_place v.slots) ≡ true → suc i < capacity_of v.header
    behind e = elim place.candidate [
      | inl purged ↦ absurd (omega (arith, eqb-true i (redo_place v.slots) e, purged.0))
      | inr own ↦
          let can = and_parts (suc (redo_place v.slots) == length v.slots) (nat_lt (length v.slots) (capacity_of v.header)) own.1 in
          omega (arith, own.0, eqb-true (suc (redo_place v.slots)) (length v.slots) can.0, ltb-true (length v.slots) (capacity_of v.header) can.1)
    ]

    last : (b : Bool) → nat_lt (suc (suc i)) (capacity_of v.header) ≡ b → IsSlotWritten (if b then (suc (suc i), with_type 0xFFFF (entry_on tape (suc (suc i)))) ∷ [] else []) j → j < capacity_of v.header
    last true e (inl same) = omega (arith, same, ltb-true (suc (suc i)) (capacity_of v.header) e)
    last true e (inr none) = absurd none
    last false e none = absurd none

    go : (b : Bool) → nat_eq i (redo_place v.slots) ≡ b → IsSlotWritten ((i, entry) ∷ (if b then last_slot (capacity_of v.header) tape (suc i) (get_or v.slots i []) else [])) j → j < capacity_of v.header
    go b e (inl same) = omega (arith, same, here)
    go true e (inr (inl same)) = omega (arith, same, behind e)
    go true e (inr (inr more)) = last (nat_lt (suc (suc i)) (capacity_of v.header)) refl more
    go false e (inr none) = absurd none

-- record k is none of so many from `start` on
abbrev pub IsOff : ℕ → ℕ → ℕ → Type 0
IsOff start count k = (k < start) ⊎ (start + count ≤ k)

-- No write of the commit of a store is one of a record of the file.
pub commit_is_off : (n : ℕ) (v : Volume) (version : Version) (name : List ℕ) (kind : ℕ) (implementation bytes : List ℕ) (slot start : ℕ) → IsVolume n v → is_adopted_with n version v.slots ≡ true
    → fit_in n v (file_length bytes) ≡ At slot start → (was_open : Bool) (tape : Tape)
    → EachRecord (IsOff start (file_length bytes)) (commit_writes version n was_open (changes_of n (Store name kind implementation bytes) v tape))
commit_is_off n v version name kind implementation bytes slot start volume adopted chosen was_open tape =
    each_commit (IsOff start (file_length bytes)) version n (omega (arith, below, file_has_records bytes)) (λ k le. inr (omega (arith, below, le))) was_open (changes_of n (Store name kind implementation bytes) v tape)
    (subst (λ (place : Place). EachRecord (IsOff start (file_length bytes)) (changes_at n (Store name kind implementation bytes) v place tape)) (sym chosen)
    (each_target (IsOff start (file_length bytes)) (changes_by (directory_start v.header) writes tape) (λ k target.
    let found = target_slot (directory_start v.header) writes (with_slots (directory_start v.header) writes tape) k target in
    let within = stored_within n v (file_length bytes) slot start volume place entry tape found.0 found.1 in
    inl (omega (arith, found.2, within, place.low)))))
  where
    place : IsPlaceIn n v (file_length bytes) slot start
    place = fit_tells n (directory_end v.header) (capacity_of v.header) v.slots (file_length bytes) slot start chosen

    below : start + file_length bytes ≤ redo_start version n
    below = place_below_redo n v version (file_length bytes) slot start volume adopted place

    entry : List ℕ
    entry = new_entry name kind start (file_length bytes) implementation

    writes : SlotWrites
    writes = stored_writes v slot entry tape

-- Runs of records that lie apart: the first one is none that writes over the second.
pub apart_off : (first start wide count : ℕ) (other bytes : List ℕ) → length other ≡ 256 * wide → length bytes ≡ 256 * count → (first + wide ≤ start) ⊎ (start + count ≤ first)
    → (nat_lt first (start + records_of bytes) && nat_lt start (first + records_of other)) ≡ false
apart_off first start wide count other bytes size whole (inl before) = and_right (nat_lt first (start + records_of bytes)) _ (le-ltb start (first + records_of other) (omega (arith, before, size)))
apart_off first start wide count other bytes size whole (inr behind) = ap (λ (b : Bool). b && nat_lt start (first + records_of other)) (le-ltb first (start + records_of bytes) (omega (arith, behind, whole)))

-- ---- a store

-- How the clause tells the writes among single transfers is handed in, as its functions are of a library that this crate does not name.
module _ {among : List Transfer → Changes} {single : List Transfer → Type 0}
    (next : (t : Transfer) (ts : List Transfer) → among (t ∷ ts) ≡ (if t.writes then (t.first, t.bytes) ∷ among ts else among ts))
    (parts : (t : Transfer) (ts : List Transfer) → single (t ∷ ts) → (length t.bytes ≡ 256) × single ts) (start count : ℕ) (bytes : List ℕ) (whole : length bytes ≡ 256 * count) where
  abbrev run : Transfer
  run = record { writes = true; first = start; bytes = bytes }

  one_off : (first : ℕ) (one : List ℕ) → length one ≡ 256 → IsOff start count first → (nat_lt first (start + records_of bytes) && nat_lt start (first + records_of one)) ≡ false
  one_off first one size off = apart_off first start 1 count one bytes size whole (elim off [
    | inl before ↦ inl (omega (arith, before))
    | inr behind ↦ inr behind
  ])

  pub none_over : (ts : List Transfer) → single ts → EachRecord (IsOff start count) (among ts) → list_any (λ y. is_overwritten_by run y) ts ≡ false
  none_over [] one each = refl
  none_over (t ∷ ts) one each =
      let both = parts t ts one in
      go t.writes (subst (EachRecord (IsOff start count)) (next t ts) each) both.0 (λ rest. none_over ts both.1 rest)
    where
      go : (b : Bool) → EachRecord (IsOff start count) (if b then (t.first, t.bytes) ∷ among ts else among ts) → length t.bytes ≡ 256
          → (EachRecord (IsOff start count) (among ts) → list_any (λ y. is_overwritten_by run y) ts ≡ false)
          → (b && (nat_lt t.first (start + records_of bytes) && nat_lt start (t.first + records_of t.bytes))) || list_any (λ y. is_overwritten_by run y) ts ≡ false
      go true each size rest = λ i. one_off t.first t.bytes size each.0 i || rest each.1 i
      go false each size rest = rest each

  -- The list goes on by some transfers, by the run, and by those whose writes are of other records: it carries the bytes out.
  run_carried : (P : ℕ → Type 0) (ws : Changes) (runs : List Transfer) (old new : List Transfer → Type 0) → EachRecord (IsOff start count) ws → runs ≡ run ∷ []
      → ((list : List Transfer) → old list → (first more : List Transfer) × new (list ++ (first ++ (runs ++ more))) × WritesOnly P first × (among more ≡ ws) × single more)
      → TellsSome old → (list : List Transfer) × new list × (are_carried_out list start bytes ≡ true) × (by_one writes_records list start bytes ≡ true)
  run_carried P ws runs old new off one goes_on begun =
      let is = goes_on begun.0 begun.1 in
      let first : List Transfer = begun.0 ++ is.0 in
      (first ++ run ∷ is.1, subst new (sym (append_assoc begun.0 is.0 (run ∷ is.1))) (subst (λ (rs : List Transfer). new (begun.0 ++ (is.0 ++ (rs ++ is.1)))) one is.2), written_carried_out first is.1 start bytes (none_over is.1 is.5 (subst (EachRecord (IsOff start count)) (sym is.4) off)), one_among writes_records first is.1 run refl)

-- the transfers of a command in three parts: what comes first, its files and its commit
pub goes_parted : (P : ℕ → Type 0) (kept : Bool) (n : ℕ) (command : VolumeCommand) (volume : Option Volume) (t : Tape) (old new : List Transfer → Type 0) → AddsCommit P kept n command volume t old new
    → (list : List Transfer) → old list → (first more : List Transfer) × new (list ++ (first ++ (file_runs n command volume ++ more))) × WritesOnly P first
    × (writes_among more ≡ commit_when n command volume t) × AreSingle more
goes_parted P kept n command volume t old new adds list was =
    let all = adds.goes_on list was in
    (all.0, all.5.more, subst (λ (rest : List Transfer). new (list ++ (all.0 ++ rest))) all.5.are all.2, all.3, all.5.writes, all.5.single)

pub told_still : (old new : Option Tape) (t : Tape) → is_some new ≡ is_some old → old ≡ Some t → (u : Tape) × (new ≡ Some u)
told_still old (Some u) t same told = (u, refl)
told_still old None t same told = let both : false ≡ true = same ∙ ap is_some told in cc

module _ {R S : Type 0} (view : R → RecordsView S) (old new : VolumeView R) (s : HostState) (seen : ShowsVolume s (view old.records)) (begun : TellsSome (view old.records).transferred) (store : IsStore (view old.records))
    (name : List ℕ) (kind : ℕ) (implementation bytes : List ℕ) {T : Type 0} (x : T) (alters : Alters {T = T} (Store name kind implementation bytes) view old new (Ok x)) where
  abbrev n : ℕ
  n = (view old.records).record_count

  abbrev command : VolumeCommand
  command = Store name kind implementation bytes

  module _ (t : Tape) (told : IsTold view old t) (v : Volume) (of_tape : volume_of t ≡ Some v) where
    volume : IsVolume n v
    volume = volume_in_is n (settled t) v (settled_shape n t (store.is_tape t told)) of_tape

    -- the command is not refused, so there is a place
    can : IsStorable n v name bytes
    can =
        let behind = told_still (view old.records).tape (view new.records).tape t alters.goes_on.continues.told told in
        storable n v name kind implementation bytes
        (ap (refusal_of n command) (sym of_tape) ∙ ap (λ (p : Option Refusal × Option Volume). p.0) (alters.answers t behind.0 told behind.1))

    version : (version : Version) × (is_adopted_with n version v.slots ≡ true)
    version = adopted_version n v.slots can.adopted

    runs_are : file_runs n command (volume_of t) ≡ run_of can.first bytes ∷ []
    runs_are = ap (file_runs n command) of_tape ∙ ap (λ (p : Place). map (λ file. run_of file.start file.bytes) (part_files (part.Store name kind implementation bytes) p)) can.chosen

    off : EachRecord (IsOff can.first (file_length bytes)) (commit_when n command (volume_of t) (settled t))
    off =
        let filed : Tape = file_when n command (Some v) (settled t) in
        subst (λ (o : Option Volume). EachRecord (IsOff can.first (file_length bytes)) (commit_when n command o (settled t))) (sym of_tape)
        (each_if_any (IsOff can.first (file_length bytes)) (version_for n command (Some v)) n (has_open_gate filed) (changes_of n command v filed)
        (subst (λ (w : Version). EachRecord (IsOff can.first (file_length bytes)) (commit_writes w n (has_open_gate filed) (changes_of n command v filed))) (sym (version_is_redo n version.0 v volume version.1))
        (commit_is_off n v version.0 name kind implementation bytes can.slot can.first volume version.1 can.chosen (has_open_gate filed) filed)))

    stores : (list : List Transfer) × (view new.records).transferred list × StoresTo (fit_in n v (file_length bytes)) bytes list
    stores =
        let carried = run_carried (λ t ts. refl) (λ t ts one. one) can.first (file_length bytes) (filled bytes) (length_filled bytes) (IsSettleWrite n (redo_of t)) (commit_when n command (volume_of t) (settled t))
        (file_runs n command (volume_of t)) (view old.records).transferred (view new.records).transferred off runs_are (goes_parted (IsSettleWrite n (redo_of t)) (is_some old.kept) n command (volume_of t) (settled t) (view old.records).transferred (view new.records).transferred (alters.transfers t told)) begun in
        (carried.0, carried.1, record { slot = can.slot; start = can.first; at = can.chosen; carried = carried.2; one = carried.3 })

  -- With ok, the reads and writes of a store carry the bytes of its file out to its place.
  pub store_carried : CarriesAs (Store name kind implementation bytes) reply.Ok s.records (volume_at s) (view new.records).transferred
  store_carried = by (view old.records).tape refl
    where
      on : (t : Tape) → IsTold view old t → (o : Option Volume) → volume_of t ≡ o → CarriesAs (Store name kind implementation bytes) reply.Ok s.records o (view new.records).transferred
      on t told None is = tt
      on t told (Some v) is = subst (λ (k : ℕ). CarriesAs (Store name kind implementation bytes) reply.Ok k (Some v) (view new.records).transferred) (sym seen.records) (stores t told v is)

      by : (tape : Option Tape) → (view old.records).tape ≡ tape → CarriesAs (Store name kind implementation bytes) reply.Ok s.records (volume_at s) (view new.records).transferred
      by None none = subst (λ (v : Option Volume). CarriesAs (Store name kind implementation bytes) reply.Ok s.records v (view new.records).transferred) (sym (volume_seen view old new s seen begun None none)) tt
      by (Some t) told = subst (λ (v : Option Volume). CarriesAs (Store name kind implementation bytes) reply.Ok s.records v (view new.records).transferred) (sym (volume_seen view old new s seen begun (Some t) told)) (on t told (volume_of t) refl)
