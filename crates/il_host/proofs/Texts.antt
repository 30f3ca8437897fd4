-- What the calls of a volume answer tells the texts of replies, and these have room on every page of a host.
use Rattle.std.proofs.Common.{◌≡◌, ◌≤◌, ◌+◌, ◌-◌, ◌*◌, ◌++◌, ℕ, true, List, [], length, map, take, get_or, sym, ap, subst, ◌∙◌, arith, inl, inr}
use Rattle.std.specs.Prelude.{Option, Some, None, Ok, IfSome, is_some, option_and_then, nat_lt}
use Rattle.std.specs.List.{flat_map, position_or_len}
use Rattle.std.proofs.lemmas.Bool.{cases_Bool, and_from, ltb-false}
use Rattle.std.proofs.lemmas.List.{length-map}
use Rattle.lif_model.specs.Tape.{Tape, record_at}
use Rattle.lif_model.specs.Header.{HeaderParts, header_of}
use Rattle.lif_model.specs.Directory.{slots_of, length_of}
use Rattle.lif_model.specs.Redo.{settled}
use Rattle.lif_model.specs.Legal.{is_legal, is_live, is_live_named, has_file, slot_named, IsLegal}
use Rattle.lif_model.specs.Volume.{Volume, files_of, volume_of}
use Rattle.lif_model.specs.Packing.{finished_volume_of}
use Rattle.lif_model.specs.Apply.{VolumeCommand, Dir, Label, Fetch}
use Rattle.lif_model.proofs.Legal.{legal_tells}
use Rattle.lif_model.proofs.Slots.{readable_tells, live_named_tells}
use Rattle.lif_model.proofs.Lookups.{slot_is_at, no_slot_has}
use Rattle.lif_model.proofs.Directory.{volume_from}
use Rattle.il_ports.specs.Stores.{RecordsView}
use Rattle.lif_dir.specs.Entries.{slot_bytes}
use Rattle.lif_dir.specs.declared.entries.Slot.{Slot}
use Rattle.lif_volume.specs.declared.volume.Listing.{Listing}
use Rattle.lif_volume.specs.declared.volume.Fetched.{Fetched}
use Rattle.lif_volume.specs.Views.{VolumeView, IsOpen, IsDirectoryOf}
use Rattle.lif_volume.specs.Commands.{IsTold, Listed, FetchedFile, Mounts, Lists, Labels, FetchesFile, IsRefusedExactly}
use Rattle.il_script.specs.Replies.{reply_line}
use Rattle.il_script.specs.declared.reply.Reply.TheVariants as reply
use Rattle.host_model.specs.Requests.{OfVolume, Asks}
use Rattle.host_model.specs.HostStates.{HostState, text_room}
use Rattle.host_model.specs.Listing.{volume_line, slot_lines, listing}
use Rattle.host_model.specs.Replies.{data_line, label_line, told_of, reply_text}
use Rattle.il_host.specs.Texts.{parts_of, listing_text, label_text, data_text}
use Rattle.il_frames.specs.declared.entry.Entry.{Entry}

-- ---- the text of a reply

-- by the tape that is told
pub ok_text : (command : VolumeCommand) (s : HostState) (log : List Entry) (t : Tape) (lines : List ℕ) → s.tape ≡ Some t → told_of command (finished_volume_of t) ≡ lines
    → reply_text (Asks (OfVolume command)) s log reply.Ok ≡ lines ++ reply_line reply.Ok
ok_text command s log t lines told is = ap (λ (tape : Option Tape). told_of command (option_and_then finished_volume_of tape) ++ reply_line reply.Ok) told ∙ ap (λ l. l ++ reply_line reply.Ok) is

-- ---- dir

lines_of : (s : Tape) (parts : HeaderParts) (slots : List Slot) → parts ≡ header_of (record_at s 0) → map slot_bytes slots ≡ slots_of s
    → listing (record { header = record_at s 0; slots = slots_of s; files = files_of s (slots_of s) }) ≡ volume_line parts (length slots) ++ flat_map slot_lines (map slot_bytes slots)
unfolding listing
lines_of s parts slots header bytes =
    let count : length (slots_of s) ≡ length slots = sym (ap (λ (l : List (List ℕ)). length l) bytes) ∙ length-map slots slot_bytes in
    λ i. volume_line (sym header i) (count i) ++ flat_map slot_lines (sym bytes i)

-- of a tape that is legal once it is settled, by its slots
pub listed_text : (t : Tape) (answer : Listing) (slots : List Slot) → is_legal (settled t) ≡ true → Listed (settled t) answer slots → map slot_bytes slots ≡ slots_of (settled t)
    → told_of Dir (volume_of t) ≡ listing_text answer slots
listed_text t answer slots legal listed bytes = ap (told_of Dir) (volume_from (settled t) legal) ∙ lines_of (settled t) (parts_of answer) slots listed.header bytes

module _ {R S : Type 0} (view : R → RecordsView S) (old new : VolumeView R) (t : Tape) (told : IsTold view old t) where
  -- by the clauses of `dir`
  pub dir_told : (answer : Listing) → IsOpen view new → Mounts view old new (Ok answer) → Lists view old new answer → told_of Dir (volume_of t) ≡ listing_text answer new.slots
  dir_told answer is mounts lists = go new.kept mounts.kept (is.known (settled t) (mounts.settles t told))
    where
      go : (kept : Option HeaderParts) → is_some kept ≡ true → IfSome kept (λ header. IsDirectoryOf (settled t) header new.slots) → told_of Dir (volume_of t) ≡ listing_text answer new.slots
      go None some known = cc
      go (Some header) some known = listed_text t answer new.slots known.directory.legal (lists t told) known.directory.bytes

  -- by the clauses of `label`
  pub label_told : (label : List ℕ) → IsRefusedExactly view old (Ok label) → Labels view old label → told_of Label (volume_of t) ≡ label_text label
  unfolding label_line
  label_told label exactly labels = ap (told_of Label) (volume_from (settled t) (exactly t told)) ∙ ap label_text (sym (labels t told))

  -- by the clauses of `fetch`
  pub data_told : (name : List ℕ) (fetched : Fetched) (into : List ℕ) → FetchesFile name view old fetched into
      → told_of (Fetch name) (volume_of t) ≡ data_text fetched.kind fetched.implementation (take fetched.length into)
  data_told name fetched into fetches = fetched_text (fetches t told)
    where
      fetched_text : FetchedFile t name fetched into → told_of (Fetch name) (volume_of t) ≡ data_text fetched.kind fetched.implementation (take fetched.length into)
      fetched_text file =
          ap (told_of (Fetch name)) file.of_tape
          ∙ (λ i. data_line (file.named i) (file.bytes i))
          ∙ (λ i. data_text (sym file.kind i) (sym file.implementation i) (take fetched.length into))

-- ---- room

-- what is kept tells
kept_tells : {P : HeaderParts → Type 0} {G : Type 0} (kept : Option HeaderParts) → is_some kept ≡ true → IfSome kept P → ((header : HeaderParts) → P header → G) → G
kept_tells None some known tells = cc
kept_tells (Some header) some known tells = tells header known

-- a directory has at most so many slots
pub few_slots : {R S : Type 0} (view : R → RecordsView S) (new : VolumeView R) → IsOpen view new → is_some new.kept ≡ true → length new.slots ≤ 8 * ((view new.records).record_count - 5)
few_slots view new is kept = kept_tells new.kept kept is.legal (λ header legal.
    let n = (view new.records).record_count in
    let readable = readable_tells n legal.bytes (legal_tells n legal.bytes (map slot_bytes new.slots) legal.legal).readable in
    let long = ap (λ (h : HeaderParts). h.length) legal.told in
    omega (arith, legal.shape.few, length-map new.slots slot_bytes, readable.0, readable.2, long))

-- so the lines of a volume and the last line have room
pub listing_fits : {R S : Type 0} (view : R → RecordsView S) (new : VolumeView R) → IsOpen view new → is_some new.kept ≡ true
    → 72 * (length new.slots + 1) + 23 ≤ text_room (view new.records).record_count
listing_fits view new is kept = omega (arith, few_slots view new is kept, is.size)

-- ---- a file is no longer than its tape

pub short_slot : (n : ℕ) (v : Volume) (name slot : List ℕ) → IsLegal n v.header v.slots → slot_named v.slots name ≡ Some slot → length_of slot ≤ n
short_slot n v name slot legal named = elim (cases_Bool (has_file v.slots name)) [
  | inr lacks ↦ let both : None ≡ Some slot = sym (no_slot_has v.slots name lacks).0 ∙ named in cc
  | inl has ↦
      let k = position_or_len (is_live_named name) v.slots in
      let at = slot_is_at v.slots name has in
      let same : get_or v.slots k [] ≡ slot = same_some _ _ (sym at.found ∙ named) in
      elim (cases_Bool (nat_lt 0 (length_of (get_or v.slots k [])))) [
        | inl some ↦
            let live : is_live (get_or v.slots k []) ≡ true = (live_named_tells name (get_or v.slots k []) at.live).0 in
            let within = legal.within k at.within (and_from _ _ live some) in
            subst (λ (s : List ℕ). length_of s ≤ n) same (omega (arith, within.1))
        | inr none ↦ subst (λ (s : List ℕ). length_of s ≤ n) same (omega (arith, ltb-false 0 (length_of (get_or v.slots k [])) none))
      ]
]
  where
    same_some : {X : Type 0} (x y : X) → Some x ≡ Some y → x ≡ y
    same_some x y e = cc
