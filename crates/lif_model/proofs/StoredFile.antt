-- The tape that a store makes: first the file's records, and then the directory.
use Rattle.std.proofs.Common.{◌≡◌, ◌≢◌, ◌⊎◌, ◌<◌, ◌≤◌, ◌+◌, ℕ, suc, nat_eq, List, [], ◌∷◌, Bool, true, false, if◌then◌else◌, Some, None, length, get_or, set, insert, inl, inr, sym, ◌∙◌, ap, subst, arith}
use Rattle.std.specs.FinMap as maps
use Rattle.std.proofs.lemmas.Bool.{cases_lt, and_parts, not-false, not_from_true, eqb-true, eq-eqb, ne_eqb, ltb-true}
use Rattle.std.proofs.lemmas.List.Edits.{length-insert, get_or-insert_below, get_or-insert_above}
use Rattle.lif_model.specs.Tape.{Tape, IsTape, record_at}
use Rattle.lif_model.specs.Header.{directory_start, directory_length, directory_end, capacity_of}
use Rattle.lif_model.specs.Directory.{type_of, is_end, is_purged, slots_of}
use Rattle.lif_model.specs.Made.{new_entry, file_length, filled, file_records}
use Rattle.lif_model.specs.declared.version.Version.{Version}
use Rattle.lif_model.specs.Legal.{has_file, IsLegal}
use Rattle.lif_model.specs.Transfers.{Replaced}
use Rattle.lif_model.specs.Volume.{redo_name, is_redo_entry, is_adopted_with, is_adopted, Files, files_of, Volume, volume_in, IsAdopted}
use Rattle.lif_model.specs.Fit.{Place, At, redo_place, can_append, fit_in}
use Rattle.lif_model.specs.Apply.{Store, IsWellFormed, checks_of, refusal_of, placed, stored, volume_after}
use Rattle.lif_model.specs.Writing.{SlotWrites, with_slots, last_slot, stored_writes, with_records, written_at, written_by}
use Rattle.lif_model.proofs.Lists.{any_at, any_from}
use Rattle.lif_model.proofs.Made.{new_type, new_size}
use Rattle.lif_model.proofs.Fit.{IsPlaceIn, fit_tells}
use Rattle.lif_model.proofs.Volume.{slots_agree}
use Rattle.lif_model.proofs.Content.{files_stored}
use Rattle.lif_model.proofs.Apply.{NoneMet, none_met, store_has_place, stored_is_adopted, not_redo_name}
use Rattle.lif_model.proofs.Adopted.{redo_file_is_live}
use Rattle.lif_model.proofs.Writing.{AreEntries, slots_shape, changes_write}
use Rattle.lif_model.proofs.Slotted.{IsOn, is_on, last_entries, entry_on_size, header_stays, slot_set, slot_insert}
use Rattle.lif_model.proofs.Written.{volume_by_parts, Makes, kept_files, behind_stays, adopted_stays}
use Rattle.lif_model.proofs.Recorded.{records_replaced, records_count, file_shape}

module _ (n : ℕ) (u : Tape) (v : Volume) (tape : IsTape n u) (is : volume_in u ≡ Some v) (adopted : is_adopted n v.slots ≡ true)
    (name : List ℕ) (kind : ℕ) (implementation bytes : List ℕ) (formed : IsWellFormed (Store name kind implementation bytes)) (other : name ≢ redo_name) (none_named : has_file v.slots name ≡ false)
    (i start : ℕ) (place : IsPlaceIn n v (file_length bytes) i start) where
  abbrev entry : List ℕ
  entry = new_entry name kind start (file_length bytes) implementation

  -- the tape with the file
  abbrev t : Tape
  t = with_records start (file_records bytes) u

  on : IsOn n u v
  on = is_on n u v tape is

  written : Replaced start (file_records bytes) u t
  written = records_replaced start (file_records bytes) u (omega (arith, place.high, records_count bytes, on.tape.records, on.ends, on.starts))

  -- the directory stays
  with_file_on : IsOn n t v
  with_file_on =
      let header : record_at t 0 ≡ record_at u 0 = written.before 0 (omega (arith, on.starts, place.low)) in
      record {
        tape = file_shape n start bytes u tape;
        volume = on.volume;
        header = on.header ∙ sym header;
        slots = on.slots ∙ sym (slots_agree t u header (λ k le lt. written.before k (omega (arith, lt, ap directory_end on.header, place.low))));
        starts = on.starts;
        ends = on.ends;
      }

  entry_size : length entry ≡ 32
  entry_size = new_size name kind start (file_length bytes) implementation formed.0 formed.3

  entry_kind : is_end entry ≡ false
  entry_kind = ne_eqb (type_of entry) 0xFFFF (λ e. formed.2 (sym (new_type name kind start (file_length bytes) implementation formed.0) ∙ e))

  is_adopted_volume : IsAdopted n v
  is_adopted_volume = record { volume = on.volume; adopted = adopted }

  set_entries : i < length v.slots → AreEntries (capacity_of v.header) ((i, entry) ∷ [])
  set_entries lt = (omega (arith, lt, on.volume.room), entry_size, tt)

  insert_entries : suc i ≡ length v.slots → length v.slots < capacity_of v.header
      → AreEntries (capacity_of v.header) ((i, entry) ∷ last_slot (capacity_of v.header) u (suc i) (get_or v.slots i []))
  insert_entries last room = (
    omega (arith, last, room),
    entry_size,
    last_entries (capacity_of v.header) u (suc i) (get_or v.slots i []) (entry_on_size n u v on) (omega (arith, last, room)) (on.volume.entries i (omega (arith, last))),
  )

  -- the place is that of a purged slot, or that of the redo entry, which is the last slot and moves
  -- on
  place_cases : ((nat_eq i (redo_place v.slots) ≡ false) × (i < redo_place v.slots) × (i < length v.slots) × (is_purged (get_or v.slots i []) ≡ true))
      ⊎ ((nat_eq i (redo_place v.slots) ≡ true) × (i ≡ redo_place v.slots) × (suc i ≡ length v.slots) × (length v.slots < capacity_of v.header) × (can_append (capacity_of v.header) v.slots ≡ true))
  place_cases = elim place.candidate [
    | inl purged ↦ inl (ne_eqb i (redo_place v.slots) (λ e. absurd (omega (arith, e, purged.0))), purged.0, purged.1, purged.2)
    | inr own ↦
        let both = and_parts _ _ own.1 in
        let last : suc (redo_place v.slots) ≡ length v.slots = eqb-true (suc (redo_place v.slots)) (length v.slots) both.0 in
        inr (eq-eqb i (redo_place v.slots) own.0, own.0, omega (arith, own.0, last), ltb-true (length v.slots) (capacity_of v.header) both.1, own.1)
  ]

  pub stored_entries : AreEntries (capacity_of v.header) (stored_writes v i entry u)
  stored_entries = elim place_cases [
    | inl purged ↦ by false purged.0 (set_entries purged.2)
    | inr own ↦ by true own.0 (insert_entries own.2 own.3)
  ]
    where
      by : (b : Bool) → nat_eq i (redo_place v.slots) ≡ b
          → AreEntries (capacity_of v.header) ((i, entry) ∷ (if b then last_slot (capacity_of v.header) u (suc i) (get_or v.slots i []) else []))
          → AreEntries (capacity_of v.header) (stored_writes v i entry u)
      by b e are = subst (λ (c : Bool). AreEntries (capacity_of v.header) ((i, entry) ∷ (if c then last_slot (capacity_of v.header) u (suc i) (get_or v.slots i []) else []))) (sym e) are

  -- the slots of the tape, and the redo file among them
  abbrev IsPlaced : Bool → Type 0
  IsPlaced b = (slots_of (with_slots (directory_start v.header) ((i, entry) ∷ (if b then last_slot (capacity_of v.header) u (suc i) (get_or v.slots i []) else [])) t) ≡ (if b then insert v.slots i entry else set v.slots i entry))
      × ((version : Version) → is_adopted_with n version v.slots ≡ true → is_adopted_with n version (if b then insert v.slots i entry else set v.slots i entry) ≡ true)

  slots_placed : IsPlaced (nat_eq i (redo_place v.slots))
  slots_placed = elim place_cases [
    | inl purged ↦ subst IsPlaced (sym purged.0) (
      slot_set n t v with_file_on i entry purged.2 entry_size entry_kind,
      λ version with. adopted_stays n u v tape is version i entry (λ redo. let no : true ≡ false = sym (redo_file_is_live n (get_or v.slots i []) redo) ∙ not_from_true _ purged.3 in cc) with,
    )
    | inr own ↦ subst IsPlaced (sym own.0) (
      slot_insert n t v with_file_on u (entry_on_size n u v on) entry entry_size entry_kind i own.2 own.3,
      λ version with. redo_moves version (omega (arith, own.2)) with,
    )
  ]
    where
      carried : (k : ℕ) → k < length v.slots → i ≤ length v.slots → (k < i) ⊎ (i ≤ k)
          → (j : ℕ) × (j < length (insert v.slots i entry)) × (get_or (insert v.slots i entry) j [] ≡ get_or v.slots k [])
      carried k less le (inl under) = (k, omega (arith, less, length-insert v.slots i entry le), get_or-insert_below v.slots i entry [] k under le)
      carried k less le (inr over) = (k + 1, omega (arith, less, length-insert v.slots i entry le), get_or-insert_above v.slots i entry [] k over le)

      redo_moves : (version : Version) → i ≤ length v.slots → is_adopted_with n version v.slots ≡ true
          → is_adopted_with n version (insert v.slots i entry) ≡ true
      redo_moves version le with =
          let found = any_at [] (is_redo_entry n version) v.slots with in
          let later = carried found.0 found.1 le (cases_lt found.0 i) in
          any_from [] (is_redo_entry n version) (insert v.slots i entry) later.0 later.1 (ap (is_redo_entry n version) later.2 ∙ found.2)

  -- A store at a place that is handed in: the tape has the volume with the file.
  pub stored_makes : Makes n v (stored v name kind implementation bytes (At i start)) (written_at n (Store name kind implementation bytes) v (At i start) u)
  stored_makes =
      let ws : SlotWrites = stored_writes v i entry u in
      let x : Tape = with_slots (directory_start v.header) ws t in
      let later : List (List ℕ) = placed v.slots i entry in
      let made : IsTape n x = slots_shape (directory_start v.header) n (directory_length v.header) ws t with_file_on.tape (omega (arith, on.ends)) stored_entries in
      let legal : IsLegal n v.header later = (stored_is_adopted n v name kind implementation bytes i start is_adopted_volume formed none_named place).volume.legal in
      let files_then : files_of x later ≡ maps.insert v.files name (filled bytes) =
      files_stored n v name kind implementation bytes i start is_adopted_volume formed other none_named place u t x tape.records written made.records (λ k le under. behind_stays n u v tape is t ws k stored_entries le)
      ∙ ap (λ (files : Files). maps.insert files name (filled bytes)) (sym (kept_files n u v tape is)) in
      subst (Makes n v (stored v name kind implementation bytes (At i start)))
      (sym (changes_write (directory_start v.header) (directory_length v.header) ws stored_entries n u t (omega (arith, on.ends)) tape.records with_file_on.tape.records (λ k low high. written.before k (omega (arith, high, place.low)))))
      (record {
        tape = made;
        volume = volume_by_parts n x v.header later (maps.insert v.files name (filled bytes)) (sym made.records) legal (header_stays n t v with_file_on ws stored_entries ∙ sym with_file_on.header) slots_placed.0 files_then;
        adopted = slots_placed.1;
      })

-- ---- at the place that is chosen

-- what is known of a store that is not refused
pub record IsStorable (n : ℕ) (v : Volume) (name bytes : List ℕ) : Type 0 where
  pub adopted : is_adopted n v.slots ≡ true
  pub other : name ≢ redo_name
  pub none_named : has_file v.slots name ≡ false
  pub slot : ℕ
  pub first : ℕ
  pub chosen : fit_in n v (file_length bytes) ≡ At slot first
  pub place : IsPlaceIn n v (file_length bytes) slot first

pub storable : (n : ℕ) (v : Volume) (name : List ℕ) (kind : ℕ) (implementation bytes : List ℕ)
    → refusal_of n (Store name kind implementation bytes) (Some v) ≡ None → IsStorable n v name bytes
storable n v name kind implementation bytes none =
    let unmet : NoneMet (checks_of n (Store name kind implementation bytes) v) = none_met n (Store name kind implementation bytes) v none in
    let found = store_has_place n v name (fit_in n v (file_length bytes)) unmet in
    let adopted : is_adopted n v.slots ≡ true = not-false (is_adopted n v.slots) unmet.0 in
    record {
      adopted = adopted;
      other = not_redo_name n v name adopted unmet.1.0;
      none_named = unmet.1.1.0;
      slot = found.0;
      first = found.1;
      chosen = found.2;
      place = fit_tells n (directory_end v.header) (capacity_of v.header) v.slots (file_length bytes) found.0 found.1 found.2;
    }

pub store_makes : (n : ℕ) (u : Tape) (v : Volume) (name : List ℕ) (kind : ℕ) (implementation bytes : List ℕ) → IsTape n u → volume_in u ≡ Some v
    → IsWellFormed (Store name kind implementation bytes)
    → refusal_of n (Store name kind implementation bytes) (Some v) ≡ None
    → Makes n v (volume_after n (Store name kind implementation bytes) v) (written_by n (Store name kind implementation bytes) v u)
store_makes n u v name kind implementation bytes tape is formed none =
    let can = storable n v name kind implementation bytes none in
    subst (λ (p : Place). Makes n v (stored v name kind implementation bytes p) (written_at n (Store name kind implementation bytes) v p u)) (sym can.chosen)
    (stored_makes n u v tape is can.adopted name kind implementation bytes formed can.other can.none_named can.slot can.first can.place)
