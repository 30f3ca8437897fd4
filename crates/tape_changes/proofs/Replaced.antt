-- What a volume has after a file was stored, alone or in place of another one.
use Rattle.std.proofs.Common.{◌≡◌, ◌≢◌, ◌⊎◌, ◌+◌, ◌++◌, ◌∷◌, ◌∙◌, ℕ, Bool, true, false, List, [], Option, Some, None, inl, inr, ⊎_elim, refl, sym, ap, arith, drop, length, replicate, take, if◌then◌else◌}
use Rattle.std.specs.Prelude.{◌==◌, is_some}
use Rattle.std.specs.FinMap.{get}
use Rattle.std.specs.Str.{bytes_eq}
use Rattle.std.proofs.Math.Seq.{drop-append-add}
use Rattle.std.proofs.lemmas.Bool.{and_right, false_from_ne_true, not-false}
use Rattle.std.proofs.lemmas.List.{take_all}
use Rattle.std.proofs.lemmas.Slice.Eq.{bytes_eq-Decides}
use Rattle.lif_model.specs.Apply.{VolumeCommand, Batch, Store, Midway, IsWellFormed, after_part, apply, before_parts, is_protected, part_checks, parts_checks, part_place, refusal_of, store_checks, stored, volume_after}
use Rattle.lif_model.specs.Directory.{implementation_of}
use Rattle.lif_model.specs.Fit.{Place, At, fit_beside_in}
use Rattle.lif_model.specs.Header.{capacity_of, directory_end}
use Rattle.lif_model.specs.Legal.{has_file, slot_named}
use Rattle.lif_model.specs.Made.{file_length, filled, in_four, in_two, new_entry}
use Rattle.lif_model.specs.Packing.{finished_volume_of}
use Rattle.lif_model.specs.Parts as part
use Rattle.lif_model.specs.Parts.{Part}
use Rattle.lif_model.specs.Tape.{Tape}
use Rattle.lif_model.specs.Volume.{Volume, IsAdopted, IsVolume, is_adopted, redo_name}
use Rattle.lif_model.specs.declared.refusal.Refusal.{Refusal}
use Rattle.lif_model.proofs.Apply.{NoneMet, accepted, none_met, not_redo_name, part_is_adopted, refused_stays, store_has_place}
use Rattle.lif_model.proofs.Files.{get_stored}
use Rattle.lif_model.proofs.Fit.{IsPlaceIn, fit_beside_tells}
use Rattle.lif_model.proofs.Lookups.{file_is_slot}
use Rattle.lif_model.proofs.Made.{new_type}
use Rattle.lif_model.proofs.Named.{placed_here}
use Rattle.lif_model.proofs.StoredFile.{storable}
use Rattle.tape_volumes.specs.Volumes.{FileContent, Mounted, OwnsGate, content_by, file_on, volume_seen}
use Rattle.tape_changes.specs.declared.replacing.NewFile.{NewFile}
use Rattle.tape_changes.specs.Replacing.{OldOrNewIsLeft, after_any, command_by, kind_named, new_name_bytes, replacing_parts, with_stored}

-- a file of these bytes, filled up with zeros to whole records
abbrev pub content_stored : (kind : ℕ) (field bytes : List ℕ) → FileContent
content_stored kind field bytes = record { kind = kind; field = field; bytes = filled bytes }

-- the implementation field of a new entry
new_field : (name : List ℕ) (kind start count : ℕ) (field : List ℕ) → length name ≡ 10 → length field ≡ 4 → implementation_of (new_entry name kind start count field) ≡ field
unfolding new_entry implementation_of
new_field name kind start count field ten four =
    let rest : List ℕ = in_two kind ++ (in_four start ++ (in_four count ++ (replicate 6 0 ++ (in_two 0x8001 ++ field)))) in
    ap (take 4) (ap (λ (k : ℕ). drop (k + 18) (name ++ rest)) (sym ten) ∙ drop-append-add name rest 18)
    ∙ take_all 4 field (omega (arith, four))

-- ---- a store at a place

module _ (n : ℕ) (v : Volume) (name : List ℕ) (kind : ℕ) (field bytes : List ℕ) (is : IsAdopted n v) (formed : IsWellFormed (Store name kind field bytes)) where
  stored_at : (i start : ℕ) → name ≢ redo_name → has_file v.slots name ≡ false → IsPlaceIn n v (file_length bytes) i start
      → file_on (stored v name kind field bytes (At i start)) name ≡ Some (content_stored kind field bytes)
  stored_at i start other none place =
      (λ j. content_by (slot j) (file j))
      ∙ (λ j. Some (record { kind = new_type name kind start (file_length bytes) field formed.0 j; field = new_field name kind start (file_length bytes) field formed.0 formed.3 j; bytes = filled bytes }))
    where
      entry : List ℕ
      entry = new_entry name kind start (file_length bytes) field

      w : Volume
      w = stored v name kind field bytes (At i start)

      off : is_protected n w name ≡ false
      off = and_right (is_adopted n w.slots) (bytes_eq name redo_name) (false_from_ne_true _ (λ on. other ((bytes_eq-Decides name redo_name).0 on)))

      slot : slot_named w.slots name ≡ Some entry
      slot = sym (file_is_slot n w name off) ∙ placed_here n v name kind field bytes i start is formed other none place

      file : get w.files name ≡ Some (filled bytes)
      file = get_stored v.files name (filled bytes) name ∙ ap (λ (b : Bool). if b then Some (filled bytes) else get v.files name) ((bytes_eq-Decides name name).1 refl)

-- ---- the commands of the job

module _ (n : ℕ) (v : Volume) (name : List ℕ) (kind : ℕ) (field bytes : List ℕ) (is : IsVolume n v) (formed : IsWellFormed (Store name kind field bytes)) where
  -- A store that is not refused: the volume has the file.
  pub store_has_file : refusal_of n (Store name kind field bytes) (Some v) ≡ None
      → (w : Volume) × ((apply n (Store name kind field bytes) (Some v)).1 ≡ Some w) × (file_on w name ≡ Some (content_stored kind field bytes))
  store_has_file none =
      let can = storable n v name kind field bytes none in
      let adopted : IsAdopted n v = record { volume = is; adopted = can.adopted } in (
        volume_after n (Store name kind field bytes) v,
        ap (λ a. a.1) (accepted n (Store name kind field bytes) v none),
        ap (λ (p : Place). file_on (stored v name kind field bytes p) name) can.chosen ∙ stored_at n v name kind field bytes adopted formed can.slot can.first can.other can.none_named can.place,
      )

  -- A purge of its name and the store, as one, that are not refused: the same.
  pub replacing_has_file : refusal_of n (Batch (part.Purge name ∷ part.Store name kind field bytes ∷ [])) (Some v) ≡ None
      → (w : Volume) × ((apply n (Batch (part.Purge name ∷ part.Store name kind field bytes ∷ [])) (Some v)).1 ≡ Some w) × (file_on w name ≡ Some (content_stored kind field bytes))
  replacing_has_file none = (
    volume_after n (Batch (part.Purge name ∷ part.Store name kind field bytes ∷ [])) v,
    ap (λ a. a.1) (accepted n (Batch (part.Purge name ∷ part.Store name kind field bytes ∷ [])) v none),
    ap (λ (p : Place). file_on (stored m.volume name kind field bytes p) name) found.2
        ∙ stored_at n m.volume name kind field bytes later formed found.0 found.1 (not_redo_name n v name adopted.adopted unmet.1.0) store_unmet.1.1.0 place,
  )
    where
      m : Midway
      m = after_part n (part.Purge name) (before_parts v)

      all : NoneMet (parts_checks n (part.Purge name ∷ part.Store name kind field bytes ∷ []) (before_parts v))
      all = (none_met n (Batch (part.Purge name ∷ part.Store name kind field bytes ∷ [])) v none).1.1

      unmet : NoneMet (part_checks n v (part_place n (before_parts v) (part.Purge name)) (part.Purge name))
      unmet = (all.0, (all.1.0, (all.1.1.0, tt)))

      store_unmet : NoneMet (store_checks n m.volume name (fit_beside_in n m.volume m.barred (file_length bytes)))
      store_unmet = all.1.1.1

      adopted : IsAdopted n v
      adopted = record { volume = is; adopted = not-false (is_adopted n v.slots) all.0 }

      later : IsAdopted n m.volume
      later = part_is_adopted n (before_parts v) (part.Purge name) adopted formed.0 unmet

      found : (i : ℕ) × (start : ℕ) × (fit_beside_in n m.volume m.barred (file_length bytes) ≡ At i start)
      found = store_has_place n m.volume name (fit_beside_in n m.volume m.barred (file_length bytes)) store_unmet

      place : IsPlaceIn n m.volume (file_length bytes) found.0 found.1
      place = (fit_beside_tells n (directory_end m.volume.header) (capacity_of m.volume.header) m.volume.slots m.barred (file_length bytes) found.0 found.1 found.2).0

-- ---- what a power stop leaves

-- the old file or the new one
abbrev pub HasOldOrNew : NewFile → Volume → Volume → Type 0
HasOldOrNew file v w =
    (file_on w (new_name_bytes file) ≡ file_on v (new_name_bytes file))
    ⊎ (file_on w (new_name_bytes file) ≡ Some (content_stored file.kind file.field file.bytes.now))

module _ (n : ℕ) (file : NewFile) (v : Volume) (is : IsVolume n v) (formed : IsWellFormed (Store (new_name_bytes file) file.kind file.field file.bytes.now)) where
  -- a command that stores the file, or is refused
  after_one : (command : VolumeCommand) → (refusal_of n command (Some v) ≡ None
      → (w : Volume) × ((apply n command (Some v)).1 ≡ Some w) × (file_on w (new_name_bytes file) ≡ Some (content_stored file.kind file.field file.bytes.now)))
      → (w : Volume) × ((apply n command (Some v)).1 ≡ Some w) × HasOldOrNew file v w
  after_one command makes = go (refusal_of n command (Some v)) refl
    where
      go : (r : Option Refusal) → refusal_of n command (Some v) ≡ r → (w : Volume) × ((apply n command (Some v)).1 ≡ Some w) × HasOldOrNew file v w
      go None none = let made = makes none in (made.0, made.1, inr made.2)
      go (Some refusal) refused = (v, ap (λ a. a.1) (refused_stays n command (Some v) refusal refused), inl refl)

  after_job : (found : Option ℕ) → (w : Volume) × (after_any n (command_by file found) v ≡ Some w) × HasOldOrNew file v w
  after_job None = after_one (Store (new_name_bytes file) file.kind file.field file.bytes.now) (store_has_file n v (new_name_bytes file) file.kind file.field file.bytes.now is formed)
  after_job (Some kind) = go (kind == file.kind)
    where
      go : (b : Bool) → (w : Volume) × (after_any n (if b then Some (Batch (replacing_parts file)) else None) v ≡ Some w) × HasOldOrNew file v w
      go true = after_one (Batch (replacing_parts file)) (replacing_has_file n v (new_name_bytes file) file.kind file.field file.bytes.now is formed)
      go false = (v, refl, inl refl)

-- If contracts can see the tape and it owns its gate, a power stop leaves a volume with the old file of that name, if there
-- was one, or with the new one, whole.
pub left_has_file : (file : NewFile) (s : Mounted) (v : Volume) (x : Tape) → volume_seen s.tape ≡ Some v → IsVolume s.records v → IsWellFormed (Store (new_name_bytes file) file.kind file.field file.bytes.now)
    → OwnsGate s.tape → OldOrNewIsLeft file s x → (w : Volume) × (finished_volume_of x ≡ Some w) × HasOldOrNew file v w
left_has_file file s v x seen is formed own left =
    ⊎_elim (λ same. (v, same ∙ seen, inl refl))
    (λ made.
    let job = after_job s.records file v is formed (kind_named v (new_name_bytes file)) in
    (job.0, made ∙ ap (with_stored s.records file) seen ∙ job.1, job.2)) (left own)

-- so a volume that had a file of that name still has one
pub left_has_some : (file : NewFile) (s : Mounted) (v : Volume) (x : Tape) → volume_seen s.tape ≡ Some v → IsVolume s.records v → IsWellFormed (Store (new_name_bytes file) file.kind file.field file.bytes.now)
    → OwnsGate s.tape → OldOrNewIsLeft file s x → is_some (file_on v (new_name_bytes file)) ≡ true
    → (w : Volume) × (finished_volume_of x ≡ Some w) × (is_some (file_on w (new_name_bytes file)) ≡ true)
left_has_some file s v x seen is formed own left had =
    let has = left_has_file file s v x seen is formed own left in
    (has.0, has.1, ⊎_elim (λ old. ap is_some old ∙ had) (λ new. ap is_some new) has.2)
