-- The volume of the tape that a command makes.
use Rattle.std.proofs.Common.{◌≡◌, ◌≢◌, ◌<◌, ◌≤◌, ◌++◌, ◌==◌, ◌||◌, ℕ, List, [], ◌∷◌, Bool, true, false, if◌then◌else◌, Some, None, length, get_or, set, replicate, inl, inr, refl, sym, ◌∙◌, ap, subst, arith, length-set, get_or-set_other}
use Rattle.std.specs.Str.{bytes_eq}
use Rattle.std.specs.FinMap.{get, remove}
use Rattle.std.proofs.lemmas.Bool.{or_cases, or_parts, not-false, leb-false}
use Rattle.std.proofs.lemmas.List.{length_push, get_or_append_left}
use Rattle.std.proofs.lemmas.Slice.Eq.{bytes_eq-Decides}
use Rattle.lif_model.specs.Tape.{Tape, IsTape, record_at}
use Rattle.lif_model.specs.Header.{directory_start, directory_length, directory_end, capacity_of}
use Rattle.lif_model.specs.Directory.{is_end, slots_of}
use Rattle.lif_model.specs.Made.{with_name, with_type}
use Rattle.lif_model.specs.declared.version.Version.{Version}
use Rattle.lif_model.specs.declared.version.Version.TheVariants.{One, Two}
use Rattle.lif_model.specs.Redo.{redo_start, changed}
use Rattle.lif_model.specs.Legal.{is_live_named, place_named, has_file, is_legal_with, is_legal, IsLegal}
use Rattle.lif_model.specs.Volume.{redo_name, redo_type, redo_entry, upgraded_entry, is_redo_entry, is_adopted_with, is_redo_file, is_adopted, Files, files_of, Volume, volume_in, IsAdopted}
use Rattle.lif_model.specs.Fit.{redo_place}
use Rattle.lif_model.specs.Apply.{Purge, Rename, Adopt, Upgrade, IsWellFormed, is_protected, is_upgraded, checks_of, refusal_of, with_slot, moved_key, renamed, upgraded, volume_after}
use Rattle.lif_model.specs.Writing.{entry_on, last_slot, changed_slot, SlotWrites, with_slots, changes_by, written_by}
use Rattle.lif_model.proofs.Lists.{any_at, any_from}
use Rattle.lif_model.proofs.Legal.{legal_from}
use Rattle.lif_model.proofs.Slots.{live_named_tells, push_new}
use Rattle.lif_model.proofs.Made.{new_type, new_length, new_size, named_type, named_size, typed_type, typed_size, extent_type, extent_size}
use Rattle.lif_model.proofs.Files.{same_files}
use Rattle.lif_model.proofs.Apply.{NoneMet, none_met, made_redo_file, not_redo_name, purge_is_adopted, rename_is_adopted, adopt_unmet, adopt_is_adopted, upgrade_is_two}
use Rattle.lif_model.proofs.Adopted.{redo_file_tells, redo_file_is_named, redo_place_is, redo_entry_tells, with_slot_at}
use Rattle.lif_model.proofs.Content.{files_purged, files_renamed, files_adopted, files_upgraded}
use Rattle.lif_model.proofs.Directory.{volume_tells, volume_from}
use Rattle.lif_model.proofs.Writing.{AreEntries, untouched, length_slots, slots_elsewhere, slots_shape, changes_write}
use Rattle.lif_model.proofs.Slotted.{IsOn, is_on, changed_is_set, last_entries, entry_on_size, header_stays, slot_set, slot_push}

-- ---- a volume by its parts

pub volume_by_parts : (n : ℕ) (x : Tape) (header : List ℕ) (slots : List (List ℕ)) (files : Files) → n ≡ length x → IsLegal n header slots
    → record_at x 0 ≡ header → slots_of x ≡ slots
    → files_of x slots ≡ files → volume_in x ≡ Some (record { header = header; slots = slots; files = files })
volume_by_parts n x header slots files size legal same_header same_slots same_files =
    let legal_here : is_legal x ≡ true = (λ i. is_legal_with (sym size i) (same_header i) (same_slots i)) ∙ legal_from n header slots legal in
    let same : files_of x (slots_of x) ≡ files = ap (files_of x) same_slots ∙ same_files in
    volume_from x legal_here ∙ (λ i. Some (record { header = same_header i; slots = same_slots i; files = same i }))

-- ---- what a command makes

-- a tape has the later volume, which is adopted with each version with which the earlier one is
pub record Makes (n : ℕ) (earlier later : Volume) (x : Tape) : Type 0 where
  pub tape : IsTape n x
  pub volume : volume_in x ≡ Some later
  pub adopted : (version : Version) → is_adopted_with n version earlier.slots ≡ true → is_adopted_with n version later.slots ≡ true

module _ (n : ℕ) (u : Tape) (v : Volume) (tape : IsTape n u) (is : volume_in u ≡ Some v) where
  on : IsOn n u v
  on = is_on n u v tape is

  pub kept_files : v.files ≡ files_of u v.slots
  kept_files = let tells = volume_tells u v is in tells.3 ∙ sym (ap (files_of u) tells.2)

  -- writes of slots leave the records after the directory
  pub behind_stays : (t : Tape) (ws : SlotWrites) (j : ℕ) → AreEntries (capacity_of v.header) ws → directory_end v.header ≤ j
      → record_at (with_slots (directory_start v.header) ws t) j ≡ record_at t j
  behind_stays t ws j are le = slots_elsewhere (directory_start v.header) ws t j (untouched (directory_start v.header) (directory_length v.header) ws j are (inr le))

  -- the redo file's slot is not written
  pub adopted_stays : (version : Version) (i : ℕ) (entry : List ℕ) → (is_redo_file n (get_or v.slots i []) ≡ true → ⊥)
      → is_adopted_with n version v.slots ≡ true → is_adopted_with n version (set v.slots i entry) ≡ true
  adopted_stays version i entry other adopted =
      let found = any_at [] (is_redo_entry n version) v.slots adopted in
      let off : found.0 ≢ i = λ e. other (subst (λ (k : ℕ). is_redo_file n (get_or v.slots k []) ≡ true) e (redo_entry_tells n version (get_or v.slots found.0 []) found.2).0) in
      any_from [] (is_redo_entry n version) (set v.slots i entry) found.0 (omega (arith, found.1, length-set v.slots i entry)) (ap (is_redo_entry n version) (get_or-set_other v.slots i found.0 entry [] off) ∙ found.2)

  -- one slot is written
  set_volume : (i : ℕ) (entry : List ℕ) (later : List (List ℕ)) (files : Files) → i < length v.slots → length entry ≡ 32 → is_end entry ≡ false
      → set v.slots i entry ≡ later → IsLegal n v.header later
      → files_of (with_slots (directory_start v.header) ((i, entry) ∷ []) u) later ≡ files
      → IsTape n (with_slots (directory_start v.header) ((i, entry) ∷ []) u) × (volume_in (with_slots (directory_start v.header) ((i, entry) ∷ []) u) ≡ Some (record { header = v.header; slots = later; files = files }))
  set_volume i entry later files lt size kind same legal same_files =
      let ws : SlotWrites = (i, entry) ∷ [] in
      let entries : AreEntries (capacity_of v.header) ws = (omega (arith, lt, on.volume.room), size, tt) in
      let made : IsTape n (with_slots (directory_start v.header) ws u) = slots_shape (directory_start v.header) n (directory_length v.header) ws u on.tape (omega (arith, on.ends)) entries in (
        made,
        volume_by_parts n (with_slots (directory_start v.header) ws u) v.header later files (sym made.records) legal
            (header_stays n u v on ws entries ∙ sym on.header) (slot_set n u v on i entry lt size kind ∙ same) same_files,
      )

  -- which is not the redo file's
  set_makes : (i : ℕ) (entry : List ℕ) (later : List (List ℕ)) (files : Files) → i < length v.slots → length entry ≡ 32 → is_end entry ≡ false
      → set v.slots i entry ≡ later → IsLegal n v.header later
      → (is_redo_file n (get_or v.slots i []) ≡ true → ⊥) → files_of (with_slots (directory_start v.header) ((i, entry) ∷ []) u) later ≡ files
      → Makes n v (record { header = v.header; slots = later; files = files }) (with_slots (directory_start v.header) ((i, entry) ∷ []) u)
  set_makes i entry later files lt size kind same legal other same_files =
      let both = set_volume i entry later files lt size kind same legal same_files in
      record {
        tape = both.0;
        volume = both.1;
        adopted = λ version adopted. subst (λ (xs : List (List ℕ)). is_adopted_with n version xs ≡ true) same (adopted_stays version i entry other adopted);
      }

  -- the changes that a command makes of a tape without a file
  changes_here : (ws : SlotWrites) → AreEntries (capacity_of v.header) ws
      → changed (changes_by (directory_start v.header) ws u) u ≡ with_slots (directory_start v.header) ws u
  changes_here ws are = changes_write (directory_start v.header) (directory_length v.header) ws are n u u (omega (arith, on.ends)) on.tape.records on.tape.records (λ k low high. refl)

  -- a slot that is named otherwise is not the redo file's
  not_redo : (i : ℕ) (name : List ℕ) → is_live_named name (get_or v.slots i []) ≡ true → name ≢ redo_name
      → is_redo_file n (get_or v.slots i []) ≡ true → ⊥
  not_redo i name named other redo = other (sym (live_named_tells name (get_or v.slots i []) named).1 ∙ (redo_file_tells n (get_or v.slots i []) redo).0)

  is_adopted_volume : is_adopted n v.slots ≡ true → IsAdopted n v
  is_adopted_volume adopted = record { volume = on.volume; adopted = adopted }

  -- ---- purge

  pub purge_entries : (name : List ℕ) → has_file v.slots name ≡ true → AreEntries (capacity_of v.header) (changed_slot name (with_type 0) v.slots)
  purge_entries name there =
      let found = changed_is_set n v.header v.slots name (with_type 0) on.volume.legal there in
      (omega (arith, found.0, on.volume.room), typed_size 0 (get_or v.slots (place_named name v.slots) []) ∙ on.volume.entries (place_named name v.slots) found.0, tt)

  pub purge_makes : (name : List ℕ) → refusal_of n (Purge name) (Some v) ≡ None
      → Makes n v (volume_after n (Purge name) v) (written_by n (Purge name) v u)
  purge_makes name none =
      let unmet : NoneMet (checks_of n (Purge name) v) = none_met n (Purge name) v none in
      let adopted : is_adopted n v.slots ≡ true = not-false (is_adopted n v.slots) unmet.0 in
      let there : has_file v.slots name ≡ true = not-false (has_file v.slots name) unmet.1.1.0 in
      let found = changed_is_set n v.header v.slots name (with_type 0) on.volume.legal there in
      let slot : List ℕ = get_or v.slots (place_named name v.slots) [] in
      let size : length (with_type 0 slot) ≡ 32 = typed_size 0 slot ∙ on.volume.entries (place_named name v.slots) found.0 in
      let kind : is_end (with_type 0 slot) ≡ false = ap (λ (k : ℕ). k == 0xFFFF) (typed_type 0 slot (omega (arith, on.volume.entries (place_named name v.slots) found.0))) in
      let ws : SlotWrites = changed_slot name (with_type 0) v.slots in
      let are : AreEntries (capacity_of v.header) ws = purge_entries name there in
      subst (Makes n v (volume_after n (Purge name) v)) (sym (changes_here ws are))
      (set_makes (place_named name v.slots) (with_type 0 slot) (with_slot name (with_type 0) v.slots) (remove v.files name) found.0 size kind found.2
      (purge_is_adopted n v name (is_adopted_volume adopted) none).volume.legal
      (not_redo (place_named name v.slots) name found.1 (not_redo_name n v name adopted unmet.1.0))
      (files_purged n v (is_adopted_volume adopted) u (with_slots (directory_start v.header) ws u) tape.records (length_slots (directory_start v.header) ws u ∙ tape.records) (λ j le under. behind_stays u ws j are le) name none
      ∙ ap (λ (files : Files). remove files name) (sym kept_files)))

  -- ---- rename

  -- nothing is written
  pub nothing_makes : (written : Tape) (later : Volume) → written ≡ u → later ≡ v → Makes n v later written
  nothing_makes written later same_tape same = record {
    tape = subst (IsTape n) (sym same_tape) tape;
    volume = ap volume_in same_tape ∙ is ∙ ap Some (sym same);
    adopted = λ version adopted. subst (λ (w : Volume). is_adopted_with n version w.slots ≡ true) (sym same) adopted;
  }

  pub rename_entries : (old later : List ℕ) → length later ≡ 10 → has_file v.slots old ≡ true
      → AreEntries (capacity_of v.header) (changed_slot old (with_name later) v.slots)
  rename_entries old later ten there =
      let found = changed_is_set n v.header v.slots old (with_name later) on.volume.legal there in
      (omega (arith, found.0, on.volume.room), named_size later (get_or v.slots (place_named old v.slots) []) ten (on.volume.entries (place_named old v.slots) found.0), tt)

  pub rename_makes : (old later : List ℕ) → IsWellFormed (Rename old later) → refusal_of n (Rename old later) (Some v) ≡ None
      → Makes n v (volume_after n (Rename old later) v) (written_by n (Rename old later) v u)
  rename_makes old later formed none = go (bytes_eq old later) refl
    where
      unmet : NoneMet (checks_of n (Rename old later) v)
      unmet = none_met n (Rename old later) v none

      go : (b : Bool) → bytes_eq old later ≡ b → Makes n v (volume_after n (Rename old later) v) (written_by n (Rename old later) v u)
      go true e = nothing_makes (written_by n (Rename old later) v u) (volume_after n (Rename old later) v)
          (ap (λ (b : Bool). changed (changes_by (directory_start v.header) (if b then [] else changed_slot old (with_name later) v.slots) u) u) e) (ap (λ (b : Bool). if b then v else renamed v old later) e)
      go false e =
          let adopted : is_adopted n v.slots ≡ true = not-false (is_adopted n v.slots) unmet.0 in
          let there : has_file v.slots old ≡ true = not-false (has_file v.slots old) unmet.1.1.0 in
          let names = or_parts (is_protected n v old) (is_protected n v later) unmet.1.0 in
          let apart : old ≢ later = λ same. let no : true ≡ false = sym ((bytes_eq-Decides old later).1 same) ∙ e in cc in
          let p : ℕ = place_named old v.slots in
          let found = changed_is_set n v.header v.slots old (with_name later) on.volume.legal there in
          let slot : List ℕ = get_or v.slots p [] in
          let size : length (with_name later slot) ≡ 32 = named_size later slot formed.1 (on.volume.entries p found.0) in
          let kind : is_end (with_name later slot) ≡ false = ap (λ (k : ℕ). k == 0xFFFF) (named_type later slot formed.1) ∙ on.volume.kinds p found.0 in
          let ws : SlotWrites = changed_slot old (with_name later) v.slots in
          let are : AreEntries (capacity_of v.header) ws = rename_entries old later formed.1 there in
          let legal : IsLegal n v.header (with_slot old (with_name later) v.slots) =
          subst (λ (b : Bool). IsLegal n (if b then v else renamed v old later).header (if b then v else renamed v old later).slots) e (rename_is_adopted n v old later (is_adopted_volume adopted) formed none).volume.legal in
          subst (λ (b : Bool). Makes n v (if b then v else renamed v old later) (changed (changes_by (directory_start v.header) (if b then [] else changed_slot old (with_name later) v.slots) u) u)) (sym e)
          (subst (Makes n v (renamed v old later)) (sym (changes_here ws are))
          (set_makes p (with_name later slot) (with_slot old (with_name later) v.slots) (renamed v old later).files found.0 size kind found.2 legal
          (not_redo p old found.1 (not_redo_name n v old adopted names.0))
          (files_renamed n v (is_adopted_volume adopted) u (with_slots (directory_start v.header) ws u) tape.records (length_slots (directory_start v.header) ws u ∙ tape.records) (λ j le under. behind_stays u ws j are le) old later formed none apart
          ∙ ap (λ (files : Files). moved_key files old later (get files old)) (sym kept_files))))

  -- ---- adopt

  redo_entry_size : length (redo_entry One n) ≡ 32
  redo_entry_size = new_size redo_name redo_type (redo_start One n) 4 (replicate 4 0) refl refl

  pub adopt_entries : length v.slots < capacity_of v.header
      → AreEntries (capacity_of v.header) (last_slot (capacity_of v.header) u (length v.slots) (redo_entry One n))
  adopt_entries fits = last_entries (capacity_of v.header) u (length v.slots) (redo_entry One n) (entry_on_size n u v on) fits redo_entry_size

  -- where a volume without a redo file may be adopted, a slot is left
  pub adopt_has_slot : refusal_of n Adopt (Some v) ≡ None → is_adopted n v.slots ≡ false → length v.slots < capacity_of v.header
  adopt_has_slot none e = leb-false (capacity_of v.header) (length v.slots) (adopt_unmet n v e none).1

  pub adopt_makes : refusal_of n Adopt (Some v) ≡ None → Makes n v (volume_after n Adopt v) (written_by n Adopt v u)
  adopt_makes none = go (is_adopted n v.slots) refl
    where
      go : (b : Bool) → is_adopted n v.slots ≡ b → Makes n v (volume_after n Adopt v) (written_by n Adopt v u)
      go true e = nothing_makes (written_by n Adopt v u) (volume_after n Adopt v)
          (ap (λ (b : Bool). changed (changes_by (directory_start v.header) (if b then [] else last_slot (capacity_of v.header) u (length v.slots) (redo_entry One n)) u) u) e)
          (ap (λ (b : Bool). if b then v else record v { slots = v.slots ++ redo_entry One n ∷ [] }) e)
      go false e =
          let fits : length v.slots < capacity_of v.header = adopt_has_slot none e in
          let redo : List ℕ = redo_entry One n in
          let later : List (List ℕ) = v.slots ++ redo ∷ [] in
          let kind : is_end redo ≡ false = ap (λ (k : ℕ). k == 0xFFFF) (new_type redo_name redo_type (redo_start One n) 4 (replicate 4 0) refl) in
          let ws : SlotWrites = last_slot (capacity_of v.header) u (length v.slots) redo in
          let sizes : (j : ℕ) → j < capacity_of v.header → length (entry_on u j) ≡ 32 = entry_on_size n u v on in
          let are : AreEntries (capacity_of v.header) ws = adopt_entries fits in
          let x : Tape = with_slots (directory_start v.header) ws u in
          let made : IsTape n x = slots_shape (directory_start v.header) n (directory_length v.header) ws u tape (omega (arith, on.ends)) are in
          let legal : IsLegal n v.header later =
          subst (λ (b : Bool). IsLegal n (if b then v else record v { slots = v.slots ++ redo_entry One n ∷ [] }).header (if b then v else record v { slots = v.slots ++ redo_entry One n ∷ [] }).slots) e (adopt_is_adopted n v on.volume none).volume.legal in
          subst (λ (b : Bool). Makes n v (if b then v else record v { slots = v.slots ++ redo_entry One n ∷ [] })
          (changed (changes_by (directory_start v.header) (if b then [] else last_slot (capacity_of v.header) u (length v.slots) (redo_entry One n)) u) u)) (sym e)
          (subst (Makes n v (record { header = v.header; slots = later; files = v.files })) (sym (changes_here ws are)) (record {
            tape = made;
            volume = volume_by_parts n x v.header later v.files (sym made.records) legal (header_stays n u v on ws are ∙ sym on.header) (slot_push n u v on u sizes redo redo_entry_size kind fits)
                (files_adopted n v u x on.volume e none tape.records made.records (λ j le under. behind_stays u ws j are le) ∙ sym kept_files);
            adopted = λ version adopted.
                let found = any_at [] (is_redo_entry n version) v.slots adopted in
                any_from [] (is_redo_entry n version) later found.0 (omega (arith, found.1, length_push v.slots redo)) (ap (is_redo_entry n version) (get_or_append_left v.slots (redo ∷ []) [] found.0 found.1) ∙ found.2);
          }))

  -- ---- upgrade

  pub upgrade_entries : is_adopted n v.slots ≡ true → AreEntries (capacity_of v.header) (changed_slot redo_name (upgraded_entry n) v.slots)
  upgrade_entries adopted =
      let place = redo_place_is n v (is_adopted_volume adopted) in
      (omega (arith, place.0, on.volume.room), extent_size (redo_start Two n) 34 (replicate 4 0) (get_or v.slots (redo_place v.slots) []) (on.volume.entries (redo_place v.slots) place.0) refl, tt)

  pub upgrade_makes : refusal_of n Upgrade (Some v) ≡ None
      → IsTape n (written_by n Upgrade v u) × (volume_in (written_by n Upgrade v u) ≡ Some (volume_after n Upgrade v))
  upgrade_makes none = go (is_upgraded n v) refl
    where
      go : (b : Bool) → is_upgraded n v ≡ b
          → IsTape n (written_by n Upgrade v u) × (volume_in (written_by n Upgrade v u) ≡ Some (volume_after n Upgrade v))
      go true e =
          let makes = nothing_makes (written_by n Upgrade v u) (volume_after n Upgrade v)
          (ap (λ (b : Bool). changed (changes_by (directory_start v.header) (if b then [] else changed_slot redo_name (upgraded_entry n) v.slots) u) u) e) (ap (λ (b : Bool). if b then v else upgraded n v) e) in
          (makes.tape, makes.volume)
      go false e =
          let unmet : NoneMet (checks_of n Upgrade v) = none_met n Upgrade v none in
          let adopted : is_adopted n v.slots ≡ true = not-false (is_adopted n v.slots) unmet.0 in
          let whole = is_adopted_volume adopted in
          let r : ℕ = redo_place v.slots in
          let place = redo_place_is n v whole in
          let slot : List ℕ = get_or v.slots r [] in
          let all : length slot ≡ 32 = on.volume.entries r place.0 in
          let moved : List ℕ = upgraded_entry n slot in
          let size : length moved ≡ 32 = extent_size (redo_start Two n) 34 (replicate 4 0) slot all refl in
          let kind : is_end moved ≡ false = ap (λ (k : ℕ). k == 0xFFFF) (extent_type (redo_start Two n) 34 (replicate 4 0) slot all ∙ (redo_file_tells n slot place.1).1) in
          let ws : SlotWrites = changed_slot redo_name (upgraded_entry n) v.slots in
          let are : AreEntries (capacity_of v.header) ws = upgrade_entries adopted in
          let legal : IsLegal n v.header (upgraded n v).slots =
          subst (λ (b : Bool). IsLegal n (if b then v else upgraded n v).header (if b then v else upgraded n v).slots) e (upgrade_is_two n v whole none).0.volume.legal in
          subst (λ (b : Bool). IsTape n (changed (changes_by (directory_start v.header) (if b then [] else changed_slot redo_name (upgraded_entry n) v.slots) u) u)
          × (volume_in (changed (changes_by (directory_start v.header) (if b then [] else changed_slot redo_name (upgraded_entry n) v.slots) u) u) ≡ Some (if b then v else upgraded n v))) (sym e)
          (subst (λ (x : Tape). IsTape n x × (volume_in x ≡ Some (upgraded n v))) (sym (changes_here ws are))
          (set_volume r moved (upgraded n v).slots v.files place.0 size kind (sym (with_slot_at n v.header v.slots redo_name (upgraded_entry n) r on.volume.legal place.0 (redo_file_is_named n slot place.1))) legal
          (files_upgraded n v whole u (with_slots (directory_start v.header) ws u) tape.records (length_slots (directory_start v.header) ws u ∙ tape.records) (λ j le under. behind_stays u ws j are le) e none ∙ sym kept_files)))

-- the entry that this project makes is one of version 1: it is too short for one of version 2
pub made_redo_entry : (n : ℕ) → is_redo_entry n One (redo_entry One n) ≡ true
made_redo_entry n = elim (or_cases (is_redo_entry n One (redo_entry One n)) (is_redo_entry n Two (redo_entry One n) || false) (made_redo_file n)) [
  | inl one ↦ one
  | inr rest ↦ elim (or_cases (is_redo_entry n Two (redo_entry One n)) false rest) [
    | inl two ↦ absurd (omega (arith, (redo_entry_tells n Two (redo_entry One n) two).3, new_length redo_name redo_type (redo_start One n) 4 (replicate 4 0) refl))
    | inr none ↦ let no : false ≡ true = none in cc
  ]
]

-- a volume without a redo file is adopted with version 1 then
pub adopt_adopts : (n : ℕ) (v : Volume) → is_adopted n v.slots ≡ false → is_adopted_with n One (volume_after n Adopt v).slots ≡ true
adopt_adopts n v e =
    let redo : List ℕ = redo_entry One n in
    ap (λ (b : Bool). is_adopted_with n One (if b then v else record v { slots = v.slots ++ redo_entry One n ∷ [] }).slots) e
    ∙ any_from [] (is_redo_entry n One) (v.slots ++ redo ∷ []) (length v.slots) (omega (arith, length_push v.slots redo)) (ap (is_redo_entry n One) (push_new v.slots redo).here ∙ made_redo_entry n)
