-- The next volume of each command: a refused command leaves the volume, and any other leaves a
-- legal one, with its redo file.
use Rattle.std.proofs.Common.{◌≡◌, ◌≢◌, ◌⊎◌, ◌<◌, ◌≤◌, ◌+◌, ◌-◌, ◌*◌, ◌++◌, ◌&&◌, ◌==◌, ℕ, zero, suc, List, [], ◌∷◌, Bool, true, false, not, if◌then◌else◌, Option, Some, None, length, map, get_or, set, insert, replicate, inl, inr, refl, sym, ◌∙◌, ap, subst, arith, nat_lt, length-set, get_or-set_other}
use Rattle.std.specs.Prelude.{All}
use Rattle.std.specs.Str.{bytes_eq}
use Rattle.std.proofs.lemmas.Bool.{cases_lt, and_parts, and_from, and_cases, or_left, or_parts, ltb-true, ltb-false, leb-false, eqb-true, eq-eqb, ne_eqb, not_from_true, not_from_false, false_from_ne_true}
use Rattle.std.proofs.lemmas.List.{length_push, length-map, get_or-map}
use Rattle.std.proofs.lemmas.List.Edits.{length-insert, get_or-insert_below, get_or-insert_above}
use Rattle.std.proofs.lemmas.List.Elements.{All-head, All-tail}
use Rattle.std.proofs.lemmas.Slice.Eq.{bytes_eq-Decides}
use Rattle.lif_model.specs.Gate.{gate_of}
use Rattle.lif_model.specs.Header.{directory_start, directory_length, directory_end, capacity_of}
use Rattle.lif_model.specs.Directory.{name_of, type_of, start_of, length_of, is_end, is_purged}
use Rattle.lif_model.specs.Made.{new_entry, with_name, with_type, fresh_header, records_for_slots, file_length}
use Rattle.lif_model.specs.declared.version.Version.TheVariants.{One, Two}
use Rattle.lif_model.specs.Redo.{redo_start}
use Rattle.lif_model.specs.Legal.{is_live, has_records, occupies, end_of, is_live_named, has_file}
use Rattle.lif_model.specs.Volume.{redo_name, redo_type, redo_entry, upgraded_entry, is_redo_entry, is_redo_file, is_adopted_with, is_adopted, Volume, IsVolume, IsAdopted}
use Rattle.lif_model.specs.Fit.{Place, At, redo_place, can_append, fit_in, fit_beside_in}
use Rattle.lif_model.specs.Apply.{VolumeCommand, Dir, Label, Fetch, Store, Rename, Purge, Adopt, Upgrade, Batch, Format, IsWellFormed, lacks_redo, is_protected, is_full, runs_past_gate, is_upgraded, runs_past_redo, is_too_long, first_met, store_checks, part_checks, Midway, before_parts, part_place, after_part, after_parts, parts_checks, checks_of, refusal_of, stored, with_slot, renamed, upgraded, fresh_volume, volume_after, volume_made, next_unless, apply}
use Rattle.lif_model.specs.Parts.{Part, IsWellFormedPart}
use Rattle.lif_model.specs.Parts as part
use Rattle.lif_model.specs.declared.refusal.Refusal.{Refusal}
use Rattle.lif_model.proofs.Lists.{any_at, any_from, none_at, none_of_filter}
use Rattle.lif_model.proofs.Made.{new_name, new_type, new_start, new_length, new_size, named_name, named_type, named_start, named_length, named_size, typed_type, typed_start, typed_length, typed_size, extent_name, extent_type, extent_start, extent_length, extent_size, fresh_size, fresh_start, fresh_length, fresh_readable}
use Rattle.lif_model.proofs.Fit.{IsPlaceIn, fit_tells, fit_beside_tells, place_is_free}
use Rattle.lif_model.proofs.Adopted.{redo_file_tells, redo_file_is_live, redo_file_is_named, redo_entry_tells, redo_place_is, redo_is_alone, with_slot_at}
use Rattle.lif_model.proofs.Slots.{readable_tells, occupies_tells, live_named_tells, other_name, HasNew, set_new, before_insert, insert_new, push_new, each_with_new, legal_with_new, StaysPut, legal_map, each_map, slot_cases}

-- ---- replies

-- a refused command leaves the volume
pub refused_stays : (n : ℕ) (command : VolumeCommand) (volume : Option Volume) (refusal : Refusal) → refusal_of n command volume ≡ Some refusal → apply n command volume ≡ (Some refusal, volume)
refused_stays n command volume refusal is = λ i. (is i, next_unless n command volume (is i))

made_is : (n : ℕ) (command : VolumeCommand) (v : Volume) → volume_made n command (Some v) ≡ Some (volume_after n command v)
made_is n Dir v = refl
made_is n Label v = refl
made_is n (Fetch name) v = refl
made_is n (Store name kind implementation bytes) v = refl
made_is n (Rename old new) v = refl
made_is n (Purge name) v = refl
made_is n Adopt v = refl
made_is n Upgrade v = refl
made_is n (Batch parts) v = refl
made_is n (Format label slots) v = refl

pub accepted : (n : ℕ) (command : VolumeCommand) (v : Volume) → refusal_of n command (Some v) ≡ None → apply n command (Some v) ≡ (None, Some (volume_after n command v))
accepted n command v is = (λ i. (is i, next_unless n command (Some v) (is i))) ∙ (λ i. (None, made_is n command v i))

-- no test of a command is met
abbrev pub NoneMet : List (Bool × Refusal) → Type 0
NoneMet [] = Unit {0}
NoneMet (check ∷ checks) = (check.0 ≡ false) × NoneMet checks

pub met_none : (checks : List (Bool × Refusal)) → first_met checks ≡ None → NoneMet checks
met_none [] is = tt
met_none (check ∷ checks) is = go check.0 refl is (λ rest. met_none checks rest)
  where
    go : (b : Bool) → check.0 ≡ b → (if b then Some check.1 else first_met checks) ≡ None → (first_met checks ≡ None → NoneMet checks) → (check.0 ≡ false) × NoneMet checks
    go true e is rest = cc
    go false e is rest = (e, rest is)

-- and where none is met, nothing is refused
pub unmet_none : (checks : List (Bool × Refusal)) → NoneMet checks → first_met checks ≡ None
unmet_none [] unmet = refl
unmet_none (check ∷ checks) unmet = ap (λ (b : Bool). if b then Some check.1 else first_met checks) unmet.0 ∙ unmet_none checks unmet.1

-- the first refusal of two lists of tests
pub first_of_more : (first second : List (Bool × Refusal)) → NoneMet first → first_met (first ++ second) ≡ first_met second
first_of_more [] second unmet = refl
first_of_more (check ∷ first) second unmet = ap (λ (b : Bool). if b then Some check.1 else first_met (first ++ second)) unmet.0 ∙ first_of_more first second unmet.1

pub first_of_first : (first second : List (Bool × Refusal)) (why : Refusal) → first_met first ≡ Some why → first_met (first ++ second) ≡ Some why
first_of_first [] second why is = cc
first_of_first (check ∷ first) second why is = go check.0 is (first_of_first first second why)
  where
    go : (b : Bool) → (if b then Some check.1 else first_met first) ≡ Some why → (first_met first ≡ Some why → first_met (first ++ second) ≡ Some why)
        → (if b then Some check.1 else first_met (first ++ second)) ≡ Some why
    go true is rest = is
    go false is rest = rest is

-- of two lists of tests
pub unmet_parts : (first second : List (Bool × Refusal)) → NoneMet (first ++ second) → NoneMet first × NoneMet second
unmet_parts [] second unmet = (tt, unmet)
unmet_parts (check ∷ first) second unmet = let rest = unmet_parts first second unmet.1 in ((unmet.0, rest.0), rest.1)

-- where a command is not refused, none of its tests is met
pub none_met : (n : ℕ) (command : VolumeCommand) (v : Volume) → refusal_of n command (Some v) ≡ None → NoneMet (checks_of n command v)
none_met n command v is = met_none (checks_of n command v) is

-- ---- the redo file

-- the entry that this project makes
pub made_redo_file : (n : ℕ) → is_redo_file n (redo_entry One n) ≡ true
made_redo_file n =
    let zeros : List ℕ = replicate 4 0 in
    or_left _ _ (and_from _ _ ((bytes_eq-Decides (name_of (redo_entry One n)) redo_name).1 (new_name redo_name redo_type (redo_start One n) 4 zeros refl))
    (and_from _ _ (eq-eqb (type_of (redo_entry One n)) redo_type (new_type redo_name redo_type (redo_start One n) 4 zeros refl))
    (and_from _ _ (eq-eqb (start_of (redo_entry One n)) (redo_start One n) (new_start redo_name redo_type (redo_start One n) 4 zeros refl))
    (eq-eqb (length_of (redo_entry One n)) 4 (new_length redo_name redo_type (redo_start One n) 4 zeros refl)))))

-- ---- a new file

not_end : (slot : List ℕ) (kind : ℕ) → type_of slot ≡ kind → kind ≢ 0xFFFF → is_end slot ≡ false
not_end slot kind is ne = ne_eqb (type_of slot) 0xFFFF (λ e. ne (sym is ∙ e))

no_file : (slots : List (List ℕ)) (name : List ℕ) (k : ℕ) → has_file slots name ≡ false → k < length slots → is_live (get_or slots k []) ≡ true → name_of (get_or slots k []) ≢ name
no_file slots name k none lt live = other_name name (get_or slots k []) (none_at [] (is_live_named name) slots k none lt) live

module _ (n : ℕ) (v : Volume) (name : List ℕ) (kind : ℕ) (implementation bytes : List ℕ) (i start : ℕ) where
  abbrev new : List ℕ
  new = new_entry name kind start (file_length bytes) implementation

  -- the directory with the new entry in some place
  with_file : (later : List (List ℕ)) (old : ℕ → ℕ) → IsAdopted n v → IsWellFormed (Store name kind implementation bytes) → has_file v.slots name ≡ false
      → IsPlaceIn n v (file_length bytes) i start → HasNew v.slots later i new old
      → ((k : ℕ) → k < length later → k ≢ i → old k ≡ i → i ≡ redo_place v.slots) → length later ≤ capacity_of v.header → is_adopted n later ≡ true
      → (files : Volume) → IsAdopted n (record files { header = v.header; slots = later })
  with_file later old is formed none place has own room adopted files =
      let legal = is.volume.legal in
      let ten : length name ≡ 10 = formed.0 in
      let starts : start_of new ≡ start = new_start name kind start (file_length bytes) implementation ten in
      let longs : length_of new ≡ file_length bytes = new_length name kind start (file_length bytes) implementation ten in
      let readable = readable_tells n v.header legal.readable in
      record {
        volume = record {
          header = is.volume.header;
          legal = legal_with_new n v.header v.slots later i new old legal has
              (omega (arith, place.low, starts)) (omega (arith, place.high, starts, longs, readable.0, readable.2))
              (λ k lt ne on.
              let found = has.others k lt ne in
              let records = (occupies_tells (get_or later k []) on).1 in
              elim (place_is_free n (directory_end v.header) (capacity_of v.header) v.slots (file_length bytes) i start (old k) place found.0 (λ e. own k lt ne e) (sym (ap has_records found.1) ∙ records)) [
                | inl le ↦ inl (omega (arith, le, starts, ap end_of found.1))
                | inr le ↦ inr (omega (arith, le, starts, longs, ap start_of found.1))
              ])
              (λ k lt ne live same.
              let found = has.others k lt ne in
              no_file v.slots name (old k) none found.0 (sym (ap is_live found.1) ∙ live)
              (sym (ap name_of found.1) ∙ same ∙ new_name name kind start (file_length bytes) implementation ten));
          room = room;
          entries = each_with_new (λ slot. length slot ≡ 32) v.slots later i new old has (new_size name kind start (file_length bytes) implementation ten formed.3) is.volume.entries;
          kinds = each_with_new (λ slot. is_end slot ≡ false) v.slots later i new old has
              (not_end new kind (new_type name kind start (file_length bytes) implementation ten) formed.2) is.volume.kinds;
        };
        adopted = adopted;
      }

  -- in a purged slot
  pub set_is_adopted : IsAdopted n v → IsWellFormed (Store name kind implementation bytes) → has_file v.slots name ≡ false
      → IsPlaceIn n v (file_length bytes) i start → i < length v.slots → is_purged (get_or v.slots i []) ≡ true → i ≢ redo_place v.slots
      → (files : Volume) → IsAdopted n (record files { header = v.header; slots = set v.slots i new })
  set_is_adopted is formed none place lt purged other files =
      let found = any_at [] (is_redo_file n) v.slots is.adopted in
      let off : found.0 ≢ i = λ e.
      let live : is_live (get_or v.slots i []) ≡ true = subst (λ (k : ℕ). is_live (get_or v.slots k []) ≡ true) e (redo_file_is_live n (get_or v.slots found.0 []) found.2) in
      let both : true ≡ false = sym live ∙ not_from_true _ purged in cc in
      with_file (set v.slots i new) (λ k. k) is formed none place (set_new v.slots i new lt) (λ k long ne e. absurd (ne e)) (omega (arith, length-set v.slots i new, is.volume.room))
      (any_from [] (is_redo_file n) (set v.slots i new) found.0 (omega (arith, found.1, length-set v.slots i new)) (ap (is_redo_file n) (get_or-set_other v.slots i found.0 new [] off) ∙ found.2)) files

  -- before the redo entry
  pub insert_is_adopted : IsAdopted n v → IsWellFormed (Store name kind implementation bytes) → has_file v.slots name ≡ false
      → IsPlaceIn n v (file_length bytes) i start → i ≡ redo_place v.slots → can_append (capacity_of v.header) v.slots ≡ true
      → (files : Volume) → IsAdopted n (record files { header = v.header; slots = insert v.slots i new })
  insert_is_adopted is formed none place own append files =
      let both = and_parts _ _ append in
      let last : suc (redo_place v.slots) ≡ length v.slots = eqb-true (suc (redo_place v.slots)) (length v.slots) both.0 in
      let fits : length v.slots < capacity_of v.header = ltb-true (length v.slots) (capacity_of v.header) both.1 in
      let le : i ≤ length v.slots = omega (arith, last, own) in
      let found = any_at [] (is_redo_file n) v.slots is.adopted in
      with_file (insert v.slots i new) (before_insert i) is formed none place (insert_new v.slots i new le) (λ k long ne e. own) (omega (arith, length-insert v.slots i new le, fits))
      (elim (cases_lt found.0 i) [
        | inl lt ↦ any_from [] (is_redo_file n) (insert v.slots i new) found.0 (omega (arith, found.1, length-insert v.slots i new le)) (ap (is_redo_file n) (get_or-insert_below v.slots i new [] found.0 lt le) ∙ found.2)
        | inr ge ↦ any_from [] (is_redo_file n) (insert v.slots i new) (found.0 + 1) (omega (arith, found.1, length-insert v.slots i new le)) (ap (is_redo_file n) (get_or-insert_above v.slots i new [] found.0 ge le) ∙ found.2)
      ]) files

-- a file stored at a place leaves an adopted volume (for `store`, and for the parts of a batch)
pub stored_is_adopted : (n : ℕ) (v : Volume) (name : List ℕ) (kind : ℕ) (implementation bytes : List ℕ) (i start : ℕ) → IsAdopted n v
    → IsWellFormed (Store name kind implementation bytes) → has_file v.slots name ≡ false → IsPlaceIn n v (file_length bytes) i start
    → IsAdopted n (stored v name kind implementation bytes (At i start))
stored_is_adopted n v name kind implementation bytes i start is formed none place = elim place.candidate [
  | inl purged ↦ subst (λ (b : Bool). IsAdopted n (record later { slots = if b then insert v.slots i entry else set v.slots i entry })) (sym (ne_eqb i (redo_place v.slots) (λ e. absurd (omega (arith, e, purged.0)))))
      (set_is_adopted n v name kind implementation bytes i start is formed none place purged.1 purged.2 (λ e. absurd (omega (arith, e, purged.0))) later)
  | inr own ↦ subst (λ (b : Bool). IsAdopted n (record later { slots = if b then insert v.slots i entry else set v.slots i entry })) (sym (eq-eqb i (redo_place v.slots) own.0))
      (insert_is_adopted n v name kind implementation bytes i start is formed none place own.0 own.1 later)
]
  where
    entry : List ℕ
    entry = new_entry name kind start (file_length bytes) implementation

    later : Volume
    later = stored v name kind implementation bytes (At i start)

-- where none of a store's tests is met, there is a slot and a first record
pub store_has_place : (n : ℕ) (v : Volume) (name : List ℕ) (place : Place) → NoneMet (store_checks n v name place) → (i : ℕ) × (start : ℕ) × (place ≡ At i start)
store_has_place n v name (At i start) unmet = (i, start, refl)
store_has_place n v name Place.NoSlot unmet = let both : true ≡ false = unmet.1.1.1.0 in cc
store_has_place n v name Place.NoRoom unmet = let both : true ≡ false = unmet.1.1.1.1.0 in cc

store_is_adopted : (n : ℕ) (v : Volume) (name : List ℕ) (kind : ℕ) (implementation bytes : List ℕ) → IsAdopted n v → IsWellFormed (Store name kind implementation bytes)
    → refusal_of n (Store name kind implementation bytes) (Some v) ≡ None → IsAdopted n (volume_after n (Store name kind implementation bytes) v)
store_is_adopted n v name kind implementation bytes is formed none =
    let unmet : NoneMet (checks_of n (Store name kind implementation bytes) v) = none_met n (Store name kind implementation bytes) v none in
    let found = store_has_place n v name (fit_in n v (file_length bytes)) unmet in
    subst (λ (p : Place). IsAdopted n (stored v name kind implementation bytes p)) (sym found.2)
    (stored_is_adopted n v name kind implementation bytes found.0 found.1 is formed unmet.1.1.0 (fit_tells n _ _ v.slots (file_length bytes) found.0 found.1 found.2))

-- ---- a slot changed in place

-- the redo file keeps its slot where a change leaves it
map_keeps_redo : (n : ℕ) (slots : List (List ℕ)) (change : List ℕ → List ℕ) → is_adopted n slots ≡ true
    → ((k : ℕ) → k < length slots → is_redo_file n (get_or slots k []) ≡ true → change (get_or slots k []) ≡ get_or slots k []) → is_adopted n (map change slots) ≡ true
map_keeps_redo n slots change adopted keeps =
    let found = any_at [] (is_redo_file n) slots adopted in
    any_from [] (is_redo_file n) (map change slots) found.0 (omega (arith, found.1, length-map slots change))
    (ap (is_redo_file n) (get_or-map change slots found.0 [] [] found.1 ∙ keeps found.0 found.1 found.2) ∙ found.2)

-- no command names the redo file
pub not_redo_name : (n : ℕ) (v : Volume) (name : List ℕ) → is_adopted n v.slots ≡ true → is_protected n v name ≡ false → name ≢ redo_name
not_redo_name n v name adopted off same =
    let both : true ≡ false = sym (and_from _ _ adopted ((bytes_eq-Decides name redo_name).1 same)) ∙ off in cc

module _ (n : ℕ) (v : Volume) (name : List ℕ) (change : List ℕ → List ℕ) where
  abbrev changed_slot : List ℕ → List ℕ
  changed_slot slot = if is_live_named name slot then change slot else slot

  -- of the slot of a name, where the change keeps to its place and makes no purged slot live
  pub change_is_adopted : IsAdopted n v → name ≢ redo_name
      → ((slot : List ℕ) → length slot ≡ 32 → is_end slot ≡ false → is_live_named name slot ≡ true → StaysPut slot (change slot) × (length (change slot) ≡ 32) × (is_end (change slot) ≡ false))
      → ((j k : ℕ) → j < k → k < length v.slots → is_live (changed_slot (get_or v.slots j [])) ≡ true → is_live (changed_slot (get_or v.slots k [])) ≡ true
      → name_of (changed_slot (get_or v.slots j [])) ≢ name_of (changed_slot (get_or v.slots k [])))
      → (files : Volume) → IsAdopted n (record files { header = v.header; slots = with_slot name change v.slots })
  change_is_adopted is other each names files = record {
    volume = record {
      header = is.volume.header;
      legal = legal_map n v.header v.slots changed_slot is.volume.legal (λ k lt. (all_of k lt).0) names;
      room = omega (arith, length-map v.slots changed_slot, is.volume.room);
      entries = each_map (λ slot. length slot ≡ 32) v.slots changed_slot (λ k lt. (all_of k lt).1);
      kinds = each_map (λ slot. is_end slot ≡ false) v.slots changed_slot (λ k lt. (all_of k lt).2);
    };
    adopted = map_keeps_redo n v.slots changed_slot is.adopted (λ k lt redo. elim (slot_cases name change (get_or v.slots k [])) [
      | inl both ↦ absurd (other (sym (live_named_tells name (get_or v.slots k []) both.0).1 ∙ (redo_file_tells n (get_or v.slots k []) redo).0))
      | inr both ↦ both.1
    ]);
  }
    where
      all_of : (k : ℕ) → k < length v.slots → StaysPut (get_or v.slots k []) (changed_slot (get_or v.slots k [])) × (length (changed_slot (get_or v.slots k [])) ≡ 32) × (is_end (changed_slot (get_or v.slots k [])) ≡ false)
      all_of k lt =
          let slot = get_or v.slots k [] in
          let size = is.volume.entries k lt in
          let kind = is.volume.kinds k lt in
          elim (slot_cases name change slot) [
            | inl both ↦ subst (λ (s : List ℕ). StaysPut slot s × (length s ≡ 32) × (is_end s ≡ false)) (sym both.1) (each slot size kind both.0)
            | inr both ↦ subst (λ (s : List ℕ). StaysPut slot s × (length s ≡ 32) × (is_end s ≡ false)) (sym both.1) (record { live = λ on. on; start = refl; long = refl }, size, kind)
          ]

-- ---- purge

pub purged_is_dead : (slot : List ℕ) → length slot ≡ 32 → is_live (with_type 0 slot) ≡ false
purged_is_dead slot size = not_from_true _ (eq-eqb (type_of (with_type 0 slot)) 0 (typed_type 0 slot (omega (arith, size))))

pub purge_is_adopted : (n : ℕ) (v : Volume) (name : List ℕ) → IsAdopted n v → refusal_of n (Purge name) (Some v) ≡ None → IsAdopted n (volume_after n (Purge name) v)
purge_is_adopted n v name is none =
    let protected = (none_met n (Purge name) v none).1.0 in
    change_is_adopted n v name (with_type 0) is (not_redo_name n v name is.adopted protected)
    (λ slot size kind on. (
      record {
        live = λ alive. let both : true ≡ false = sym alive ∙ purged_is_dead slot size in cc;
        start = typed_start 0 slot;
        long = typed_length 0 slot;
      },
      typed_size 0 slot ∙ size,
      not_end (with_type 0 slot) 0 (typed_type 0 slot (omega (arith, size))) (λ e. absurd (omega (arith, e))),
    ))
    (λ j k less lt first second same.
    let one = alive_stays j (omega (arith, less, lt)) first in
    let two = alive_stays k lt second in
    is.volume.legal.distinct j k less lt (sym (ap is_live one) ∙ first) (sym (ap is_live two) ∙ second) (sym (ap name_of one) ∙ same ∙ ap name_of two))
    (volume_after n (Purge name) v)
  where
    alive_stays : (k : ℕ) → k < length v.slots → is_live (if is_live_named name (get_or v.slots k []) then with_type 0 (get_or v.slots k []) else get_or v.slots k []) ≡ true
        → (if is_live_named name (get_or v.slots k []) then with_type 0 (get_or v.slots k []) else get_or v.slots k []) ≡ get_or v.slots k []
    alive_stays k lt alive = elim (slot_cases name (with_type 0) (get_or v.slots k [])) [
      | inl both ↦ let no : true ≡ false = sym alive ∙ ap is_live both.1 ∙ purged_is_dead (get_or v.slots k []) (is.volume.entries k lt) in cc
      | inr both ↦ both.1
    ]

-- ---- rename

-- slot k is renamed, or it is not and had another name than the new one
abbrev NamedAt : Volume → List ℕ → List ℕ → ℕ → Type 0
NamedAt v old later k =
    ((name_of (get_or v.slots k []) ≡ old) × (name_of (if is_live_named old (get_or v.slots k []) then with_name later (get_or v.slots k []) else get_or v.slots k []) ≡ later))
    ⊎ ((name_of (get_or v.slots k []) ≢ later) × (name_of (if is_live_named old (get_or v.slots k []) then with_name later (get_or v.slots k []) else get_or v.slots k []) ≡ name_of (get_or v.slots k [])))

pub rename_is_adopted : (n : ℕ) (v : Volume) (old later : List ℕ) → IsAdopted n v → IsWellFormed (Rename old later) → refusal_of n (Rename old later) (Some v) ≡ None → IsAdopted n (volume_after n (Rename old later) v)
rename_is_adopted n v old later is formed none = go (bytes_eq old later) refl
  where
    unmet : NoneMet (checks_of n (Rename old later) v)
    unmet = none_met n (Rename old later) v none

    -- what a slot that is live after the change was called before, and is called then
    named : (k : ℕ) → k < length v.slots → bytes_eq old later ≡ false → is_live (if is_live_named old (get_or v.slots k []) then with_name later (get_or v.slots k []) else get_or v.slots k []) ≡ true
        → (is_live (get_or v.slots k []) ≡ true) × NamedAt v old later k
    named k lt other alive = elim (slot_cases old (with_name later) (get_or v.slots k [])) [
      | inl both ↦ let tells = live_named_tells old (get_or v.slots k []) both.0 in (tells.0, inl (tells.1, ap name_of both.1 ∙ named_name later (get_or v.slots k []) formed.1))
      | inr both ↦
          let live : is_live (get_or v.slots k []) ≡ true = sym (ap is_live both.1) ∙ alive in
          let none_later : has_file v.slots later ≡ false = elim (and_cases (has_file v.slots later) (not (bytes_eq old later)) unmet.1.1.1.0) [
            | inl e ↦ e
            | inr e ↦ let no : true ≡ false = sym (not_from_false _ other) ∙ e in cc
          ] in
          (live, inr (no_file v.slots later k none_later lt live, ap name_of both.1))
    ]

    go : (b : Bool) → bytes_eq old later ≡ b → IsAdopted n (volume_after n (Rename old later) v)
    go true e = subst (λ (b : Bool). IsAdopted n (if b then v else renamed v old later)) (sym e) is
    go false e = subst (λ (b : Bool). IsAdopted n (if b then v else renamed v old later)) (sym e)
        (change_is_adopted n v old (with_name later) is (not_redo_name n v old is.adopted (or_parts (is_protected n v old) (is_protected n v later) unmet.1.0).0)
        (λ slot size kind on. (
          record {
            live = λ alive. sym (ap (λ (t : ℕ). not (t == 0)) (named_type later slot formed.1)) ∙ alive;
            start = named_start later slot formed.1;
            long = named_length later slot formed.1;
          },
          named_size later slot formed.1 size,
          ap (λ (t : ℕ). t == 0xFFFF) (named_type later slot formed.1) ∙ kind,
        ))
        (λ j k less lt first second same.
        let one = named j (omega (arith, less, lt)) e first in
        let two = named k lt e second in
        two_names j k less lt one.0 two.0 same one.1 two.1)
        (renamed v old later))
      where
        two_names : (j k : ℕ) → j < k → k < length v.slots → is_live (get_or v.slots j []) ≡ true → is_live (get_or v.slots k []) ≡ true
            → name_of (if is_live_named old (get_or v.slots j []) then with_name later (get_or v.slots j []) else get_or v.slots j []) ≡ name_of (if is_live_named old (get_or v.slots k []) then with_name later (get_or v.slots k []) else get_or v.slots k [])
            → NamedAt v old later j → NamedAt v old later k → ⊥
        two_names j k less lt first second same (inl a) (inl b) = is.volume.legal.distinct j k less lt first second (a.0 ∙ sym b.0)
        two_names j k less lt first second same (inl a) (inr b) = b.0 (sym b.1 ∙ sym same ∙ a.1)
        two_names j k less lt first second same (inr a) (inl b) = a.0 (sym a.1 ∙ same ∙ b.1)
        two_names j k less lt first second same (inr a) (inr b) = is.volume.legal.distinct j k less lt first second (sym a.1 ∙ same ∙ b.1)

-- ---- adopt

adopted_room : (n : ℕ) (v : Volume) → is_full v ≡ false → length v.slots < capacity_of v.header
adopted_room n v room = leb-false (capacity_of v.header) (length v.slots) room

-- where `adopt` is not refused and there is no redo file: no file has its name, there is a slot,
-- and files end at or before the gate
pub adopt_unmet : (n : ℕ) (v : Volume) → is_adopted n v.slots ≡ false → refusal_of n Adopt (Some v) ≡ None → (has_file v.slots redo_name ≡ false) × (is_full v ≡ false) × (runs_past_gate n v ≡ false)
adopt_unmet n v foreign none = (unmet_after _ unmet.0, unmet_after _ unmet.1.0, unmet_after _ unmet.1.1.0)
  where
    unmet : NoneMet (checks_of n Adopt v)
    unmet = none_met n Adopt v none

    unmet_after : (b : Bool) → (lacks_redo n v && b) ≡ false → b ≡ false
    unmet_after b off = sym (ap (λ (a : Bool). a && b) (not_from_false _ foreign)) ∙ off

pub adopt_clear : (n : ℕ) (v : Volume) → is_adopted n v.slots ≡ false → refusal_of n Adopt (Some v) ≡ None → (k : ℕ) → k < length v.slots → occupies (get_or v.slots k []) ≡ true → end_of (get_or v.slots k []) ≤ gate_of n
adopt_clear n v foreign none k lt on = ltb-false (gate_of n) (end_of (get_or v.slots k []))
    (none_of_filter [] occupies (λ slot. nat_lt (gate_of n) (end_of slot)) v.slots k (adopt_unmet n v foreign none).2 lt on)

-- a volume without a redo file gets one
pub adopt_is_adopted : (n : ℕ) (v : Volume) → IsVolume n v → refusal_of n Adopt (Some v) ≡ None → IsAdopted n (volume_after n Adopt v)
adopt_is_adopted n v is none = go (is_adopted n v.slots) refl
  where
    go : (b : Bool) → is_adopted n v.slots ≡ b → IsAdopted n (volume_after n Adopt v)
    go true e = subst (λ (b : Bool). IsAdopted n (if b then v else record v { slots = v.slots ++ redo_entry One n ∷ [] })) (sym e) (record { volume = is; adopted = e })
    go false e =
        let unmet = adopt_unmet n v e none in
        subst (λ (b : Bool). IsAdopted n (if b then v else record v { slots = v.slots ++ redo_entry One n ∷ [] })) (sym e) (with_redo unmet.0 unmet.1)
      where
        with_redo : has_file v.slots redo_name ≡ false → is_full v ≡ false → IsAdopted n (record v { slots = v.slots ++ redo_entry One n ∷ [] })
        with_redo none_named fits =
            let zeros : List ℕ = replicate 4 0 in
            let redo : List ℕ = redo_entry One n in
            let starts : start_of redo ≡ n - 4 = new_start redo_name redo_type (n - 4) 4 zeros refl in
            let longs : length_of redo ≡ 4 = new_length redo_name redo_type (n - 4) 4 zeros refl in
            let has = push_new v.slots redo in
            let readable = readable_tells n v.header is.legal.readable in
            record {
              volume = record {
                header = is.header;
                legal = legal_with_new n v.header v.slots (v.slots ++ redo ∷ []) (length v.slots) redo (λ k. k) is.legal has
                    (omega (arith, starts, readable.2)) (omega (arith, starts, longs, readable.0, readable.2))
                    (λ k lt ne on.
                    let found = has.others k lt ne in
                    inl (omega (arith, ap end_of found.1, starts, adopt_clear n v e none k found.0 (sym (ap occupies found.1) ∙ on))))
                    (λ k lt ne live same.
                    let found = has.others k lt ne in
                    no_file v.slots redo_name k none_named found.0 (sym (ap is_live found.1) ∙ live) (sym (ap name_of found.1) ∙ same ∙ new_name redo_name redo_type (n - 4) 4 zeros refl));
                room = omega (arith, length_push v.slots redo, adopted_room n v fits);
                entries = each_with_new (λ slot. length slot ≡ 32) v.slots (v.slots ++ redo ∷ []) (length v.slots) redo (λ k. k) has (new_size redo_name redo_type (n - 4) 4 zeros refl refl) is.entries;
                kinds = each_with_new (λ slot. is_end slot ≡ false) v.slots (v.slots ++ redo ∷ []) (length v.slots) redo (λ k. k) has
                    (not_end redo redo_type (new_type redo_name redo_type (n - 4) 4 zeros refl) (λ e. absurd (omega (arith, e)))) is.kinds;
              };
              adopted = any_from [] (is_redo_file n) (v.slots ++ redo ∷ []) (length v.slots) (omega (arith, length_push v.slots redo)) (ap (is_redo_file n) has.here ∙ made_redo_file n);
            }

-- ---- upgrade

module _ (n : ℕ) (v : Volume) (is : IsAdopted n v) (clear : runs_past_redo n v ≡ false) where
  abbrev r : ℕ
  r = redo_place v.slots

  abbrev redo : List ℕ
  redo = get_or v.slots r []

  abbrev moved : List ℕ
  moved = upgraded_entry n redo

  abbrev later : List (List ℕ)
  later = set v.slots r moved

  is_here : (r < length v.slots) × (is_redo_file n redo ≡ true)
  is_here = redo_place_is n v is

  sized : length redo ≡ 32
  sized = is.volume.entries (r) is_here.0

  kept_name : name_of moved ≡ redo_name
  kept_name = extent_name (redo_start Two n) 34 (replicate 4 0) redo sized ∙ (redo_file_tells n redo is_here.1).0

  kept_type : type_of moved ≡ redo_type
  kept_type = extent_type (redo_start Two n) 34 (replicate 4 0) redo sized ∙ (redo_file_tells n redo is_here.1).1

  starts : start_of moved ≡ redo_start Two n
  starts = extent_start (redo_start Two n) 34 (replicate 4 0) redo sized

  longs : length_of moved ≡ 34
  longs = extent_length (redo_start Two n) 34 (replicate 4 0) redo sized

  -- which is that of version 2
  pub moved_is_two : is_redo_entry n Two moved ≡ true
  moved_is_two = and_from _ _ ((bytes_eq-Decides (name_of moved) redo_name).1 kept_name)
      (and_from _ _ (eq-eqb (type_of moved) redo_type kept_type) (and_from _ _ (eq-eqb (start_of moved) (redo_start Two n) starts) (eq-eqb (length_of moved) 34 longs)))

  -- the redo entry stands in its slot with another extent
  pub upgraded_at : (upgraded n v).slots ≡ set v.slots (r) moved
  upgraded_at = with_slot_at n v.header v.slots redo_name (upgraded_entry n) (r) is.volume.legal is_here.0 (redo_file_is_named n redo is_here.1)

  ends_before : (k : ℕ) → k < length v.slots → k ≢ r → occupies (get_or v.slots k []) ≡ true → end_of (get_or v.slots k []) ≤ redo_start Two n
  ends_before k lt ne on =
      let slot = get_or v.slots k [] in
      let other : is_redo_file n slot ≡ false = false_from_ne_true _ (λ redo_too. ne (redo_is_alone n v k is lt (redo_file_is_named n slot redo_too))) in
      let off = none_of_filter [] occupies (λ s. not (is_redo_file n s) && nat_lt (redo_start Two n) (end_of s)) v.slots k (or_parts _ _ clear).1 lt on in
      ltb-false (redo_start Two n) (end_of slot) (sym (ap (λ (b : Bool). not b && nat_lt (redo_start Two n) (end_of slot)) other) ∙ off)

  set_is_two : (files : Volume) → IsAdopted n (record files { header = v.header; slots = set v.slots (r) moved }) × (is_adopted_with n Two (set v.slots (r) moved) ≡ true)
  set_is_two files = (
    record {
      volume = record {
        header = is.volume.header;
        legal = legal_with_new n v.header v.slots later r moved (λ k. k) is.volume.legal has
            (omega (arith, starts, fits)) (omega (arith, starts, longs, fits, readable.0))
            (λ k lt ne on. let found = has.others k lt ne in inl (omega (arith, ap end_of found.1, starts, ends_before k found.0 ne (sym (ap occupies found.1) ∙ on))))
            (λ k lt ne live same.
            let found = has.others k lt ne in
            let named : is_live_named redo_name (get_or v.slots k []) ≡ true =
            and_from _ _ (sym (ap is_live found.1) ∙ live) ((bytes_eq-Decides (name_of (get_or v.slots k [])) redo_name).1 (sym (ap name_of found.1) ∙ same ∙ kept_name)) in
            ne (redo_is_alone n v k is found.0 named));
        room = omega (arith, length-set v.slots r moved, is.volume.room);
        entries = each_with_new (λ slot. length slot ≡ 32) v.slots later r moved (λ k. k) has (extent_size (redo_start Two n) 34 (replicate 4 0) redo sized refl) is.volume.entries;
        kinds = each_with_new (λ slot. is_end slot ≡ false) v.slots later r moved (λ k. k) has (not_end moved redo_type kept_type (λ e. absurd (omega (arith, e)))) is.volume.kinds;
      };
      adopted = any_from [] (is_redo_file n) later r long (ap (is_redo_file n) has.here ∙ (redo_entry_tells n Two moved moved_is_two).0);
    },
    any_from [] (is_redo_entry n Two) later r long (ap (is_redo_entry n Two) has.here ∙ moved_is_two),
  )
    where
      has : HasNew v.slots later r moved (λ k. k)
      has = set_new v.slots r moved is_here.0

      long : r < length later
      long = omega (arith, length-set v.slots r moved, is_here.0)

      readable : (0 < directory_start v.header) × (0 < directory_length v.header) × (directory_end v.header ≤ gate_of n)
      readable = readable_tells n v.header is.volume.legal.readable

      fits : directory_end v.header ≤ redo_start Two n
      fits = ltb-false (redo_start Two n) (directory_end v.header) (or_parts _ _ clear).0

-- the volume then has version 2
pub upgrade_is_two : (n : ℕ) (v : Volume) → IsAdopted n v → refusal_of n Upgrade (Some v) ≡ None
    → IsAdopted n (volume_after n Upgrade v) × (is_adopted_with n Two (volume_after n Upgrade v).slots ≡ true)
upgrade_is_two n v is none = go (is_upgraded n v) refl
  where
    unmet : NoneMet (checks_of n Upgrade v)
    unmet = none_met n Upgrade v none

    go : (b : Bool) → is_upgraded n v ≡ b → IsAdopted n (volume_after n Upgrade v) × (is_adopted_with n Two (volume_after n Upgrade v).slots ≡ true)
    go true e = subst (λ (b : Bool). IsAdopted n (if b then v else upgraded n v) × (is_adopted_with n Two (if b then v else upgraded n v).slots ≡ true)) (sym e) (is, e)
    go false e =
        let clear : runs_past_redo n v ≡ false = sym (ap (λ (b : Bool). not b && runs_past_redo n v) e) ∙ unmet.1.0 in
        let at = upgraded_at n v is clear in
        subst (λ (b : Bool). IsAdopted n (if b then v else upgraded n v) × (is_adopted_with n Two (if b then v else upgraded n v).slots ≡ true)) (sym e)
        (subst (λ (later : List (List ℕ)). IsAdopted n (record v { slots = later }) × (is_adopted_with n Two later ≡ true)) (sym at) (set_is_two n v is clear v))

-- ---- format

-- what `format` makes of any tape
pub format_is_adopted : (n : ℕ) (label : List ℕ) (slots : ℕ) → IsWellFormed (Format label slots) → is_too_long n slots ≡ false → IsAdopted n (fresh_volume n label slots)
format_is_adopted n label slots formed fits =
    let count : ℕ = records_for_slots slots in
    let header : List ℕ = fresh_header n label count in
    let zeros : List ℕ = replicate 4 0 in
    let redo : List ℕ = redo_entry One n in
    let starts : start_of redo ≡ n - 4 = new_start redo_name redo_type (n - 4) 4 zeros refl in
    let longs : length_of redo ≡ 4 = new_length redo_name redo_type (n - 4) 4 zeros refl in
    let begins : directory_start header ≡ 2 = fresh_start n label count formed.0 in
    let takes : directory_length header ≡ count = fresh_length n label count formed.0 in
    let short : slots ≤ 8 * (n - 6) = ltb-false (8 * (n - 6)) slots fits in
    let some : 0 < count = omega (arith, formed.1) in
    let below : 2 + count ≤ gate_of n = omega (arith, formed.1, short) in
    record {
      volume = record {
        header = fresh_size n label count;
        legal = record {
          readable = fresh_readable n label count formed.0 some below;
          within = λ i lt on. one i lt (λ slot. (directory_end header ≤ start_of slot) × (end_of slot ≤ n)) (omega (arith, starts, begins, takes, below), omega (arith, starts, longs, some, below));
          apart = λ i j less lt first second. absurd (omega (arith, less, lt));
          distinct = λ i j less lt first second. absurd (omega (arith, less, lt));
        };
        room = omega (arith, takes, some);
        entries = λ i lt. one i lt (λ slot. length slot ≡ 32) (new_size redo_name redo_type (n - 4) 4 zeros refl refl);
        kinds = λ i lt. one i lt (λ slot. is_end slot ≡ false) (not_end redo redo_type (new_type redo_name redo_type (n - 4) 4 zeros refl) (λ e. absurd (omega (arith, e))));
      };
      adopted = any_from [] (is_redo_file n) (redo ∷ []) 0 (omega arith) (made_redo_file n);
    }
  where
    one : (i : ℕ) → i < 1 → (P : List ℕ → Type 0) → P (redo_entry One n) → P (get_or (redo_entry One n ∷ []) i [])
    one zero lt P here = here
    one (suc i) lt P here = absurd (omega arith)

-- ---- batches

-- the next volume of a part of a batch is again legal and adopted
pub part_is_adopted : (n : ℕ) (m : Midway) (p : Part) → IsAdopted n m.volume → IsWellFormedPart p → NoneMet (part_checks n m.volume (part_place n m p) p)
    → IsAdopted n (after_part n p m).volume
part_is_adopted n m (part.Store name kind implementation bytes) is formed unmet =
    let v : Volume = m.volume in
    let found = store_has_place n v name (fit_beside_in n v m.barred (file_length bytes)) unmet in
    subst (λ (place : Place). IsAdopted n (stored v name kind implementation bytes place)) (sym found.2)
    (stored_is_adopted n v name kind implementation bytes found.0 found.1 is formed unmet.1.1.0
    (fit_beside_tells n (directory_end v.header) (capacity_of v.header) v.slots m.barred (file_length bytes) found.0 found.1 found.2).0)
part_is_adopted n m (part.Rename old later) is formed unmet = rename_is_adopted n m.volume old later is formed (unmet_none (checks_of n (Rename old later) m.volume) unmet)
part_is_adopted n m (part.Purge name) is formed unmet = purge_is_adopted n m.volume name is (unmet_none (checks_of n (Purge name) m.volume) unmet)

pub parts_are_adopted : (n : ℕ) (parts : List Part) (m : Midway) → IsAdopted n m.volume → All IsWellFormedPart parts → NoneMet (parts_checks n parts m)
    → IsAdopted n (after_parts n parts m).volume
parts_are_adopted n [] m is formed unmet = is
parts_are_adopted n (p ∷ parts) m is formed unmet =
    let both = unmet_parts (part_checks n m.volume (part_place n m p) p) (parts_checks n parts (after_part n p m)) unmet in
    parts_are_adopted n parts (after_part n p m) (part_is_adopted n m p is (All-head IsWellFormedPart p parts formed) both.0) (All-tail IsWellFormedPart p parts formed) both.1

-- ---- every command

-- the next volume of a command on a legal adopted volume is again legal and adopted
pub next_is_adopted : (n : ℕ) (command : VolumeCommand) (v : Volume) → IsAdopted n v → IsWellFormed command → refusal_of n command (Some v) ≡ None → IsAdopted n (volume_after n command v)
next_is_adopted n Dir v is formed none = is
next_is_adopted n Label v is formed none = is
next_is_adopted n (Fetch name) v is formed none = is
next_is_adopted n (Store name kind implementation bytes) v is formed none = store_is_adopted n v name kind implementation bytes is formed none
next_is_adopted n (Rename old later) v is formed none = rename_is_adopted n v old later is formed none
next_is_adopted n (Purge name) v is formed none = purge_is_adopted n v name is none
next_is_adopted n Adopt v is formed none = adopt_is_adopted n v is.volume none
next_is_adopted n Upgrade v is formed none = (upgrade_is_two n v is none).0
next_is_adopted n (Batch parts) v is formed none = parts_are_adopted n parts (before_parts v) is formed.1 (none_met n (Batch parts) v none).1.1
next_is_adopted n (Format label slots) v is formed none = format_is_adopted n label slots formed (none_met n (Format label slots) v none).0
