-- No command of a volume makes a mark: the redo entry stays, or its implementation field is zeros.
use Rattle.std.proofs.Common.{filter, ◌≡◌, ◌<◌, ◌≤◌, ◌+◌, ◌++◌, ◌&&◌, ◌==◌, ℕ, zero, suc, nat_eq, List, [], ◌∷◌, Bool, true, false, not, if◌then◌else◌, Option, Some, None, length, get_or, set, take, drop, replicate, inl, inr, refl, sym, ◌∙◌, ap, subst, arith, length-set, get_or-set_same, get_or-set_other}
use Rattle.std.specs.Prelude.{All, IfSome}
use Rattle.std.specs.List.{list_any}
use Rattle.std.proofs.lemmas.Bool.{and_from, cases_Bool, not-false, false_from_ne_true}
use Rattle.std.proofs.lemmas.List.{length_push, length-take, length-drop}
use Rattle.std.proofs.lemmas.List.Edits.{length-insert, get_or-insert_above}
use Rattle.std.proofs.lemmas.List.Elements.{All-head, All-tail}
use Rattle.std.proofs.lemmas.Slice.Eq.{bytes_eq-Decides}
use Rattle.lif_model.specs.Numbers.{two_at}
use Rattle.lif_model.specs.Header.{directory_end, capacity_of}
use Rattle.lif_model.specs.Directory.{name_of}
use Rattle.lif_model.specs.Made.{new_entry, with_extent, in_four, file_length}
use Rattle.lif_model.specs.declared.version.Version.TheVariants.{One, Two}
use Rattle.lif_model.specs.Redo.{redo_start, redo_length}
use Rattle.lif_model.specs.Legal.{is_live_named}
use Rattle.lif_model.specs.Volume.{Volume, IsVolume, IsAdopted, redo_name, redo_entry, upgraded_entry, is_redo_entry, is_adopted}
use Rattle.lif_model.specs.Fit.{Place, redo_place, candidates, fit_among, fit_in, fit_beside_in}
use Rattle.lif_model.specs.Parts.{Part, IsWellFormedPart}
use Rattle.lif_model.specs.Parts as part
use Rattle.lif_model.specs.Apply.{VolumeCommand, Dir, Label, Fetch, Store, Rename, Purge, Adopt, Upgrade, Batch, Format, IsWellFormed, is_upgraded, runs_past_redo, part_checks, part_made, Midway, before_parts, part_place, after_part, after_parts, parts_checks, checks_of, refusal_of, upgraded, fresh_volume, volume_after, volume_made, next_unless, apply}
use Rattle.lif_model.specs.declared.refusal.Refusal.{Refusal}
use Rattle.lif_model.proofs.Lists.{any_from}
use Rattle.lif_model.proofs.Made.{two_behind, extent_name, extent_type}
use Rattle.lif_model.proofs.Slots.{live_named_tells, push_new}
use Rattle.lif_model.proofs.Adopted.{redo_file_is_named, redo_place_is, redo_is_alone}
use Rattle.lif_model.proofs.Apply.{accepted, NoneMet, unmet_parts, none_met, made_redo_file, adopt_is_adopted, upgraded_at, upgrade_is_two, part_is_adopted}
use Rattle.lif_model.proofs.Parts.{SetsSlot, InsertsSlot, PartDoes, nothing, renames, purges, fills, inserts, part_does}
use Rattle.lif_model.specs.Packing.{redo_slot, marked_slot, marked_count, bears_mark, has_mark}
use Rattle.lif_pack.proofs.Finishing.{marked_by, redo_is_two}

-- ---- the redo entry of an adopted volume

-- it alone says whether the volume has version 2
upgraded_by : (n : ℕ) (v : Volume) → IsAdopted n v → is_upgraded n v ≡ is_redo_entry n Two (redo_slot v)
upgraded_by n v is = elim (cases_Bool (is_redo_entry n Two (redo_slot v))) [
  | inl on ↦ any_from [] (is_redo_entry n Two) v.slots (redo_place v.slots) (redo_place_is n v is).0 on ∙ sym on
  | inr off ↦ false_from_ne_true _ (λ up. let no : true ≡ false = sym (redo_is_two n v is.volume up) ∙ off in cc) ∙ sym off
]

-- so that two volumes with the same one both have a mark, or neither
same_mark : (n : ℕ) (v w : Volume) → IsAdopted n v → IsAdopted n w → redo_slot w ≡ redo_slot v → bears_mark n w ≡ bears_mark n v
same_mark n v w is later same =
    let up : is_upgraded n w ≡ is_upgraded n v = upgraded_by n w later ∙ ap (is_redo_entry n Two) same ∙ sym (upgraded_by n v is) in
    λ i. up i && not ((marked_slot (same i) == 0) && (marked_count (same i) == 0))

-- it is the live slot of its name
redo_at : (n : ℕ) (w : Volume) (k : ℕ) (entry : List ℕ) → IsAdopted n w → k < length w.slots → get_or w.slots k [] ≡ entry → is_live_named redo_name entry ≡ true
    → redo_slot w ≡ entry
redo_at n w k entry is lt here named =
    sym (ap (λ (j : ℕ). get_or w.slots j []) (redo_is_alone n w k is lt (ap (is_live_named redo_name) here ∙ named))) ∙ here

-- a volume whose redo entry has a field of zeros
clear_at : (n : ℕ) (w : Volume) (k : ℕ) (entry : List ℕ) → IsAdopted n w → k < length w.slots → get_or w.slots k [] ≡ entry → is_live_named redo_name entry ≡ true
    → marked_slot entry ≡ 0 → marked_count entry ≡ 0 → bears_mark n w ≡ false
clear_at n w k entry is lt here named no_slot no_count =
    let same : redo_slot w ≡ entry = redo_at n w k entry is lt here named in
    marked_by n w (ap marked_slot same ∙ no_slot) (ap marked_count same ∙ no_count)

-- ---- entries of redo files that are made

made_clear : (n : ℕ) → (marked_slot (redo_entry One n) ≡ 0) × (marked_count (redo_entry One n) ≡ 0)
unfolding two_at new_entry
made_clear n = (refl, refl)

none_clear : (marked_slot [] ≡ 0) × (marked_count [] ≡ 0)
unfolding two_at
none_clear = (refl, refl)

-- an entry with another extent
extent_clear : (start count : ℕ) (entry : List ℕ) → length entry ≡ 32
    → (marked_slot (with_extent start count (replicate 4 0) entry) ≡ 0) × (marked_count (with_extent start count (replicate 4 0) entry) ≡ 0)
unfolding with_extent two_at
extent_clear start count entry size =
    let zeros : List ℕ = replicate 4 0 in
    let long : length (take 12 entry) ≡ 12 = omega (arith, length-take 12 entry, size) in
    let kept : length (take 8 (drop 20 entry)) ≡ 8 = omega (arith, length-take 8 (drop 20 entry), length-drop 20 entry, size) in (
      two_behind (take 12 entry) (in_four start ++ (in_four count ++ (take 8 (drop 20 entry) ++ zeros))) 12 16 long
          ∙ two_behind (in_four start) (in_four count ++ (take 8 (drop 20 entry) ++ zeros)) 4 12 refl
          ∙ two_behind (in_four count) (take 8 (drop 20 entry) ++ zeros) 4 8 refl ∙ two_behind (take 8 (drop 20 entry)) zeros 8 0 kept,
      two_behind (take 12 entry) (in_four start ++ (in_four count ++ (take 8 (drop 20 entry) ++ zeros))) 12 18 long
          ∙ two_behind (in_four start) (in_four count ++ (take 8 (drop 20 entry) ++ zeros)) 4 14 refl
          ∙ two_behind (in_four count) (take 8 (drop 20 entry) ++ zeros) 4 10 refl ∙ two_behind (take 8 (drop 20 entry)) zeros 8 2 kept,
    )

-- ---- a part of a batch

module _ (n : ℕ) (m : Midway) (p : Part) (is : IsAdopted n m.volume) (later : IsAdopted n (after_part n p m).volume) where
  abbrev v : Volume
  v = m.volume

  redo : (redo_place v.slots < length v.slots) × (is_live_named redo_name (redo_slot v) ≡ true)
  redo = let place = redo_place_is n v is in (place.0, redo_file_is_named n (redo_slot v) place.1)

  kept_by_set : (at : ℕ) (entry : List ℕ) → SetsSlot n m p at entry → redo_slot (after_part n p m).volume ≡ redo_slot m.volume
  kept_by_set at entry sets =
      let r : ℕ = redo_place v.slots in
      redo_at n (after_part n p m).volume r (redo_slot v) later
      (omega (arith, redo.0, ap (λ (xs : List (List ℕ)). length xs) sets.slots, length-set v.slots at entry))
      (ap (λ (xs : List (List ℕ)). get_or xs r []) sets.slots ∙ get_or-set_other v.slots at r entry [] (λ e. sets.other (sym e)))
      redo.1

  kept_by_insert : (at : ℕ) (entry : List ℕ) → InsertsSlot n m p at entry → redo_slot (after_part n p m).volume ≡ redo_slot m.volume
  kept_by_insert at entry puts =
      let le : at ≤ length v.slots = omega (arith, redo.0, puts.own) in
      redo_at n (after_part n p m).volume (at + 1) (redo_slot v) later
      (omega (arith, redo.0, puts.own, ap (λ (xs : List (List ℕ)). length xs) puts.slots, length-insert v.slots at entry le))
      (ap (λ (xs : List (List ℕ)). get_or xs (at + 1) []) puts.slots ∙ get_or-insert_above v.slots at entry [] at (omega arith) le ∙ ap (λ (k : ℕ). get_or v.slots k []) puts.own)
      redo.1

  entry_stays : PartDoes n m p → redo_slot (after_part n p m).volume ≡ redo_slot m.volume
  entry_stays (nothing does) = ap redo_slot does.volume
  entry_stays (renames at entry sets file live same) = kept_by_set at entry sets
  entry_stays (purges at entry sets file dead same) = kept_by_set at entry sets
  entry_stays (fills at entry sets file) = kept_by_set at entry sets
  entry_stays (inserts at entry puts file) = kept_by_insert at entry puts

part_clear : (n : ℕ) (m : Midway) (p : Part) → IsAdopted n m.volume → IsWellFormedPart p → NoneMet (part_checks n m.volume (part_place n m p) p)
    → bears_mark n m.volume ≡ false → bears_mark n (after_part n p m).volume ≡ false
part_clear n m p is formed unmet off =
    let later : IsAdopted n (after_part n p m).volume = part_is_adopted n m p is formed unmet in
    same_mark n m.volume (after_part n p m).volume is later (entry_stays n m p is later (part_does n m p is formed unmet)) ∙ off

parts_clear : (n : ℕ) (parts : List Part) (m : Midway) → IsAdopted n m.volume → All IsWellFormedPart parts → NoneMet (parts_checks n parts m)
    → bears_mark n m.volume ≡ false → bears_mark n (after_parts n parts m).volume ≡ false
parts_clear n [] m is formed unmet off = off
parts_clear n (p ∷ parts) m is formed unmet off =
    let both = unmet_parts (part_checks n m.volume (part_place n m p) p) (parts_checks n parts (after_part n p m)) unmet in
    let first : IsWellFormedPart p = All-head IsWellFormedPart p parts formed in
    parts_clear n parts (after_part n p m) (part_is_adopted n m p is first both.0) (All-tail IsWellFormedPart p parts formed) both.1 (part_clear n m p is first both.0 off)

-- ---- a command that is not refused

-- a store by itself takes the place of the first part of a batch
all_stay : (places : List ℕ) → filter (λ i. not (list_any (nat_eq i) [])) places ≡ places
all_stay [] = refl
all_stay (i ∷ places) = ap (λ (rest : List ℕ). i ∷ rest) (all_stay places)

no_bars : (n : ℕ) (v : Volume) (count : ℕ) → fit_beside_in n v [] count ≡ fit_in n v count
no_bars n v count = ap (fit_among n (directory_end v.header) v.slots count) (all_stay (candidates (capacity_of v.header) v.slots))

fresh_clear : (n : ℕ) (label : List ℕ) (slots : ℕ) → bears_mark n (fresh_volume n label slots) ≡ false
fresh_clear n label slots = marked_by n (fresh_volume n label slots) (each marked_slot (made_clear n).0 none_clear.0 place) (each marked_count (made_clear n).1 none_clear.1 place)
  where
    place : ℕ
    place = redo_place (redo_entry One n ∷ [])

    each : (of : List ℕ → ℕ) → of (redo_entry One n) ≡ 0 → of [] ≡ 0 → (k : ℕ) → of (get_or (redo_entry One n ∷ []) k []) ≡ 0
    each of first none zero = first
    each of first none (suc k) = none

adopt_clear : (n : ℕ) (v : Volume) → IsVolume n v → refusal_of n Adopt (Some v) ≡ None → bears_mark n v ≡ false → bears_mark n (volume_after n Adopt v) ≡ false
adopt_clear n v is none off = go (is_adopted n v.slots) refl
  where
    redo : List ℕ
    redo = redo_entry One n

    w : Volume
    w = record v { slots = v.slots ++ redo_entry One n ∷ [] }

    go : (b : Bool) → is_adopted n v.slots ≡ b → bears_mark n (volume_after n Adopt v) ≡ false
    go true e = subst (λ (b : Bool). bears_mark n (if b then v else w) ≡ false) (sym e) off
    go false e = subst (λ (b : Bool). bears_mark n (if b then v else w) ≡ false) (sym e)
        (clear_at n w (length v.slots) redo (subst (λ (b : Bool). IsAdopted n (if b then v else w)) e (adopt_is_adopted n v is none))
        (omega (arith, length_push v.slots redo)) (push_new v.slots redo).here (redo_file_is_named n redo (made_redo_file n)) (made_clear n).0 (made_clear n).1)

upgrade_clear : (n : ℕ) (v : Volume) → IsAdopted n v → refusal_of n Upgrade (Some v) ≡ None → bears_mark n v ≡ false → bears_mark n (volume_after n Upgrade v) ≡ false
upgrade_clear n v is none off = go (is_upgraded n v) refl
  where
    r : ℕ
    r = redo_place v.slots

    here : (r < length v.slots) × (is_live_named redo_name (redo_slot v) ≡ true)
    here = let place = redo_place_is n v is in (place.0, redo_file_is_named n (redo_slot v) place.1)

    size : length (redo_slot v) ≡ 32
    size = is.volume.entries r here.0

    moved : List ℕ
    moved = upgraded_entry n (redo_slot v)

    named : is_live_named redo_name (upgraded_entry n (redo_slot v)) ≡ true
    named =
        let tells = live_named_tells redo_name (redo_slot v) here.1 in
        let zeros : List ℕ = replicate 4 0 in
        and_from _ _ (ap (λ (k : ℕ). not (k == 0)) (extent_type (redo_start Two n) (redo_length Two) zeros (redo_slot v) size) ∙ tells.0)
        ((bytes_eq-Decides (name_of (upgraded_entry n (redo_slot v))) redo_name).1 (extent_name (redo_start Two n) (redo_length Two) zeros (redo_slot v) size ∙ tells.1))

    go : (b : Bool) → is_upgraded n v ≡ b → bears_mark n (volume_after n Upgrade v) ≡ false
    go true e = subst (λ (b : Bool). bears_mark n (if b then v else upgraded n v) ≡ false) (sym e) off
    go false e =
        let unmet : NoneMet (checks_of n Upgrade v) = none_met n Upgrade v none in
        let fits : runs_past_redo n v ≡ false = sym (ap (λ (b : Bool). not b && runs_past_redo n v) e) ∙ unmet.1.0 in
        let at : (upgraded n v).slots ≡ set v.slots r moved = upgraded_at n v is fits in
        let clear = extent_clear (redo_start Two n) (redo_length Two) (redo_slot v) size in
        subst (λ (b : Bool). bears_mark n (if b then v else upgraded n v) ≡ false) (sym e)
        (clear_at n (upgraded n v) r moved (subst (λ (b : Bool). IsAdopted n (if b then v else upgraded n v)) e (upgrade_is_two n v is none).0)
        (omega (arith, here.0, ap (λ (xs : List (List ℕ)). length xs) at, length-set v.slots r moved))
        (ap (λ (xs : List (List ℕ)). get_or xs r []) at ∙ get_or-set_same v.slots r moved [] here.0) named clear.0 clear.1)

next_clear : (n : ℕ) (command : VolumeCommand) (v : Volume) → IsWellFormed command → IsVolume n v → refusal_of n command (Some v) ≡ None
    → bears_mark n v ≡ false → bears_mark n (volume_after n command v) ≡ false
next_clear n Dir v formed is none off = off
next_clear n Label v formed is none off = off
next_clear n (Fetch name) v formed is none off = off
next_clear n (Store name kind implementation bytes) v formed is none off =
    let p : Part = part.Store name kind implementation bytes in
    let unmet : NoneMet (checks_of n (Store name kind implementation bytes) v) = none_met n (Store name kind implementation bytes) v none in
    let same = no_bars n v (file_length bytes) in
    subst (λ (place : Place). bears_mark n (part_made place p v) ≡ false) same
    (part_clear n (before_parts v) p (record { volume = is; adopted = not-false (is_adopted n v.slots) unmet.0 }) formed
    (subst (λ (place : Place). NoneMet (part_checks n v place p)) (sym same) unmet) off)
next_clear n (Rename old later) v formed is none off =
    let unmet : NoneMet (checks_of n (Rename old later) v) = none_met n (Rename old later) v none in
    part_clear n (before_parts v) (part.Rename old later) (record { volume = is; adopted = not-false (is_adopted n v.slots) unmet.0 }) formed unmet off
next_clear n (Purge name) v formed is none off =
    let unmet : NoneMet (checks_of n (Purge name) v) = none_met n (Purge name) v none in
    part_clear n (before_parts v) (part.Purge name) (record { volume = is; adopted = not-false (is_adopted n v.slots) unmet.0 }) formed unmet off
next_clear n Adopt v formed is none off = adopt_clear n v is none off
next_clear n Upgrade v formed is none off =
    let unmet : NoneMet (checks_of n Upgrade v) = none_met n Upgrade v none in
    upgrade_clear n v (record { volume = is; adopted = not-false (is_adopted n v.slots) unmet.0 }) none off
next_clear n (Batch parts) v formed is none off =
    let unmet : NoneMet (checks_of n (Batch parts) v) = none_met n (Batch parts) v none in
    parts_clear n parts (before_parts v) (record { volume = is; adopted = not-false (is_adopted n v.slots) unmet.0 }) formed.1 unmet.1.1 off
next_clear n (Format label slots) v formed is none off = fresh_clear n label slots

-- a tape without a volume
without_clear : (n : ℕ) (command : VolumeCommand) → has_mark n (volume_made n command None) ≡ false
without_clear n Dir = refl
without_clear n Label = refl
without_clear n (Fetch name) = refl
without_clear n (Store name kind implementation bytes) = refl
without_clear n (Rename old later) = refl
without_clear n (Purge name) = refl
without_clear n Adopt = refl
without_clear n Upgrade = refl
without_clear n (Batch parts) = refl
without_clear n (Format label slots) = fresh_clear n label slots

-- ---- every command

-- a volume without a mark has none after a command, whatever it answers
pub clear_behind : (n : ℕ) (command : VolumeCommand) (volume : Option Volume) → IsWellFormed command → IfSome volume (IsVolume n)
    → has_mark n volume ≡ false → has_mark n (apply n command volume).1 ≡ false
clear_behind n command volume formed is off = by volume is off (refusal_of n command volume) refl
  where
    by : (o : Option Volume) → IfSome o (IsVolume n) → has_mark n o ≡ false → (r : Option Refusal) → refusal_of n command o ≡ r → has_mark n (apply n command o).1 ≡ false
    by o was clear (Some why) e = ap (λ (r : Option Refusal). has_mark n (next_unless n command o r)) e ∙ clear
    by None was clear None e = ap (λ (r : Option Refusal). has_mark n (next_unless n command None r)) e ∙ without_clear n command
    by (Some v) was clear None e = ap (λ (a : Option Refusal × Option Volume). has_mark n a.1) (accepted n command v e) ∙ next_clear n command v formed was e clear
