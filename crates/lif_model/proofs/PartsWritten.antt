-- The parts of a batch written one after the other: the slots and the tape after each.
use Rattle.std.proofs.Common.{◌≡◌, ◌⊎◌, ◌<◌, ◌≤◌, ◌+◌, ◌%◌, ◌==◌, ℕ, suc, nat_lt, List, [], ◌∷◌, ◌++◌, Bool, if◌then◌else◌, Some, length, get_or, inl, inr, refl, sym, ◌∙◌, ap, subst, arith, length-set}
use Rattle.std.proofs.lemmas.Bool.{cases_Bool, ltb-true, ne_eqb}
use Rattle.std.proofs.lemmas.List.Edits.{length-insert}
use Rattle.lif_model.specs.Tape.{Tape, IsTape, record_at}
use Rattle.lif_model.specs.Header.{directory_start, directory_length, directory_end, capacity_of}
use Rattle.lif_model.specs.Directory.{entry_at}
use Rattle.lif_model.specs.Made.{with_type, file_length}
use Rattle.lif_model.specs.Redo.{redo_start, changed}
use Rattle.lif_model.specs.Volume.{Volume, volume_in, IsAdopted}
use Rattle.lif_model.specs.Fit.{Place, fit_beside_in}
use Rattle.lif_model.specs.Parts.{Part, IsWellFormedPart}
use Rattle.lif_model.specs.Parts as part
use Rattle.lif_model.specs.Apply.{Store, Rename, Purge, checks_of, stored, Midway, part_checks, part_place, after_part, after_parts}
use Rattle.lif_model.specs.Writing.{with_entry, entry_from, entry_on, slot_record, SlotWrites, with_slots, changes_by, ended_behind, part_writes, parts_writes, NewFile, part_files, parts_files, with_files, written_at}
use Rattle.lif_model.proofs.Fit.{fit_beside_tells}
use Rattle.lif_model.proofs.Apply.{NoneMet, unmet_none, store_has_place, not_redo_name}
use Rattle.lif_model.proofs.Adopted.{adopted_version}
use Rattle.lif_model.proofs.Writing.{AreEntries, untouched, rewritten, last_written, slots_record, slots_elsewhere, slot_written, changes_write}
use Rattle.lif_model.proofs.Slotted.{IsOn, is_on, ended_other, last_entries, entry_on_size, on_header}
use Rattle.lif_model.proofs.Written.{Makes, nothing_makes, purge_makes, rename_makes}
use Rattle.lif_model.proofs.StoredFile.{stored_makes}
use Rattle.lif_model.proofs.NewFiles.{IsOff, length_files, files_shape, files_more, files_elsewhere, files_same}
use Rattle.lif_model.proofs.Parts.{SetsSlot, PartDoes, nothing, renames, purges, fills, inserts, header_next, file_within, AreUnrefused, first_is_formed, first_unmet, first_does, rest_unrefused, each_file}

-- ---- the slots that a part writes

more_entries : (room : ℕ) (ws more : SlotWrites) → AreEntries room ws → AreEntries room more → AreEntries room (ws ++ more)
more_entries room [] more first second = second
more_entries room (w ∷ ws) more first second = (first.0, first.1, more_entries room ws more first.2 second)

-- the slots that a directory has room for have 32 bytes each
abbrev pub AreSized : Tape → ℕ → Type 0
AreSized u capacity = (j : ℕ) → j < capacity → length (entry_on u j) ≡ 32

part_entries : (n : ℕ) (m : Midway) (p : Part) (u : Tape) → IsAdopted n m.volume → AreSized u (capacity_of m.volume.header) → PartDoes n m p
    → AreEntries (capacity_of m.volume.header) (part_writes p m.volume (part_place n m p) u)
part_entries n m p u is sizes does = go does
  where
    capacity : ℕ
    capacity = capacity_of m.volume.header

    ws : SlotWrites
    ws = part_writes p m.volume (part_place n m p) u

    sets_one : (at : ℕ) (entry : List ℕ) → SetsSlot n m p at entry → AreEntries capacity ws
    sets_one at entry sets = subst (AreEntries capacity) (sym (sets.writes u)) (omega (arith, sets.within, is.volume.room), sets.size, tt)

    go : PartDoes n m p → AreEntries capacity ws
    go (nothing does) = subst (AreEntries capacity) (sym (does.writes u)) tt
    go (renames at entry sets file live same) = sets_one at entry sets
    go (purges at entry sets file dead same) = sets_one at entry sets
    go (fills at entry sets file) = sets_one at entry sets
    go (inserts at entry puts file) = subst (AreEntries capacity) (sym (puts.writes u)) (
      omega (arith, puts.last, puts.room),
      puts.size,
      last_entries capacity u (suc at) (get_or m.volume.slots at []) sizes (omega (arith, puts.last, puts.room)) (is.volume.entries at (omega (arith, puts.last))),
    )

pub parts_entries : (n : ℕ) (parts : List Part) (m : Midway) (u : Tape) → AreUnrefused n parts m → AreSized u (capacity_of m.volume.header)
    → AreEntries (capacity_of m.volume.header) (parts_writes n parts m u)
parts_entries n [] m u are sizes = tt
parts_entries n (p ∷ parts) m u are sizes =
    let does = first_does n p parts m are in
    let same : capacity_of (after_part n p m).volume.header ≡ capacity_of m.volume.header = ap capacity_of (header_next n m p does) in
    more_entries (capacity_of m.volume.header) (part_writes p m.volume (part_place n m p) u) (parts_writes n parts (after_part n p m) u)
    (part_entries n m p u are.midway.adopted sizes does)
    (subst (λ (room : ℕ). AreEntries room (parts_writes n parts (after_part n p m) u)) same
    (parts_entries n parts (after_part n p m) u (rest_unrefused n p parts m are) (λ j lt. sizes j (omega (arith, lt, same)))))

-- two tapes have the same entries after that of the slot after the last one, which are those that no part has written
abbrev pub SameBeyond : Volume → Tape → Tape → Type 0
SameBeyond v t u = (j : ℕ) → length v.slots < j → j < capacity_of v.header → entry_on t j ≡ entry_on u j

same_end : (capacity : ℕ) (t u : Tape) (k : ℕ) → (k < capacity → entry_on t k ≡ entry_on u k) → ended_behind capacity t k ≡ ended_behind capacity u k
same_end capacity t u k same = elim (cases_Bool (nat_lt k capacity)) [
  | inl lt ↦
      let here : entry_on t k ≡ entry_on u k = same (ltb-true k capacity lt) in
      λ i. if nat_lt k capacity then (k, with_type 0xFFFF (here i)) ∷ [] else []
  | inr off ↦ ap (λ (b : Bool). if b then (k, with_type 0xFFFF (entry_on t k)) ∷ [] else []) off ∙ sym (ap (λ (b : Bool). if b then (k, with_type 0xFFFF (entry_on u k)) ∷ [] else []) off)
]

-- a part then writes the same on both
same_writes : (n : ℕ) (m : Midway) (p : Part) (t u : Tape) → SameBeyond m.volume t u → PartDoes n m p
    → part_writes p m.volume (part_place n m p) t ≡ part_writes p m.volume (part_place n m p) u
same_writes n m p t u same (nothing does) = does.writes t ∙ sym (does.writes u)
same_writes n m p t u same (renames at entry sets file live bars) = sets.writes t ∙ sym (sets.writes u)
same_writes n m p t u same (purges at entry sets file dead bars) = sets.writes t ∙ sym (sets.writes u)
same_writes n m p t u same (fills at entry sets file) = sets.writes t ∙ sym (sets.writes u)
same_writes n m p t u same (inserts at entry puts file) =
    puts.writes t
    ∙ ap (λ (ws : SlotWrites). (at, entry) ∷ (suc at, get_or m.volume.slots at []) ∷ ws)
    (same_end (capacity_of m.volume.header) t u (suc (suc at)) (λ lt. same (suc (suc at)) (omega (arith, puts.last)) lt))
    ∙ sym (puts.writes u)

-- there are never fewer slots
slots_grow : (n : ℕ) (m : Midway) (p : Part) → PartDoes n m p → length m.volume.slots ≤ length (after_part n p m).volume.slots
slots_grow n m p (nothing does) = omega (arith, ap (λ (v : Volume). length v.slots) does.volume)
slots_grow n m p (renames at entry sets file live bars) = omega (arith, ap (λ (xs : List (List ℕ)). length xs) sets.slots, length-set m.volume.slots at entry)
slots_grow n m p (purges at entry sets file dead bars) = omega (arith, ap (λ (xs : List (List ℕ)). length xs) sets.slots, length-set m.volume.slots at entry)
slots_grow n m p (fills at entry sets file) = omega (arith, ap (λ (xs : List (List ℕ)). length xs) sets.slots, length-set m.volume.slots at entry)
slots_grow n m p (inserts at entry puts file) =
    let le : at ≤ length m.volume.slots = omega (arith, puts.last) in
    omega (arith, ap (λ (xs : List (List ℕ)). length xs) puts.slots, length-insert m.volume.slots at entry le)

-- and leaves the entries after that of the slot after its last one
left_beyond : (n : ℕ) (m : Midway) (p : Part) (u : Tape) (j : ℕ) (old : List ℕ) → PartDoes n m p → length (after_part n p m).volume.slots < j
    → last_written (part_writes p m.volume (part_place n m p) u) j old ≡ old
left_beyond n m p u j old does lt = go does
  where
    sets_one : (at : ℕ) (entry : List ℕ) → SetsSlot n m p at entry → last_written (part_writes p m.volume (part_place n m p) u) j old ≡ old
    sets_one at entry sets =
        ap (λ (ws : SlotWrites). last_written ws j old) (sets.writes u)
        ∙ ap (λ (b : Bool). if b then entry else old) (ne_eqb at j (λ e. absurd (omega (arith, e, lt, sets.within, ap (λ (xs : List (List ℕ)). length xs) sets.slots, length-set m.volume.slots at entry))))

    go : PartDoes n m p → last_written (part_writes p m.volume (part_place n m p) u) j old ≡ old
    go (nothing does) = ap (λ (ws : SlotWrites). last_written ws j old) (does.writes u)
    go (renames at entry sets file live bars) = sets_one at entry sets
    go (purges at entry sets file dead bars) = sets_one at entry sets
    go (fills at entry sets file) = sets_one at entry sets
    go (inserts at entry puts file) =
        let le : at ≤ length m.volume.slots = omega (arith, puts.last) in
        let count : length (after_part n p m).volume.slots ≡ suc (suc at) = omega (arith, ap (λ (xs : List (List ℕ)). length xs) puts.slots, length-insert m.volume.slots at entry le, puts.last) in
        let redo : List ℕ = get_or m.volume.slots at [] in
        let first : (if at == j then entry else old) ≡ old = ap (λ (b : Bool). if b then entry else old) (ne_eqb at j (λ e. absurd (omega (arith, e, lt, count)))) in
        let second : (if suc at == j then redo else old) ≡ old = ap (λ (b : Bool). if b then redo else old) (ne_eqb (suc at) j (λ e. absurd (omega (arith, e, lt, count)))) in
        ap (λ (ws : SlotWrites). last_written ws j old) (puts.writes u)
        ∙ ap (λ (bytes : List ℕ). last_written (ended_behind (capacity_of m.volume.header) u (suc (suc at))) j (if suc at == j then redo else bytes)) first
        ∙ ap (last_written (ended_behind (capacity_of m.volume.header) u (suc (suc at))) j) second
        ∙ ended_other (capacity_of m.volume.header) u (suc (suc at)) j old (λ e. absurd (omega (arith, e, lt, count)))

-- ---- one part after the other

-- the tape that one part makes
abbrev with_part : ℕ → Part → Midway → Tape → Tape
with_part n p m t = with_slots (directory_start m.volume.header) (part_writes p m.volume (part_place n m p) t) (with_files (part_files p (part_place n m p)) t)

-- is that of a command with the part's place, and has the next volume
part_written : (n : ℕ) (m : Midway) (p : Part) (t : Tape) → IsAdopted n m.volume → IsWellFormedPart p → NoneMet (part_checks n m.volume (part_place n m p) p)
    → IsTape n t → volume_in t ≡ Some m.volume
    → Makes n m.volume (after_part n p m).volume (changed (changes_by (directory_start m.volume.header) (part_writes p m.volume (part_place n m p) t) t) (with_files (part_files p (part_place n m p)) t))
part_written n m (part.Store name kind implementation bytes) t is formed unmet tape told =
    let v : Volume = m.volume in
    let found = store_has_place n v name (fit_beside_in n v m.barred (file_length bytes)) unmet in
    let place = (fit_beside_tells n (directory_end v.header) (capacity_of v.header) v.slots m.barred (file_length bytes) found.0 found.1 found.2).0 in
    subst (λ (place : Place). Makes n v (stored v name kind implementation bytes place) (written_at n (Store name kind implementation bytes) v place t)) (sym found.2)
    (stored_makes n t v tape told is.adopted name kind implementation bytes formed (not_redo_name n v name is.adopted unmet.1.0) unmet.1.1.0 found.0 found.1 place)
part_written n m (part.Rename old later) t is formed unmet tape told = rename_makes n t m.volume tape told old later formed (unmet_none (checks_of n (Rename old later) m.volume) unmet)
part_written n m (part.Purge name) t is formed unmet tape told = purge_makes n t m.volume tape told name (unmet_none (checks_of n (Purge name) m.volume) unmet)

-- one after the other
makes_on : (n : ℕ) (v w z : Volume) (t x : Tape) → Makes n v w t → Makes n w z x → Makes n v z x
makes_on n v w z t x first second = record {
  tape = second.tape;
  volume = second.volume;
  adopted = λ version with. second.adopted version (first.adopted version with);
}

module _ (n : ℕ) (m : Midway) (p : Part) (t : Tape) (is : IsAdopted n m.volume) (formed : IsWellFormedPart p) (unmet : NoneMet (part_checks n m.volume (part_place n m p) p)) (does : PartDoes n m p)
    (tape : IsTape n t) (told : volume_in t ≡ Some m.volume) where
  on : IsOn n t m.volume
  on = is_on n t m.volume tape told

  abbrev start : ℕ
  start = directory_start m.volume.header

  abbrev room : ℕ
  room = directory_length m.volume.header

  abbrev ws : SlotWrites
  ws = part_writes p m.volume (part_place n m p) t

  abbrev fs : List NewFile
  fs = part_files p (part_place n m p)

  are : AreEntries (capacity_of m.volume.header) ws
  are = part_entries n m p t is (entry_on_size n t m.volume on) does

  -- the files are after the directory
  files_stay : (k : ℕ) → k < directory_end m.volume.header → record_at (with_files fs t) k ≡ record_at t k
  files_stay k lt =
      let version = adopted_version n m.volume.slots is.adopted in
      files_elsewhere fs t k (each_file (λ f. (directory_end m.volume.header ≤ f.start) × (f.start + file_length f.bytes ≤ redo_start version.0 n)) (IsOff k) fs
      (λ f both. inl (omega (arith, lt, both.0))) (file_within n m p version.0 is does version.1))

  filed : IsTape n (with_files fs t)
  filed = files_shape n fs t tape

  part_makes : Makes n m.volume (after_part n p m).volume (with_part n p m t)
  part_makes = subst (Makes n m.volume (after_part n p m).volume)
      (changes_write start room ws are n t (with_files fs t) (omega (arith, on.ends)) tape.records filed.records (λ k low high. files_stay k (omega (arith, high))))
      (part_written n m p t is formed unmet tape told)

  part_inside : (k : ℕ) → k < directory_end m.volume.header → record_at (with_part n p m t) k ≡ rewritten start ws k (record_at t k)
  part_inside k lt = slots_record start ws (with_files fs t) k (omega (arith, lt, on.ends, filed.records)) ∙ ap (rewritten start ws k) (files_stay k lt)

  part_outside : (k : ℕ) → (k < start) ⊎ (directory_end m.volume.header ≤ k) → record_at (with_part n p m t) k ≡ record_at (with_files fs t) k
  part_outside k out = slots_elsewhere start ws (with_files fs t) k (untouched start room ws k are out)

  part_beyond : (u : Tape) → SameBeyond m.volume t u → SameBeyond (after_part n p m).volume (with_part n p m t) u
  part_beyond u same j above below =
      let header : (after_part n p m).volume.header ≡ m.volume.header = header_next n m p does in
      let lt : j < capacity_of m.volume.header = omega (arith, below, ap capacity_of header) in
      let made = is_on n (with_part n p m t) (after_part n p m).volume part_makes.tape part_makes.volume in
      let row : slot_record start j < directory_end m.volume.header = omega (arith, lt) in
      sym (on_header n (with_part n p m t) (after_part n p m).volume made j)
      ∙ ap (λ (h : List ℕ). entry_from (with_part n p m t) (directory_start h) j) header
      ∙ slot_written start n room ws (with_files fs t) j filed (omega (arith, on.ends)) are lt
      ∙ left_beyond n m p t j (entry_from (with_files fs t) start j) does above
      ∙ ap (λ (bytes : List ℕ). entry_at bytes (j % 8)) (files_stay (slot_record start j) row)
      ∙ on_header n t m.volume on j
      ∙ same j (omega (arith, above, slots_grow n m p does)) lt

-- ---- all parts

-- more writes rewrite what the first ones left
rewritten_more : (s : ℕ) (ws more : SlotWrites) (k : ℕ) (bytes : List ℕ) → rewritten s (ws ++ more) k bytes ≡ rewritten s more k (rewritten s ws k bytes)
rewritten_more s [] more k bytes = refl
rewritten_more s (w ∷ ws) more k bytes = rewritten_more s ws more k (if slot_record s w.0 == k then with_entry bytes (w.0 % 8) w.1 else bytes)

-- What the parts make of a tape t, one after the other, where their slot writes are those over a tape u: the volume after
-- them, all slot writes in the directory, and all files elsewhere.
pub record Follows (n : ℕ) (parts : List Part) (m : Midway) (u t x : Tape) : Type 0 where
  pub makes : Makes n m.volume (after_parts n parts m).volume x
  pub inside : (k : ℕ) → directory_start m.volume.header ≤ k → k < directory_end m.volume.header
      → record_at x k ≡ rewritten (directory_start m.volume.header) (parts_writes n parts m u) k (record_at t k)
  pub outside : (k : ℕ) → k < n → (k < directory_start m.volume.header) ⊎ (directory_end m.volume.header ≤ k) → record_at x k ≡ record_at (with_files (parts_files n parts m) t) k

pub follows : (n : ℕ) (parts : List Part) (m : Midway) (u t : Tape) → AreUnrefused n parts m → IsTape n t → volume_in t ≡ Some m.volume → SameBeyond m.volume t u
    → (x : Tape) × Follows n parts m u t x
follows n [] m u t are tape told same = (
  t,
  record {
    makes = nothing_makes n t m.volume tape told t m.volume refl refl;
    inside = λ k low high. refl;
    outside = λ k lt out. refl;
  },
)
follows n (p ∷ parts) m u t are tape told same =
    let is = are.midway.adopted in
    let does = first_does n p parts m are in
    let formed = first_is_formed n p parts m are in
    let unmet = first_unmet n p parts m are in
    let later : Midway = after_part n p m in
    let start : ℕ = directory_start m.volume.header in
    let ws : SlotWrites = part_writes p m.volume (part_place n m p) u in
    let fs : List NewFile = part_files p (part_place n m p) in
    let more : SlotWrites = parts_writes n parts later u in
    let made = part_makes n m p t is formed unmet does tape told in
    let header : later.volume.header ≡ m.volume.header = header_next n m p does in
    let rest = follows n parts later u (with_part n p m t) (rest_unrefused n p parts m are) made.tape made.volume (part_beyond n m p t is formed unmet does tape told u same) in (
      rest.0,
      record {
        makes = makes_on n m.volume later.volume (after_parts n parts later).volume (with_part n p m t) rest.0 made rest.1.makes;
        inside = λ k low high.
            rest.1.inside k (omega (arith, low, ap directory_start header)) (omega (arith, high, ap directory_end header))
            ∙ ap (λ (s : ℕ). rewritten s more k (record_at (with_part n p m t) k)) (ap directory_start header)
            ∙ ap (rewritten start more k) (part_inside n m p t is formed unmet does tape told k high ∙ ap (λ (now : SlotWrites). rewritten start now k (record_at t k)) (same_writes n m p t u same does))
            ∙ sym (rewritten_more start ws more k (record_at t k));
        outside = λ k lt out.
            rest.1.outside k lt (elim out [ inl before ↦ inl (omega (arith, before, ap directory_start header)) | inr past ↦ inr (omega (arith, past, ap directory_end header)) ])
            ∙ files_same (parts_files n parts later) (with_part n p m t) (with_files fs t) k (made.tape.records ∙ sym (length_files fs t ∙ tape.records)) (omega (arith, lt, made.tape.records))
            (part_outside n m p t is formed unmet does tape told k out)
            ∙ sym (ap (λ (s : Tape). record_at s k) (files_more fs (parts_files n parts later) t));
      },
    )
