-- The files of a tape after a command, by the slots that the command leaves: `files_of` of the new
-- tape is what the command makes of the files before. `w` is the tape after the command. It agrees
-- with the tape before, or for a store with the tape on which the file stands, on the records from
-- the directory's end to the gate.
use Rattle.std.proofs.Common.{◌≡◌, ◌≢◌, ◌<◌, ◌≤◌, ◌+◌, ℕ, suc, List, [], ◌∷◌, Bool, true, false, if◌then◌else◌, Option, Some, length, get_or, inl, inr, refl, sym, ◌∙◌, ap, arith, None, ◌++◌}
use Rattle.std.specs.Prelude.{option_map}
use Rattle.std.specs.FinMap.{get, insert, remove}
use Rattle.std.specs.Str.{bytes_eq}
use Rattle.std.proofs.lemmas.Bool.{and_from, lt-ltb}
use Rattle.lif_model.specs.Tape.{Tape, record_at, bytes_from}
use Rattle.lif_model.specs.Transfers.{Replaced}
use Rattle.lif_model.specs.Gate.{gate_of}
use Rattle.lif_model.specs.Header.{directory_end}
use Rattle.lif_model.specs.Directory.{start_of, length_of}
use Rattle.lif_model.specs.Made.{new_entry, file_length, filled, file_records, with_type, with_name}
use Rattle.lif_model.specs.Legal.{occupies, holds, has_file}
use Rattle.lif_model.specs.Volume.{redo_name, redo_entry, is_redo_entry, is_adopted, is_file, file_named, content_of, files_of, Volume, IsVolume, IsAdopted}
use Rattle.lif_model.specs.Apply.{Store, Rename, Purge, Adopt, Upgrade, IsWellFormed, is_upgraded, refusal_of, placed, with_slot, moved_key, upgraded}
use Rattle.lif_model.proofs.Lists.{any_at}
use Rattle.lif_model.proofs.Made.{new_start, new_length, named_start, named_length, length_cut}
use Rattle.lif_model.proofs.Redo.{redo_places}
use Rattle.lif_model.proofs.Volume.{content_agree}
use Rattle.lif_model.proofs.Fit.{IsPlaceIn}
use Rattle.lif_model.proofs.Apply.{adopt_clear}
use Rattle.lif_model.proofs.Adopted.{adopted_version, is_file_tells, holds_tells, file_before}
use Rattle.lif_model.proofs.Files.{same_files, get_file, get_stored, get_removed, get_moved, content_written}
use Rattle.lif_model.proofs.Named.{is_named, Names, equal, other, names_of, named_tells, placed_here, placed_others, purged_here, purged_others, IsRenamed, renamed_named, upgraded_named, adopted_named}
use Rattle.lif_model.proofs.Places.{file_is_off}
use Rattle.lif_model.specs.declared.version.Version.TheVariants.{One}

-- ---- files by their slots

-- the bytes of a file are the same on two tapes where those of each file are
contents_kept : (n : ℕ) (u w : Tape) (slots : List (List ℕ)) (q : List ℕ) → ((k : ℕ) → k < length slots → is_file n (get_or slots k []) ≡ true → content_of w (get_or slots k []) ≡ content_of u (get_or slots k []))
    → option_map (content_of w) (file_named n slots q) ≡ option_map (content_of u) (file_named n slots q)
contents_kept n u w [] q same = refl
contents_kept n u w (slot ∷ slots) q same = go (is_named n q slot) refl (contents_kept n u w slots q (λ k lt on. same (suc k) (omega (arith, lt)) on))
  where
    go : (b : Bool) → is_named n q slot ≡ b → option_map (content_of w) (file_named n slots q) ≡ option_map (content_of u) (file_named n slots q)
        → option_map (content_of w) (if b then Some slot else file_named n slots q) ≡ option_map (content_of u) (if b then Some slot else file_named n slots q)
    go true e rest = ap Some (same 0 (omega arith) (named_tells n q slot e).0)
    go false e rest = rest

same_bytes : (a b : List ℕ) → Some a ≡ Some b → a ≡ b
same_bytes a b e = cc

-- where each name has the same slot and each file the same bytes, the files are the same
same_slots : (n : ℕ) (u w : Tape) (slots later : List (List ℕ)) → length u ≡ n → length w ≡ n → ((q : List ℕ) → file_named n later q ≡ file_named n slots q)
    → ((k : ℕ) → k < length slots → is_file n (get_or slots k []) ≡ true → content_of w (get_or slots k []) ≡ content_of u (get_or slots k [])) → files_of w later ≡ files_of u slots
same_slots n u w slots later size_u size_w names same = same_files (files_of w later) (files_of u slots) (λ q.
    get_file w later n q (sym size_w) ∙ ap (option_map (content_of w)) (names q) ∙ contents_kept n u w slots q same ∙ sym (get_file u slots n q (sym size_u)))

module _ (n : ℕ) (v : Volume) (is : IsAdopted n v) where
  -- the records of a file lie between the directory and the gate
  pub file_within : (j k : ℕ) → j < length v.slots → is_file n (get_or v.slots j []) ≡ true → holds k (get_or v.slots j []) ≡ true → (directory_end v.header ≤ k) × (k < gate_of n)
  file_within j k lt file on =
      let slot = get_or v.slots j [] in
      let held = holds_tells k slot on in
      let takes : occupies slot ≡ true = and_from _ _ (is_file_tells n slot file).0 (lt-ltb 0 (length_of slot) (omega (arith, held.0, held.1))) in
      let version = adopted_version n v.slots is.adopted in
      let redo = any_at [] (is_redo_entry n version.0) v.slots version.1 in (
        omega (arith, (is.volume.legal.within j lt takes).0, held.0),
        omega (arith, file_before version.0 n v.header v.slots is.volume.legal redo.0 redo.1 redo.2 j k lt file on, (redo_places version.0 n).0),
      )

-- ---- store

module _ (n : ℕ) (v : Volume) (name : List ℕ) (kind : ℕ) (implementation bytes : List ℕ) (i start : ℕ) (is : IsAdopted n v) (formed : IsWellFormed (Store name kind implementation bytes))
    (off_redo : name ≢ redo_name) (none : has_file v.slots name ≡ false) (place : IsPlaceIn n v (file_length bytes) i start)
    (u u' w : Tape) (size : length u ≡ n) (done : Replaced start (file_records bytes) u u') (size_w : length w ≡ n)
    (agree : (k : ℕ) → directory_end v.header ≤ k → k < gate_of n → record_at w k ≡ record_at u' k) where
  abbrev entry : List ℕ
  entry = new_entry name kind start (file_length bytes) implementation

  -- the new file has the bytes, filled up with zeros
  pub new_content : content_of w entry ≡ filled bytes
  new_content = content_written w entry bytes (new_length name kind start (file_length bytes) implementation formed.0)
      (λ j lt.
      let at : start_of entry + j ≡ start + j = ap (λ (m : ℕ). m + j) (new_start name kind start (file_length bytes) implementation formed.0) in
      ap (record_at w) at ∙ agree (start + j) (omega (arith, place.low)) (omega (arith, place.high, lt)) ∙ done.within j (omega (arith, lt, length_cut (file_length bytes) bytes)))

  -- and every other file keeps its bytes
  pub old_content : (j : ℕ) → j < length v.slots → is_file n (get_or v.slots j []) ≡ true → content_of w (get_or v.slots j []) ≡ content_of u (get_or v.slots j [])
  old_content j lt file = content_agree w u (get_or v.slots j []) (λ k on.
      let within = file_within n v is j k lt file on in
      agree k within.0 within.1 ∙ elim (file_is_off n v (file_length bytes) i start place j k lt (is_file_tells n (get_or v.slots j []) file).0 on) [
        | inl less ↦ done.before k less
        | inr more ↦ done.behind k (omega (arith, more, length_cut (file_length bytes) bytes))
      ])

  -- the files with the new one (for the volume after `store`)
  pub files_stored : files_of w (placed v.slots i entry) ≡ insert (files_of u v.slots) name (filled bytes)
  files_stored = same_files (files_of w later) (insert (files_of u v.slots) name (filled bytes)) (λ q. get_file w later n q (sym size_w) ∙ at q (names_of q name) ∙ sym (gets q))
    where
      later : List (List ℕ)
      later = placed v.slots i entry

      gets : (q : List ℕ) → get (insert (files_of u v.slots) name (filled bytes)) q ≡ (if bytes_eq q name then Some (filled bytes) else option_map (content_of u) (file_named n v.slots q))
      gets q = get_stored (files_of u v.slots) name (filled bytes) q ∙ ap (λ (o : Option (List ℕ)). if bytes_eq q name then Some (filled bytes) else o) (get_file u v.slots n q (sym size))

      at : (q : List ℕ) → Names q name → option_map (content_of w) (file_named n later q) ≡ (if bytes_eq q name then Some (filled bytes) else option_map (content_of u) (file_named n v.slots q))
      at q (equal same e) =
          ap (λ (p : List ℕ). option_map (content_of w) (file_named n later p)) same ∙ ap (option_map (content_of w)) (placed_here n v name kind implementation bytes i start is formed off_redo none place) ∙ ap Some new_content
          ∙ sym (ap (λ (b : Bool). if b then Some (filled bytes) else option_map (content_of u) (file_named n v.slots q)) e)
      at q (other apart e) =
          ap (option_map (content_of w)) (placed_others n v name kind implementation bytes i start is formed off_redo none place q apart) ∙ contents_kept n u w v.slots q old_content
          ∙ sym (ap (λ (b : Bool). if b then Some (filled bytes) else option_map (content_of u) (file_named n v.slots q)) e)

-- ---- the other commands

module _ (n : ℕ) (v : Volume) (is : IsAdopted n v) (u w : Tape) (size : length u ≡ n) (size_w : length w ≡ n)
    (agree : (k : ℕ) → directory_end v.header ≤ k → k < gate_of n → record_at w k ≡ record_at u k) where
  kept_content : (j : ℕ) → j < length v.slots → is_file n (get_or v.slots j []) ≡ true → content_of w (get_or v.slots j []) ≡ content_of u (get_or v.slots j [])
  kept_content j lt file = content_agree w u (get_or v.slots j []) (λ k on. let within = file_within n v is j k lt file on in agree k within.0 within.1)

  -- the files without the purged one (for the volume after `purge`)
  pub files_purged : (name : List ℕ) → refusal_of n (Purge name) (Some v) ≡ None → files_of w (with_slot name (with_type 0) v.slots) ≡ remove (files_of u v.slots) name
  files_purged name none = same_files (files_of w later) (remove (files_of u v.slots) name) (λ q. get_file w later n q (sym size_w) ∙ at q (names_of q name) ∙ sym (gets q))
    where
      later : List (List ℕ)
      later = with_slot name (with_type 0) v.slots

      gets : (q : List ℕ) → get (remove (files_of u v.slots) name) q ≡ (if bytes_eq q name then None else option_map (content_of u) (file_named n v.slots q))
      gets q = get_removed (files_of u v.slots) name q ∙ ap (λ (o : Option (List ℕ)). if bytes_eq q name then None else o) (get_file u v.slots n q (sym size))

      at : (q : List ℕ) → Names q name → option_map (content_of w) (file_named n later q) ≡ (if bytes_eq q name then None else option_map (content_of u) (file_named n v.slots q))
      at q (equal same e) = ap (λ (p : List ℕ). option_map (content_of w) (file_named n later p)) same ∙ ap (option_map (content_of w)) (purged_here n v name is none)
          ∙ sym (ap (λ (b : Bool). if b then None else option_map (content_of u) (file_named n v.slots q)) e)
      at q (other apart e) = ap (option_map (content_of w)) (purged_others n v name is none q apart) ∙ contents_kept n u w v.slots q kept_content
          ∙ sym (ap (λ (b : Bool). if b then None else option_map (content_of u) (file_named n v.slots q)) e)

  -- the same bytes under the new name (for the volume after `rename`)
  pub files_renamed : (old new : List ℕ) → IsWellFormed (Rename old new) → refusal_of n (Rename old new) (Some v) ≡ None → old ≢ new
      → files_of w (with_slot old (with_name new) v.slots) ≡ moved_key (files_of u v.slots) old new (get (files_of u v.slots) old)
  files_renamed old new formed none apart = by_slot (renamed_named n v old new is formed none apart)
    where
      later : List (List ℕ)
      later = with_slot old (with_name new) v.slots

      by_slot : (slot : List ℕ) × IsRenamed n v old new slot → files_of w later ≡ moved_key (files_of u v.slots) old new (get (files_of u v.slots) old)
      by_slot found = same_files (files_of w later) (moved_key (files_of u v.slots) old new (get (files_of u v.slots) old))
          (λ q. get_file w later n q (sym size_w) ∙ at q (names_of q new) (names_of q old) ∙ sym (gets q))
        where
          slot : List ℕ
          slot = found.0

          has : get (files_of u v.slots) old ≡ Some (content_of u slot)
          has = get_file u v.slots n old (sym size) ∙ ap (option_map (content_of u)) found.1.was

          kept_slot : content_of w slot ≡ content_of u slot
          kept_slot = same_bytes (content_of w slot) (content_of u slot)
              (sym (ap (option_map (content_of w)) found.1.was) ∙ contents_kept n u w v.slots old kept_content ∙ ap (option_map (content_of u)) found.1.was)

          moved : content_of w (with_name new slot) ≡ content_of u slot
          moved = (λ i. bytes_from w (named_start new slot formed.1 i) (named_length new slot formed.1 i)) ∙ kept_slot

          gets : (q : List ℕ) → get (moved_key (files_of u v.slots) old new (get (files_of u v.slots) old)) q
              ≡ (if bytes_eq q new then Some (content_of u slot) else (if bytes_eq q old then None else option_map (content_of u) (file_named n v.slots q)))
          gets q = ap (λ (o : Option (List ℕ)). get (moved_key (files_of u v.slots) old new o) q) has ∙ get_moved (files_of u v.slots) old new (content_of u slot) q
              ∙ ap (λ (o : Option (List ℕ)). if bytes_eq q new then Some (content_of u slot) else (if bytes_eq q old then None else o)) (get_file u v.slots n q (sym size))

          at : (q : List ℕ) → Names q new → Names q old → option_map (content_of w) (file_named n later q)
              ≡ (if bytes_eq q new then Some (content_of u slot) else (if bytes_eq q old then None else option_map (content_of u) (file_named n v.slots q)))
          at q (equal same e) is_old = ap (λ (p : List ℕ). option_map (content_of w) (file_named n later p)) same ∙ ap (option_map (content_of w)) found.1.here ∙ ap Some moved
              ∙ sym (ap (λ (b : Bool). if b then Some (content_of u slot) else (if bytes_eq q old then None else option_map (content_of u) (file_named n v.slots q))) e)
          at q (other off e) (equal same f) = ap (λ (p : List ℕ). option_map (content_of w) (file_named n later p)) same ∙ ap (option_map (content_of w)) found.1.gone
              ∙ sym (λ i. if e i then Some (content_of u slot) else (if f i then None else option_map (content_of u) (file_named n v.slots q)))
          at q (other off e) (other apart_old f) = ap (option_map (content_of w)) (found.1.others q off apart_old) ∙ contents_kept n u w v.slots q kept_content
              ∙ sym (λ i. if e i then Some (content_of u slot) else (if f i then None else option_map (content_of u) (file_named n v.slots q)))

  -- the same files (for the volume after `upgrade`)
  pub files_upgraded : is_upgraded n v ≡ false → refusal_of n Upgrade (Some v) ≡ None → files_of w (upgraded n v).slots ≡ files_of u v.slots
  files_upgraded old none = same_slots n u w v.slots (upgraded n v).slots size size_w (upgraded_named n v is old none) kept_content

-- the same files (for the volume after `adopt`)
pub files_adopted : (n : ℕ) (v : Volume) (u w : Tape) → IsVolume n v → is_adopted n v.slots ≡ false → refusal_of n Adopt (Some v) ≡ None → length u ≡ n → length w ≡ n
    → ((k : ℕ) → directory_end v.header ≤ k → k < gate_of n → record_at w k ≡ record_at u k) → files_of w (v.slots ++ redo_entry One n ∷ []) ≡ files_of u v.slots
files_adopted n v u w is foreign none size size_w agree = same_slots n u w v.slots (v.slots ++ redo_entry One n ∷ []) size size_w (adopted_named n v is foreign none)
    (λ j lt file. content_agree w u (get_or v.slots j []) (λ k on. kept j k lt file on))
  where
    kept : (j k : ℕ) → j < length v.slots → is_file n (get_or v.slots j []) ≡ true → holds k (get_or v.slots j []) ≡ true → record_at w k ≡ record_at u k
    kept j k lt file on =
        let slot = get_or v.slots j [] in
        let held = holds_tells k slot on in
        let takes : occupies slot ≡ true = and_from _ _ (is_file_tells n slot file).0 (lt-ltb 0 (length_of slot) (omega (arith, held.0, held.1))) in
        agree k (omega (arith, (is.legal.within j lt takes).0, held.0)) (omega (arith, held.1, adopt_clear n v foreign none j lt takes))
