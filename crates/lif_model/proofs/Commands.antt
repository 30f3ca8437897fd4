-- What each command writes, makes and leaves of a tape.
use Rattle.std.proofs.Common.{◌≡◌, ◌⊎◌, ◌≤◌, ◌-◌, ◌*◌, ◌&&◌, ℕ, nat_lt, List, Bool, true, false, if◌then◌else◌, Option, Some, None, length, filter, inl, inr, refl, sym, ◌∙◌, ap, subst, arith}
use Rattle.std.specs.Prelude.{All, [], ◌∷◌, ◌++◌}
use Rattle.std.specs.List.{list_any}
use Rattle.std.proofs.lemmas.Bool.{and_cases, not-false, ltb-false}
use Rattle.std.proofs.lemmas.List.Elements.{All-nil, All-cons}
use Rattle.lif_model.specs.Tape.{Tape, IsTape, record_at}
use Rattle.lif_model.specs.Gate.{gate_of}
use Rattle.lif_model.specs.Header.{directory_end, capacity_of}
use Rattle.lif_model.specs.Directory.{slots_of}
use Rattle.lif_model.specs.Made.{file_length, file_records}
use Rattle.lif_model.specs.declared.version.Version.{Version}
use Rattle.lif_model.specs.declared.version.Version.TheVariants.{One, Two}
use Rattle.lif_model.specs.Redo.{changed, IsSettled}
use Rattle.lif_model.specs.Commit.{SettlesBelow, IsOldOrNew, IsCommitted}
use Rattle.lif_model.specs.Transfers.{Replaced, PartlyReplaced}
use Rattle.lif_model.specs.Legal.{occupies, end_of, is_legal}
use Rattle.lif_model.specs.Volume.{IsAdopted, files_of, is_adopted_with, is_adopted, Volume, volume_in, volume_of, is_foreign_gated}
use Rattle.lif_model.specs.Fit.{Place, At, fit_in}
use Rattle.lif_model.specs.Apply.{VolumeCommand, Dir, Label, Fetch, Store, Rename, Purge, Adopt, Upgrade, Batch, Format, IsWellFormed, lacks_redo, runs_past_gate, is_too_long, checks_of, refusal_of, fresh_volume, volume_after}
use Rattle.lif_model.specs.Parts.{Part}
use Rattle.lif_model.specs.declared.refusal.Refusal.TheVariants as refusal
use Rattle.lif_model.specs.Writing.{NewFile, files_written, with_files, with_file, format_changes, chosen_place, changes_of, written_by}
use Rattle.lif_model.proofs.Fit.{IsPlaceIn, fit_tells}
use Rattle.lif_model.proofs.Apply.{NoneMet, none_met, upgrade_is_two}
use Rattle.lif_model.proofs.Adopted.{settles_below_other, upgrade_old_or_new}
use Rattle.lif_model.proofs.Directory.{volume_tells, volume_from, volume_in_is}
use Rattle.lif_model.proofs.Slotted.{is_on}
use Rattle.lif_model.proofs.Places.{aside, partly_aside, written_aside, place_unused}
use Rattle.lif_model.proofs.NewFiles.{IsAsideFile, some_aside, next_aside, files_again}
use Rattle.lif_model.proofs.Redo.{settled_none}
use Rattle.lif_model.proofs.Written.{Makes, nothing_makes, purge_makes, rename_makes, adopt_makes, upgrade_makes, adopt_adopts}
use Rattle.lif_model.proofs.Formatted.{format_makes}
use Rattle.lif_model.proofs.StoredFile.{storable, store_makes}
use Rattle.lif_model.proofs.Batches.{batch_is_two, unrefused, left_first, left_spare, left_short, batch_makes}
use Rattle.lif_model.proofs.Recorded.{records_count, file_shape}
use Rattle.lif_model.proofs.Outcomes.{settles_adopted, settles_clear, stop_leaves, commit_leaves, committed_settles, file_aside}

-- ---- commands

-- every command but `upgrade` and `format` keeps the redo file that is there
abbrev pub KeepsRedoFile : VolumeCommand → Type 0
KeepsRedoFile Upgrade = ⊥
KeepsRedoFile (Format label slots) = ⊥
KeepsRedoFile command = Unit {0}

-- of a volume that lacks a redo file, no live file reaches past the gate where a command that makes
-- one is not refused
adopted_or_clear : (n : ℕ) (v : Volume) → (lacks_redo n v && runs_past_gate n v) ≡ false
    → (is_adopted n v.slots ≡ true) ⊎ (runs_past_gate n v ≡ false)
adopted_or_clear n v unmet = elim (and_cases (lacks_redo n v) (runs_past_gate n v) unmet) [
  | inl there ↦ inl (not-false (is_adopted n v.slots) there)
  | inr clear ↦ inr clear
]

module _ (n : ℕ) (u : Tape) (v : Volume) (tape : IsTape n u) (is : volume_in u ≡ Some v) where
  -- ---- the file first

  place_of_records : (bytes : List ℕ) (i first : ℕ) → fit_in n v (file_length bytes) ≡ At i first
      → IsPlaceIn n v (length (file_records bytes)) i first
  place_of_records bytes i first chosen =
      subst (λ (count : ℕ). IsPlaceIn n v count i first) (sym (records_count bytes)) (fit_tells n (directory_end v.header) (capacity_of v.header) v.slots (file_length bytes) i first chosen)

  batch_is_adopted : (parts : List Part) → refusal_of n (Batch parts) (Some v) ≡ None → IsAdopted n v
  batch_is_adopted parts none = record { volume = volume_in_is n u v tape is; adopted = (batch_is_two n parts v none).0 }

  -- the tape with the files of a command has the volume before it
  pub file_first : (command : VolumeCommand) → IsWellFormed command → refusal_of n command (Some v) ≡ None
      → IsTape n (with_file n command v (chosen_place n command v) u) × (volume_in (with_file n command v (chosen_place n command v) u) ≡ Some v)
  file_first Dir formed none = (tape, is)
  file_first Label formed none = (tape, is)
  file_first (Fetch name) formed none = (tape, is)
  file_first (Store name kind implementation bytes) formed none =
      let can = storable n v name kind implementation bytes none in
      subst (λ (p : Place). IsTape n (with_file n (Store name kind implementation bytes) v p u) × (volume_in (with_file n (Store name kind implementation bytes) v p u) ≡ Some v)) (sym can.chosen)
      (file_shape n can.first bytes u tape, file_aside n u v bytes can.slot can.first tape is can.place)
  file_first (Rename old later) formed none = (tape, is)
  file_first (Purge name) formed none = (tape, is)
  file_first Adopt formed none = (tape, is)
  file_first Upgrade formed none = (tape, is)
  file_first (Batch parts) formed none = let whole = batch_is_adopted parts none in left_first n u v tape is parts whole (unrefused n parts v whole formed none)
  file_first (Format label slots) formed none = (tape, is)

  -- a stop or a trouble while it is written leaves the volume, and no gate that is not ours
  pub file_stops : (name : List ℕ) (kind : ℕ) (implementation bytes : List ℕ) (i first : ℕ) (c : Tape) → IsSettled u
      → refusal_of n (Store name kind implementation bytes) (Some v) ≡ None
      → fit_in n v (file_length bytes) ≡ At i first → PartlyReplaced first (file_records bytes) u c
      → (volume_of c ≡ Some v) × (is_foreign_gated c ≡ false)
  file_stops name kind implementation bytes i first c settled none chosen partly =
      let same = aside u c settled (partly_aside n u v i first (file_records bytes) tape is (storable n v name kind implementation bytes none).adopted (place_of_records bytes i first chosen) c partly) in
      (same.1 ∙ ap volume_in settled ∙ is, same.2)

  -- and after it the tape is settled, as a commit wants it
  pub file_settled : (name : List ℕ) (kind : ℕ) (implementation bytes : List ℕ) (i first : ℕ) (t : Tape) → IsSettled u
      → refusal_of n (Store name kind implementation bytes) (Some v) ≡ None
      → fit_in n v (file_length bytes) ≡ At i first → Replaced first (file_records bytes) u t → IsSettled t
  file_settled name kind implementation bytes i first t settled none chosen done = settled_none t
      (aside u t settled (written_aside n u v i first (file_records bytes) tape is (storable n v name kind implementation bytes none).adopted (place_of_records bytes i first chosen) t done)).0

  -- ---- its files

  -- each lies at spare records of the tape
  pub command_files : (version : Version) (command : VolumeCommand) → is_adopted_with n version v.slots ≡ true → IsWellFormed command → refusal_of n command (Some v) ≡ None
      → All (IsAsideFile version u) (files_written n command v (chosen_place n command v))
  command_files version Dir with formed none = All-nil (IsAsideFile version u)
  command_files version Label with formed none = All-nil (IsAsideFile version u)
  command_files version (Fetch name) with formed none = All-nil (IsAsideFile version u)
  command_files version (Store name kind implementation bytes) with formed none =
      let can = storable n v name kind implementation bytes none in
      let on = is_on n u v tape is in
      subst (λ (p : Place). All (IsAsideFile version u) (files_written n (Store name kind implementation bytes) v p)) (sym can.chosen)
      (All-cons (IsAsideFile version u) (record { slot = can.slot; start = can.first; bytes = bytes }) [] (
        λ k from under. place_unused n u v version (file_length bytes) can.slot can.first k tape is with can.place from under,
        omega (arith, can.place.high, tape.records, on.ends, on.starts),
      ) (All-nil (IsAsideFile version u)))
  command_files version (Rename old later) with formed none = All-nil (IsAsideFile version u)
  command_files version (Purge name) with formed none = All-nil (IsAsideFile version u)
  command_files version Adopt with formed none = All-nil (IsAsideFile version u)
  command_files version Upgrade with formed none = All-nil (IsAsideFile version u)
  command_files version (Batch parts) with formed none =
      let whole = batch_is_adopted parts none in
      let are = unrefused n parts v whole formed none in
      let spare = left_spare n u v tape is parts whole are version with in
      let short = left_short n u v tape is parts whole are in
      λ k d lt. (spare k d lt, short k d lt)
  command_files version (Format label slots) with formed none = All-nil (IsAsideFile version u)

  module _ (version : Version) (command : VolumeCommand) (with : is_adopted_with n version v.slots ≡ true) (formed : IsWellFormed command) (none : refusal_of n command (Some v) ≡ None) (settled : IsSettled u) where
    -- after the first of them the tape is settled and has the volume before, and none of its gates is not ours
    pub files_leave : (done rest : List NewFile) → files_written n command v (chosen_place n command v) ≡ done ++ rest
        → IsSettled (with_files done u) × (volume_of (with_files done u) ≡ Some v) × (is_foreign_gated (with_files done u) ≡ false)
    files_leave done rest same =
        let so_far = some_aside version u done rest (subst (All (IsAsideFile version u)) same (command_files version command with formed none)) in
        let tells = aside u (with_files done u) settled so_far in
        (settled_none (with_files done u) tells.0, tells.1 ∙ ap volume_in settled ∙ is, tells.2)

    -- and so has what a stop or a trouble leaves while the next one is written
    pub files_stop : (done : List NewFile) (f : NewFile) (rest : List NewFile) (c : Tape) → files_written n command v (chosen_place n command v) ≡ done ++ f ∷ rest
        → PartlyReplaced f.start (file_records f.bytes) (with_files done u) c → (volume_of c ≡ Some v) × (is_foreign_gated c ≡ false)
    files_stop done f rest c same partly =
        let tells = aside u c settled (next_aside version u done f rest c (subst (All (IsAsideFile version u)) same (command_files version command with formed none)) partly) in
        (tells.1 ∙ ap volume_in settled ∙ is, tells.2)

  -- to write them once more changes nothing
  pub command_files_again : (version : Version) (command : VolumeCommand) → is_adopted_with n version v.slots ≡ true → IsWellFormed command → refusal_of n command (Some v) ≡ None
      → with_file n command v (chosen_place n command v) (with_file n command v (chosen_place n command v) u) ≡ with_file n command v (chosen_place n command v) u
  command_files_again version command with formed none =
      let all = command_files version command with formed none in
      files_again (files_written n command v (chosen_place n command v)) u (λ k d lt. (all k d lt).1)

  -- ---- the tape that a command makes

  -- has the next volume, with the redo file as it was
  pub command_makes : (command : VolumeCommand) → KeepsRedoFile command → IsWellFormed command → refusal_of n command (Some v) ≡ None
      → Makes n v (volume_after n command v) (written_by n command v u)
  command_makes Dir keeps formed none = nothing_makes n u v tape is u v refl refl
  command_makes Label keeps formed none = nothing_makes n u v tape is u v refl refl
  command_makes (Fetch name) keeps formed none = nothing_makes n u v tape is u v refl refl
  command_makes (Store name kind implementation bytes) keeps formed none = store_makes n u v name kind implementation bytes tape is formed none
  command_makes (Rename old later) keeps formed none = rename_makes n u v tape is old later formed none
  command_makes (Purge name) keeps formed none = purge_makes n u v tape is name none
  command_makes Adopt keeps formed none = adopt_makes n u v tape is none
  command_makes Upgrade keeps formed none = absurd keeps
  command_makes (Batch parts) keeps formed none = let whole = batch_is_adopted parts none in batch_makes n u v tape is parts whole (unrefused n parts v whole formed none)
  command_makes (Format label slots) keeps formed none = absurd keeps

  -- ---- stops in the commit, and its Ok

  -- on an adopted volume: the volume before or the next one
  pub command_stops : (version : Version) (command : VolumeCommand) (x : Tape) → is_adopted_with n version v.slots ≡ true → KeepsRedoFile command
      → IsWellFormed command → refusal_of n command (Some v) ≡ None
      → IsOldOrNew version (changes_of n command v u) (with_file n command v (chosen_place n command v) u) x
      → ((volume_of x ≡ Some v) ⊎ (volume_of x ≡ Some (volume_after n command v))) × (is_foreign_gated x ≡ false)
  command_stops version command x adopted keeps formed none left =
      let first = file_first command formed none in
      stop_leaves version n (changes_of n command v u) (with_file n command v (chosen_place n command v) u) x v (volume_after n command v) first.0 first.1 adopted (command_makes command keeps formed none) left

  pub command_commits : (version : Version) (command : VolumeCommand) (x : Tape) → is_adopted_with n version v.slots ≡ true → KeepsRedoFile command
      → IsWellFormed command → refusal_of n command (Some v) ≡ None
      → IsCommitted version (changes_of n command v u) (with_file n command v (chosen_place n command v) u) x
      → (volume_of x ≡ Some (volume_after n command v)) × (is_foreign_gated x ≡ false)
  command_commits version command x adopted keeps formed none done =
      commit_leaves version n (changes_of n command v u) (with_file n command v (chosen_place n command v) u) x v (volume_after n command v) adopted (command_makes command keeps formed none) done

  -- `adopt` of a volume without a redo file, by a commit of version 1
  adopt_new : (x : Tape) → is_adopted n v.slots ≡ false → refusal_of n Adopt (Some v) ≡ None → SettlesBelow One (written_by n Adopt v u) x
      → (volume_of x ≡ Some (volume_after n Adopt v)) × (is_foreign_gated x ≡ false)
  adopt_new x lacks none settles =
      let makes = adopt_makes n u v tape is none in
      settles_adopted One n (written_by n Adopt v u) x (volume_after n Adopt v) makes.tape makes.volume (adopt_adopts n v lacks) settles

  pub adopt_stops : (x : Tape) → is_adopted n v.slots ≡ false → refusal_of n Adopt (Some v) ≡ None → IsOldOrNew One (changes_of n Adopt v u) u x
      → ((volume_of x ≡ Some v) ⊎ (volume_of x ≡ Some (volume_after n Adopt v))) × (is_foreign_gated x ≡ false)
  adopt_stops x lacks none (inl old) =
      let unmet : NoneMet (checks_of n Adopt v) = none_met n Adopt v none in
      let tells = volume_tells u v is in
      let both = settles_clear n u x tape (omega (arith, (is_on n u v tape is).ends, (is_on n u v tape is).starts))
      (λ legal. subst (λ (xs : List (List ℕ)). (is_adopted n xs ≡ true) ⊎ (list_any (λ slot. nat_lt (gate_of n) (end_of slot)) (filter occupies xs) ≡ false)) tells.2 (adopted_or_clear n v unmet.1.1.0)) old in
      (inl (both.0 ∙ is), both.1)
  adopt_stops x lacks none (inr new) = let both = adopt_new x lacks none new in (inr both.0, both.1)

  pub adopt_commits : (x : Tape) → is_adopted n v.slots ≡ false → refusal_of n Adopt (Some v) ≡ None → IsCommitted One (changes_of n Adopt v u) u x
      → (volume_of x ≡ Some (volume_after n Adopt v)) × (is_foreign_gated x ≡ false)
  adopt_commits x lacks none done = adopt_new x lacks none (committed_settles One (changes_of n Adopt v u) u x done)

  -- `upgrade` of a volume of version 1, by a commit of version 1: the next volume is of version 2
  upgraded_two : refusal_of n Upgrade (Some v) ≡ None
      → (is_legal (written_by n Upgrade v u) ≡ true) × (is_adopted_with n Two (slots_of (written_by n Upgrade v u)) ≡ true) × (length (written_by n Upgrade v u) ≡ n)
  upgraded_two none =
      let unmet : NoneMet (checks_of n Upgrade v) = none_met n Upgrade v none in
      let whole : IsAdopted n v = record { volume = volume_in_is n u v tape is; adopted = not-false (is_adopted n v.slots) unmet.0 } in
      let makes = upgrade_makes n u v tape is none in
      let tells = volume_tells (written_by n Upgrade v u) (volume_after n Upgrade v) makes.1 in
      (tells.0, ap (is_adopted_with n Two) (sym tells.2) ∙ (upgrade_is_two n v whole none).1, makes.0.records)

  pub upgrade_stops : (x : Tape) → is_adopted_with n One v.slots ≡ true → refusal_of n Upgrade (Some v) ≡ None
      → IsOldOrNew One (changes_of n Upgrade v u) u x
      → ((volume_of x ≡ Some v) ⊎ (volume_of x ≡ Some (volume_after n Upgrade v))) × (is_foreign_gated x ≡ false)
  upgrade_stops x adopted none left =
      let tells = volume_tells u v is in
      let two = upgraded_two none in
      let both = upgrade_old_or_new (changes_of n Upgrade v u) u x tells.0 ((λ i. is_adopted_with (tape.records i) One (sym tells.2 i)) ∙ adopted) two.0
      (ap (λ (m : ℕ). is_adopted_with m Two (slots_of (written_by n Upgrade v u))) tape.records ∙ two.1) left in
      (elim both.0 [ inl old ↦ inl (old ∙ is) | inr new ↦ inr (new ∙ (upgrade_makes n u v tape is none).1) ], both.1)

  pub upgrade_commits : (x : Tape) → refusal_of n Upgrade (Some v) ≡ None → IsCommitted One (changes_of n Upgrade v u) u x
      → (volume_of x ≡ Some (volume_after n Upgrade v)) × (is_foreign_gated x ≡ false)
  upgrade_commits x none done =
      let two = upgraded_two none in
      let both = settles_below_other One Two (written_by n Upgrade v u) x two.0 (ap (λ (m : ℕ). is_adopted_with m Two (slots_of (written_by n Upgrade v u))) two.2 ∙ two.1) (omega arith)
      (committed_settles One (changes_of n Upgrade v u) u x done) in
      (both.0 ∙ (upgrade_makes n u v tape is none).1, both.1)

-- ---- `format`, of any tape

module _ (n : ℕ) (u : Tape) (label : List ℕ) (slots : ℕ) (tape : IsTape n u) (formed : IsWellFormed (Format label slots)) (none : refusal_of n (Format label slots) (volume_in u) ≡ None) where
  not_too_long : is_too_long n slots ≡ false
  not_too_long = go (volume_in u) none
    where
      go : (volume : Option Volume) → refusal_of n (Format label slots) volume ≡ None → is_too_long n slots ≡ false
      go None unmet = unrefused (is_too_long n slots) unmet
        where
          unrefused : (b : Bool) → (if b then Some refusal.NoRoom else None) ≡ None → b ≡ false
          unrefused true unmet = cc
          unrefused false unmet = refl
      go (Some v) unmet = (none_met n (Format label slots) v unmet).0

  format_new : (x : Tape) → SettlesBelow One (changed (format_changes n label slots) u) x
      → (volume_of x ≡ Some (fresh_volume n label slots)) × (is_foreign_gated x ≡ false)
  format_new x settles =
      let makes = format_makes n label slots formed not_too_long u tape in
      settles_adopted One n (changed (format_changes n label slots) u) x (fresh_volume n label slots) makes.tape makes.volume makes.adopted settles

  -- a stop leaves what the tape had before, a volume or none, or the empty volume
  pub format_stops : (x : Tape) → IsOldOrNew One (format_changes n label slots) u x
      → ((volume_of x ≡ volume_in u) ⊎ (volume_of x ≡ Some (fresh_volume n label slots))) × (is_foreign_gated x ≡ false)
  format_stops x (inr new) = let both = format_new x new in (inr both.0, both.1)
  format_stops x (inl old) =
      let short : slots ≤ 8 * (n - 6) = ltb-false (8 * (n - 6)) slots not_too_long in
      let both = settles_clear n u x tape (omega (arith, short, formed.1)) (λ legal.
      let v : Volume = record { header = record_at u 0; slots = slots_of u; files = files_of u (slots_of u) } in
      let unmet : NoneMet (checks_of n (Format label slots) v) = none_met n (Format label slots) v (subst (λ (volume : Option Volume). refusal_of n (Format label slots) volume ≡ None) (volume_from u legal) none) in
      adopted_or_clear n v unmet.1.0) old in
      (inl both.0, both.1)

  pub format_commits : (x : Tape) → IsCommitted One (format_changes n label slots) u x
      → (volume_of x ≡ Some (fresh_volume n label slots)) × (is_foreign_gated x ≡ false)
  format_commits x done = format_new x (committed_settles One (format_changes n label slots) u x done)
