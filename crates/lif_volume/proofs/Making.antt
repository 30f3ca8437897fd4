-- What the commands that change slots make of a volume, whatever it is kept in.
use Rattle.std.proofs.Common.{◌≡◌, ◌⊎◌, ◌≤◌, ℕ, List, [], ◌∷◌, length, inl, inr, Bool, true, false, if◌then◌else◌, refl, sym, subst, ◌∙◌}
use Rattle.std.specs.Prelude.{All, Option, Some, None}
use Rattle.std.proofs.lemmas.List.Elements.{All-nil}
use Rattle.std.specs.Str.{bytes_eq}
use Rattle.lif_model.specs.Tape.{Tape, IsTape}
use Rattle.lif_model.specs.Header.{directory_start, directory_end}
use Rattle.lif_model.specs.declared.version.Version.{Version}
use Rattle.lif_model.specs.declared.version.Version.TheVariants.{One}
use Rattle.lif_model.specs.Redo.{Changes, redo_start}
use Rattle.lif_model.specs.Commit.{IsOldOrNew, IsCommitted}
use Rattle.lif_model.specs.Volume.{Volume, IsVolume, volume_in, volume_of, is_foreign_gated}
use Rattle.lif_model.specs.Fit.{Place, At, NoSlot, NoRoom}
use Rattle.lif_model.specs.Apply.{VolumeCommand, Dir, Label, Fetch, Store, Rename, Purge, Adopt, Upgrade, Batch, Format, IsWellFormed, refusal_of, stored, is_upgraded, renamed, upgraded, volume_after, Midway, before_parts, part_place, part_made, after_part, after_parts}
use Rattle.lif_model.specs.Parts.{Part}
use Rattle.lif_model.specs.Parts as part
use Rattle.lif_model.specs.Writing.{slot_writes, changes_by, changes_of, chosen_place, files_written, with_file}
use Rattle.lif_model.proofs.Redo.{length_changed}
use Rattle.lif_model.proofs.NewFiles.{IsAsideFile}
use Rattle.lif_model.proofs.Slots.{readable_tells}
use Rattle.lif_model.proofs.Adopted.{adopted_some, ends_before_redo}
use Rattle.lif_model.proofs.Apply.{next_is_adopted, adopt_is_adopted, upgrade_is_two}
use Rattle.lif_model.proofs.Commands.{command_files, command_stops, command_commits, adopt_stops, adopt_commits, upgrade_stops, upgrade_commits}
use Rattle.lif_plan.specs.Plans.{CommitsWith}
use Rattle.lif_model.specs.Changing.{files_when}
use Rattle.lif_volume.specs.Carrying.{HasFile}

-- a commit that is stopped leaves as many records
pub old_or_new_length : (version : Version) (changes : Changes) (t x : Tape) → IsOldOrNew version changes t x → length x ≡ length t
old_or_new_length version changes t x (inl old) = old.records
old_or_new_length version changes t x (inr new) = new.records ∙ length_changed changes t

-- ---- the commands that change slots

module _ (n : ℕ) (version : Version) where
  -- the records that they change
  pub changes_are : (command : VolumeCommand) (v : Volume) (u : Tape) → CommitsWith n version command v
      → changes_of n command v u ≡ changes_by (directory_start v.header) (slot_writes n command v (chosen_place n command v) u) u
  changes_are Dir v u never = absurd never
  changes_are Label v u never = absurd never
  changes_are (Fetch name) v u never = absurd never
  changes_are (Store name kind implementation bytes) v u commits = refl
  changes_are (Rename old later) v u commits = refl
  changes_are (Purge name) v u commits = refl
  changes_are Adopt v u commits = refl
  changes_are Upgrade v u commits = refl
  changes_are (Batch parts) v u commits = refl
  changes_are (Format label slots) v u never = absurd never

  pub by_case : {X : Type 0} (P : X → Type 0) (b : Bool) (x y : X) → P x → P y → P (if b then x else y)
  by_case P true x y px py = px
  by_case P false x y px py = py

  pub stored_header : (v : Volume) (name : List ℕ) (kind : ℕ) (implementation bytes : List ℕ) (place : Place) → (stored v name kind implementation bytes place).header ≡ v.header
  stored_header v name kind implementation bytes (At slot start) = refl
  stored_header v name kind implementation bytes NoSlot = refl
  stored_header v name kind implementation bytes NoRoom = refl

  part_header : (place : Place) (p : Part) (v : Volume) → (part_made place p v).header ≡ v.header
  part_header place (part.Store name kind implementation bytes) v = stored_header v name kind implementation bytes place
  part_header place (part.Rename old later) v = by_case (λ w. w.header ≡ v.header) (bytes_eq old later) v (renamed v old later) refl refl
  part_header place (part.Purge name) v = refl

  parts_header : (parts : List Part) (m : Midway) → (after_parts n parts m).volume.header ≡ m.volume.header
  parts_header [] m = refl
  parts_header (p ∷ parts) m = parts_header parts (after_part n p m) ∙ part_header (part_place n m p) p m.volume

  pub header_stays : (command : VolumeCommand) (v : Volume) → CommitsWith n version command v → (volume_after n command v).header ≡ v.header
  header_stays Dir v never = absurd never
  header_stays Label v never = absurd never
  header_stays (Fetch name) v never = absurd never
  header_stays (Store name kind implementation bytes) v commits = stored_header v name kind implementation bytes (chosen_place n (Store name kind implementation bytes) v)
  header_stays (Rename old later) v commits = by_case (λ w. w.header ≡ v.header) (bytes_eq old later) v (renamed v old later) refl refl
  header_stays (Purge name) v commits = refl
  header_stays Adopt v commits = by_case (λ w. w.header ≡ v.header) _ v _ refl refl
  header_stays Upgrade v commits = by_case (λ w. w.header ≡ v.header) (is_upgraded n v) v (upgraded n v) refl refl
  header_stays (Batch parts) v commits = parts_header parts (before_parts v)
  header_stays (Format label slots) v never = absurd never

  -- the next volume is one for as many records
  pub next_volume : (command : VolumeCommand) (v : Volume) → IsVolume n v → IsWellFormed command → CommitsWith n version command v
      → refusal_of n command (Some v) ≡ None → IsVolume n (volume_after n command v)
  next_volume Dir v is formed never none = absurd never
  next_volume Label v is formed never none = absurd never
  next_volume (Fetch name) v is formed never none = absurd never
  next_volume (Store name kind implementation bytes) v is formed adopted none = (next_is_adopted n (Store name kind implementation bytes) v (record { volume = is; adopted = adopted_some n version v.slots adopted }) formed none).volume
  next_volume (Rename old later) v is formed adopted none = (next_is_adopted n (Rename old later) v (record { volume = is; adopted = adopted_some n version v.slots adopted }) formed none).volume
  next_volume (Purge name) v is formed adopted none = (next_is_adopted n (Purge name) v (record { volume = is; adopted = adopted_some n version v.slots adopted }) formed none).volume
  next_volume Adopt v is formed both none = (adopt_is_adopted n v is none).volume
  next_volume Upgrade v is formed both none = (upgrade_is_two n v (record { volume = is; adopted = adopted_some n One v.slots both.1 }) none).0.volume
  next_volume (Batch parts) v is formed adopted none = (next_is_adopted n (Batch parts) v (record { volume = is; adopted = adopted_some n version v.slots adopted }) formed none).volume
  next_volume (Format label slots) v is formed never none = absurd never

  -- the directory ends before the redo file by which a command commits
  pub ends_before : (command : VolumeCommand) (v : Volume) → IsVolume n v → CommitsWith n version command v → directory_end v.header ≤ redo_start version n
  ends_before Dir v is never = absurd never
  ends_before Label v is never = absurd never
  ends_before (Fetch name) v is never = absurd never
  ends_before (Store name kind implementation bytes) v is adopted = (ends_before_redo version n v is adopted).0
  ends_before (Rename old later) v is adopted = (ends_before_redo version n v is adopted).0
  ends_before (Purge name) v is adopted = (ends_before_redo version n v is adopted).0
  ends_before Adopt v is both = subst (λ (w : Version). directory_end v.header ≤ redo_start w n) (sym both.0) (readable_tells n v.header is.legal.readable).2
  ends_before Upgrade v is both = subst (λ (w : Version). directory_end v.header ≤ redo_start w n) (sym both.0) (ends_before_redo One n v is both.1).0
  ends_before (Batch parts) v is adopted = (ends_before_redo version n v is adopted).0
  ends_before (Format label slots) v is never = absurd never

  module _ (u : Tape) (v : Volume) (tape : IsTape n u) (is : volume_in u ≡ Some v) (x : Tape) where
    -- a stop in the commit, and its Ok
    pub stops_leave : (command : VolumeCommand) → IsWellFormed command → CommitsWith n version command v → refusal_of n command (Some v) ≡ None
        → IsOldOrNew version (changes_of n command v u) (with_file n command v (chosen_place n command v) u) x
        → ((volume_of x ≡ Some v) ⊎ (volume_of x ≡ Some (volume_after n command v))) × (is_foreign_gated x ≡ false)
    stops_leave Dir formed never none left = absurd never
    stops_leave Label formed never none left = absurd never
    stops_leave (Fetch name) formed never none left = absurd never
    stops_leave (Store name kind implementation bytes) formed adopted none left = command_stops n u v tape is version (Store name kind implementation bytes) x adopted tt formed none left
    stops_leave (Rename old later) formed adopted none left = command_stops n u v tape is version (Rename old later) x adopted tt formed none left
    stops_leave (Purge name) formed adopted none left = command_stops n u v tape is version (Purge name) x adopted tt formed none left
    stops_leave Adopt formed both none left = adopt_stops n u v tape is x both.1 none (subst (λ (w : Version). IsOldOrNew w (changes_of n Adopt v u) u x) both.0 left)
    stops_leave Upgrade formed both none left = upgrade_stops n u v tape is x both.1 none (subst (λ (w : Version). IsOldOrNew w (changes_of n Upgrade v u) u x) both.0 left)
    stops_leave (Batch parts) formed adopted none left = command_stops n u v tape is version (Batch parts) x adopted tt formed none left
    stops_leave (Format label slots) formed never none left = absurd never

    pub commit_makes : (command : VolumeCommand) → IsWellFormed command → CommitsWith n version command v → refusal_of n command (Some v) ≡ None
        → IsCommitted version (changes_of n command v u) (with_file n command v (chosen_place n command v) u) x
        → (volume_of x ≡ Some (volume_after n command v)) × (is_foreign_gated x ≡ false)
    commit_makes Dir formed never none done = absurd never
    commit_makes Label formed never none done = absurd never
    commit_makes (Fetch name) formed never none done = absurd never
    commit_makes (Store name kind implementation bytes) formed adopted none done = command_commits n u v tape is version (Store name kind implementation bytes) x adopted tt formed none done
    commit_makes (Rename old later) formed adopted none done = command_commits n u v tape is version (Rename old later) x adopted tt formed none done
    commit_makes (Purge name) formed adopted none done = command_commits n u v tape is version (Purge name) x adopted tt formed none done
    commit_makes Adopt formed both none done = adopt_commits n u v tape is x both.1 none (subst (λ (w : Version). IsCommitted w (changes_of n Adopt v u) u x) both.0 done)
    commit_makes Upgrade formed both none done = upgrade_commits n u v tape is x none (subst (λ (w : Version). IsCommitted w (changes_of n Upgrade v u) u x) both.0 done)
    commit_makes (Batch parts) formed adopted none done = command_commits n u v tape is version (Batch parts) x adopted tt formed none done
    commit_makes (Format label slots) formed never none done = absurd never

-- ---- the files

pub files_are : (n : ℕ) (command : VolumeCommand) (v : Volume) → files_when n command (Some v) ≡ files_written n command v (chosen_place n command v)
files_are n Dir v = refl
files_are n Label v = refl
files_are n (Fetch name) v = refl
files_are n (Store name kind implementation bytes) v = refl
files_are n (Rename old later) v = refl
files_are n (Purge name) v = refl
files_are n Adopt v = refl
files_are n Upgrade v = refl
files_are n (Batch parts) v = refl
files_are n (Format label slots) v = refl

-- each lies at spare records of the tape
pub files_spare : (n : ℕ) (version : Version) (u : Tape) (v : Volume) → IsTape n u → volume_in u ≡ Some v → (command : VolumeCommand) → IsWellFormed command → CommitsWith n version command v
    → refusal_of n command (Some v) ≡ None → All (IsAsideFile version u) (files_written n command v (chosen_place n command v))
files_spare n version u v tape is Dir formed never none = absurd never
files_spare n version u v tape is Label formed never none = absurd never
files_spare n version u v tape is (Fetch name) formed never none = absurd never
files_spare n version u v tape is (Store name kind implementation bytes) formed adopted none = command_files n u v tape is version (Store name kind implementation bytes) adopted formed none
files_spare n version u v tape is (Rename old later) formed adopted none = All-nil (IsAsideFile version u)
files_spare n version u v tape is (Purge name) formed adopted none = All-nil (IsAsideFile version u)
files_spare n version u v tape is Adopt formed both none = All-nil (IsAsideFile version u)
files_spare n version u v tape is Upgrade formed both none = All-nil (IsAsideFile version u)
files_spare n version u v tape is (Batch parts) formed adopted none = command_files n u v tape is version (Batch parts) adopted formed none
files_spare n version u v tape is (Format label slots) formed never none = absurd never

-- ---- without a file

pub without_file : (command : VolumeCommand) → HasFile command None → (n : ℕ) (volume : Option Volume) → files_when n command volume ≡ []
without_file Dir has n volume = refl
without_file Label has n volume = refl
without_file (Fetch name) has n volume = refl
without_file (Store name kind implementation bytes) has n volume = cc
without_file (Rename old later) has n volume = refl
without_file (Purge name) has n volume = refl
without_file Adopt has n volume = refl
without_file Upgrade has n volume = refl
without_file (Batch parts) has n volume = absurd has
without_file (Format label slots) has n volume = refl
