-- What the program does by its arguments: what a run and a check over named images leave, and which of the two was made.
use Rattle.std.specs.Prelude.{◌≡◌, ℕ, List, Option, None, map}
use Rattle.il_device.specs.State.{DeviceState}
use Rattle.il_guest.specs.State.{GuestState}
use Rattle.il_ports.specs.Files.{FileView}
use Rattle.il_ports.specs.NamedImages.{ImagesView}
use Rattle.il_ports.specs.FileDrives.{FileDrive, IsUsedFor, drive_of, empty_drive}
use Rattle.il_ports.specs.FindingFiles.{InsertFails}
use Rattle.il_ports.specs.declared.tape_file.Access.TheVariants.{Change, Read}
use Rattle.il_host.specs.Whole.{RunLeaves, outside}
use Rattle.il_check.specs.Whole.{CheckLeaves}
use Rattle.il_command.specs.declared.messages.Way.{Way}
use Rattle.il_command.specs.declared.messages.Way.TheVariants as way
use Rattle.il_command.specs.declared.performing.Performed.{Performed}
use Rattle.il_host.specs.Jobs.{Devices}
use Rattle.il_command.specs.declared.performing.Performed.TheVariants as performed

-- what is unread of a standard input and what was written to a standard output, each if it is known
pub record Streams : Type 0 where
  pub left : Option (List ℕ)
  pub written : Option (List ℕ)

abbrev pub streams : (left written : Option (List ℕ)) → Streams
streams left written = record { left = left; written = written }

-- what contracts see of them
abbrev pub devices : {X : Type 0} → (X → DeviceState) → (before after : List X) → Option GuestState → Devices
devices state before after guest = record { before = map state before; after = map state after; guest = guest }

-- ---- a run and a check

module _ {F I : Type 0} (view : F → FileView) (seen : I → ImagesView) where
  -- no tape is in the drive yet, and no call has failed
  abbrev pub fresh_drive : I → FileDrive F I
  fresh_drive images = record { images = images; tape = None; faults = 0 }

  -- A run that has this status leaves what `run_il` leaves, with a drive of these images that opens them to change them: its tape is
  -- used for that, or it is only read, since an image may not be changed. The last two numbers count the calls of the input and of the
  -- output that failed.
  abbrev pub RunsWith : (status : ℕ) → (words : List (List ℕ)) → I → FileDrive F I → (old now : Streams) → (old now : Devices) → (input output : ℕ) → Type 0
  RunsWith status words images drive old now devices_old devices_now input output =
      RunLeaves status words (empty_drive (seen images).shelf 0) (drive_of view seen drive)
      (outside (empty_drive (seen images).shelf 0) old.left old.written devices_old.before devices_old.after devices_old.guest)
      (outside (drive_of view seen drive) now.left now.written devices_now.before devices_now.after devices_now.guest)
      0 input 0 output
      (λ name made. InsertFails view name made Change (seen images) (seen drive.images))
      ((now.left ≡ old.left) × (now.written ≡ old.written))
      × IsUsedFor Change (seen drive.images) drive.tape

  -- A check that has this status leaves what `run_check` leaves, with two drives of these images that only read them.
  abbrev pub ChecksWith : (status : ℕ) → (words : List (List ℕ)) → (first second : I) → (before after : FileDrive F I) → (old now : Streams) → (input output : ℕ) → Type 0
  ChecksWith status words first second before after old now input output =
      CheckLeaves status words (empty_drive (seen first).shelf 0) (drive_of view seen before) (empty_drive (seen second).shelf 0) (drive_of view seen after)
      old.left now.left old.written now.written 0 input 0 output
      (λ name. InsertFails view name None Read (seen first) (seen before.images))
      (λ name. InsertFails view name None Read (seen second) (seen after.images))
      × IsUsedFor Read (seen before.images) before.tape × IsUsedFor Read (seen after.images) after.tape

-- ---- which of them was made

module _ {A B : Type 0} where
  abbrev pub IsUnread : Performed A B → (ℕ → Type 0) → Type 0
  IsUnread (performed.Unread status) P = P status
  IsUnread done P = ⊥

  abbrev pub IsRun : Performed A B → (A → Type 0) → Type 0
  IsRun (performed.Ran run) P = P run
  IsRun done P = ⊥

  abbrev pub IsCheck : Performed A B → (B → Type 0) → Type 0
  IsCheck (performed.Checked check) P = P check
  IsCheck done P = ⊥

  abbrev pub way_made : Performed A B → Way
  way_made (performed.Checked check) = way.Check
  way_made done = way.Script

  abbrev pub status_made : (A → ℕ) → (B → ℕ) → Performed A B → ℕ
  status_made of_run of_check (performed.Unread status) = status
  status_made of_run of_check (performed.Ran run) = of_run run
  status_made of_run of_check (performed.Checked check) = of_check check
