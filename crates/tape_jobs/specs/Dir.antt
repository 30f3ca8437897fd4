-- What the job `dir` does on one image, and each other job that writes a text for a volume.
use Rattle.std.specs.Prelude.{◌≡◌, ◌≤◌, ◌+◌, ◌++◌, ℕ, Bool, List, length, map, Option, Some, None, option_map}
use Rattle.std.specs.Io.KnownBytes.{Appends}
use Rattle.lif_model.specs.Causes.{Rose}
use Rattle.lif_model.specs.Header.{HeaderParts, header_of}
use Rattle.lif_model.specs.Tape.{Tape}
use Rattle.lif_model.specs.Volume.{Volume}
use Rattle.lif_model.specs.Apply.{Dir}
use Rattle.lif_dir.specs.Entries.{slot_from}
use Rattle.lif_dir.specs.declared.entries.Slot.{Slot}
use Rattle.il_ports.specs.Writing.{WritesFront}
use Rattle.il_script.specs.declared.reply.Reply.{Reply}
use Rattle.il_script.specs.declared.reply.Reply.TheVariants as reply
use Rattle.tape_text.specs.Listing.{heading_of, listing_of}
use Rattle.tape_text.specs.Rows.{rows_of, rows_text}
use Rattle.tape_text.specs.Free.{free_text}
use Rattle.tape_text.specs.Map.{map_text}
use Rattle.tape_text.specs.Picture.{picture_text}
use Rattle.tape_text.specs.Pages.{page_room, rows_room}
use Rattle.tape_volumes.specs.Volumes.{Mounted, CommandDid, DoneOrNot, volume_shown}
use Rattle.tape_volumes.specs.Outputs.{WritesNothing}
use Rattle.tape_jobs.specs.declared.listing.Style.{Style}
use Rattle.tape_jobs.specs.declared.listing.Style.TheVariants as style
use Rattle.tape_volumes.specs.declared.went.Went.{Went}
use Rattle.tape_volumes.specs.declared.went.Went.TheVariants as went

-- The text for a volume on a medium of n records: a listing, after the name of its image if it has a heading; or rows of CSV;
-- or what is free; or a map or a picture of its records. The last three do not depend on `all`.
abbrev pub styled_text : Style → Bool → ℕ → HeaderParts → List Slot → List ℕ
styled_text (style.Columns heading) all n h slots = heading_of (option_map (λ name. name.now) heading) ++ listing_of all n h slots
styled_text (style.Rows image) all n h slots = rows_text (rows_of all n image.now h slots)
styled_text style.Free all n h slots = free_text n h slots
styled_text style.Map all n h slots = map_text n h slots
styled_text style.Picture all n h slots = picture_text n h slots

abbrev pub volume_text : Style → Bool → ℕ → Volume → List ℕ
volume_text style all n v = styled_text style all n (header_of v.header) (map slot_from v.slots)

-- the pages of a text have room for it
abbrev pub HasRoomFor : Style → (n room : ℕ) → Type 0
HasRoomFor (style.Columns heading) n room = length (heading_of (option_map (λ name. name.now) heading)) + page_room n ≤ room
HasRoomFor (style.Rows image) n room = rows_room image.now n ≤ room
HasRoomFor style.Free n room = page_room n ≤ room
HasRoomFor style.Map n room = page_room n ≤ room
HasRoomFor style.Picture n room = page_room n ≤ room

-- The text for the volume of a tape, if contracts can see it, was written: all of it; or a front of it, and then standard output failed.
-- Or there was no memory, which is possible only if contracts cannot see the tape: then its directory may have more slots than the
-- pages have room for.
abbrev pub WritesListing : Went → (Volume → List ℕ) → Option Tape → (before now : Option (List ℕ)) (faults faults_now : ℕ) → Type 0
WritesListing went.Done text tape before now faults faults_now =
    ((v : Volume) → volume_shown tape ≡ Some (Some v) → Appends before now (text v)) × (faults_now ≡ faults)
WritesListing went.Unwritten text tape before now faults faults_now =
    ((v : Volume) → volume_shown tape ≡ Some (Some v) → WritesFront before now (text v)) × Rose faults faults_now
WritesListing went.OutOfMemory text tape before now faults faults_now = (tape ≡ None) × WritesNothing before now faults faults_now
WritesListing _ text tape before now faults faults_now = ⊥

-- the job went so by the reply of the volume
abbrev pub WentBy : Reply → Went → (Volume → List ℕ) → Option Tape → (before now : Option (List ℕ)) (faults faults_now : ℕ) → Type 0
WentBy reply.Ok w text tape before now faults faults_now = WritesListing w text tape before now faults faults_now
WentBy (reply.No code) w text tape before now faults faults_now = (w ≡ went.Refused code) × WritesNothing before now faults faults_now
WentBy reply.FaultMedium w text tape before now faults faults_now = (w ≡ went.Fault) × WritesNothing before now faults faults_now
WentBy reply.FaultFrame w text tape before now faults faults_now = ⊥

-- The volume was listed, and by its reply the job went so.
pub record ListedSo (w : Went) (style : Style) (all : Bool) (s t : Mounted) (before now : Option (List ℕ)) (faults faults_now : ℕ) : Type 0 where
  pub answer : Reply
  pub did : CommandDid Dir answer s t
  pub went_so : WentBy answer w (volume_text style all t.records) t.tape before now faults faults_now

-- The volume was listed; or there was no memory for its text, and then nothing was read or written.
abbrev pub DirDid : (w : Went) (style : Style) (all : Bool) (s t : Mounted) (before now : Option (List ℕ)) (faults faults_now : ℕ) → Type 0
DirDid w style all s t before now faults faults_now =
    DoneOrNot (λ w s t. ListedSo w style all s t before now faults faults_now) (WritesNothing before now faults faults_now) w s t
