-- The text of a directory that is kept in memory is that of the volume.
use Rattle.std.proofs.Common.{◌≡◌, ◌≢◌, ◌∙◌, ℕ, Bool, List, Option, Some, refl, sym, ap, subst}
use Rattle.std.specs.Io.KnownBytes.{Appends}
use Rattle.lif_model.specs.Header.{HeaderParts, header_of}
use Rattle.lif_model.specs.Tape.{Tape}
use Rattle.lif_model.specs.Volume.{Volume}
use Rattle.lif_dir.specs.declared.entries.Slot.{Slot}
use Rattle.il_ports.specs.Writing.{WritesFront}
use Rattle.tape_jobs.specs.Dir.{WritesListing, styled_text, volume_text}
use Rattle.tape_volumes.specs.Outputs.{WritesText}
use Rattle.tape_volumes.specs.Volumes.{IsDirectoryAt, volume_shown}
use Rattle.tape_jobs.specs.declared.listing.Style.{Style}
use Rattle.tape_volumes.specs.declared.went.Went.{Went}
use Rattle.tape_volumes.specs.declared.went.Went.TheVariants as went

module _ (style : Style) (all : Bool) (n : ℕ) (tape : Option Tape) (header : HeaderParts) (slots : List Slot) (is : IsDirectoryAt (volume_shown tape) header slots) where
  is_volume_text : (v : Volume) → volume_shown tape ≡ Some (Some v) → styled_text style all n header slots ≡ volume_text style all n v
  is_volume_text v here =
      let found = is (Some v) here in
      ap (λ (h : HeaderParts). styled_text style all n h slots) found.2.header_is
      ∙ ap (λ (l : List Slot). styled_text style all n (header_of found.0.header) l) found.2.slots_are
      ∙ ap (λ (w : Volume). volume_text style all n w) (sym (same_volume v found.0 (ap Some found.1)))
    where
      same_volume : (v w : Volume) → Some (Some v) ≡ Some (Some w) → v ≡ w
      same_volume v w e = cc

  listed : (w : Went) (before now : Option (List ℕ)) (faults faults_now : ℕ) → w ≢ went.OutOfMemory
      → WritesText w (styled_text style all n header slots) before now faults faults_now → WritesListing w (volume_text style all n) tape before now faults faults_now
  listed went.Done before now faults faults_now memory writes = (λ v here. subst (Appends before now) (is_volume_text v here) writes.0, writes.1)
  listed went.Unwritten before now faults faults_now memory writes = (λ v here. subst (WritesFront before now) (is_volume_text v here) writes.0, writes.1)
  listed went.OutOfMemory before now faults faults_now memory writes = absurd (memory refl)
  listed (went.Refused code) before now faults faults_now memory writes = absurd writes
  listed went.Fault before now faults faults_now memory writes = absurd writes
  listed went.NoSize before now faults faults_now memory writes = absurd writes
  listed went.FolderLost before now faults faults_now memory writes = absurd writes
  listed went.NotAll before now faults faults_now memory writes = absurd writes

  -- this text was made of these parts, and written
  pub writes_listing : (size : ℕ) (first : HeaderParts) (entries : List Slot) → size ≡ n → first ≡ header → entries ≡ slots → (text : List ℕ) → text ≡ styled_text style all size first entries
      → (w : Went) (before now : Option (List ℕ)) (faults faults_now : ℕ) → w ≢ went.OutOfMemory → WritesText w text before now faults faults_now → WritesListing w (volume_text style all n) tape before now faults faults_now
  writes_listing size first entries sizes headers tables text is_text w before now faults faults_now memory writes =
      listed w before now faults faults_now memory (subst (λ (text : List ℕ). WritesText w text before now faults faults_now) (is_text ∙ (λ i. styled_text style all (sizes i) (headers i) (tables i))) writes)
