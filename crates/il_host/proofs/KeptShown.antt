-- What a host keeps of a directory is that of the volume which is shown.
use Rattle.std.proofs.Common.{◌≡◌, ◌∙◌, ℕ, false, List, map, Option, Some, ap, subst}
use Rattle.std.specs.Prelude.{IfSome, is_some, length, option_and_then}
use Rattle.lif_model.specs.Header.{HeaderParts}
use Rattle.lif_model.specs.Directory.{slots_of}
use Rattle.lif_model.specs.Packing.{finished_volume_of, has_mark}
use Rattle.lif_model.specs.Tape.{Tape, record_at}
use Rattle.lif_model.specs.Volume.{files_of, volume_in, volume_of}
use Rattle.lif_model.proofs.Directory.{volume_from}
use Rattle.lif_dir.specs.Entries.{slot_bytes}
use Rattle.lif_pack.proofs.Finishes.{unmarked_volume}
use Rattle.lif_dir.specs.declared.entries.Slot.{Slot}
use Rattle.lif_volume.specs.Views.{IsDirectoryOf}
use Rattle.lif_volume.specs.declared.volume.Volume.{Volume as Records}
use Rattle.il_ports.specs.Media.{MediumView, IsMedium}
use Rattle.il_ring.specs.declared.ring.Ring.{Ring}
use Rattle.il_ring.specs.Rings.{RingView}
use Rattle.il_record.specs.declared.records.LoopRecords.{LoopRecords}
use Rattle.il_host.specs.Hosts as host
use Rattle.il_host.specs.Hosts.{Space, IsUsable, host_in, loop_in, store_in}
use Rattle.il_host.specs.Kept.{TellsKept}

module _ {M I : Type 0} {D : I → Type 0} (view : M → MediumView) (seen : Ring M I D → RingView M) (law : (x : M) → IsMedium (view x))
    (v : Records (LoopRecords M I D)) (text : List ℕ) (text_space : ℕ) (space : Space)
    (usable : IsUsable view (store_in view seen) (host.volume_in v) (loop_in seen v.records) text_space space) where
  pub kept_shown : (header : HeaderParts) (slots : List Slot) → v.kept ≡ Some header → slots ≡ (host.volume_in v).slots
      → TellsKept (host_in view seen v text text_space space).state header slots
  kept_shown header slots kept same t told =
      let known : IsDirectoryOf t header (host.volume_in v).slots = subst (λ (k : Option HeaderParts). IfSome k (λ h. IsDirectoryOf t h (host.volume_in v).slots)) kept (usable.volume_open.known t told) in
      let clear : has_mark (length t) (volume_of t) ≡ false = ap (λ (k : ℕ). has_mark k (volume_of t)) ((law (loop_in seen v.records).ring.drive.medium).is_tape t told).records ∙ usable.unmarked t told (ap is_some kept) in (
        record { header = record_at t 0; slots = slots_of t; files = files_of t (slots_of t) },
        ap (λ (tape : Option Tape). option_and_then finished_volume_of tape) told ∙ unmarked_volume t clear ∙ ap volume_in known.settled ∙ volume_from t known.directory.legal,
        known.directory.header,
        ap (map slot_bytes) same ∙ known.directory.bytes,
        same ∙ known.directory.slots,
      )
