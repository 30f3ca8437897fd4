-- What a host does before a command of the volume: the store is made sound, and a packing that was stopped is finished.
use Rattle.std.specs.Prelude.{◌≡◌, ◌⊎◌, true, false, if◌then◌else◌, None, Result, Ok, Err, OnOk, IfErr, is_some}
use Rattle.lif_model.specs.Tape.{Tape}
use Rattle.il_ports.specs.Media.{MediumView}
use Rattle.il_ports.specs.Stores.{RecordsView, Continues, GoesOn}
use Rattle.il_ports.specs.declared.records.Trouble.{Trouble}
use Rattle.lif_volume.specs.Views.{VolumeView, IsOpen}
use Rattle.lif_volume.specs.Commands.{IsTold}
use Rattle.lif_volume.specs.Changing.{SettlesForeign}
use Rattle.lif_volume.specs.declared.volume.Volume.{Volume}
use Rattle.lif_pack.specs.Tasks.{KeepsShown, MountsUnmarked, SettlesUnmarked}
use Rattle.lif_model.specs.Finished.{IsFinished}
use Rattle.il_ring.specs.declared.ring.Ring.{Ring}
use Rattle.il_ring.specs.Rings.{RingView}
use Rattle.il_record.specs.declared.records.LoopRecords.{LoopRecords}
use Rattle.il_host.specs.HostView.{calls_to_pack}
use Rattle.il_host.specs.Hosts.{loop_in, store_in, volume_in}
use Rattle.il_host.specs.Standings.{MakesSound}

-- What finishing a packing does to a volume.
pub record Finishes {R S T : Type 0} (view : R → RecordsView S) (old new : VolumeView R) (answer : Result T Trouble) : Type 0 where
  pub goes_on : GoesOn (calls_to_pack (view old.records).record_count) (view old.records) (view new.records) answer
  pub finished : OnOk answer ((t : Tape) → IsTold view old t → (u : Tape) × IsTold view new u × IsFinished t u)
  pub shown : KeepsShown view old new
  pub foreign : SettlesForeign view old new
  pub mounts : MountsUnmarked view old new answer
  pub writes : SettlesUnmarked view old new answer
  pub forgets : IfErr answer (λ e. new.kept ≡ None)

-- The store could not be made sound.
pub record StaysUnsound {M I : Type 0} {D : I → Type 0} (view : M → MediumView) (seen : Ring M I D → RingView M)
    (old new : Volume (LoopRecords M I D)) (e : Trouble) : Type 0 where
  pub makes : MakesSound {T = Unit {0}} view (loop_in seen old.records) (loop_in seen new.records) (Err e)
  pub sounds : Continues {T = Unit {0}} 1 (store_in view seen old.records) (store_in view seen new.records) (Err e)
  pub kept : new.kept ≡ (if old.records.sound then old.kept else None)

-- It was made sound as m; and where no directory is kept then, a packing is finished.
pub record IsMadeSound {M I : Type 0} {D : I → Type 0} (view : M → MediumView) (seen : Ring M I D → RingView M)
    (old m new : Volume (LoopRecords M I D)) (answer : Result (Unit {0}) Trouble) : Type 0 where
  pub makes : MakesSound {T = Unit {0}} view (loop_in seen old.records) (loop_in seen m.records) (Ok tt)
  pub sounds : Continues {T = Unit {0}} 1 (store_in view seen old.records) (store_in view seen m.records) (Ok tt)
  pub opens : IsOpen (store_in view seen) (volume_in m)
  pub kept : m.kept ≡ (if old.records.sound then old.kept else None)
  pub still : is_some m.kept ≡ true → (new ≡ m) × (answer ≡ Ok tt)
  pub finishes : is_some m.kept ≡ false → Finishes (store_in view seen) (volume_in m) (volume_in new) answer

abbrev pub IfUnsound : {M I : Type 0} {D : I → Type 0} → (M → MediumView) → (Ring M I D → RingView M) → (old new : Volume (LoopRecords M I D))
    → Result (Unit {0}) Trouble → Type 0
IfUnsound view seen old new (Ok x) = ⊥
IfUnsound view seen old new (Err e) = StaysUnsound view seen old new e

abbrev pub Prepares : {M I : Type 0} {D : I → Type 0} → (M → MediumView) → (Ring M I D → RingView M) → (old new : Volume (LoopRecords M I D))
    → Result (Unit {0}) Trouble → Type 0
Prepares {M} {I} {D} view seen old new answer =
    IfUnsound view seen old new answer ⊎ ((m : Volume (LoopRecords M I D)) × IsMadeSound view seen old m new answer)
