use Rattle.std.proofs.Common.{◌≡◌, ◌*◌, ℕ, min, length, filter}
use Rattle.std.specs.Prelude.{Some, Ok}
use Rattle.lif_model.specs.Tape.{Tape}
use Rattle.lif_model.specs.Redo.{IsSettled}
use Rattle.lif_model.specs.Legal.{is_live}
use Rattle.lif_model.specs.Header.{directory_start, directory_end}
use Rattle.lif_model.specs.Volume.{Volume, volume_of}
use Rattle.il_ports.specs.Stores.{GoesOn, RunLeaves}
use Rattle.lif_pack.specs.Packers.{slots_held}
use Rattle.lif_pack.specs.Tasks.{KeepsFiles}
use Rattle.lif_pack.specs.Steps.{AreLive, IsGap, MayPack, MayStillPack, TapeHasSlots}
use Rattle.lif_pack.proofs.memory.Packer.close_up.Given as goal

abbrev pub invariant-loop-i : goal.invariant-loop-i
invariant-loop-i g l = record {
  goes_on : GoesOn {T = Unit {0}} (13 * l.i) (g.R.Records.view l.initial.records) (g.R.Records.view l.records) (Ok tt);
  settled : (t : Tape) → (g.R.Records.view l.records).tape ≡ Some t → IsSettled t;
  room : l.self.slots.room ≡ l.initial.self.slots.room;
  long : length (slots_held l.self) ≡ length (slots_held l.initial.self);
  gap : IsGap l.front (min (length (slots_held l.self)) (8 * l.i)) (slots_held l.self);
  live : filter is_live (slots_held l.self) ≡ filter is_live (slots_held l.initial.self);
  may : MayStillPack (g.R.Records.view l.initial.records).record_count l.fn.first (slots_held l.initial.self) (slots_held l.self);
  closes : TapeHasSlots (g.R.Records.view l.initial.records).record_count l.fn.first (slots_held l.initial.self) (slots_held l.self) (g.R.Records.view l.initial.records).tape (g.R.Records.view l.records).tape;
  idle : AreLive (slots_held l.initial.self) → (l.front ≡ min (length (slots_held l.initial.self)) (8 * l.i)) × (l.records ≡ l.initial.records)
      × (slots_held l.self ≡ slots_held l.initial.self);
  stops : (end redo : ℕ) (t : Tape) (v : Volume) → MayPack (g.R.Records.view l.initial.records).record_count l.fn.first end redo (slots_held l.initial.self)
      → (g.R.Records.view l.initial.records).tape ≡ Some t → volume_of t ≡ Some v → v.slots ≡ slots_held l.initial.self → directory_start v.header ≡ l.fn.first → directory_end v.header ≡ end
      → RunLeaves (g.R.Records.view l.initial.records) (g.R.Records.view l.records) (KeepsFiles (g.R.Records.view l.initial.records).record_count t);
}
