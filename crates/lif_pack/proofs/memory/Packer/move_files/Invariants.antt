use Rattle.std.proofs.Common.{◌≡◌, ◌≤◌, ◌-◌, ◌*◌}
use Rattle.std.specs.Prelude.{Some, Ok}
use Rattle.lif_model.specs.Tape.{Tape}
use Rattle.lif_model.specs.declared.version.Version.TheVariants.{Two}
use Rattle.lif_model.specs.Redo.{redo_start, IsSettled}
use Rattle.il_ports.specs.Stores.{GoesOn, RunLeaves}
use Rattle.lif_pack.specs.Packers.{slots_held}
use Rattle.lif_pack.specs.Steps.{MayPack, ArePlaced, OfSlots, HasSlotsOf, ArePackedAlike}
use Rattle.lif_pack.specs.Tasks.{KeepsFiles}
use Rattle.lif_pack.proofs.memory.Packer.move_files.Given as goal

abbrev pub invariant-loop-slot : goal.invariant-loop-slot
invariant-loop-slot g l = record {
  goes_on : GoesOn {T = Unit {0}} (15 * (l.next - l.fn.place)) (g.R.Records.view l.initial.records) (g.R.Records.view l.records) (Ok tt);
  room : l.self.slots.room ≡ l.initial.self.slots.room;
  settled : (t : Tape) → (g.R.Records.view l.records).tape ≡ Some t → IsSettled t;
  may : MayPack (g.R.Records.view l.initial.records).record_count l.fn.found.first l.fn.found.end l.fn.found.redo (slots_held l.self);
  placed : ArePlaced l.fn.found.end l.slot l.next (slots_held l.self);
  alike : ArePackedAlike (g.R.Records.view l.initial.records).record_count l.fn.found.end (slots_held l.initial.self) (slots_held l.self);
  onward : l.fn.place ≤ l.next;
  below : l.next ≤ redo_start Two (g.R.Records.view l.initial.records).record_count;
  moves : (t : Tape) → (g.R.Records.view l.initial.records).tape ≡ Some t → (x : Tape) × ((g.R.Records.view l.records).tape ≡ Some x)
      × HasSlotsOf l.fn.found.first l.fn.found.end (slots_held l.initial.self) (slots_held l.self) t x;
  idle : l.slot ≡ l.fn.from → (l.records ≡ l.initial.records) × (slots_held l.self ≡ slots_held l.initial.self);
  stops : (t : Tape) → (g.R.Records.view l.initial.records).tape ≡ Some t → OfSlots l.fn.found.first l.fn.found.end (slots_held l.initial.self) t (λ v.
      RunLeaves (g.R.Records.view l.initial.records) (g.R.Records.view l.records) (KeepsFiles (g.R.Records.view l.initial.records).record_count t));
}
