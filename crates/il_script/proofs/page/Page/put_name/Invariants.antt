use Rattle.std.proofs.Common.{◌≡◌, ◌≤◌, ◌+◌, ◌*◌, ◌++◌, length, take}
use Rattle.std.specs.List.{flat_map}
use Rattle.lif_model.specs.Printed.{printed_byte}
use Rattle.il_script.proofs.page.Page.put_name.Given as goal

abbrev pub invariant-loop-byte : goal.invariant-loop-byte
invariant-loop-byte l = record {
  text : l.self.text ≡ l.fn.self.text ++ flat_map printed_byte (take l.byte-index l.kept);
  room : l.self.room ≡ l.fn.self.room;
  size : length l.self.text ≤ length l.fn.self.text + 3 * l.byte-index;
}
