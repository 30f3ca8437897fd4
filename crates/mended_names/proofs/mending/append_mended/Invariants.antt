use Rattle.std.proofs.Common.{◌≡◌, ◌+◌, ◌≤◌, ◌++◌, map, take, length}
use Rattle.mended_names.specs.Mending.{mended_byte}
use Rattle.mended_names.proofs.mending.append_mended.Given as goal

abbrev pub invariant-bytes : goal.invariant-bytes
invariant-bytes l = record {
  items : l.base.items ≡ l.initial.base.items ++ map mended_byte (take l.byte-index l.byte-items);
  room : length l.base.items + length l.byte-items ≤ 10 + l.byte-index;
}
