use Rattle.std.proofs.Common.{◌≡◌, ◌≤◌, ◌+◌, ◌*◌, ◌++◌, length, take}
use Rattle.std.specs.List.{flat_map}
use Rattle.tape_names.specs.HostNames.{host_byte}
use Rattle.tape_names.proofs.host_names.put_host_rest.Given as goal

abbrev pub invariant-loop-byte : goal.invariant-loop-byte
invariant-loop-byte l = record {
  text : l.page.text ≡ l.fn.page.text ++ flat_map host_byte (take l.byte-index l.rest);
  room : l.page.room ≡ l.fn.page.room;
  size : length l.page.text ≤ length l.fn.page.text + 3 * l.byte-index;
}
