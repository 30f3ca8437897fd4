use Rattle.std.proofs.Common.{◌≡◌, ◌≤◌, ◌+◌, ◌*◌, ◌++◌, length, take, map}
use Rattle.std.specs.List.{flat_map}
use Rattle.lif_dir.specs.Entries.{slot_bytes}
use Rattle.host_model.specs.Listing.{volume_line, slot_lines}
use Rattle.il_host.specs.Texts.{parts_of}
use Rattle.il_host.proofs.listing.put_listing.Given as goal

abbrev pub invariant-loop-place : goal.invariant-loop-place
invariant-loop-place l = record {
  text : l.page.text ≡ l.fn.page.text ++ (volume_line (parts_of l.listing) (length l.slots.slots) ++ flat_map slot_lines (take l.place (map slot_bytes l.slots.slots)));
  room : l.page.room ≡ l.fn.page.room;
  size : length l.page.text ≤ length l.fn.page.text + 72 * (l.place + 1);
}
