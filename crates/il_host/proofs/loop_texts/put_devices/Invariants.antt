use Rattle.std.proofs.Common.{◌≡◌, ◌≤◌, ◌+◌, ◌*◌, ◌++◌, length, take}
use Rattle.host_model.specs.Replies.{device_lines}
use Rattle.il_host.proofs.loop_texts.put_devices.Given as goal

abbrev pub invariant-loop-place : goal.invariant-loop-place
invariant-loop-place l = record {
  text : l.page.text ≡ l.fn.page.text ++ device_lines 1 (take l.place l.ids.items);
  room : l.page.room ≡ l.fn.page.room;
  size : length l.page.text ≤ length l.fn.page.text + 21 * l.place;
}
