use Rattle.std.proofs.Common.{◌≡◌, ◌≤◌, ◌+◌, ◌-◌, ◌*◌, ◌++◌, length}
use Rattle.il_host.proofs.Statuses.{lines_to}
use Rattle.il_host.proofs.loop_texts.put_statuses.Given as goal

abbrev pub invariant-loop-address : goal.invariant-loop-address
invariant-loop-address l = record {
  text : l.page.text ≡ l.fn.page.text ++ lines_to l.own l.log (l.address - 1);
  room : l.page.room ≡ l.fn.page.room;
  size : length l.page.text + 20 ≤ length l.fn.page.text + 20 * l.address;
  first : 1 ≤ l.address;
  within : l.address ≤ l.last + 1;
}
