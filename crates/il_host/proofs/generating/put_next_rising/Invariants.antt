use Rattle.std.proofs.Common.{◌≡◌, ◌+◌, ◌*◌, ◌++◌, length}
use Rattle.hex.specs.Hex.{encode_upper}
use Rattle.il_script.specs.Replies.{next}
use Rattle.host_model.specs.Generated.{rising}
use Rattle.il_host.proofs.generating.put_next_rising.Given as goal

abbrev pub invariant-loop-place : goal.invariant-loop-place
invariant-loop-place l = record {
  text : l.page.text ≡ l.fn.page.text ++ next (encode_upper (rising l.first l.place));
  room : l.page.room ≡ l.fn.page.room;
  size : length l.page.text ≡ length l.fn.page.text + 2 * l.place + 1;
}
