use Rattle.std.proofs.Common.{◌≡◌, ◌+◌, ◌*◌, ◌++◌, length}
use Rattle.hex.specs.Hex.{encode_upper}
use Rattle.il_script.proofs.page.Page.put_hex.Given as goal

abbrev pub invariant-pieces : goal.invariant-pieces
invariant-pieces l = record {
  text : l.self.text ++ encode_upper l.rest ≡ l.fn.self.text ++ encode_upper l.bytes;
  room : l.self.room ≡ l.fn.self.room;
  size : length l.self.text + 2 * length l.rest ≡ length l.fn.self.text + 2 * length l.bytes;
}

abbrev pub decreases-pieces : goal.decreases-pieces
decreases-pieces l = length l.rest
