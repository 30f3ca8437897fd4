use Rattle.std.proofs.Common.{◌≡◌, ◌≤◌, ◌+◌, ◌*◌, ◌++◌, length, take}
use Rattle.tape_text.specs.Picture.{xml_text}
use Rattle.tape_text.proofs.picture.put_xml.Given as goal

abbrev pub invariant-bytes : goal.invariant-bytes
invariant-bytes l = record {
  text : l.page.text ≡ l.fn.page.text ++ xml_text (take l.byte-index l.text);
  size : length l.page.text ≤ length l.fn.page.text + 5 * l.byte-index;
  room : l.page.room ≡ l.fn.page.room;
}
