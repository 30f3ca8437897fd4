use Rattle.std.proofs.Common.{◌≡◌, ◌++◌, ◌∷◌, take}
use Rattle.csv.specs.Writing.{default_writer, escaped, quote_mark}
use Rattle.tape_text.proofs.fields.put_quoted.Given as goal

abbrev pub invariant-bytes : goal.invariant-bytes
invariant-bytes l = record {
  text : l.page.text ≡ l.fn.page.text ++ (quote_mark ∷ escaped default_writer (take l.byte-index l.field));
  room : l.page.room ≡ l.fn.page.room;
}
