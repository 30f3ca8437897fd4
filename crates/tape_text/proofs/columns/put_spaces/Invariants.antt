use Rattle.std.proofs.Common.{◌≡◌, ◌++◌, replicate}
use Rattle.tape_text.proofs.columns.put_spaces.Given as goal

abbrev pub invariant-spaces : goal.invariant-spaces
invariant-spaces l = record {
  text : l.page.text ≡ l.fn.page.text ++ replicate l.i 32;
  room : l.page.room ≡ l.fn.page.room;
}
