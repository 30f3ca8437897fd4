use Rattle.std.proofs.Common.{◌≡◌, ◌≤◌, ◌<◌, true, take}
use Rattle.std.specs.List.{list_all}
use Rattle.lif_dir.specs.Names.{is_digit}
use Rattle.il_script.specs.Digits.{value_of}
use Rattle.il_script.proofs.digits.read_number.Given as goal

abbrev pub invariant-loop-digit : goal.invariant-loop-digit
invariant-loop-digit l = record {
  digits : list_all is_digit (take l.digit-index l.text) ≡ true;
  value : l.value ≡ value_of (take l.digit-index l.text);
  least : 0 < l.digit-index → 0 < l.value;
  bound : l.value ≤ l.most;
}
