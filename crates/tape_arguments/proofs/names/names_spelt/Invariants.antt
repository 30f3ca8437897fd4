use Rattle.std.proofs.Common.{◌≡◌, ◌≤◌, map, drop, length}
use Rattle.std.specs.Vec.{vec_capacity}
use Rattle.tape_arguments.specs.Names.{names_spelt, unspelt}
use Rattle.tape_arguments.proofs.Spelt.{with_names}
use Rattle.tape_arguments.proofs.names.names_spelt.Given as goal

abbrev pub invariant-texts : goal.invariant-texts
invariant-texts l = record {
  read : with_names l.names.items (names_spelt (drop l.text-index (map (λ text. text.now) l.texts))) ≡ names_spelt (map (λ text. text.now) l.texts);
  first : unspelt (drop l.text-index (map (λ text. text.now) l.texts)) ≡ unspelt (map (λ text. text.now) l.texts);
  room : length l.names.items ≡ l.text-index;
  space : length l.texts ≤ vec_capacity l.names;
}
