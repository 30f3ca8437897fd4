use Rattle.std.proofs.Common.{◌≡◌, ◌++◌, ◌∷◌, ◌∙◌, ◌+◌, List, [], ap, arith, rules, drop, map, length, length-append}
use Rattle.lif_dir.specs.declared.entries.Name.{Name}
use Rattle.tape_arguments.specs.Names.{names_spelt}
use Rattle.tape_volumes.proofs.Rooms.{pushed}
use Rattle.tape_arguments.proofs.Spelt.{first_unspelt, names_more, no_names, unspelt_more, with_names}
use Rattle.tape_arguments.proofs.names.names_spelt.Goals as goal

pub returns-in-None-clause-refused : goal.returns-in-None-clause-refused
returns-in-None-clause-refused c = (
  no_names c.args.texts.now c.texts.text-index _ c.texts-test.true c.texts.names.items c.name_spelt.result c.name_spelt.ensures c.in-None.is c.texts.invariant.read,
  first_unspelt c.args.texts.now c.texts.text-index _ c.texts-test.true c.name_spelt.result c.name_spelt.ensures c.in-None.is c.texts.invariant.first,
)

pub texts-preserved : goal.texts-preserved
texts-preserved c =
    let held = c.texts.invariant in
    let count = held.room in
    let more : c.push.new.self.items ≡ c.texts.names.items ++ c.in-Some.name ∷ [] = pushed _ _ _ _ _ _ c.push.ensures.full (omega (arith, count, c.texts-test.true, held.space)) c.push.ensures.items in
    let long = ap length more in
    let both = length-append c.texts.names.items (c.in-Some.name ∷ []) in
    record {
      read = ap (λ (names : List Name). with_names names (names_spelt (drop (c.texts.text-index + 1) (map (λ text. text.now) c.args.texts.now)))) more
          ∙ names_more c.args.texts.now c.texts.text-index _ c.texts-test.true c.texts.names.items c.in-Some.name c.name_spelt.result c.name_spelt.ensures c.in-Some.is held.read;
      first = unspelt_more c.args.texts.now c.texts.text-index _ c.texts-test.true c.in-Some.name c.name_spelt.result c.name_spelt.ensures c.in-Some.is held.first;
      room = omega (arith, long, both, count);
      space = search rules;
    }
