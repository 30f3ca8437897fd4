use Rattle.std.proofs.Common.{◌≡◌, ◌+◌, ◌++◌, ◌∷◌, ◌∙◌, [], ap, arith, drop, length, length-append, map, rules, sym}
use Rattle.std.specs.Prelude.{Vec}
use Rattle.std.specs.declared.alloc.Global.{Global}
use Rattle.lif_dir.specs.declared.entries.Name.{Name}
use Rattle.tape_volumes.proofs.Rooms.{pushed}
use Rattle.tape_incoming.specs.Incoming.{names_stated}
use Rattle.tape_incoming.proofs.OneByOne.{stated_none, stated_one}
use Rattle.tape_incoming.proofs.arriving.names_stated.Goals as goal
use Rattle.tape_incoming.proofs.arriving.names_stated.Goals.{in-Some, in_default}

pub paths-preserved : goal.paths-preserved
paths-preserved c =
    let held = c.paths.invariant in
    let room = held.room in
    elim c.match-entry_stated.branch [
      | in-Some w ↦
          let entry = w.in-Some.entry in
          let more : w.push.new.self.items ≡ c.paths.names.items ++ entry.name ∷ [] = pushed _ _ _ _ _ _ w.push.ensures.full (omega (arith, room, c.paths-test.true, held.space)) w.push.ensures.items in
          let now_is : c.match-entry_stated.names.items ≡ c.paths.names.items ++ entry.name ∷ [] = ap (λ (v : Vec Name Global). v.items) w.names-is ∙ more in
          let long = ap length now_is in
          let both = length-append c.paths.names.items (entry.name ∷ []) in
          record {
            stated = stated_one c.args.paths.now c.paths.path-index (record { ref_ptr = (0, 0); now = [] }) c.paths-test.true c.paths.names.items c.match-entry_stated.names.items _ entry now_is (sym c.entry_stated.ensures ∙ w.in-Some.is) held.stated;
            room = omega (arith, long, both, room);
            space = search rules;
          }
      | in_default w ↦
          record {
            stated = ap (λ (v : Vec Name Global). v.items ++ names_stated (drop (c.paths.path-index + 1) (map (λ path. path.now) c.args.paths.now))) w.names-is ∙ stated_none c.args.paths.now c.paths.path-index (record { ref_ptr = (0, 0); now = [] }) c.paths-test.true c.paths.names.items _ (sym c.entry_stated.ensures ∙ w.in_default.is) held.stated;
            room = let same = ap (λ (v : Vec Name Global). length v.items) w.names-is in omega (arith, same, room);
            space = search rules;
          }
    ]
