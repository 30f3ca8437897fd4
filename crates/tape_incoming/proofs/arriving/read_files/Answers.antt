use Rattle.std.proofs.Common.{◌≡◌, ◌+◌, ◌++◌, ◌∷◌, ◌∙◌, Bor, ℕ, List, [], Option, ap, arith, drop, get_or, length, map, refl, rules, subst}
use Rattle.std.specs.Prelude.{Vec}
use Rattle.std.specs.declared.alloc.Global.{Global}
use Rattle.std.proofs.lemmas.List.{drop_all, drop-drop, length-drop, length-map}
use Rattle.tape_changes.specs.Storing.{IsStorable}
use Rattle.tape_changes.specs.declared.storing.Incoming.{Incoming}
use Rattle.tape_volumes.proofs.Rooms.{pushed}
use Rattle.tape_incoming.specs.declared.arriving.Refused.{Refused}
use Rattle.mended_names.specs.Mending.{names_for}
use Rattle.lif_dir.specs.declared.names.NewName.{NewName}
use Rattle.tape_incoming.specs.Incoming.{Arrive, ByEntry, entry_stated, names_stated, refused_file}
use Rattle.tape_incoming.proofs.OneByOne.{AddsLast, adds_all, adds_count, adds_err, adds_ok, given_length, joins_all, joins_next, joins_none, names_left, rest_of, some_left, stated_here, words_here}
use Rattle.tape_incoming.proofs.arriving.read_files.Goals as goal
use Rattle.tape_incoming.proofs.arriving.read_files.Goals.{in-Ok, in-Err}

pub paths-init : goal.paths-init
paths-init g c =
    let words = map (λ path. path.now) c.args.paths.now in
    let given_is : c.in_ok-given.given.items ≡ names_for c.args.mend (names_stated words) = c.in_ok-given.ensures ∙ ap (names_for c.args.mend) (c.deref.ensures.value ∙ c.in_ok-names.ensures) in
    record {
      joins = joins_none g.F.TapeFile.view g.I.Images.view words words c.in_ok-given.given.items c.in_ok-given.given.items c.args.host.now c.in_ok-files.files.items c.in_ok-refused.refused.items refl refl c.in_ok-files.ensures.items c.in_ok-refused.ensures.items;
      within = search rules;
      left = ap length given_is ∙ given_length c.args.mend (names_stated words);
      storable = search rules;
      count = search rules;
      space = search rules;
      place_for = search rules;
    }

pub read_path-requires : goal.read_path-requires
read_path-requires g c = record {
  enough = λ some.
      let left = c.paths.invariant.left in
      let here = ap length (stated_here c.args.paths.now c.paths.path-index (record { ref_ptr = (0, 0); now = [] }) c.paths-test.true) in
      let lt = some_left _ (names_stated (drop (c.paths.path-index + 1) (map (λ path. path.now) c.args.paths.now))) some in
      let rest = ap length (rest_of c.deref-in-paths.result.now c.in_ok-given.given.items c.paths.place c.deref-in-paths.ensures.value) in
      omega (arith, left, here, lt, rest);
}

pub paths-preserved : goal.paths-preserved
paths-preserved g c =
    let held = c.paths.invariant in
    let words = map (λ path. path.now) c.args.paths.now in
    let given = c.in_ok-given.given.items in
    let i = c.paths.path-index in
    let place = c.paths.place in
    let used = c.in_ok-outcome.used in
    let none : Bor (List ℕ) = record { ref_ptr = (0, 0); now = [] } in
    let path = (get_or c.args.paths.now i none).now in
    let count = held.count in
    let within = held.within in
    let fits = c.in_ok-outcome.ensures.used in
    let names_are = rest_of c.deref-in-paths.result.now given place c.deref-in-paths.ensures.value in
    let size = ap length names_are in
    let dropped = length-drop place given in
    let by : ByEntry g.F.TapeFile.view g.I.Images.view path (entry_stated path) (drop place given) (drop (place + used) given) c.paths.host c.read_path.new.host c.in_ok-outcome.outcome =
    subst (λ (rest : List (Option NewName)). ByEntry g.F.TapeFile.view g.I.Images.view path (entry_stated path) (drop place given) rest c.paths.host c.read_path.new.host c.in_ok-outcome.outcome) (drop-drop used place given)
    (subst (λ (names : List (Option NewName)). ByEntry g.F.TapeFile.view g.I.Images.view path (entry_stated path) names (drop used names) c.paths.host c.read_path.new.host c.in_ok-outcome.outcome) names_are c.in_ok-outcome.ensures.read) in
    let left = names_left g.F.TapeFile.view g.I.Images.view path (entry_stated path) (drop place given) (drop (place + used) given) c.paths.host c.read_path.new.host c.in_ok-outcome.outcome (names_stated (drop (i + 1) words)) by
    (held.left ∙ ap length (stated_here c.args.paths.now i none c.paths-test.true)) in
    elim c.match-outcome.branch [
      | in-Ok w ↦
          let file = w.in-Ok.file in
          let more : w.push.new.self.items ≡ c.paths.files.items ++ file ∷ [] = pushed _ _ _ _ _ _ w.push.ensures.full (omega (arith, count, c.paths-test.true, held.space)) w.push.ensures.items in
          let adds : AddsLast path c.in_ok-outcome.outcome c.paths.files.items c.match-outcome.files.items c.paths.refused.items c.match-outcome.refused.items =
          adds_ok path c.in_ok-outcome.outcome file c.paths.files.items c.match-outcome.files.items c.paths.refused.items c.match-outcome.refused.items w.in-Ok.is
          (ap (λ (v : Vec Incoming Global). v.items) w.files-is ∙ more) (ap (λ (v : Vec Refused Global). v.items) w.refused-is) in
          let many = adds_count path c.in_ok-outcome.outcome c.paths.files.items c.match-outcome.files.items c.paths.refused.items c.match-outcome.refused.items adds in
          record {
            joins = joins_next g.F.TapeFile.view g.I.Images.view words given c.args.host.now c.paths.host c.paths.files.items c.paths.refused.items (drop i words) path (drop (i + 1) words) (drop place given) (drop (place + used) given) c.read_path.new.host
                c.in_ok-outcome.outcome c.match-outcome.files.items c.match-outcome.refused.items (words_here c.args.paths.now i none c.paths-test.true) held.joins by adds;
            within = omega (arith, within, fits, size, dropped);
            left = left;
            storable = adds_all IsStorable path c.in_ok-outcome.outcome c.paths.files.items c.match-outcome.files.items c.paths.refused.items c.match-outcome.refused.items adds c.in_ok-outcome.ensures.storable held.storable;
            count = omega (arith, many, count);
            space = search rules;
            place_for = search rules;
          }
      | in-Err w ↦
          let made : Refused = record { path = get_or c.args.paths.now i none; why = w.in-Err.why } in
          let more : w.push-in-Err.new.self.items ≡ c.paths.refused.items ++ made ∷ [] = pushed _ _ _ _ _ _ w.push-in-Err.ensures.full (omega (arith, count, c.paths-test.true, held.place_for)) w.push-in-Err.ensures.items in
          let adds : AddsLast path c.in_ok-outcome.outcome c.paths.files.items c.match-outcome.files.items c.paths.refused.items c.match-outcome.refused.items =
          adds_err path c.in_ok-outcome.outcome made c.paths.files.items c.match-outcome.files.items c.paths.refused.items c.match-outcome.refused.items w.in-Err.is
          (ap (λ (v : Vec Incoming Global). v.items) w.files-is) (ap (λ (v : Vec Refused Global). v.items) w.refused-is ∙ more) refl in
          let many = adds_count path c.in_ok-outcome.outcome c.paths.files.items c.match-outcome.files.items c.paths.refused.items c.match-outcome.refused.items adds in
          record {
            joins = joins_next g.F.TapeFile.view g.I.Images.view words given c.args.host.now c.paths.host c.paths.files.items c.paths.refused.items (drop i words) path (drop (i + 1) words) (drop place given) (drop (place + used) given) c.read_path.new.host
                c.in_ok-outcome.outcome c.match-outcome.files.items c.match-outcome.refused.items (words_here c.args.paths.now i none c.paths-test.true) held.joins by adds;
            within = omega (arith, within, fits, size, dropped);
            left = left;
            storable = adds_all IsStorable path c.in_ok-outcome.outcome c.paths.files.items c.match-outcome.files.items c.paths.refused.items c.match-outcome.refused.items adds c.in_ok-outcome.ensures.storable held.storable;
            count = omega (arith, many, count);
            space = search rules;
            place_for = search rules;
          }
    ]

pub returns-clause-read : goal.returns-clause-read
returns-clause-read g c =
    let words = map (λ path. path.now) c.args.paths.now in
    let given_is : c.in_ok-given.given.items ≡ names_for c.args.mend (names_stated words) = c.in_ok-given.ensures ∙ ap (names_for c.args.mend) (c.deref.ensures.value ∙ c.in_ok-names.ensures) in
    let size = length-map c.args.paths.now (λ path. path.now) in
    subst (λ (names : List (Option NewName)). Arrive g.F.TapeFile.view g.I.Images.view words names c.args.host.now c.paths.host c.paths.files.items (map refused_file c.paths.refused.items)) given_is
    (joins_all g.F.TapeFile.view g.I.Images.view words (drop c.paths.path-index words) c.in_ok-given.given.items (drop c.paths.place c.in_ok-given.given.items) c.args.host.now c.paths.host c.paths.files.items c.paths.refused.items
    (drop_all c.paths.path-index words (omega (arith, c.paths-test.false, size))) c.paths.invariant.joins)
