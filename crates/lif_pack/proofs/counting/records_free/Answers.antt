use Rattle.std.proofs.Common.{◌≡◌, ap, arith, filter, map, take, ◌∙◌}
use Rattle.std.proofs.lemmas.List.{length-map}
use Rattle.lif_model.specs.Volume.{is_file}
use Rattle.lif_dir.specs.Entries.{slot_bytes}
use Rattle.lif_model.specs.Packing.{live_records}
use Rattle.lif_pack.proofs.Placing.{redo_lies}
use Rattle.lif_pack.proofs.Counted.{files_before, records_of_live, room_for_files}
use Rattle.lif_pack.proofs.counting.records_free.Goals as goal

pub records_before-requires-clause-within : goal.records_before-requires-clause-within
records_before-requires-clause-within c =
    let slots = map slot_bytes c.args.slots.now.slots in
    omega (arith, redo_lies c.args.size c.requires.may.0 c.args.end c.args.redo slots c.requires.may.1, length-map c.args.slots.now.slots slot_bytes)

pub overflow_add-used : goal.overflow_add-used
overflow_add-used c =
    let slots = map slot_bytes c.args.slots.now.slots in
    omega (arith, room_for_files c.args.size c.requires.may.0 c.args.end c.args.redo slots c.requires.may.1, c.records_before.ensures, c.from.ensures)

pub overflow_cast-result : goal.overflow_cast-result
overflow_cast-result c =
    let slots = map slot_bytes c.args.slots.now.slots in
    omega (arith, room_for_files c.args.size c.requires.may.0 c.args.end c.args.redo slots c.requires.may.1, c.records_before.ensures, c.from.ensures, c.start.ensures)

pub overflow_sub-result : goal.overflow_sub-result
overflow_sub-result c =
    let slots = map slot_bytes c.args.slots.now.slots in
    omega (arith, room_for_files c.args.size c.requires.may.0 c.args.end c.args.redo slots c.requires.may.1, c.records_before.ensures, c.from.ensures, c.start.ensures)

pub returns : goal.returns
returns c v same ends =
    let slots = map slot_bytes c.args.slots.now.slots in
    let files : live_records (filter (is_file c.args.size) v.slots) ≡ live_records (take c.args.redo slots) =
    ap (λ xs. live_records (filter (is_file c.args.size) xs)) same
    ∙ ap live_records (files_before c.args.size c.requires.may.0 c.args.end c.args.redo slots c.requires.may.1)
    ∙ records_of_live (take c.args.redo slots) in
    omega (arith, files, ends, c.records_before.ensures, c.from.ensures, c.start.ensures)
