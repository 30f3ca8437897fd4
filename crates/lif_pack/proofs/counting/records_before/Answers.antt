use Rattle.std.proofs.Common.{length, ◌<◌, ◌≡◌, [], ap, arith, get_or, map, ◌∙◌}
use Rattle.std.proofs.lemmas.List.{length-map}
use Rattle.lif_dir.specs.Entries.{slot_bytes}
use Rattle.lif_model.specs.Packing.{live_length}
use Rattle.lif_pack.proofs.Walking.{live_more}
use Rattle.lif_pack.proofs.counting.records_before.Goals as goal

pub loop-k-preserved : goal.loop-k-preserved
loop-k-preserved c =
    let slots = map slot_bytes c.args.slots.now.slots in
    let k = c.loop-k.k in
    let lt : k < length slots = omega (arith, c.requires.within, length-map c.args.slots.now.slots slot_bytes) in
    let more : c.from-records.result ≡ live_length (get_or slots k []) = c.from-records.ensures ∙ c.live_length.ensures ∙ ap live_length c.entry.ensures in
    record {
      records = omega (arith, c.loop-k.invariant.records, more, live_more slots k lt);
      small = omega (arith, c.loop-k.invariant.small, c.from-records.ensures);
    }
