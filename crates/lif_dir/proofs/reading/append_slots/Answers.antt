use Rattle.std.proofs.Common.{◌≡◌, ◌++◌, false, [], ◌∷◌, length, map, ap, sym, ◌∙◌, append-nil, length-append, arith}
use Rattle.std.specs.List.{list_any}
use Rattle.lif_model.specs.Directory.{is_end, entry_at, before_end}
use Rattle.lif_dir.specs.Entries.{slot_from, slot_bytes}
use Rattle.lif_dir.specs.Tables.{Table}
use Rattle.lif_dir.proofs.Slots.{stops, has_end, has_end_later, goes_on, slots_step, bytes_step, no_more}
use Rattle.lif_dir.proofs.reading.append_slots.Goals as goal

pub returns-in-End-clause-slots : goal.returns-in-End-clause-slots
unfolding entry_at
returns-in-End-clause-slots c =
    let ended = stops c.args.bytes.now c.bytes_at.result c.loop-k.k c.loop-k-test.true c.bytes_at.ensures (sym c.of.ensures.slot ∙ c.in-End.is) in
    sym (c.loop-k.invariant.slots ∙ ap (λ l. c.loop-k.table.slots ++ map slot_from l) ended ∙ append-nil c.loop-k.table.slots)

pub returns-in-End-clause-bytes : goal.returns-in-End-clause-bytes
unfolding entry_at
returns-in-End-clause-bytes c =
    let ended = stops c.args.bytes.now c.bytes_at.result c.loop-k.k c.loop-k-test.true c.bytes_at.ensures (sym c.of.ensures.slot ∙ c.in-End.is) in
    sym (c.loop-k.invariant.bytes ∙ ap (λ l. map slot_bytes c.loop-k.table.slots ++ l) ended ∙ append-nil (map slot_bytes c.loop-k.table.slots))

pub returns-in-End-clause-ended : goal.returns-in-End-clause-ended
unfolding entry_at
returns-in-End-clause-ended c =
    sym (c.loop-k.invariant.ended
    ∙ has_end c.args.bytes.now c.bytes_at.result c.loop-k.k c.loop-k-test.true c.bytes_at.ensures (sym c.of.ensures.slot ∙ c.in-End.is))

pub loop-k-preserved : goal.loop-k-preserved
unfolding entry_at
loop-k-preserved c =
    let v = c.loop-k.invariant in
    let entry : is_end c.bytes_at.result ≡ false = goes_on c.bytes_at.result (λ h. c.in_default.not-End (c.of.ensures.slot ∙ h)) in
    let pushed = ap (λ (t : Table). t.slots) c.push.ensures in
    record {
      slots = slots_step c.args.bytes.now c.bytes_at.result c.loop-k.k _ c.loop-k.table.slots c.push.new.self.slots c.of.result
          c.loop-k-test.true c.bytes_at.ensures entry c.of.ensures.slot pushed v.slots;
      bytes = bytes_step c.args.bytes.now c.bytes_at.result c.loop-k.k _ c.loop-k.table.slots c.push.new.self.slots c.of.result
          c.loop-k-test.true c.bytes_at.ensures entry (c.of.ensures.bytes entry) pushed v.bytes;
      ended = v.ended ∙ has_end_later c.args.bytes.now c.bytes_at.result c.loop-k.k c.loop-k-test.true c.bytes_at.ensures entry;
      room = ap (λ (t : Table). t.room) c.push.ensures ∙ v.room;
      count = omega (arith, ap length pushed, length-append c.loop-k.table.slots (c.of.result ∷ []), v.count);
    }

pub returns-clause-slots : goal.returns-clause-slots
returns-clause-slots c =
    let none = no_more c.args.bytes.now c.loop-k.k c.loop-k-test.false c.loop-k.auto.k-end in
    sym (c.loop-k.invariant.slots ∙ ap (λ l. c.loop-k.table.slots ++ map slot_from (before_end l)) none ∙ append-nil c.loop-k.table.slots)

pub returns-clause-bytes : goal.returns-clause-bytes
returns-clause-bytes c =
    let none = no_more c.args.bytes.now c.loop-k.k c.loop-k-test.false c.loop-k.auto.k-end in
    sym (c.loop-k.invariant.bytes ∙ ap (λ l. map slot_bytes c.loop-k.table.slots ++ before_end l) none ∙ append-nil (map slot_bytes c.loop-k.table.slots))

pub returns-clause-ended : goal.returns-clause-ended
returns-clause-ended c =
    sym (c.loop-k.invariant.ended ∙ ap (λ l. list_any is_end l) (no_more c.args.bytes.now c.loop-k.k c.loop-k-test.false c.loop-k.auto.k-end))
