use Rattle.std.proofs.Common.{◌≡◌, ℕ, List, ◌<◌, ◌-◌, ◌+◌, ◌*◌, ◌/◌, ◌++◌, append-nil, ◌≤◌, map, length, length-append, ap, sym, subst, ◌∙◌, arith, rules}
use Rattle.std.specs.Prelude.{Some, Err}
use Rattle.lif_model.specs.Tape.{Tape, record_at}
use Rattle.lif_model.specs.Directory.{entries_of, before_end, slots_from}
use Rattle.lif_dir.specs.Entries.{slot_from, slot_bytes, AreSlots}
use Rattle.lif_dir.specs.Tables.{Table}
use Rattle.lif_dir.proofs.Shapes.{no_slots, more_slots, more_room}
use Rattle.il_ports.proofs.Stores.{goes_nowhere, goes_further, goes_within, quiet_nowhere, quiet_longer}
use Rattle.il_ports.proofs.Transfers.{nothing_yet, one_read, then_more}
use Rattle.lif_dir.proofs.Slots.{slots_end, slots_more, last_part, mapped_last, parts_step, mapped_step}
use Rattle.lif_dir.proofs.reading.read_slots.Goals as goal

pub loop-n-init : goal.loop-n-init
loop-n-init g c = record {
  goes_on = goes_within 0 _ _ _ _ (omega arith) (goes_nowhere _ _ c.requires.ready);
  quiet = quiet_nowhere _;
  transfers = nothing_yet _ _;
  room = search rules;
  shape = subst (λ (xs : List (List ℕ)). AreSlots (8 * (c.start-n.result - c.args.header.now.start)) xs) (sym (ap (λ (t : Table). map slot_bytes t.slots) c.clear.ensures)) (no_slots _);
  count = search rules;
  slots = search rules;
  bytes = search rules;
}

pub returns-in_err-read-clause-reads : goal.returns-in_err-read-clause-reads
returns-in_err-read-clause-reads g c =
    let v = c.loop-n.invariant in
    let is : c.from_residual.result ≡ Err c.in_err-read.field-0.0 = search rules in
    rw is (record {
      done = tt;
      bytes = tt;
      shape = tt;
      goes_on = goes_within (c.loop-n.n - c.args.header.now.start + 1) _ _ _ _ (omega arith) (goes_further _ 1 _ _ _ _ _ v.goes_on c.in_err-read.ensures.goes_on);
      quiet = quiet_longer _ _ _ v.quiet c.read.ensures.quiet;
      transfers = tt;
    })

pub returns-then-append_slots-clause-reads : goal.returns-then-append_slots-clause-reads
returns-then-append_slots-clause-reads g c =
    let v = c.loop-n.invariant in
    let left : ℕ = c.args.header.now.start + c.args.header.now.length - c.loop-n.n in
    let within : 0 < left = omega arith in
    let end = λ (t : Tape) (told : (g.R.Records.view c.args.records.now).tape ≡ Some t).
    slots_end t c.read.new.into c.loop-n.n left within (c.in_ok-read.ensures.content t (v.quiet.tape ∙ told)) (sym c.append_slots.ensures.ended ∙ c.if-append_slots.true) in
    record {
      done = λ t told. mapped_last slot_from _ c.loop-n.table.slots c.append_slots.new.table.slots _ _ (v.slots t told) (end t told) c.append_slots.ensures.slots;
      bytes = λ t told. last_part _ (map slot_bytes c.loop-n.table.slots) (map slot_bytes c.append_slots.new.table.slots) _ _ (v.bytes t told) (end t told) c.append_slots.ensures.bytes;
      shape = more_slots _ _ _ _ c.read.new.into v.shape (search rules) c.append_slots.ensures.bytes (omega arith);
      goes_on = goes_within (c.loop-n.n - c.args.header.now.start + 1) _ _ _ _ (omega arith) (goes_further _ 1 _ _ _ _ _ v.goes_on c.in_ok-read.ensures.goes_on);
      quiet = quiet_longer _ _ _ v.quiet c.in_ok-read.ensures.quiet;
      transfers = then_more (λ n. ⊥) _ _ _ v.transfers (one_read (λ n. ⊥) _ _ _ _ c.in_ok-read.ensures.transfers);
    }

pub returns-then-append_slots-clause-last : goal.returns-then-append_slots-clause-last
returns-then-append_slots-clause-last g c t told short =
    let v = c.loop-n.invariant in
    let part : length c.append_slots.new.table.slots < length c.loop-n.table.slots + 8 = c.append_slots.ensures.part c.if-append_slots.true in
    let more : length c.loop-n.table.slots ≤ length c.append_slots.new.table.slots = omega (arith, ap length c.append_slots.ensures.slots, length-append c.loop-n.table.slots (map slot_from (before_end (entries_of c.read.new.into)))) in
    let at : c.loop-n.n ≡ c.args.header.now.start + length c.append_slots.new.table.slots / 8 = omega (arith, v.count, part, more) in
    c.in_ok-read.ensures.content t (v.quiet.tape ∙ told) ∙ ap (record_at t) at

pub returns-clause-reads : goal.returns-clause-reads
returns-clause-reads g c =
    let v = c.loop-n.invariant in
    let none : c.args.header.now.start + c.args.header.now.length - c.loop-n.n ≡ 0 = omega arith in
    record {
      done = λ t told. sym (v.slots t told ∙ ap (λ (k : ℕ). c.loop-n.table.slots ++ map slot_from (slots_from t c.loop-n.n k)) none ∙ append-nil c.loop-n.table.slots);
      bytes = λ t told. sym (v.bytes t told ∙ ap (λ (k : ℕ). map slot_bytes c.loop-n.table.slots ++ slots_from t c.loop-n.n k) none ∙ append-nil (map slot_bytes c.loop-n.table.slots));
      shape = more_room _ _ _ (omega arith) v.shape;
      goes_on = goes_within _ _ _ _ _ (omega arith) v.goes_on;
      quiet = v.quiet;
      transfers = v.transfers;
    }

pub returns-clause-last : goal.returns-clause-last
returns-clause-last g c t told short = absurd (omega (arith, short, c.loop-n.invariant.count))

pub loop-n-preserved : goal.loop-n-preserved
loop-n-preserved g c =
    let v = c.loop-n.invariant in
    let r = c.in_ok-read.ensures in
    let a = c.append_slots.ensures in
    let m : ℕ = c.args.header.now.start + c.args.header.now.length - c.loop-n.n in
    let k : ℕ = c.args.header.now.start + c.args.header.now.length - (c.loop-n.n + 1) in
    let later : m ≡ k + 1 = omega arith in
    let more = λ (t : Tape) (told : (g.R.Records.view c.args.records.now).tape ≡ Some t).
    slots_more t c.read.new.into c.loop-n.n m k later (r.content t (v.quiet.tape ∙ told)) (sym a.ended ∙ c.if-append_slots.false) in
    record {
      goes_on = goes_within _ _ _ _ _ (omega arith) (goes_further _ 1 _ _ _ _ _ v.goes_on r.goes_on);
      quiet = quiet_longer _ _ _ v.quiet r.quiet;
      transfers = then_more (λ n. ⊥) _ _ _ v.transfers (one_read (λ n. ⊥) _ _ _ _ r.transfers);
      room = a.room ∙ v.room;
      shape = more_slots _ _ _ _ c.read.new.into v.shape (search rules) a.bytes (omega arith);
      count = omega (arith, a.whole c.if-append_slots.false, v.count);
      slots = λ t told. mapped_step slot_from _ c.loop-n.table.slots c.append_slots.new.table.slots _ _ _ (v.slots t told) (more t told) a.slots;
      bytes = λ t told. parts_step _ (map slot_bytes c.loop-n.table.slots) (map slot_bytes c.append_slots.new.table.slots) _ _ _ (v.bytes t told) (more t told) a.bytes;
    }
