use Rattle.std.proofs.Common.{◌≡◌, ◌+◌, ◌-◌, ◌*◌, ℕ, [], true, get_or, take, refl, sym, ◌∙◌, subst, arith}
use Rattle.std.specs.Prelude.{Err}
use Rattle.lif_model.specs.declared.version.Version.TheVariants.{Two}
use Rattle.lif_model.specs.Redo.{redo_start}
use Rattle.il_ports.specs.Stores.{RunLeaves}
use Rattle.il_ports.proofs.Stores.{quiet_run, quiet_nowhere, goes_nowhere, goes_further, goes_within}
use Rattle.lif_commit.proofs.Staging.{goes_failed, goes_told}
use Rattle.lif_model.specs.Packing.{live_length, are_packed}
use Rattle.lif_pack.specs.Packers.{slots_held}
use Rattle.lif_pack.specs.Steps.{MayPack, ArePackedAlike}
use Rattle.lif_pack.specs.Tasks.{KeepsFiles}
use Rattle.lif_pack.proofs.Counted.{files_kept}
use Rattle.lif_pack.proofs.Keeping.{kept_further}
use Rattle.lif_pack.proofs.Placing.{next_below, same_slots_of, slots_keep, slots_then, placed_below, packed_then}
use Rattle.lif_pack.proofs.Answered.{passed_on}
use Rattle.lif_pack.proofs.memory.Packer.move_files.Goals as goal

pub loop-slot-init : goal.loop-slot-init
loop-slot-init g c =
    let n : ℕ = (g.R.Records.view c.args.records.now).record_count in
    let slots = slots_held c.args.self.now in
    record {
      goes_on = goes_within 0 (15 * (c.args.place - c.args.place)) _ _ _ (omega arith) (goes_nowhere _ _ c.requires.ready);
      room = refl;
      settled = c.requires.settled;
      may = c.requires.may;
      placed = c.requires.placed;
      alike = λ v ends. refl;
      onward = omega arith;
      below = placed_below n c.args.found.now.first c.args.found.now.end c.args.found.now.redo slots c.requires.may c.args.from c.args.place c.requires.placed c.requires.before;
      idle = λ none. (refl, refl);
      moves = λ t is. (t, is, same_slots_of c.args.found.now.first c.args.found.now.end slots t);
      stops = λ t is v some same starts ends.
          quiet_run _ _ _ t (g.met.R.Records.is_store _) (quiet_nowhere _) is
          (slots_keep n c.args.found.now.first c.args.found.now.end c.args.found.now.redo slots t c.requires.may ((g.met.R.Records.is_store _).is_tape t is) (c.requires.settled t is) v some same starts ends);
    }

pub place_file-requires-clause-ready : goal.place_file-requires-clause-ready
place_file-requires-clause-ready g c =
    let n : ℕ = (g.R.Records.view c.args.records.now).record_count in
    let inv = c.loop-slot.invariant in
    let now = inv.goes_on.continues in
    let next = next_below n c.args.found.now.first c.args.found.now.end c.args.found.now.redo (slots_held c.loop-slot.self) inv.may c.loop-slot.slot c.loop-slot.next inv.placed c.loop-slot-test.true inv.below in
    record { valid = now.valid; sound = now.sound; left = omega (arith, now.left, c.requires.ready.left, next, inv.onward) }

pub returns-in_err-next-clause-goes_on : goal.returns-in_err-next-clause-goes_on
returns-in_err-next-clause-goes_on g c =
    let n : ℕ = (g.R.Records.view c.args.records.now).record_count in
    let inv = c.loop-slot.invariant in
    let long : ℕ = live_length (get_or (slots_held c.loop-slot.self) c.loop-slot.slot []) in
    let next = next_below n c.args.found.now.first c.args.found.now.end c.args.found.now.redo (slots_held c.loop-slot.self) inv.may c.loop-slot.slot c.loop-slot.next inv.placed c.loop-slot-test.true inv.below in
    let is : c.from_residual.result ≡ Err c.in_err-next.field-0.0 = passed_on c.from_residual.result c.in_err-next.field-0.0 c.from_residual.ensures.0 c.from_residual.ensures.1 in
    rw is (goes_within (15 * (c.loop-slot.next - c.args.place) + 15 * long) (15 * (redo_start Two n - c.args.place)) _ _ _ (omega (arith, next, inv.onward))
    (goes_further (15 * (c.loop-slot.next - c.args.place)) (15 * long) _ _ _ _ _ inv.goes_on (goes_failed (15 * long) _ _ c.in_err-next.field-0.0 c.in_err-next.ensures.goes_on)))

pub loop-slot-preserved : goal.loop-slot-preserved
loop-slot-preserved g c =
    let n : ℕ = (g.R.Records.view c.args.records.now).record_count in
    let inv = c.loop-slot.invariant in
    let slots = slots_held c.loop-slot.self in
    let long : ℕ = live_length (get_or slots c.loop-slot.slot []) in
    let done = c.in_ok-next.ensures in
    let size : (g.R.Records.view c.loop-slot.records).record_count ≡ n = inv.goes_on.continues.size in
    let may : MayPack (g.R.Records.view c.loop-slot.records).record_count c.args.found.now.first c.args.found.now.end c.args.found.now.redo slots = subst (λ (m : ℕ). MayPack m c.args.found.now.first c.args.found.now.end c.args.found.now.redo slots) (sym size) inv.may in
    let step = done.may c.args.found.now.end may inv.placed in
    let next = next_below n c.args.found.now.first c.args.found.now.end c.args.found.now.redo slots inv.may c.loop-slot.slot c.loop-slot.next inv.placed c.loop-slot-test.true inv.below in
    record {
      goes_on = goes_within (15 * (c.loop-slot.next - c.args.place) + 15 * long) (15 * (c.in_ok-next.next - c.args.place)) _ _ _ (omega (arith, done.next, inv.onward))
          (goes_further (15 * (c.loop-slot.next - c.args.place)) (15 * long) _ _ _ _ _ inv.goes_on (goes_told (15 * long) _ _ _ _ done.goes_on));
      room = done.room ∙ inv.room;
      settled = done.settled;
      may = subst (λ (m : ℕ). MayPack m c.args.found.now.first c.args.found.now.end c.args.found.now.redo (slots_held c.place_file.new.self)) size step.0;
      placed = step.1;
      alike = packed_then n c.args.found.now.end (slots_held c.args.self.now) slots (slots_held c.place_file.new.self) inv.alike
          (subst (λ (m : ℕ). ArePackedAlike m c.args.found.now.end slots (slots_held c.place_file.new.self)) size step.2);
      onward = omega (arith, done.next, inv.onward);
      below = omega (arith, done.next, next);
      idle = λ none. absurd (omega (arith, none, c.loop-slot.auto.slot));
      moves = λ t is.
          let was = inv.moves t is in
          let now = done.moves c.args.found.now.end was.0 may inv.placed was.1 in (
            now.0,
            now.1,
            slots_then c.args.found.now.first c.args.found.now.end (slots_held c.args.self.now) slots (slots_held c.place_file.new.self) t was.0 now.0
                (files_kept n c.args.found.now.first c.args.found.now.end c.args.found.now.redo c.args.found.now.redo (slots_held c.args.self.now) slots c.requires.may inv.may inv.alike) was.2 now.2,
          );
      stops = λ t is v some same starts ends.
          let was = inv.moves t is in
          kept_further (g.R.Records.view c.args.records.now) (g.R.Records.view c.loop-slot.records) (g.R.Records.view c.place_file.new.records) n t was.0 (g.met.R.Records.is_store _) was.1 (inv.stops t is v some same starts ends)
          (subst (λ (m : ℕ). RunLeaves (g.R.Records.view c.loop-slot.records) (g.R.Records.view c.place_file.new.records) (KeepsFiles m was.0)) size
          (done.stops c.args.found.now.end was.0 may inv.placed was.1 (record v { slots = slots }) (was.2.volume v some same starts ends) refl starts ends));
    }

pub returns-clause-packed : goal.returns-clause-packed
returns-clause-packed g c =
    let end : c.loop-slot.slot ≡ c.args.found.now.redo = omega (arith, c.loop-slot.auto.slot-end, c.loop-slot-test.false) in
    subst (λ (m : ℕ). are_packed c.args.found.now.end (take m (slots_held c.loop-slot.self)) ≡ true) end c.loop-slot.invariant.placed.packed

pub returns-in_err-next-clause-stops : goal.returns-in_err-next-clause-stops
returns-in_err-next-clause-stops g c = λ t is v some same starts ends.
    let n : ℕ = (g.R.Records.view c.args.records.now).record_count in
    let inv = c.loop-slot.invariant in
    let slots = slots_held c.loop-slot.self in
    let size : (g.R.Records.view c.loop-slot.records).record_count ≡ n = inv.goes_on.continues.size in
    let may : MayPack (g.R.Records.view c.loop-slot.records).record_count c.args.found.now.first c.args.found.now.end c.args.found.now.redo slots = subst (λ (m : ℕ). MayPack m c.args.found.now.first c.args.found.now.end c.args.found.now.redo slots) (sym size) inv.may in
    let was = inv.moves t is in
    kept_further (g.R.Records.view c.args.records.now) (g.R.Records.view c.loop-slot.records) (g.R.Records.view c.place_file.new.records) n t was.0 (g.met.R.Records.is_store _) was.1 (inv.stops t is v some same starts ends)
    (subst (λ (m : ℕ). RunLeaves (g.R.Records.view c.loop-slot.records) (g.R.Records.view c.place_file.new.records) (KeepsFiles m was.0)) size
    (c.place_file.ensures.stops c.args.found.now.end was.0 may inv.placed was.1 (record v { slots = slots }) (was.2.volume v some same starts ends) refl starts ends))

pub returns-in_err-next-clause-idle : goal.returns-in_err-next-clause-idle
returns-in_err-next-clause-idle g c none = absurd (omega (arith, none, c.loop-slot.auto.slot, c.loop-slot-test.true))

pub returns-clause-idle : goal.returns-clause-idle
returns-clause-idle g c none =
    let kept = c.loop-slot.invariant.idle (omega (arith, none, c.loop-slot.auto.slot, c.loop-slot.auto.slot-end)) in
    (refl, kept.0, kept.1)
