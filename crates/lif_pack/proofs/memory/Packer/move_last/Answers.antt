use Rattle.std.proofs.Common.{◌≡◌, ◌≤◌, ◌+◌, ◌-◌, ◌*◌, ◌%◌, ◌++◌, [], ◌∷◌, ◌∙◌, ℕ, List, length, ap, subst, arith, replicate, inl, sym}
use Rattle.std.specs.Prelude.{Some}
use Rattle.std.proofs.lemmas.List.{length-map}
use Rattle.std.proofs.lemmas.Result.{on_ok_weaker}
use Rattle.lif_model.specs.Tape.{Tape, IsTape, record_at}
use Rattle.lif_model.specs.declared.version.Version.TheVariants.{Two}
use Rattle.lif_model.specs.Redo.{Changes, targets_in, are_targets}
use Rattle.lif_model.specs.Commit.{IsCommitted, IsOldOrNew}
use Rattle.lif_model.proofs.Moments.{after_still, weaker}
use Rattle.lif_model.specs.Writing.{slot_record, with_entry, entry_from}
use Rattle.il_ports.proofs.Stores.{goes_further, goes_within, quiet_run, quiet_longer}
use Rattle.lif_model.specs.Packing.{records_from}
use Rattle.lif_pack.specs.Moving.{numbers_from, numbered_from, with_mark, with_target, with_start_in, IsMidway}
use Rattle.lif_pack.proofs.LastPart.{last_stops, part_ends, last_targets, few_targets}
use Rattle.lif_pack.proofs.memory.Packer.move_last.Goals as goal

pub commit-requires-clause-changes : goal.commit-requires-clause-changes
commit-requires-clause-changes g c =
    let n : ℕ = (g.R.Records.view c.args.records.now).record_count in
    let row : ℕ = slot_record c.args.first c.args.file.now.slot in
    let to : ℕ = c.args.file.now.place + c.args.moved in
    let count : ℕ = c.args.file.now.length - c.args.moved in
    let size : (g.R.Records.view c.carry.new.records).record_count ≡ n =
    c.in_ok-carry.ensures.goes_on.continues.size ∙ c.in_ok-bring_start.ensures.goes_on.continues.size ∙ c.in_ok-bring_mark.ensures.goes_on.continues.size in
    let targets : targets_in c.deref.result.now ≡ with_target row (slot_record c.args.first c.args.redo ∷ []) ++ numbers_from to count =
    ap targets_in c.deref.ensures.value ∙ c.in_ok-carry.ensures.targets
    ∙ ap (λ (ks : List ℕ). ks ++ numbers_from to count) (c.in_ok-bring_start.ensures.targets ∙ ap (with_target row) c.in_ok-bring_mark.ensures.targets) in
    (λ i. are_targets Two (size i) (targets i))
    ∙ last_targets n c.args.first c.args.file.now.place c.args.redo c.args.file.now c.args.moved count c.requires.may (omega (arith, c.requires.part)) (omega (arith, c.requires.few))

pub commit-requires-clause-ready : goal.commit-requires-clause-ready
commit-requires-clause-ready g c =
    let row : ℕ = slot_record c.args.first c.args.file.now.slot in
    let at : ℕ = slot_record c.args.first c.args.redo in
    let to : ℕ = c.args.file.now.place + c.args.moved in
    let count : ℕ = c.args.file.now.length - c.args.moved in
    let targets : targets_in c.deref.result.now ≡ with_target row (at ∷ []) ++ numbers_from to count =
    ap targets_in c.deref.ensures.value ∙ c.in_ok-carry.ensures.targets
    ∙ ap (λ (ks : List ℕ). ks ++ numbers_from to count) (c.in_ok-bring_start.ensures.targets ∙ ap (with_target row) c.in_ok-bring_mark.ensures.targets) in
    let few : length c.deref.result.now ≤ count + 2 = omega (arith, length-map c.deref.result.now (λ d. d.0), ap (λ (ks : List ℕ). length ks) targets, few_targets row at to count) in
    let now = c.in_ok-carry.ensures.goes_on.continues in
    record {
      valid = now.valid;
      sound = now.sound;
      left = omega (arith, few, now.left, c.in_ok-bring_start.ensures.goes_on.continues.left, c.in_ok-bring_mark.ensures.goes_on.continues.left, c.requires.ready.left);
    }

pub returns-clause-goes_on : goal.returns-clause-goes_on
returns-clause-goes_on g c =
    let row : ℕ = slot_record c.args.first c.args.file.now.slot in
    let at : ℕ = slot_record c.args.first c.args.redo in
    let to : ℕ = c.args.file.now.place + c.args.moved in
    let count : ℕ = c.args.file.now.length - c.args.moved in
    let targets : targets_in c.deref.result.now ≡ with_target row (at ∷ []) ++ numbers_from to count =
    ap targets_in c.deref.ensures.value ∙ c.in_ok-carry.ensures.targets
    ∙ ap (λ (ks : List ℕ). ks ++ numbers_from to count) (c.in_ok-bring_start.ensures.targets ∙ ap (with_target row) c.in_ok-bring_mark.ensures.targets) in
    let few : length c.deref.result.now ≤ count + 2 = omega (arith, length-map c.deref.result.now (λ d. d.0), ap (λ (ks : List ℕ). length ks) targets, few_targets row at to count) in
    goes_within (1 + 1 + count + (2 * length c.deref.result.now + 6)) (3 * count + 12) _ _ _ (omega (arith, few))
    (goes_further (1 + 1 + count) (2 * length c.deref.result.now + 6) _ _ _ _ _
    (goes_further (1 + 1) count _ _ _ _ _ (goes_further 1 1 _ _ _ _ _ c.in_ok-bring_mark.ensures.goes_on c.in_ok-bring_start.ensures.goes_on) c.in_ok-carry.ensures.goes_on) c.commit.ensures.goes_on)

pub returns-clause-moves : goal.returns-clause-moves
returns-clause-moves g c = on_ok_weaker c.commit.result (λ done u t tape_u is midway.
    let n : ℕ = (g.R.Records.view c.args.records.now).record_count in
    let at : ℕ = slot_record c.args.first c.args.redo in
    let to : ℕ = c.args.file.now.place + c.args.moved in
    let from : ℕ = c.args.file.now.start + c.args.moved in
    let count : ℕ = c.args.file.now.length - c.args.moved in
    let tape_t : IsTape n t = (g.met.R.Records.is_store _).is_tape t is in
    let brought : (g.R.Records.view c.bring_mark.new.records).tape ≡ Some t = c.in_ok-bring_mark.ensures.quiet.tape ∙ is in
    let both : (g.R.Records.view c.bring_start.new.records).tape ≡ Some t = c.in_ok-bring_start.ensures.quiet.tape ∙ brought in
    let carried : (g.R.Records.view c.carry.new.records).tape ≡ Some t = c.in_ok-carry.ensures.quiet.tape ∙ both in
    let front : Changes = with_start_in c.args.first c.args.file.now.slot c.args.file.now.place t
    ((at, with_entry (record_at t at) (c.args.redo % 8) (with_mark (replicate 4 0) (entry_from t c.args.first c.args.redo))) ∷ []) in
    let changes : c.deref.result.now ≡ front ++ numbered_from to (records_from t from count) =
    c.deref.ensures.value ∙ c.in_ok-carry.ensures.told t both
    ∙ ap (λ (cs : Changes). cs ++ numbered_from to (records_from t from count))
    (c.in_ok-bring_start.ensures.told t brought ∙ ap (with_start_in c.args.first c.args.file.now.slot c.args.file.now.place t) (c.in_ok-bring_mark.ensures.told t is)) in
    let stands = done t carried in
    let committed = subst (λ (cs : Changes). IsCommitted Two cs t stands.0) changes stands.2 in (
      stands.0,
      stands.1,
      part_ends n c.args.first c.args.file.now.place c.args.redo c.args.file.now c.args.moved u t tape_u tape_t c.requires.may midway stands.0
          c.requires.begun (omega (arith, c.requires.part)) committed.records committed.below,
    )) c.commit.ensures.done

pub returns-in_err-bring_mark-clause-stops : goal.returns-in_err-bring_mark-clause-stops
returns-in_err-bring_mark-clause-stops g c u t tape_u is midway =
    quiet_run _ _ _ t (g.met.R.Records.is_store _) c.bring_mark.ensures.quiet is
    (inl (subst (λ (x : Tape). IsMidway c.args.first c.args.file.now.place c.args.redo c.args.file.now c.args.moved u x) (sym (c.requires.settled t is)) midway))

pub returns-in_err-bring_start-clause-stops : goal.returns-in_err-bring_start-clause-stops
returns-in_err-bring_start-clause-stops g c u t tape_u is midway =
    quiet_run _ _ _ t (g.met.R.Records.is_store _) (quiet_longer _ _ _ c.in_ok-bring_mark.ensures.quiet c.bring_start.ensures.quiet) is
    (inl (subst (λ (x : Tape). IsMidway c.args.first c.args.file.now.place c.args.redo c.args.file.now c.args.moved u x) (sym (c.requires.settled t is)) midway))

pub returns-in_err-carry-clause-stops : goal.returns-in_err-carry-clause-stops
returns-in_err-carry-clause-stops g c u t tape_u is midway =
    quiet_run _ _ _ t (g.met.R.Records.is_store _) (quiet_longer _ _ _ c.in_ok-bring_mark.ensures.quiet (quiet_longer _ _ _ c.in_ok-bring_start.ensures.quiet c.carry.ensures.quiet)) is
    (inl (subst (λ (x : Tape). IsMidway c.args.first c.args.file.now.place c.args.redo c.args.file.now c.args.moved u x) (sym (c.requires.settled t is)) midway))

pub returns-clause-stops : goal.returns-clause-stops
returns-clause-stops g c u t tape_u is midway =
    let n : ℕ = (g.R.Records.view c.args.records.now).record_count in
    let at : ℕ = slot_record c.args.first c.args.redo in
    let to : ℕ = c.args.file.now.place + c.args.moved in
    let from : ℕ = c.args.file.now.start + c.args.moved in
    let count : ℕ = c.args.file.now.length - c.args.moved in
    let tape_t : IsTape n t = (g.met.R.Records.is_store _).is_tape t is in
    let brought : (g.R.Records.view c.bring_mark.new.records).tape ≡ Some t = c.in_ok-bring_mark.ensures.quiet.tape ∙ is in
    let both : (g.R.Records.view c.bring_start.new.records).tape ≡ Some t = c.in_ok-bring_start.ensures.quiet.tape ∙ brought in
    let carried : (g.R.Records.view c.carry.new.records).tape ≡ Some t = c.in_ok-carry.ensures.quiet.tape ∙ both in
    let front : Changes = with_start_in c.args.first c.args.file.now.slot c.args.file.now.place t
    ((at, with_entry (record_at t at) (c.args.redo % 8) (with_mark (replicate 4 0) (entry_from t c.args.first c.args.redo))) ∷ []) in
    let changes : c.deref.result.now ≡ front ++ numbered_from to (records_from t from count) =
    c.deref.ensures.value ∙ c.in_ok-carry.ensures.told t both
    ∙ ap (λ (cs : Changes). cs ++ numbered_from to (records_from t from count))
    (c.in_ok-bring_start.ensures.told t brought ∙ ap (with_start_in c.args.first c.args.file.now.slot c.args.file.now.place t) (c.in_ok-bring_mark.ensures.told t is)) in
    let quiet = quiet_longer _ _ _ c.in_ok-bring_mark.ensures.quiet (quiet_longer _ _ _ c.in_ok-bring_start.ensures.quiet c.in_ok-carry.ensures.quiet) in
    after_still _ _ _ _ _ _ _ quiet.moment quiet.since (weaker _ _ _ _ _ _ (c.commit.ensures.any_moment t carried) (λ y stopped.
    last_stops n c.args.first c.args.file.now.place c.args.redo c.args.file.now c.args.moved u t tape_u tape_t c.requires.may midway
    c.requires.begun (omega (arith, c.requires.part)) y (subst (λ (cs : Changes). IsOldOrNew Two cs t y) changes stopped)))
