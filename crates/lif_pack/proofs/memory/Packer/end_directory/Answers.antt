use Rattle.std.proofs.Common.{◌≡◌, ◌<◌, ◌+◌, ◌*◌, ◌∙◌, ℕ, List, [], ◌∷◌, length, map, take, sym, ap, subst, arith}
use Rattle.std.specs.Prelude.{Some}
use Rattle.std.proofs.lemmas.List.{length-map, take_all, take-map}
use Rattle.lif_model.specs.declared.version.Version.TheVariants.{Two}
use Rattle.lif_model.specs.Redo.{Changes}
use Rattle.lif_model.specs.Commit.{AreChanges}
use Rattle.lif_model.specs.Made.{with_type}
use Rattle.lif_model.specs.Volume.{is_adopted_with}
use Rattle.lif_model.specs.Writing.{entry_from, changes_by}
use Rattle.lif_model.proofs.Moments.{after_still, weaker}
use Rattle.il_ports.proofs.Stores.{goes_further, goes_within, quiet_run, quiet_nowhere}
use Rattle.lif_commit.proofs.Staging.{goes_told}
use Rattle.lif_dir.specs.Entries.{slot_bytes}
use Rattle.lif_dir.specs.Tables.{Table}
use Rattle.lif_pack.specs.Packers.{slots_held}
use Rattle.lif_pack.proofs.Beyond.{ended_outside}
use Rattle.lif_pack.specs.Steps.{HasSlotsOf}
use Rattle.lif_pack.proofs.Placing.{same_slots_of}
use Rattle.lif_pack.proofs.Keeping.{keeps_itself}
use Rattle.lif_pack.proofs.Ended.{ended_changes, ended_stands, ended_keeps}
use Rattle.lif_pack.proofs.memory.Packer.end_directory.Goals as goal

pub returns-then-count-len-clause-stops : goal.returns-then-count-len-clause-stops
returns-then-count-len-clause-stops g c t v is some same starts =
    let n : ℕ = (g.R.Records.view c.args.records.now).record_count in
    quiet_run _ _ _ t (g.met.R.Records.is_store _) (quiet_nowhere _) is
    (keeps_itself n t v ((g.met.R.Records.is_store _).is_tape t is) some (c.requires.settled t is) (ap (is_adopted_with n Two) same ∙ c.requires.may.2.version))

pub returns-in_err-bring_end-clause-stops : goal.returns-in_err-bring_end-clause-stops
returns-in_err-bring_end-clause-stops g c t v is some same starts =
    let n : ℕ = (g.R.Records.view c.args.records.now).record_count in
    quiet_run _ _ _ t (g.met.R.Records.is_store _) c.bring_end.ensures.quiet is
    (keeps_itself n t v ((g.met.R.Records.is_store _).is_tape t is) some (c.requires.settled t is) (ap (is_adopted_with n Two) same ∙ c.requires.may.2.version))

pub commit-requires-clause-changes : goal.commit-requires-clause-changes
commit-requires-clause-changes g c =
    let n : ℕ = (g.R.Records.view c.args.records.now).record_count in
    let p = c.requires.may in
    let done = c.in_ok-bring_end.ensures in
    let old = slots_held c.args.self.now in
    let less : c.args.count < length old = omega (arith, c.requires.gap.order, c.if-count-len.false, c.len.ensures.count, length-map c.args.self.now.slots.slots slot_bytes) in
    let are = ended_changes n c.args.first p.0 p.1 old p.2 c.args.count c.requires.gap less (g.R.Records.view c.args.records.now).tape c.bring_end.new.self.changes.items done.staged in
    subst (λ (m : ℕ). AreChanges Two m c.deref.result.now) (sym done.goes_on.continues.size) (subst (λ (cs : Changes). AreChanges Two n cs) (sym c.deref.ensures.value) are)

pub returns-in_err-commit-clause-stops : goal.returns-in_err-commit-clause-stops
returns-in_err-commit-clause-stops g c t v is some same starts =
    let n : ℕ = (g.R.Records.view c.args.records.now).record_count in
    let p = c.requires.may in
    let done = c.in_ok-bring_end.ensures in
    let old = slots_held c.args.self.now in
    let less : c.args.count < length old = omega (arith, c.requires.gap.order, c.if-count-len.false, c.len.ensures.count, length-map c.args.self.now.slots.slots slot_bytes) in
    let brought : (g.R.Records.view c.bring_end.new.records).tape ≡ Some t = done.quiet.tape ∙ is in
    let changes : c.deref.result.now ≡ changes_by c.args.first ((c.args.count, with_type 0xFFFF (entry_from t c.args.first c.args.count)) ∷ []) t = c.deref.ensures.value ∙ done.staged.contents t is in
    after_still _ _ _ _ _ _ _ done.quiet.moment done.quiet.since (weaker _ _ _ _ _ _ (c.commit.ensures.any_moment t brought) (λ y stopped.
    ended_keeps n c.args.first p.0 p.1 old p.2 c.args.count c.requires.gap less t ((g.met.R.Records.is_store _).is_tape t is) (c.requires.settled t is) v some same starts c.deref.result.now changes y stopped))

pub returns-clause-goes_on : goal.returns-clause-goes_on
returns-clause-goes_on g c =
    let calls : ℕ = 2 * length c.deref.result.now + 6 in
    goes_within (1 + calls) 9 _ _ _ (omega (arith, ap length c.deref.ensures.value, c.in_ok-bring_end.ensures.count))
    (goes_further 1 calls _ _ _ _ _ c.in_ok-bring_end.ensures.goes_on (goes_told calls _ _ _ _ c.in_ok-commit.ensures.goes_on))

pub returns-clause-slots : goal.returns-clause-slots
returns-clause-slots g c =
    ap (λ (t : Table). map slot_bytes t.slots) c.truncate.ensures ∙ sym (take-map slot_bytes c.args.count c.bring_end.new.self.slots.slots)
    ∙ ap (λ (t : Table). take c.args.count (map slot_bytes t.slots)) c.in_ok-bring_end.ensures.still

pub returns-then-count-len-clause-ends : goal.returns-then-count-len-clause-ends
returns-then-count-len-clause-ends g c end redo t may is =
    let old = slots_held c.args.self.now in
    let all : take c.args.count old ≡ old = take_all c.args.count old (omega (arith, c.if-count-len.true, c.len.ensures.count, length-map c.args.self.now.slots.slots slot_bytes)) in
    (t, is, subst (λ (xs : List (List ℕ)). HasSlotsOf c.args.first end old xs t t) (sym all) (same_slots_of c.args.first end old t))

pub returns-clause-ends : goal.returns-clause-ends
returns-clause-ends g c end redo t may is =
    let n : ℕ = (g.R.Records.view c.args.records.now).record_count in
    let done = c.in_ok-bring_end.ensures in
    let old = slots_held c.args.self.now in
    let less : c.args.count < length old = omega (arith, c.requires.gap.order, c.if-count-len.false, c.len.ensures.count, length-map c.args.self.now.slots.slots slot_bytes) in
    let brought : (g.R.Records.view c.bring_end.new.records).tape ≡ Some t = done.quiet.tape ∙ is in
    let changes : c.deref.result.now ≡ changes_by c.args.first ((c.args.count, with_type 0xFFFF (entry_from t c.args.first c.args.count)) ∷ []) t = c.deref.ensures.value ∙ done.staged.contents t is in
    let stands = c.in_ok-commit.ensures.done t brought in (
      stands.0,
      stands.1,
      record {
        volume = λ v some same starts ends.
            ended_stands n c.args.first end redo old may c.args.count c.requires.gap less t ((g.met.R.Records.is_store _).is_tape t is) (c.requires.settled t is) v some same starts c.deref.result.now changes stands.0 stands.2;
        outside = ended_outside n c.args.first end redo old may t stands.0 ((g.met.R.Records.is_store _).is_tape t is) c.args.count c.deref.result.now less changes stands.2;
      },
    )

pub returns-clause-stops : goal.returns-clause-stops
returns-clause-stops g c t v is some same starts =
    let n : ℕ = (g.R.Records.view c.args.records.now).record_count in
    let p = c.requires.may in
    let done = c.in_ok-bring_end.ensures in
    let old = slots_held c.args.self.now in
    let less : c.args.count < length old = omega (arith, c.requires.gap.order, c.if-count-len.false, c.len.ensures.count, length-map c.args.self.now.slots.slots slot_bytes) in
    let brought : (g.R.Records.view c.bring_end.new.records).tape ≡ Some t = done.quiet.tape ∙ is in
    let changes : c.deref.result.now ≡ changes_by c.args.first ((c.args.count, with_type 0xFFFF (entry_from t c.args.first c.args.count)) ∷ []) t = c.deref.ensures.value ∙ done.staged.contents t is in
    after_still _ _ _ _ _ _ _ done.quiet.moment done.quiet.since (weaker _ _ _ _ _ _ (c.commit.ensures.any_moment t brought) (λ y stopped.
    ended_keeps n c.args.first p.0 p.1 old p.2 c.args.count c.requires.gap less t ((g.met.R.Records.is_store _).is_tape t is) (c.requires.settled t is) v some same starts c.deref.result.now changes y stopped))
