use Rattle.std.proofs.Common.{◌≡◌, ◌+◌, ◌*◌, ◌%◌, ◌∙◌, ◌∷◌, [], ℕ, List, length, inl, refl, ap, subst, arith, replicate}
use Rattle.std.specs.Prelude.{Some}
use Rattle.std.proofs.lemmas.Result.{on_ok_weaker}
use Rattle.std.proofs.lemmas.List.{length-map}
use Rattle.lif_model.specs.Tape.{Tape, record_at}
use Rattle.lif_model.specs.declared.version.Version.TheVariants.{Two}
use Rattle.lif_model.specs.Redo.{Changes, targets_in}
use Rattle.lif_model.specs.Commit.{IsCommitted, IsOldOrNew}
use Rattle.lif_model.specs.Writing.{slot_record, with_entry, entry_from}
use Rattle.lif_pack.specs.Moving.{with_mark}
use Rattle.lif_model.proofs.Moments.{after_still, weaker}
use Rattle.il_ports.proofs.Stores.{goes_further, goes_within, quiet_run}
use Rattle.lif_pack.proofs.LastPart.{part_clears, clear_stops}
use Rattle.lif_pack.proofs.memory.Packer.clear_mark.Goals as goal

pub returns-clause-clears : goal.returns-clause-clears
returns-clause-clears g c = on_ok_weaker c.commit.result (λ done t is.
    let at : ℕ = slot_record c.args.first c.args.redo in
    let brought : (g.R.Records.view c.bring_mark.new.records).tape ≡ Some t = c.in_ok-bring_mark.ensures.quiet.tape ∙ is in
    let changes : c.deref.result.now ≡ (at, with_entry (record_at t at) (c.args.redo % 8) (with_mark (replicate 4 0) (entry_from t c.args.first c.args.redo))) ∷ [] =
    c.deref.ensures.value ∙ c.in_ok-bring_mark.ensures.told t is in
    let stands = done t brought in
    (stands.0, stands.1, part_clears c.args.first c.args.redo t stands.0 (subst (λ (cs : Changes). IsCommitted Two cs t stands.0) changes stands.2))) c.commit.ensures.done

pub returns-clause-goes_on : goal.returns-clause-goes_on
returns-clause-goes_on g c =
    let one : length c.deref.result.now ≡ 1 =
    omega (arith, length-map c.deref.result.now (λ d. d.0), ap (λ (ks : List ℕ). length ks) (ap targets_in c.deref.ensures.value ∙ c.in_ok-bring_mark.ensures.targets)) in
    goes_within (1 + (2 * length c.deref.result.now + 6)) 9 _ _ _ (omega (arith, one))
    (goes_further 1 (2 * length c.deref.result.now + 6) _ _ _ _ _ c.in_ok-bring_mark.ensures.goes_on c.commit.ensures.goes_on)

pub returns-in_err-bring_mark-clause-stops : goal.returns-in_err-bring_mark-clause-stops
returns-in_err-bring_mark-clause-stops g c t is =
    quiet_run _ _ _ t (g.met.R.Records.is_store _) c.bring_mark.ensures.quiet is
    (inl (record { records = refl; same = λ k lt. ap (λ (z : Tape). record_at z k) (c.requires.settled t is) }))

pub returns-clause-stops : goal.returns-clause-stops
returns-clause-stops g c t is =
    let at : ℕ = slot_record c.args.first c.args.redo in
    let quiet = c.in_ok-bring_mark.ensures.quiet in
    let brought : (g.R.Records.view c.bring_mark.new.records).tape ≡ Some t = quiet.tape ∙ is in
    let changes : c.deref.result.now ≡ (at, with_entry (record_at t at) (c.args.redo % 8) (with_mark (replicate 4 0) (entry_from t c.args.first c.args.redo))) ∷ [] =
    c.deref.ensures.value ∙ c.in_ok-bring_mark.ensures.told t is in
    after_still _ _ _ _ _ _ _ quiet.moment quiet.since (weaker _ _ _ _ _ _ (c.commit.ensures.any_moment t brought) (λ y stopped.
    clear_stops c.args.first c.args.redo t y (subst (λ (cs : Changes). IsOldOrNew Two cs t y) changes stopped)))
