use Rattle.std.proofs.Common.{◌≡◌, ◌+◌, ◌*◌, ◌∙◌, [], ℕ, false, sym, ap, subst, arith, rules, length}
use Rattle.std.specs.Prelude.{Err}
use Rattle.lif_model.specs.Tape.{Tape}
use Rattle.lif_model.specs.Gate.{has_open_gate}
use Rattle.lif_model.specs.Redo.{redo_of, settled, IsSettled}
use Rattle.lif_model.specs.Commit.{IsSettleWrite, SettlesAs, settle_writes}
use Rattle.lif_model.proofs.Moments.{reads_too, after_still}
use Rattle.lif_model.proofs.Redo.{redo_closed, settled_twice, targets_few}
use Rattle.il_ports.proofs.Stores.{goes_further, goes_within}
use Rattle.lif_redo.specs.Reading.{IsFound, MayBeFound}
use Rattle.lif_redo.proofs.Told.{was_told, still_told, same_tape}
use Rattle.lif_redo.proofs.Held.{redo_is_open, shut_then}
use Rattle.lif_model.proofs.Texts.{most_fit}
use Rattle.lif_redo.proofs.Order.{settling_is}
use Rattle.lif_redo.proofs.Writes.{then_writes, same_writes, writes_only}
use Rattle.lif_redo.proofs.Promised.{settles_still, fails_as, goes_as}
use Rattle.lif_redo.proofs.atomic.settle_gate.Goals as goal

pub returns-in_err-look-clause-settles : goal.returns-in_err-look-clause-settles
returns-in_err-look-clause-settles g c =
    let is : c.from_residual.result ≡ Err c.in_err-look.field-0.0 = search rules in
    rw is (settles_still (g.R.Records.view c.args.records.now) (g.R.Records.view c.look.new.records) (Err c.in_err-look.field-0.0) (g.met.R.Records.is_store _) c.look.ensures.quiet (fails_as 2 _ _ _ c.in_err-look.ensures.goes_on) tt tt)

pub returns-in-Shut-clause-settles : goal.returns-in-Shut-clause-settles
returns-in-Shut-clause-settles g c =
    settles_still (g.R.Records.view c.args.records.now) (g.R.Records.view c.look.new.records) _ (g.met.R.Records.is_store _) c.look.ensures.quiet (goes_as 2 _ _ _ _ c.in_ok-look.ensures.goes_on)
    (λ t is. redo_closed t (subst (IsFound t) c.in-Shut.is (c.in_ok-look.ensures.found t is))) c.in_ok-look.ensures.writes

pub returns-in-Idle-clause-settles : goal.returns-in-Idle-clause-settles
returns-in-Idle-clause-settles g c =
    settles_still (g.R.Records.view c.args.records.now) (g.R.Records.view c.look.new.records) _ (g.met.R.Records.is_store _) c.look.ensures.quiet (goes_as 2 _ _ _ _ c.in_ok-look.ensures.goes_on)
    (λ t is. (subst (IsFound t) c.in-Idle.is (c.in_ok-look.ensures.found t is)).1) c.in_ok-look.ensures.writes

pub returns-in_err-replay-in-Redo-clause-settles : goal.returns-in_err-replay-in-Redo-clause-settles
returns-in_err-replay-in-Redo-clause-settles g c =
    let v = g.R.Records.view c.args.records.now in
    let w = g.R.Records.view c.replay.new.records in
    let n = v.record_count in
    let quiet = c.look.ensures.quiet in
    let are = subst (MayBeFound n) c.in-Redo.is c.in_ok-look.ensures.may_be in
    let is : c.from_residual-in_err-replay-in-Redo.result ≡ Err c.in_err-replay-in-Redo.field-0.0 = search rules in
    rw is (record {
      done = tt;
      settled = tt;
      any_moment = λ t told. after_still _ _ _ _ _ _ (SettlesAs (settled t)) quiet.moment quiet.since (c.replay.ensures.any_moment t (quiet.tape ∙ told));
      after = λ t told.
          let here = quiet.tape ∙ told in
          let now = still_told _ _ c.replay.ensures.goes_on.continues.told t here in
          (now.0, now.1, reads_too _ _ _ _ _ now.0 (c.replay.ensures.any_moment t here) (λ m le. (g.met.R.Records.is_store _).leaves_now m now.0 le now.1));
      idle = λ t told none. absurd (redo_is_open t n ((g.met.R.Records.is_store _).is_tape t told).records _ _ are (subst (IsFound t) c.in-Redo.is (c.in_ok-look.ensures.found t told)) none);
      goes_on = goes_within (2 + (2 * length c.as_slice.result.now + 1)) 70 v w _ (omega (arith, targets_few c.in-Redo.named.version n c.in-Redo.named.targets.items are, most_fit c.in-Redo.named.version, ap length c.as_slice.ensures.value))
          (goes_further 2 (2 * length c.as_slice.result.now + 1) _ _ _ c.in_ok-look.field-0 _ c.in_ok-look.ensures.goes_on (fails_as _ _ _ _ c.in_err-replay-in-Redo.ensures.goes_on));
      writes = tt;
      transfers = λ t told. tt;
    })

pub returns-in_ok-replay-in-Redo-clause-settles : goal.returns-in_ok-replay-in-Redo-clause-settles
returns-in_ok-replay-in-Redo-clause-settles g c =
    let v = g.R.Records.view c.args.records.now in
    let w = g.R.Records.view c.replay.new.records in
    let n = v.record_count in
    let quiet = c.look.ensures.quiet in
    let are = subst (MayBeFound n) c.in-Redo.is c.in_ok-look.ensures.may_be in
    let replayed = c.in_ok-replay-in-Redo.ensures.writes in
    let adds = same_writes _ _ _ _ (ap (λ (m : ℕ). settle_writes m replayed.0) c.look.ensures.goes_on.continues.size) (then_writes [] _ _ _ _ c.in_ok-look.ensures.writes replayed.2) in
    record {
      done = λ t told. c.in_ok-replay-in-Redo.ensures.done t (quiet.tape ∙ told);
      settled = λ t told.
          let was = was_told _ _ c.replay.ensures.goes_on.continues.told t told in
          let done = c.in_ok-replay-in-Redo.ensures.done was.0 was.1 in
          subst IsSettled {x = settled was.0} (same_tape _ _ _ done told) (settled_twice was.0);
      any_moment = λ t told. after_still _ _ _ _ _ _ (SettlesAs (settled t)) quiet.moment quiet.since (c.replay.ensures.any_moment t (quiet.tape ∙ told));
      after = λ t told.
          let here = quiet.tape ∙ told in
          let now = still_told _ _ c.replay.ensures.goes_on.continues.told t here in
          (now.0, now.1, reads_too _ _ _ _ _ now.0 (c.replay.ensures.any_moment t here) (λ m le. (g.met.R.Records.is_store _).leaves_now m now.0 le now.1));
      idle = λ t told none. absurd (redo_is_open t n ((g.met.R.Records.is_store _).is_tape t told).records _ _ are (subst (IsFound t) c.in-Redo.is (c.in_ok-look.ensures.found t told)) none);
      goes_on = goes_within (2 + (2 * length c.as_slice.result.now + 1)) 70 v w _ (omega (arith, targets_few c.in-Redo.named.version n c.in-Redo.named.targets.items are, most_fit c.in-Redo.named.version, ap length c.as_slice.ensures.value))
          (goes_further 2 (2 * length c.as_slice.result.now + 1) _ _ _ c.in_ok-look.field-0 _ c.in_ok-look.ensures.goes_on (goes_as _ _ _ _ _ c.in_ok-replay-in-Redo.ensures.goes_on));
      writes = (replayed.0, λ t told. replayed.1 t (quiet.tape ∙ told), adds);
      transfers = λ t told. writes_only (IsSettleWrite n (redo_of t)) _ _ _ (settling_is n (redo_of t)) (same_writes _ _ _ _ (ap (settle_writes n) (replayed.1 t (quiet.tape ∙ told))) adds);
    }

pub returns-in_ok-replay-in-Redo-clause-gate : goal.returns-in_ok-replay-in-Redo-clause-gate
returns-in_ok-replay-in-Redo-clause-gate g c t told =
    let n = (g.R.Records.view c.args.records.now).record_count in
    let was = was_told _ _ c.replay.ensures.goes_on.continues.told t told in
    let here = sym c.look.ensures.quiet.tape ∙ was.1 in
    let done = c.in_ok-replay-in-Redo.ensures.done was.0 was.1 in
    sym (subst (λ (u : Tape). has_open_gate u ≡ false) {x = settled was.0} (same_tape _ _ _ done told)
    (shut_then was.0 n ((g.met.R.Records.is_store _).is_tape was.0 here).records _ _ (subst (MayBeFound n) c.in-Redo.is c.in_ok-look.ensures.may_be) (subst (IsFound was.0) c.in-Redo.is (c.in_ok-look.ensures.found was.0 here))))
