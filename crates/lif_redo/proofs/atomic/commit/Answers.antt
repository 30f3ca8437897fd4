use Rattle.std.proofs.Common.{◌≡◌, ◌+◌, ◌*◌, Bool, true, false, ℕ, length, arith, rules, ◌≤◌}
use Rattle.std.specs.Prelude.{Err}
use Rattle.lif_model.specs.Commit.{IsOldOrNew}
use Rattle.lif_model.proofs.Redo.{changes_long, settled_has_none}
use Rattle.lif_model.proofs.Commit.{old_quiet, quiet_here}
use Rattle.il_ports.proofs.Stores.{quiet_run}
use Rattle.lif_redo.specs.Atomic.{commit_calls}
use Rattle.lif_redo.proofs.Promised.{commit_broken, commit_asked, fails_as}
use Rattle.lif_redo.proofs.atomic.commit.Goals as goal

few : (b : Bool) (k : ℕ) → commit_calls b k ≤ 2 * k + 4
few true k = omega arith
few false k = omega arith

pub is_gate_open-requires-clause-size : goal.is_gate_open-requires-clause-size
is_gate_open-requires-clause-size g c = omega (arith, (changes_long c.args.version (g.R.Records.view c.args.records.now).record_count c.args.changes.now c.requires.changes).0)

pub returns-in_err-is_open : goal.returns-in_err-is_open
returns-in_err-is_open g c =
    let version = c.args.version in
    let cs = c.args.changes.now in
    let is : c.from_residual.result ≡ Err c.in_err-is_open.field-0.0 = search rules in
    rw is (commit_broken (2 * length cs + 6) 1 version cs (g.R.Records.view c.args.records.now) (g.R.Records.view c.is_gate_open.new.records) c.in_err-is_open.field-0.0
    (omega arith) (g.met.R.Records.is_store _) (fails_as 1 _ _ _ c.in_err-is_open.ensures.goes_on)
    (λ t told. quiet_run _ _ (IsOldOrNew version cs t) t (g.met.R.Records.is_store _) c.is_gate_open.ensures.quiet told (old_quiet version cs t t (quiet_here version t (settled_has_none t (c.requires.settled t told))))))

pub commit_known-requires-clause-ready : goal.commit_known-requires-clause-ready
commit_known-requires-clause-ready g c =
    let k = c.is_gate_open.ensures.goes_on.continues in
    record { valid = k.valid; sound = c.in_ok-is_open.ensures.goes_on.continues.sound; left = omega (arith, few c.in_ok-is_open.is_open (length c.args.changes.now), c.requires.ready.left, k.left) }

pub returns : goal.returns
returns g c =
    let version = c.args.version in
    let cs = c.args.changes.now in
    commit_asked 1 (commit_calls c.in_ok-is_open.is_open (length cs)) (2 * length cs + 6) version cs (g.R.Records.view c.args.records.now) (g.R.Records.view c.is_gate_open.new.records) (g.R.Records.view c.commit_known.new.records)
    c.in_ok-is_open.is_open c.commit_known.result (omega (arith, few c.in_ok-is_open.is_open (length cs))) c.requires.changes c.is_gate_open.ensures.quiet c.in_ok-is_open.ensures.goes_on c.in_ok-is_open.ensures.writes c.commit_known.ensures
