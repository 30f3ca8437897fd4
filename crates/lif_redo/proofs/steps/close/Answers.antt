use Rattle.std.proofs.Common.{◌≡◌, ◌<◌, ◌-◌, ◌∙◌, sym, subst, arith, ℕ, true, length}
use Rattle.lif_model.specs.Gate.{gate_of, has_open_gate}
use Rattle.lif_model.specs.Stops.{Torn}
use Rattle.lif_model.specs.Redo.{zeros}
use Rattle.lif_model.proofs.Moments.{goes_on}
use Rattle.lif_model.proofs.Redo.{zeros_are_shut}
use Rattle.lif_model.proofs.Commit.{quiet_here, quiet_gate, gate_set}
use Rattle.lif_redo.proofs.Told.{written}
use Rattle.il_ports.proofs.Stores.{quiet_run, quiet_nowhere}
use Rattle.lif_redo.proofs.steps.close.Goals as goal

pub returns-else-is_open-clause-any_moment : goal.returns-else-is_open-clause-any_moment
returns-else-is_open-clause-any_moment g c version t is =
    quiet_run _ _ _ t (g.met.R.Records.is_store _) (quiet_nowhere (g.R.Records.view c.args.records.now)) is (quiet_here version t (c.requires.none t is))

pub returns-in_err-put-clause-any_moment : goal.returns-in_err-put-clause-any_moment
returns-in_err-put-clause-any_moment g c version t is =
    let size = ((g.met.R.Records.is_store _).is_tape t is).records in
    let place : c.size-gate.result - 4 ≡ gate_of (length t) = omega (arith, size, c.size-gate.ensures) in
    let gate : has_open_gate t ≡ true = sym (c.requires.gate t is) ∙ c.if-is_open.true in
    let none = c.requires.none t is in
    let long : 4 < length t = omega (arith, size, c.requires.size) in
    let here = quiet_run _ _ _ t (g.met.R.Records.is_store _) (quiet_nowhere (g.R.Records.view c.args.records.now)) is (quiet_here version t none) in
    goes_on _ _ _ _ _ _ _ _ _ t is here c.put.ensures.stored.time (λ x torn. quiet_gate version t x gate none long (subst (λ (n : ℕ). Torn n t x) place torn))

pub returns-in_ok-put-clause-any_moment : goal.returns-in_ok-put-clause-any_moment
returns-in_ok-put-clause-any_moment g c version t is =
    let size = ((g.met.R.Records.is_store _).is_tape t is).records in
    let place : c.size-gate.result - 4 ≡ gate_of (length t) = omega (arith, size, c.size-gate.ensures) in
    let gate : has_open_gate t ≡ true = sym (c.requires.gate t is) ∙ c.if-is_open.true in
    let none = c.requires.none t is in
    let long : 4 < length t = omega (arith, size, c.requires.size) in
    let here = quiet_run _ _ _ t (g.met.R.Records.is_store _) (quiet_nowhere (g.R.Records.view c.args.records.now)) is (quiet_here version t none) in
    goes_on _ _ _ _ _ _ _ _ _ t is here c.put.ensures.stored.time (λ x torn. quiet_gate version t x gate none long (subst (λ (n : ℕ). Torn n t x) place torn))

pub returns-in_ok-put-clause-closed : goal.returns-in_ok-put-clause-closed
returns-in_ok-put-clause-closed g c t is =
    let size = ((g.met.R.Records.is_store _).is_tape t is).records in
    let place : c.size-gate.result - 4 ≡ gate_of (length t) = omega (arith, size, c.size-gate.ensures) in
    let long : gate_of (length t) < length t = omega (arith, size, c.requires.size) in
    (_, written _ _ _ _ _ _ (c.in_ok-put.ensures.stored.content t is) place c.zero_record.ensures, λ version. gate_set version t zeros long zeros_are_shut)
