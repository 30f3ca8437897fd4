use Rattle.std.proofs.Common.{◌++◌, ◌∷◌, [], false, if◌then◌else◌, ◌≡◌, ◌-◌, ◌+◌, ◌∙◌, ap, subst, arith, rules, ℕ, length, set}
use Rattle.std.specs.Prelude.{Some, Err}
use Rattle.lif_model.specs.Tape.{Tape}
use Rattle.lif_model.specs.Gate.{gate_of, has_open_gate}
use Rattle.lif_model.specs.Redo.{zeros, targets_place, targets_record, targets_in, changed, IsSettled}
use Rattle.lif_model.specs.Commit.{IsOldOrNew, Quiet, IsArmed, IsRedoWrite, IsCommitted, content_writes, close_writes, commit_writes}
use Rattle.lif_model.proofs.Moments.{reads_too, weaker}
use Rattle.lif_model.proofs.Redo.{changes_long, settled_has_none}
use Rattle.lif_model.proofs.Commit.{committed, old_quiet}
use Rattle.il_ports.specs.Stores.{RunLeaves}
use Rattle.il_ports.proofs.Stores.{goes_further, goes_within}
use Rattle.lif_redo.specs.Writing.{AddsWrites}
use Rattle.lif_redo.specs.Atomic.{commit_calls}
use Rattle.lif_redo.proofs.Run.{staged_run, opened_run, opened, is_opened, finished_run, committed_is_settled}
use Rattle.lif_redo.proofs.Told.{was_told, still_told, same_tape, written}
use Rattle.lif_redo.proofs.Filled.{changes_some}
use Rattle.lif_redo.proofs.Order.{in_order, commit_is}
use Rattle.lif_redo.proofs.Writes.{then_writes, same_writes, writes_only}
use Rattle.lif_redo.proofs.Promised.{commit_broken}
use Rattle.lif_redo.proofs.atomic.commit_known.Goals as goal

pub close-requires-clause-size : goal.close-requires-clause-size
close-requires-clause-size g c = (changes_long c.args.version (g.R.Records.view c.args.records.now).record_count c.args.changes.now c.requires.changes).0

pub close-requires-clause-none : goal.close-requires-clause-none
close-requires-clause-none g c t is = settled_has_none t (c.requires.settled t is)

pub stage-requires-clause-shut : goal.stage-requires-clause-shut
stage-requires-clause-shut g c t is =
    let told = was_told _ _ c.close.ensures.goes_on.continues.told t is in
    let closed = c.in_ok-close.ensures.closed told.0 told.1 in
    subst (λ (u : Tape). has_open_gate u ≡ false) (same_tape _ _ _ closed.1 is) (closed.2 c.args.version).gate

pub overflow_sub-gate : goal.overflow_sub-gate
overflow_sub-gate g c =
    omega (arith, (changes_long c.args.version (g.R.Records.view c.args.records.now).record_count c.args.changes.now c.requires.changes).0, c.size-gate.ensures, c.stage.ensures.goes_on.continues.size, c.close.ensures.goes_on.continues.size)

pub put-requires-clause-within : goal.put-requires-clause-within
put-requires-clause-within g c =
    omega (arith, (changes_long c.args.version (g.R.Records.view c.args.records.now).record_count c.args.changes.now c.requires.changes).0, c.size-gate.ensures, c.stage.ensures.goes_on.continues.size, c.close.ensures.goes_on.continues.size)

pub finish-requires-clause-armed : goal.finish-requires-clause-armed
finish-requires-clause-armed g c t is =
    let version = c.args.version in
    let staged_told = was_told _ _ c.put.ensures.stored.goes_on.continues.told t is in
    let closed_told = was_told _ _ c.stage.ensures.goes_on.continues.told staged_told.0 staged_told.1 in
    let told = was_told _ _ c.close.ensures.goes_on.continues.told closed_told.0 closed_told.1 in
    let s = told.0 in
    let cs = c.args.changes.now in
    let place : c.size-gate.result - 4 ≡ gate_of (length s) = omega (arith, ((g.met.R.Records.is_store _).is_tape s told.1).records, c.size-gate.ensures, c.stage.ensures.goes_on.continues.size, c.close.ensures.goes_on.continues.size) in
    let closed = c.in_ok-close.ensures.closed s told.1 in
    let staged = c.in_ok-stage.ensures.staged closed.0 closed.1 in
    let now : (g.R.Records.view c.put.new.records).tape ≡ Some (opened version cs s staged.0) = written _ staged.0 _ _ _ _ (c.in_ok-put.ensures.stored.content staged.0 staged.1) place c.open_gate_record.ensures in
    let is_open = is_opened version cs s closed.0 staged.0 (closed.2 version) staged.2 in
    (version, subst (IsArmed version cs) {x = opened version cs s staged.0} (same_tape _ _ _ now is) is_open.armed)

-- ---- where the store failed

pub returns-in_err-close : goal.returns-in_err-close
returns-in_err-close g c =
    let version = c.args.version in
    let cs = c.args.changes.now in
    let is : c.from_residual.result ≡ Err c.in_err-close.field-0.0 = search rules in
    rw is (commit_broken (commit_calls c.args.is_open (length cs)) (if c.args.is_open then 1 else 0) version cs (g.R.Records.view c.args.records.now) (g.R.Records.view c.close.new.records) c.in_err-close.field-0.0
    (omega arith) (g.met.R.Records.is_store _) c.in_err-close.ensures.goes_on
    (λ t told. weaker _ _ _ _ (IsOldOrNew version cs t) (Quiet version t) (c.close.ensures.any_moment version t told) (λ x. old_quiet version cs t x)))

pub returns-in_err-stage : goal.returns-in_err-stage
returns-in_err-stage g c =
    let version = c.args.version in
    let cs = c.args.changes.now in
    let is : c.from_residual-in_err-stage.result ≡ Err c.in_err-stage.field-0.0 = search rules in
    rw is (commit_broken (commit_calls c.args.is_open (length cs)) _ version cs (g.R.Records.view c.args.records.now) (g.R.Records.view c.stage.new.records) c.in_err-stage.field-0.0
    (omega arith) (g.met.R.Records.is_store _) (goes_further (if c.args.is_open then 1 else 0) (length cs + 1) _ _ _ tt _ c.in_ok-close.ensures.goes_on c.in_err-stage.ensures.goes_on)
    (λ t told.
    let closed = c.in_ok-close.ensures.closed t told in
    staged_run version cs t _ _ _ _ _ _ closed.0 (c.close.ensures.any_moment version t told) (closed.2 version) (c.stage.ensures.any_moment closed.0 closed.1)))

pub returns-in_err-put : goal.returns-in_err-put
returns-in_err-put g c =
    let version = c.args.version in
    let cs = c.args.changes.now in
    let is : c.from_residual-in_err-put.result ≡ Err c.in_err-put.field-0.0 = search rules in
    rw is (commit_broken (commit_calls c.args.is_open (length cs)) _ version cs (g.R.Records.view c.args.records.now) (g.R.Records.view c.put.new.records) c.in_err-put.field-0.0
    (omega arith) (g.met.R.Records.is_store _)
    (goes_further ((if c.args.is_open then 1 else 0) + (length cs + 1)) 1 _ _ _ tt _
    (goes_further (if c.args.is_open then 1 else 0) (length cs + 1) _ _ _ tt _ c.in_ok-close.ensures.goes_on c.in_ok-stage.ensures.goes_on) c.in_err-put.ensures.stored.goes_on)
    (λ t told.
    let place : c.size-gate.result - 4 ≡ gate_of (length t) = omega (arith, ((g.met.R.Records.is_store _).is_tape t told).records, c.size-gate.ensures, c.stage.ensures.goes_on.continues.size, c.close.ensures.goes_on.continues.size) in
    let closed = c.in_ok-close.ensures.closed t told in
    let staged = c.in_ok-stage.ensures.staged closed.0 closed.1 in
    let so_far = staged_run version cs t _ _ _ _ _ _ closed.0 (c.close.ensures.any_moment version t told) (closed.2 version) (c.stage.ensures.any_moment closed.0 closed.1) in
    opened_run version cs t _ _ _ _ _ _ _ closed.0 staged.0 _ so_far (closed.2 version) staged.1 staged.2 place c.put.ensures.stored.time))

pub returns-in_err-finish : goal.returns-in_err-finish
returns-in_err-finish g c =
    let version = c.args.version in
    let cs = c.args.changes.now in
    let is : c.from_residual-in_err-finish.result ≡ Err c.in_err-finish.field-0.0 = search rules in
    rw is (commit_broken (commit_calls c.args.is_open (length cs)) _ version cs (g.R.Records.view c.args.records.now) (g.R.Records.view c.finish.new.records) c.in_err-finish.field-0.0
    (omega arith) (g.met.R.Records.is_store _)
    (goes_further ((if c.args.is_open then 1 else 0) + (length cs + 1) + 1) (length cs + 1) _ _ _ tt _
    (goes_further ((if c.args.is_open then 1 else 0) + (length cs + 1)) 1 _ _ _ tt _
    (goes_further (if c.args.is_open then 1 else 0) (length cs + 1) _ _ _ tt _ c.in_ok-close.ensures.goes_on c.in_ok-stage.ensures.goes_on) c.in_ok-put.ensures.stored.goes_on) c.in_err-finish.ensures.goes_on)
    (λ t told.
    let place : c.size-gate.result - 4 ≡ gate_of (length t) = omega (arith, ((g.met.R.Records.is_store _).is_tape t told).records, c.size-gate.ensures, c.stage.ensures.goes_on.continues.size, c.close.ensures.goes_on.continues.size) in
    let closed = c.in_ok-close.ensures.closed t told in
    let staged = c.in_ok-stage.ensures.staged closed.0 closed.1 in
    let so_far = staged_run version cs t _ _ _ _ _ _ closed.0 (c.close.ensures.any_moment version t told) (closed.2 version) (c.stage.ensures.any_moment closed.0 closed.1) in
    let opening = opened_run version cs t _ _ _ _ _ _ _ closed.0 staged.0 _ so_far (closed.2 version) staged.1 staged.2 place c.put.ensures.stored.time in
    let now : (g.R.Records.view c.put.new.records).tape ≡ Some (opened version cs t staged.0) = written _ staged.0 _ _ _ _ (c.in_ok-put.ensures.stored.content staged.0 staged.1) place c.open_gate_record.ensures in
    finished_run version cs t _ _ _ _ _ _ _ opening (is_opened version cs t closed.0 staged.0 (closed.2 version) staged.2) (c.finish.ensures.any_moment _ now)))

-- ---- at Ok

pub returns : goal.returns
returns g c =
    let version = c.args.version in
    let cs = c.args.changes.now in
    let v = g.R.Records.view c.args.records.now in
    let w = g.R.Records.view c.finish.new.records in
    let n = v.record_count in
    let size : (g.R.Records.view c.close.new.records).record_count ≡ n = c.close.ensures.goes_on.continues.size in
    let later : (g.R.Records.view c.put.new.records).record_count ≡ n = c.put.ensures.stored.goes_on.continues.size ∙ c.stage.ensures.goes_on.continues.size ∙ size in
    let told = c.finish.ensures.goes_on.continues.told ∙ c.put.ensures.stored.goes_on.continues.told ∙ c.stage.ensures.goes_on.continues.told ∙ c.close.ensures.goes_on.continues.told in
    let gate : c.size-gate.result - 4 ≡ gate_of n = omega (arith, c.size-gate.ensures, c.stage.ensures.goes_on.continues.size, size) in
    let place : (t : Tape) → v.tape ≡ Some t → c.size-gate.result - 4 ≡ gate_of (length t) =
    λ t is. omega (arith, ((g.met.R.Records.is_store _).is_tape t is).records, c.size-gate.ensures, c.stage.ensures.goes_on.continues.size, c.close.ensures.goes_on.continues.size) in
    let moments : (t : Tape) → v.tape ≡ Some t → RunLeaves v w (IsOldOrNew version cs t) = λ t is.
    let closed = c.in_ok-close.ensures.closed t is in
    let staged = c.in_ok-stage.ensures.staged closed.0 closed.1 in
    let so_far = staged_run version cs t _ _ _ _ _ _ closed.0 (c.close.ensures.any_moment version t is) (closed.2 version) (c.stage.ensures.any_moment closed.0 closed.1) in
    let opening = opened_run version cs t _ _ _ _ _ _ _ closed.0 staged.0 _ so_far (closed.2 version) staged.1 staged.2 (place t is) c.put.ensures.stored.time in
    let now : (g.R.Records.view c.put.new.records).tape ≡ Some (opened version cs t staged.0) = written _ staged.0 _ _ _ _ (c.in_ok-put.ensures.stored.content staged.0 staged.1) (place t is) c.open_gate_record.ensures in
    finished_run version cs t _ _ _ _ _ _ _ opening (is_opened version cs t closed.0 staged.0 (closed.2 version) staged.2) (c.finish.ensures.any_moment _ now) in
    let done : (t : Tape) → v.tape ≡ Some t → (u : Tape) × (w.tape ≡ Some u) × IsCommitted version cs t u = λ t is.
    let closed = c.in_ok-close.ensures.closed t is in
    let staged = c.in_ok-stage.ensures.staged closed.0 closed.1 in
    let now : (g.R.Records.view c.put.new.records).tape ≡ Some (opened version cs t staged.0) = written _ staged.0 _ _ _ _ (c.in_ok-put.ensures.stored.content staged.0 staged.1) (place t is) c.open_gate_record.ensures in
    let is_open = is_opened version cs t closed.0 staged.0 (closed.2 version) staged.2 in
    let x : Tape = opened version cs t staged.0 in
    (_, c.in_ok-finish.ensures.done x now ∙ ap (λ (m : ℕ). Some (set (changed cs x) (gate_of m) zeros)) is_open.records, committed version cs t x is_open) in
    let adds : AddsWrites (commit_writes version n c.args.is_open cs) v.transferred w.transferred = same_writes _ _ _ _
    ((λ d. close_writes n c.args.is_open ++ ((content_writes version (size d) 0 cs ++ (targets_place (size d), targets_record version (targets_in cs)) ∷ [])
    ++ ((gate d, c.open_gate_record.ensures d) ∷ [] ++ (cs ++ (gate_of (later d), zeros) ∷ []))))
    ∙ in_order version n c.args.is_open cs (changes_some version n cs c.requires.changes))
    (then_writes _ _ _ _ _ c.in_ok-close.ensures.writes (then_writes _ _ _ _ _ c.in_ok-stage.ensures.writes (then_writes _ _ _ _ _ c.in_ok-put.ensures.writes c.in_ok-finish.ensures.writes))) in
    record {
      done = done;
      settled = λ t is.
          let was = was_told _ _ told t is in
          let left = done was.0 was.1 in
          subst IsSettled {x = left.0} (same_tape _ _ _ left.1 is) (committed_is_settled version cs was.0 left.0 left.2);
      any_moment = moments;
      after = λ t is. let now = still_told _ _ told t is in (now.0, now.1, reads_too _ _ _ _ _ now.0 (moments t is) (λ m le. (g.met.R.Records.is_store _).leaves_now m now.0 le now.1));
      goes_on = goes_within _ (commit_calls c.args.is_open (length cs)) _ _ _ (omega arith)
          (goes_further ((if c.args.is_open then 1 else 0) + (length cs + 1) + 1) (length cs + 1) _ _ _ tt _
          (goes_further ((if c.args.is_open then 1 else 0) + (length cs + 1)) 1 _ _ _ tt _
          (goes_further (if c.args.is_open then 1 else 0) (length cs + 1) _ _ _ tt _ c.in_ok-close.ensures.goes_on c.in_ok-stage.ensures.goes_on) c.in_ok-put.ensures.stored.goes_on) c.in_ok-finish.ensures.goes_on);
      writes = (c.args.is_open, c.requires.gate, adds);
      transfers = writes_only (IsRedoWrite version n cs) _ _ _ (commit_is version n cs c.requires.changes c.args.is_open) adds;
    }
