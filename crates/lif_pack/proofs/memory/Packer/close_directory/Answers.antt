use Rattle.std.proofs.Common.{◌≡◌, ◌+◌, ◌*◌, ◌/◌, ◌∙◌, ℕ, List, length, take, filter, refl, sym, subst, arith}
use Rattle.std.specs.Prelude.{Err}
use Rattle.std.proofs.lemmas.Result.{on_ok_weaker}
use Rattle.lif_model.specs.Legal.{is_live}
use Rattle.il_ports.specs.Stores.{RunLeaves}
use Rattle.il_ports.proofs.Stores.{goes_further, goes_within}
use Rattle.lif_commit.proofs.Staging.{goes_failed}
use Rattle.lif_pack.specs.Packers.{slots_held}
use Rattle.lif_pack.specs.Steps.{MayPack, TapeHasSlots}
use Rattle.lif_pack.specs.Tasks.{KeepsFiles}
use Rattle.lif_pack.proofs.Placing.{tape_then}
use Rattle.lif_pack.proofs.Keeping.{kept_further}
use Rattle.lif_pack.proofs.Answered.{passed_on}
use Rattle.lif_pack.proofs.Ended.{live_is_front}
use Rattle.lif_pack.proofs.memory.Packer.close_directory.Goals as goal

pub returns-in_err-count-clause-goes_on : goal.returns-in_err-count-clause-goes_on
returns-in_err-count-clause-goes_on g c =
    let calls : ℕ = 13 * (length (slots_held c.args.self.now) / 8 + 1) in
    let is : c.from_residual.result ≡ Err c.in_err-count.field-0.0 = passed_on c.from_residual.result c.in_err-count.field-0.0 c.from_residual.ensures.0 c.from_residual.ensures.1 in
    rw is (goes_within calls (calls + 9) _ _ _ (omega arith) (goes_failed calls _ _ c.in_err-count.field-0.0 c.in_err-count.ensures.goes_on))

pub returns-in_err-count-clause-stops : goal.returns-in_err-count-clause-stops
returns-in_err-count-clause-stops g c t is end redo may v some same starts ends = c.close_up.ensures.stops end redo t v may is some same starts ends

pub end_directory-requires-clause-may : goal.end_directory-requires-clause-may
end_directory-requires-clause-may g c =
    let p = c.requires.may in
    let done = c.in_ok-count.ensures in
    let now = done.may p.0 p.1 p.2 in
    (p.0, now.0, subst (λ (m : ℕ). MayPack m c.args.first p.0 now.0 (slots_held c.close_up.new.self)) (sym done.goes_on.continues.size) now.1)

pub returns-clause-goes_on : goal.returns-clause-goes_on
returns-clause-goes_on g c =
    goes_further (13 * (length (slots_held c.args.self.now) / 8 + 1)) 9 _ _ _ _ _ c.in_ok-count.ensures.goes_on c.end_directory.ensures.goes_on

pub returns-clause-closes : goal.returns-clause-closes
returns-clause-closes g c = on_ok_weaker c.end_directory.result (λ ended.
    let n : ℕ = (g.R.Records.view c.args.records.now).record_count in
    let old = slots_held c.args.self.now in
    let mid = slots_held c.close_up.new.self in
    let done = c.in_ok-count.ensures in
    let size : (g.R.Records.view c.close_up.new.records).record_count ≡ n = done.goes_on.continues.size in
    let front : take c.in_ok-count.count mid ≡ filter is_live old = live_is_front c.in_ok-count.count mid done.gap ∙ done.live in
    subst (λ (xs : List (List ℕ)). TapeHasSlots n c.args.first old xs (g.R.Records.view c.args.records.now).tape (g.R.Records.view c.end_directory.new.records).tape) front
    (tape_then n c.args.first old mid (take c.in_ok-count.count mid) _ _ _ done.may done.closes
    (subst (λ (m : ℕ). TapeHasSlots m c.args.first mid (take c.in_ok-count.count mid) (g.R.Records.view c.close_up.new.records).tape (g.R.Records.view c.end_directory.new.records).tape) size ended)))
    c.end_directory.ensures.ends

pub returns-clause-stops : goal.returns-clause-stops
returns-clause-stops g c t is end redo may v some same starts ends =
    let n : ℕ = (g.R.Records.view c.args.records.now).record_count in
    let done = c.in_ok-count.ensures in
    let first = done.stops end redo t v may is some same starts ends in
    let mid = done.closes end redo t may is in
    let size : (g.R.Records.view c.close_up.new.records).record_count ≡ n = done.goes_on.continues.size in
    kept_further (g.R.Records.view c.args.records.now) (g.R.Records.view c.close_up.new.records) (g.R.Records.view c.end_directory.new.records) n t mid.0 (g.met.R.Records.is_store _) mid.1 first
    (subst (λ (m : ℕ). RunLeaves (g.R.Records.view c.close_up.new.records) (g.R.Records.view c.end_directory.new.records) (KeepsFiles m mid.0)) size
    (c.end_directory.ensures.stops mid.0 (record v { slots = slots_held c.close_up.new.self }) mid.1 (mid.2.volume v some same starts ends) refl starts))
