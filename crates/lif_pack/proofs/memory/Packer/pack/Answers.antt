use Rattle.std.proofs.Common.{◌≡◌, ◌+◌, ◌-◌, ◌*◌, ◌∙◌, ℕ, true, false, sym, ap, subst, arith}
use Rattle.std.specs.Prelude.{Some, Ok, Err, is_ok, is_some}
use Rattle.lif_model.specs.Tape.{Tape}
use Rattle.lif_model.specs.Commit.{IsSettleWrite}
use Rattle.lif_model.specs.Redo.{redo_of, settled}
use Rattle.il_ports.specs.Stores.{GoesOn, RunLeaves}
use Rattle.il_ports.specs.Transfers.{AddsOnly, GoesOnBy}
use Rattle.il_ports.proofs.Stores.{goes_further, goes_within}
use Rattle.lif_commit.proofs.Staging.{goes_failed, goes_told}
use Rattle.lif_volume.specs.Answers.{IsSettledAs, store_answer, troubled}
use Rattle.lif_volume.specs.Commands.{SettlesOnly}
use Rattle.lif_pack.specs.declared.pack.Packed.{Packed}
use Rattle.lif_pack.specs.declared.reading.Readable.{Readable}
use Rattle.lif_pack.specs.Packers.{slots_held}
use Rattle.lif_pack.specs.Tasks.{KeepsFiles}
use Rattle.lif_pack.specs.Packs.{PacksTo, IsPacking, AreThoseOf, StaysFiled}
use Rattle.lif_pack.proofs.Placing.{end_below}
use Rattle.lif_pack.proofs.Keeping.{filed_by_shown, filed_further}
use Rattle.lif_pack.proofs.PackedTape.{packed_those, packing_of}
use Rattle.lif_pack.proofs.Answered.{adds_alike, passed_on, same_tape, refused_packing, packable_own}
use Rattle.lif_pack.proofs.memory.Packer.pack.Goals as goal

-- ---- what is read refuses it

pub returns-in_err-found-clause-answers : goal.returns-in_err-found-clause-answers
returns-in_err-found-clause-answers g c t u is now =
    let n : ℕ = (g.R.Records.view c.args.volume.now.records).record_count in
    let fault = c.in_err-found.field-0.0 in
    let passed : c.from_residual.result ≡ Err fault = passed_on c.from_residual.result fault c.from_residual.ensures.0 c.from_residual.ensures.1 in
    subst (PacksTo n t u) (sym passed) (refused_packing n t u fault (c.in_err-found.ensures.refused t u is
    (sym (ap (λ r. (g.R.Records.view r).tape) c.records_mut-records.ensures.value) ∙ now)))

pub returns-in_err-found-clause-files : goal.returns-in_err-found-clause-files
returns-in_err-found-clause-files g c t is own =
    subst (λ r. StaysFiled (g.R.Records.view c.args.volume.now.records) (g.R.Records.view r) t) (sym c.records_mut-records.ensures.value)
    (filed_by_shown _ _ t (c.in_err-found.ensures.shown t is own))

-- ---- the packing

pub pack_held-requires-clause-settled : goal.pack_held-requires-clause-settled
pack_held-requires-clause-settled g c t is = c.in_ok-found.ensures.settled t (sym (ap (λ r. (g.R.Records.view r).tape) c.records_mut-records.ensures.value) ∙ is)

pub returns-in_err-packed-clause-goes_on : goal.returns-in_err-packed-clause-goes_on
returns-in_err-packed-clause-goes_on g c =
    let n : ℕ = (g.R.Records.view c.args.volume.now.records).record_count in
    let read = c.in_ok-found.ensures in
    let found = c.in_ok-found.found in
    let lent : c.records_mut-records.result.now ≡ c.read-read.new.volume.records = c.records_mut-records.ensures.value in
    let size : (g.R.Records.view c.records_mut-records.result.now).record_count ≡ n = ap (λ r. (g.R.Records.view r).record_count) lent ∙ read.goes_on.continues.size in
    let trouble = c.in_err-packed.field-0.0 in
    let passed : c.from_residual-in_err-packed.result ≡ Err (troubled trouble) = passed_on c.from_residual-in_err-packed.result (troubled trouble) c.from_residual-in_err-packed.ensures.0 c.from_residual-in_err-packed.ensures.1 in
    let long : ℕ = found.end - found.first in
    let calls : ℕ = 15 * (g.R.Records.view c.records_mut-records.result.now).record_count + 49 - long in
    let below = end_below n found.first found.end found.redo (slots_held c.read-read.new.self) read.may.0 in
    rw passed (goes_within (71 + long + calls) (15 * n + 120) _ _ _ (omega (arith, size, below))
    (goes_further (71 + long) calls _ _ _ _ _ read.goes_on (goes_failed calls _ _ trouble
    (subst (λ r. GoesOn calls (g.R.Records.view r) (g.R.Records.view c.pack_held.new.records) (Err trouble)) lent c.in_err-packed.ensures.goes_on))))

pub returns-in_err-packed-clause-files : goal.returns-in_err-packed-clause-files
returns-in_err-packed-clause-files g c t is own =
    let n : ℕ = (g.R.Records.view c.args.volume.now.records).record_count in
    let read = c.in_ok-found.ensures in
    let found = c.in_ok-found.found in
    let lent : c.records_mut-records.result.now ≡ c.read-read.new.volume.records = c.records_mut-records.ensures.value in
    let size : (g.R.Records.view c.records_mut-records.result.now).record_count ≡ n = ap (λ r. (g.R.Records.view r).record_count) lent ∙ read.goes_on.continues.size in
    let those = read.those t is in
    let tape : (g.R.Records.view c.records_mut-records.result.now).tape ≡ Some (settled t) = ap (λ r. (g.R.Records.view r).tape) lent ∙ those.0 in
    let next = c.pack_held.ensures.stops (settled t) those.1 tape those.2 (subst (λ (m : ℕ). AreThoseOf m found.first found.end found.redo found.task (slots_held c.read-read.new.self) those.1) (sym size) those.3) in
    filed_further (g.R.Records.view c.args.volume.now.records) (g.R.Records.view c.read-read.new.volume.records) (g.R.Records.view c.pack_held.new.records) t (g.met.R.Records.is_store _)
    (c.pack_held.ensures.goes_on.continues.told ∙ ap is_some tape) (read.shown t is own)
    (subst (λ (m : ℕ). RunLeaves (g.R.Records.view c.read-read.new.volume.records) (g.R.Records.view c.pack_held.new.records) (KeepsFiles m (settled t))) size
    (subst (λ r. RunLeaves (g.R.Records.view r) (g.R.Records.view c.pack_held.new.records) (KeepsFiles (g.R.Records.view c.records_mut-records.result.now).record_count (settled t))) lent next))

pub returns-in_err-packed-clause-foreign : goal.returns-in_err-packed-clause-foreign
returns-in_err-packed-clause-foreign g c t is on =
    let those = c.in_ok-found.ensures.those t is in
    absurd (packable_own _ t those.1 ((g.met.R.Records.is_store _).is_tape t is) those.2 those.3.version on)

pub returns-clause-goes_on : goal.returns-clause-goes_on
returns-clause-goes_on g c =
    let n : ℕ = (g.R.Records.view c.args.volume.now.records).record_count in
    let read = c.in_ok-found.ensures in
    let found = c.in_ok-found.found in
    let lent : c.records_mut-records.result.now ≡ c.read-read.new.volume.records = c.records_mut-records.ensures.value in
    let size : (g.R.Records.view c.records_mut-records.result.now).record_count ≡ n = ap (λ r. (g.R.Records.view r).record_count) lent ∙ read.goes_on.continues.size in
    let long : ℕ = found.end - found.first in
    let calls : ℕ = 15 * (g.R.Records.view c.records_mut-records.result.now).record_count + 49 - long in
    let below = end_below n found.first found.end found.redo (slots_held c.read-read.new.self) read.may.0 in
    goes_within (71 + long + calls) (15 * n + 120) _ _ _ (omega (arith, size, below))
    (goes_further (71 + long) calls _ _ _ _ _ read.goes_on (goes_told calls _ _ c.in_ok-packed.packed tt
    (subst (λ r. GoesOn calls (g.R.Records.view r) (g.R.Records.view c.pack_held.new.records) (Ok c.in_ok-packed.packed)) lent c.in_ok-packed.ensures.goes_on)))

pub returns-clause-answers : goal.returns-clause-answers
returns-clause-answers g c t u is now =
    let n : ℕ = (g.R.Records.view c.args.volume.now.records).record_count in
    let read = c.in_ok-found.ensures in
    let found = c.in_ok-found.found in
    let lent : c.records_mut-records.result.now ≡ c.read-read.new.volume.records = c.records_mut-records.ensures.value in
    let size : (g.R.Records.view c.records_mut-records.result.now).record_count ≡ n = ap (λ r. (g.R.Records.view r).record_count) lent ∙ read.goes_on.continues.size in
    let those = read.those t is in
    let tape : (g.R.Records.view c.records_mut-records.result.now).tape ≡ Some (settled t) = ap (λ r. (g.R.Records.view r).tape) lent ∙ those.0 in
    let done = c.in_ok-packed.ensures.packs (settled t) those.1 tape those.2 (subst (λ (m : ℕ). AreThoseOf m found.first found.end found.redo found.task (slots_held c.read-read.new.self) those.1) (sym size) those.3) in
    let here : done.0 ≡ u = same_tape u done.0 (g.R.Records.view c.pack_held.new.records).tape done.1 now in
    packing_of n t u c.in_ok-packed.packed (subst (λ (x : Tape). IsPacking n (settled t) x c.in_ok-packed.packed) here (subst (λ (m : ℕ). IsPacking m (settled t) done.0 c.in_ok-packed.packed) size done.2))

pub returns-clause-files : goal.returns-clause-files
returns-clause-files g c t is own =
    let n : ℕ = (g.R.Records.view c.args.volume.now.records).record_count in
    let read = c.in_ok-found.ensures in
    let found = c.in_ok-found.found in
    let lent : c.records_mut-records.result.now ≡ c.read-read.new.volume.records = c.records_mut-records.ensures.value in
    let size : (g.R.Records.view c.records_mut-records.result.now).record_count ≡ n = ap (λ r. (g.R.Records.view r).record_count) lent ∙ read.goes_on.continues.size in
    let those = read.those t is in
    let tape : (g.R.Records.view c.records_mut-records.result.now).tape ≡ Some (settled t) = ap (λ r. (g.R.Records.view r).tape) lent ∙ those.0 in
    let next = c.pack_held.ensures.stops (settled t) those.1 tape those.2 (subst (λ (m : ℕ). AreThoseOf m found.first found.end found.redo found.task (slots_held c.read-read.new.self) those.1) (sym size) those.3) in
    filed_further (g.R.Records.view c.args.volume.now.records) (g.R.Records.view c.read-read.new.volume.records) (g.R.Records.view c.pack_held.new.records) t (g.met.R.Records.is_store _)
    (c.pack_held.ensures.goes_on.continues.told ∙ ap is_some tape) (read.shown t is own)
    (subst (λ (m : ℕ). RunLeaves (g.R.Records.view c.read-read.new.volume.records) (g.R.Records.view c.pack_held.new.records) (KeepsFiles m (settled t))) size
    (subst (λ r. RunLeaves (g.R.Records.view r) (g.R.Records.view c.pack_held.new.records) (KeepsFiles (g.R.Records.view c.records_mut-records.result.now).record_count (settled t))) lent next))

pub returns-clause-foreign : goal.returns-clause-foreign
returns-clause-foreign g c t is on =
    let those = c.in_ok-found.ensures.those t is in
    absurd (packable_own _ t those.1 ((g.met.R.Records.is_store _).is_tape t is) those.2 those.3.version on)

-- ---- it was packed already

pub returns-in_err-found-clause-again : goal.returns-in_err-found-clause-again
returns-in_err-found-clause-again g c = λ t is on.
    let n : ℕ = (g.R.Records.view c.args.volume.now.records).record_count in
    let fault = c.in_err-found.field-0.0 in
    let lent : c.records_mut-records.result.now ≡ c.read-read.new.volume.records = c.records_mut-records.ensures.value in
    let passed : c.from_residual.result ≡ Err fault = passed_on c.from_residual.result fault c.from_residual.ensures.0 c.from_residual.ensures.1 in (
      λ u told. subst (λ r. SettlesOnly (g.R.Records.view c.args.volume.now.records) (g.R.Records.view r) u) (sym lent) (c.in_err-found.ensures.settling u told),
      λ u told. subst (λ answer. AddsOnly (IsSettleWrite n (redo_of u)) (g.R.Records.view c.args.volume.now.records).transferred (g.R.Records.view c.records_mut-records.result.now).transferred (store_answer answer))
          (sym passed)
          (subst (λ r. AddsOnly (IsSettleWrite n (redo_of u)) (g.R.Records.view c.args.volume.now.records).transferred (g.R.Records.view r).transferred (store_answer {T = Packed} (Err fault))) (sym lent)
          (adds_alike Readable Packed fault _ _ _ (c.in_err-found.ensures.writes u told))),
      subst (λ answer. IsSettledAs t (g.R.Records.view c.records_mut-records.result.now).tape answer) (sym passed) tt,
    )

pub returns-in_err-packed-clause-again : goal.returns-in_err-packed-clause-again
returns-in_err-packed-clause-again g c = λ t is on.
    let read = c.in_ok-found.ensures in
    let found = c.in_ok-found.found in
    let those = read.those t is in
    let stands = packed_those (g.R.Records.view c.args.volume.now.records).record_count found.first found.end found.redo found.task (slots_held c.read-read.new.self) t those.1 those.2 on read.may.0 those.3 in
    let no : false ≡ true = ap is_ok (sym c.in_err-packed.was) ∙ (c.pack_held.ensures.idle stands.none stands.live stands.placed).0 in
    absurd (cc)

pub returns-clause-again : goal.returns-clause-again
returns-clause-again g c = λ t is on.
    let n : ℕ = (g.R.Records.view c.args.volume.now.records).record_count in
    let read = c.in_ok-found.ensures in
    let found = c.in_ok-found.found in
    let those = read.those t is in
    let stands = packed_those n found.first found.end found.redo found.task (slots_held c.read-read.new.self) t those.1 those.2 on read.may.0 those.3 in
    let still : c.pack_held.new.records ≡ c.read-read.new.volume.records = (c.pack_held.ensures.idle stands.none stands.live stands.placed).1 ∙ c.records_mut-records.ensures.value in (
      λ u told. subst (λ r. SettlesOnly (g.R.Records.view c.args.volume.now.records) (g.R.Records.view r) u) (sym still) (read.settling u told),
      λ u told. subst (λ r. GoesOnBy (IsSettleWrite n (redo_of u)) (g.R.Records.view c.args.volume.now.records).transferred (g.R.Records.view r).transferred) (sym still) (read.writes u told),
      ap (λ r. (g.R.Records.view r).tape) still ∙ those.0,
    )

-- ---- a refusal

pub returns-in_err-found-clause-refusal : goal.returns-in_err-found-clause-refusal
returns-in_err-found-clause-refusal g c = λ why is u told.
    let n : ℕ = (g.R.Records.view c.args.volume.now.records).record_count in
    let fault = c.in_err-found.field-0.0 in
    let lent : c.records_mut-records.result.now ≡ c.read-read.new.volume.records = c.records_mut-records.ensures.value in
    let passed : c.from_residual.result ≡ Err fault = passed_on c.from_residual.result fault c.from_residual.ensures.0 c.from_residual.ensures.1 in
    subst (λ answer. AddsOnly (IsSettleWrite n (redo_of u)) (g.R.Records.view c.args.volume.now.records).transferred (g.R.Records.view c.records_mut-records.result.now).transferred (store_answer answer))
    (sym passed)
    (subst (λ r. AddsOnly (IsSettleWrite n (redo_of u)) (g.R.Records.view c.args.volume.now.records).transferred (g.R.Records.view r).transferred (store_answer {T = Packed} (Err fault))) (sym lent)
    (adds_alike Readable Packed fault _ _ _ (c.in_err-found.ensures.writes u told)))
