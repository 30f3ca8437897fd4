use Rattle.std.proofs.Common.{◌≡◌, ◌+◌, ◌-◌, ◌*◌, ◌/◌, ◌∙◌, ℕ, length, take, filter, refl, sym, ap, subst, arith}
use Rattle.std.specs.Prelude.{Ok, Err}
use Rattle.std.proofs.lemmas.List.{length-map}
use Rattle.lif_model.specs.Tape.{IsTape}
use Rattle.lif_model.specs.declared.version.Version.TheVariants.{Two}
use Rattle.lif_model.specs.Redo.{redo_start}
use Rattle.lif_model.specs.Legal.{is_live}
use Rattle.il_ports.specs.Stores.{RunLeaves}
use Rattle.il_ports.proofs.Stores.{goes_further, goes_within}
use Rattle.lif_commit.proofs.Staging.{goes_failed, goes_told}
use Rattle.lif_dir.specs.Entries.{slot_bytes}
use Rattle.lif_model.specs.Packing.{are_packed, records_free}
use Rattle.lif_pack.specs.Packers.{slots_held}
use Rattle.lif_pack.specs.Steps.{AreLive, MayPack, ArePackedAlike, TapeHasSlots}
use Rattle.lif_pack.specs.Tasks.{KeepsFiles}
use Rattle.lif_pack.specs.Packs.{calls_left_to}
use Rattle.lif_pack.proofs.Answered.{passed_on}
use Rattle.lif_pack.proofs.Placing.{redo_lies, end_below}
use Rattle.lif_pack.proofs.Keeping.{kept_further}
use Rattle.lif_pack.proofs.Held.{left_few, packing_few}
use Rattle.lif_pack.proofs.PackedTape.{packed_after, packed_may, packed_on, packed_outside, packed_shown}
use Rattle.lif_pack.proofs.memory.Packer.pack_held.Goals as goal

pub returns-in_err-finish_held-clause-goes_on : goal.returns-in_err-finish_held-clause-goes_on
returns-in_err-finish_held-clause-goes_on g c =
    let n : ℕ = (g.R.Records.view c.args.records.now).record_count in
    let below = end_below n c.args.found.now.first c.args.found.now.end c.args.found.now.redo (slots_held c.args.self.now) c.requires.may in
    let few = left_few n c.args.found.now.end c.args.found.now.redo (slots_held c.args.self.now) c.args.found.now.task c.requires.task below in
    let is : c.from_residual.result ≡ Err c.in_err-finish_held.field-0.0 = passed_on c.from_residual.result c.in_err-finish_held.field-0.0 c.from_residual.ensures.0 c.from_residual.ensures.1 in
    rw is (goes_within (calls_left_to c.args.found.now.task) (15 * n + 49 - (c.args.found.now.end - c.args.found.now.first)) _ _ _ (omega (arith, few, below)) (goes_failed (calls_left_to c.args.found.now.task) _ _ c.in_err-finish_held.field-0.0 c.in_err-finish_held.ensures.goes_on))

pub returns-in_err-finish_held-clause-stops : goal.returns-in_err-finish_held-clause-stops
returns-in_err-finish_held-clause-stops g c t v is some those = c.finish_held.ensures.stops c.args.found.now.first c.args.found.now.end c.args.found.now.redo t v is some those

pub files_moved-requires-clause-within : goal.files_moved-requires-clause-within
files_moved-requires-clause-within g c =
    let n : ℕ = (g.R.Records.view c.args.records.now).record_count in
    let slots1 = slots_held c.finish_held.new.self in
    let fin = c.in_ok-finish_held.ensures in
    let size1 : (g.R.Records.view c.finish_held.new.records).record_count ≡ n = fin.goes_on.continues.size in
    let may1 = (fin.may c.args.found.now.first c.args.found.now.end c.args.found.now.redo c.requires.may c.requires.task) in
    omega (arith, redo_lies n c.args.found.now.first c.args.found.now.end c.args.found.now.redo slots1 may1.0, length-map c.finish_held.new.self.slots.slots slot_bytes)

pub overflow_cast-packed : goal.overflow_cast-packed
overflow_cast-packed g c = omega (arith, c.files_moved.ensures.few, c.requires.number)

pub records_free-requires-clause-may : goal.records_free-requires-clause-may
records_free-requires-clause-may g c =
    let n : ℕ = (g.R.Records.view c.args.records.now).record_count in
    let slots1 = slots_held c.finish_held.new.self in
    let fin = c.in_ok-finish_held.ensures in
    let size1 : (g.R.Records.view c.finish_held.new.records).record_count ≡ n = fin.goes_on.continues.size in
    let may1 = (fin.may c.args.found.now.first c.args.found.now.end c.args.found.now.redo c.requires.may c.requires.task) in
    (c.args.found.now.first, subst (λ (m : ℕ). MayPack m c.args.found.now.first c.args.found.now.end c.args.found.now.redo slots1) (sym (c.size-size.ensures ∙ size1)) may1.0)

pub placed_front-from-requires : goal.placed_front-from-requires
placed_front-from-requires g c =
    let n : ℕ = (g.R.Records.view c.args.records.now).record_count in
    let slots1 = slots_held c.finish_held.new.self in
    let fin = c.in_ok-finish_held.ensures in
    let size1 : (g.R.Records.view c.finish_held.new.records).record_count ≡ n = fin.goes_on.continues.size in
    let may1 = (fin.may c.args.found.now.first c.args.found.now.end c.args.found.now.redo c.requires.may c.requires.task) in
    record { may = (n, c.args.found.now.first, c.requires.medium, may1.0) }

pub move_files-requires-clause-ready : goal.move_files-requires-clause-ready
move_files-requires-clause-ready g c =
    let n : ℕ = (g.R.Records.view c.args.records.now).record_count in
    let slots1 = slots_held c.finish_held.new.self in
    let fin = c.in_ok-finish_held.ensures in
    let size1 : (g.R.Records.view c.finish_held.new.records).record_count ≡ n = fin.goes_on.continues.size in
    let may1 = (fin.may c.args.found.now.first c.args.found.now.end c.args.found.now.redo c.requires.may c.requires.task) in
    let front = c.placed_front-from.ensures in
    let few = packing_few n c.args.found.now.first c.args.found.now.end c.args.found.now.redo c.placed_front-from.result.0 c.placed_front-from.result.1 (slots_held c.args.self.now) slots1 slots1 c.args.found.now.task c.requires.may c.requires.task may1 front.placed front.within front.longest may1.0 in
    let now = fin.goes_on.continues in
    record { valid = now.valid; sound = now.sound; left = omega (arith, few, now.left, c.requires.ready.left, size1) }

pub returns-in_err-move_files-clause-goes_on : goal.returns-in_err-move_files-clause-goes_on
returns-in_err-move_files-clause-goes_on g c =
    let n : ℕ = (g.R.Records.view c.args.records.now).record_count in
    let slots1 = slots_held c.finish_held.new.self in
    let fin = c.in_ok-finish_held.ensures in
    let size1 : (g.R.Records.view c.finish_held.new.records).record_count ≡ n = fin.goes_on.continues.size in
    let may1 = (fin.may c.args.found.now.first c.args.found.now.end c.args.found.now.redo c.requires.may c.requires.task) in
    let front = c.placed_front-from.ensures in
    let few = packing_few n c.args.found.now.first c.args.found.now.end c.args.found.now.redo c.placed_front-from.result.0 c.placed_front-from.result.1 (slots_held c.args.self.now) slots1 slots1 c.args.found.now.task c.requires.may c.requires.task may1 front.placed front.within front.longest may1.0 in
    let is : c.from_residual-in_err-move_files.result ≡ Err c.in_err-move_files.field-0.0 =
    passed_on c.from_residual-in_err-move_files.result c.in_err-move_files.field-0.0 c.from_residual-in_err-move_files.ensures.0 c.from_residual-in_err-move_files.ensures.1 in
    let calls : ℕ = 15 * (redo_start Two (g.R.Records.view c.finish_held.new.records).record_count - c.placed_front-from.result.1) in
    rw is (goes_within (calls_left_to c.args.found.now.task + calls) (15 * n + 49 - (c.args.found.now.end - c.args.found.now.first)) _ _ _ (omega (arith, few, size1))
    (goes_further (calls_left_to c.args.found.now.task) calls _ _ _ _ _ fin.goes_on (goes_failed calls _ _ c.in_err-move_files.field-0.0 c.in_err-move_files.ensures.goes_on)))

pub returns-in_err-move_files-clause-stops : goal.returns-in_err-move_files-clause-stops
returns-in_err-move_files-clause-stops g c t v is some those =
    let n : ℕ = (g.R.Records.view c.args.records.now).record_count in
    let slots1 = slots_held c.finish_held.new.self in
    let fin = c.in_ok-finish_held.ensures in
    let size1 : (g.R.Records.view c.finish_held.new.records).record_count ≡ n = fin.goes_on.continues.size in
    let may1 = (fin.may c.args.found.now.first c.args.found.now.end c.args.found.now.redo c.requires.may c.requires.task) in
    let x = fin.finishes c.args.found.now.first c.args.found.now.end c.args.found.now.redo t v is some c.requires.task those in
    kept_further (g.R.Records.view c.args.records.now) (g.R.Records.view c.finish_held.new.records) (g.R.Records.view c.move_files.new.records) n t x.0 (g.met.R.Records.is_store _) x.1 (c.finish_held.ensures.stops c.args.found.now.first c.args.found.now.end c.args.found.now.redo t v is some those)
    (subst (λ (m : ℕ). RunLeaves (g.R.Records.view c.finish_held.new.records) (g.R.Records.view c.move_files.new.records) (KeepsFiles m x.0)) size1
    (c.move_files.ensures.stops x.0 x.1 x.2.volume x.2.stands x.2.slots_are x.2.starts x.2.ends))

pub close_directory-requires-clause-ready : goal.close_directory-requires-clause-ready
close_directory-requires-clause-ready g c =
    let n : ℕ = (g.R.Records.view c.args.records.now).record_count in
    let slots1 = slots_held c.finish_held.new.self in
    let fin = c.in_ok-finish_held.ensures in
    let size1 : (g.R.Records.view c.finish_held.new.records).record_count ≡ n = fin.goes_on.continues.size in
    let may1 = (fin.may c.args.found.now.first c.args.found.now.end c.args.found.now.redo c.requires.may c.requires.task) in
    let slots2 = slots_held c.move_files.new.self in
    let mv = c.in_ok-move_files.ensures in
    let size2 : (g.R.Records.view c.move_files.new.records).record_count ≡ n = mv.goes_on.continues.size ∙ size1 in
    let may2 : MayPack n c.args.found.now.first c.args.found.now.end c.args.found.now.redo slots2 = subst (λ (m : ℕ). MayPack m c.args.found.now.first c.args.found.now.end c.args.found.now.redo slots2) size1 mv.may in
    let front = c.placed_front-from.ensures in
    let few = packing_few n c.args.found.now.first c.args.found.now.end c.args.found.now.redo c.placed_front-from.result.0 c.placed_front-from.result.1 (slots_held c.args.self.now) slots1 slots2 c.args.found.now.task c.requires.may c.requires.task may1 front.placed front.within front.longest may2 in
    let now = mv.goes_on.continues in
    record { valid = now.valid; sound = now.sound; left = omega (arith, few, now.left, fin.goes_on.continues.left, c.requires.ready.left, size1) }

pub returns-in_err-close_directory-clause-goes_on : goal.returns-in_err-close_directory-clause-goes_on
returns-in_err-close_directory-clause-goes_on g c =
    let n : ℕ = (g.R.Records.view c.args.records.now).record_count in
    let slots1 = slots_held c.finish_held.new.self in
    let fin = c.in_ok-finish_held.ensures in
    let size1 : (g.R.Records.view c.finish_held.new.records).record_count ≡ n = fin.goes_on.continues.size in
    let may1 = (fin.may c.args.found.now.first c.args.found.now.end c.args.found.now.redo c.requires.may c.requires.task) in
    let slots2 = slots_held c.move_files.new.self in
    let mv = c.in_ok-move_files.ensures in
    let size2 : (g.R.Records.view c.move_files.new.records).record_count ≡ n = mv.goes_on.continues.size ∙ size1 in
    let may2 : MayPack n c.args.found.now.first c.args.found.now.end c.args.found.now.redo slots2 = subst (λ (m : ℕ). MayPack m c.args.found.now.first c.args.found.now.end c.args.found.now.redo slots2) size1 mv.may in
    let front = c.placed_front-from.ensures in
    let few = packing_few n c.args.found.now.first c.args.found.now.end c.args.found.now.redo c.placed_front-from.result.0 c.placed_front-from.result.1 (slots_held c.args.self.now) slots1 slots2 c.args.found.now.task c.requires.may c.requires.task may1 front.placed front.within front.longest may2 in
    let is : c.from_residual-in_err-close_directory.result ≡ Err c.in_err-close_directory.field-0.0 =
    passed_on c.from_residual-in_err-close_directory.result c.in_err-close_directory.field-0.0 c.from_residual-in_err-close_directory.ensures.0 c.from_residual-in_err-close_directory.ensures.1 in
    let calls : ℕ = 15 * (redo_start Two (g.R.Records.view c.finish_held.new.records).record_count - c.placed_front-from.result.1) in
    let last : ℕ = 13 * (length slots2 / 8 + 1) + 9 in
    rw is (goes_within (calls_left_to c.args.found.now.task + calls + last) (15 * n + 49 - (c.args.found.now.end - c.args.found.now.first)) _ _ _ (omega (arith, few, size1))
    (goes_further (calls_left_to c.args.found.now.task + calls) last _ _ _ _ _ (goes_further (calls_left_to c.args.found.now.task) calls _ _ _ _ _ fin.goes_on mv.goes_on)
    (goes_failed last _ _ c.in_err-close_directory.field-0.0 c.in_err-close_directory.ensures.goes_on)))

pub returns-in_err-close_directory-clause-stops : goal.returns-in_err-close_directory-clause-stops
returns-in_err-close_directory-clause-stops g c t v is some those =
    let n : ℕ = (g.R.Records.view c.args.records.now).record_count in
    let slots1 = slots_held c.finish_held.new.self in
    let fin = c.in_ok-finish_held.ensures in
    let size1 : (g.R.Records.view c.finish_held.new.records).record_count ≡ n = fin.goes_on.continues.size in
    let may1 = (fin.may c.args.found.now.first c.args.found.now.end c.args.found.now.redo c.requires.may c.requires.task) in
    let slots2 = slots_held c.move_files.new.self in
    let mv = c.in_ok-move_files.ensures in
    let size2 : (g.R.Records.view c.move_files.new.records).record_count ≡ n = mv.goes_on.continues.size ∙ size1 in
    let may2 : MayPack n c.args.found.now.first c.args.found.now.end c.args.found.now.redo slots2 = subst (λ (m : ℕ). MayPack m c.args.found.now.first c.args.found.now.end c.args.found.now.redo slots2) size1 mv.may in
    let x = fin.finishes c.args.found.now.first c.args.found.now.end c.args.found.now.redo t v is some c.requires.task those in
    let y = mv.moves x.0 x.1 in
    let moved = y.2.volume x.2.volume x.2.stands x.2.slots_are x.2.starts x.2.ends in
    let one = kept_further (g.R.Records.view c.args.records.now) (g.R.Records.view c.finish_held.new.records) (g.R.Records.view c.move_files.new.records) n t x.0 (g.met.R.Records.is_store _) x.1 (c.finish_held.ensures.stops c.args.found.now.first c.args.found.now.end c.args.found.now.redo t v is some those)
    (subst (λ (m : ℕ). RunLeaves (g.R.Records.view c.finish_held.new.records) (g.R.Records.view c.move_files.new.records) (KeepsFiles m x.0)) size1
    (c.move_files.ensures.stops x.0 x.1 x.2.volume x.2.stands x.2.slots_are x.2.starts x.2.ends)) in
    kept_further (g.R.Records.view c.args.records.now) (g.R.Records.view c.move_files.new.records) (g.R.Records.view c.close_directory.new.records) n t y.0 (g.met.R.Records.is_store _) y.1 one
    (subst (λ (m : ℕ). RunLeaves (g.R.Records.view c.move_files.new.records) (g.R.Records.view c.close_directory.new.records) (KeepsFiles m y.0)) size2
    (c.close_directory.ensures.stops y.0 y.1 c.args.found.now.end c.args.found.now.redo (subst (λ (m : ℕ). MayPack m c.args.found.now.first c.args.found.now.end c.args.found.now.redo slots2) (sym size2) may2)
    (record x.2.volume { slots = slots2 }) moved refl x.2.starts x.2.ends))

pub returns-clause-goes_on : goal.returns-clause-goes_on
returns-clause-goes_on g c =
    let n : ℕ = (g.R.Records.view c.args.records.now).record_count in
    let slots1 = slots_held c.finish_held.new.self in
    let fin = c.in_ok-finish_held.ensures in
    let size1 : (g.R.Records.view c.finish_held.new.records).record_count ≡ n = fin.goes_on.continues.size in
    let may1 = (fin.may c.args.found.now.first c.args.found.now.end c.args.found.now.redo c.requires.may c.requires.task) in
    let slots2 = slots_held c.move_files.new.self in
    let mv = c.in_ok-move_files.ensures in
    let size2 : (g.R.Records.view c.move_files.new.records).record_count ≡ n = mv.goes_on.continues.size ∙ size1 in
    let may2 : MayPack n c.args.found.now.first c.args.found.now.end c.args.found.now.redo slots2 = subst (λ (m : ℕ). MayPack m c.args.found.now.first c.args.found.now.end c.args.found.now.redo slots2) size1 mv.may in
    let front = c.placed_front-from.ensures in
    let few = packing_few n c.args.found.now.first c.args.found.now.end c.args.found.now.redo c.placed_front-from.result.0 c.placed_front-from.result.1 (slots_held c.args.self.now) slots1 slots2 c.args.found.now.task c.requires.may c.requires.task may1 front.placed front.within front.longest may2 in
    let calls : ℕ = 15 * (redo_start Two (g.R.Records.view c.finish_held.new.records).record_count - c.placed_front-from.result.1) in
    let last : ℕ = 13 * (length slots2 / 8 + 1) + 9 in
    goes_within (calls_left_to c.args.found.now.task + calls + last) (15 * n + 49 - (c.args.found.now.end - c.args.found.now.first)) _ _ _ (omega (arith, few, size1))
    (goes_further (calls_left_to c.args.found.now.task + calls) last _ _ _ _ _ (goes_further (calls_left_to c.args.found.now.task) calls _ _ _ _ _ fin.goes_on mv.goes_on)
    (goes_told last _ _ _ _ c.in_ok-close_directory.ensures.goes_on))

pub returns-clause-packs : goal.returns-clause-packs
returns-clause-packs g c t v is some those =
    let n : ℕ = (g.R.Records.view c.args.records.now).record_count in
    let slots1 = slots_held c.finish_held.new.self in
    let fin = c.in_ok-finish_held.ensures in
    let size1 : (g.R.Records.view c.finish_held.new.records).record_count ≡ n = fin.goes_on.continues.size in
    let may1 = (fin.may c.args.found.now.first c.args.found.now.end c.args.found.now.redo c.requires.may c.requires.task) in
    let slots2 = slots_held c.move_files.new.self in
    let mv = c.in_ok-move_files.ensures in
    let size2 : (g.R.Records.view c.move_files.new.records).record_count ≡ n = mv.goes_on.continues.size ∙ size1 in
    let may2 : MayPack n c.args.found.now.first c.args.found.now.end c.args.found.now.redo slots2 = subst (λ (m : ℕ). MayPack m c.args.found.now.first c.args.found.now.end c.args.found.now.redo slots2) size1 mv.may in
    let x = fin.finishes c.args.found.now.first c.args.found.now.end c.args.found.now.redo t v is some c.requires.task those in
    let y = mv.moves x.0 x.1 in
    let alike : ArePackedAlike n c.args.found.now.end slots1 slots2 = subst (λ (m : ℕ). ArePackedAlike m c.args.found.now.end slots1 slots2) size1 mv.alike in
    let closes = subst (λ (m : ℕ). TapeHasSlots m c.args.found.now.first slots2 (filter is_live slots2) (g.R.Records.view c.move_files.new.records).tape (g.R.Records.view c.close_directory.new.records).tape) size2
    c.in_ok-close_directory.ensures.closes in
    let u = closes c.args.found.now.end c.args.found.now.redo y.0 may2 y.1 in
    let after = packed_after n c.args.found.now.first c.args.found.now.end c.args.found.now.redo slots1 slots2 t x.0 x.2 may2 mv.packed alike y.0 u.0 y.2 u.2 in
    let size_u : length u.0 ≡ n = ((g.met.R.Records.is_store _).is_tape u.0 u.1).records ∙ c.in_ok-close_directory.ensures.goes_on.continues.size ∙ size2 in
    let tape_x : IsTape n x.0 = subst (λ (m : ℕ). IsTape m x.0) size1 ((g.met.R.Records.is_store _).is_tape x.0 x.1) in (
      u.0,
      u.1,
      record {
        volume = x.2.volume;
        shown = x.2.shown;
        may = packed_may n c.args.found.now.first c.args.found.now.end c.args.found.now.redo slots1 slots2 t x.0 x.2 may1.0;
        after = after;
        shown_after = packed_shown n c.args.found.now.first c.args.found.now.end c.args.found.now.redo slots1 slots2 t x.0 x.2 tape_x may1.0 u.0 size_u after;
        is_packed = packed_on n c.args.found.now.first c.args.found.now.end c.args.found.now.redo slots1 slots2 t x.0 x.2 tape_x may1.0 u.0 after;
        is_settled = c.in_ok-close_directory.ensures.settled u.0 u.1;
        outside = packed_outside n c.args.found.now.first c.args.found.now.end c.args.found.now.redo slots1 slots2 t x.0 x.2 (c.requires.settled t is) may1.0 may2 alike y.0 u.0 y.2 u.2;
        files = c.files_moved.ensures.count n c.args.found.now.first may1.0 x.2.volume x.2.slots_are x.2.ends;
        free = c.from.ensures ∙ c.records_free.ensures x.2.volume x.2.slots_are x.2.ends ∙ ap (λ (m : ℕ). records_free m x.2.volume) (c.size-size.ensures ∙ size1);
      },
    )

pub returns-clause-stops : goal.returns-clause-stops
returns-clause-stops g c t v is some those =
    let n : ℕ = (g.R.Records.view c.args.records.now).record_count in
    let slots1 = slots_held c.finish_held.new.self in
    let fin = c.in_ok-finish_held.ensures in
    let size1 : (g.R.Records.view c.finish_held.new.records).record_count ≡ n = fin.goes_on.continues.size in
    let may1 = (fin.may c.args.found.now.first c.args.found.now.end c.args.found.now.redo c.requires.may c.requires.task) in
    let slots2 = slots_held c.move_files.new.self in
    let mv = c.in_ok-move_files.ensures in
    let size2 : (g.R.Records.view c.move_files.new.records).record_count ≡ n = mv.goes_on.continues.size ∙ size1 in
    let may2 : MayPack n c.args.found.now.first c.args.found.now.end c.args.found.now.redo slots2 = subst (λ (m : ℕ). MayPack m c.args.found.now.first c.args.found.now.end c.args.found.now.redo slots2) size1 mv.may in
    let x = fin.finishes c.args.found.now.first c.args.found.now.end c.args.found.now.redo t v is some c.requires.task those in
    let y = mv.moves x.0 x.1 in
    let moved = y.2.volume x.2.volume x.2.stands x.2.slots_are x.2.starts x.2.ends in
    let one = kept_further (g.R.Records.view c.args.records.now) (g.R.Records.view c.finish_held.new.records) (g.R.Records.view c.move_files.new.records) n t x.0 (g.met.R.Records.is_store _) x.1 (c.finish_held.ensures.stops c.args.found.now.first c.args.found.now.end c.args.found.now.redo t v is some those)
    (subst (λ (m : ℕ). RunLeaves (g.R.Records.view c.finish_held.new.records) (g.R.Records.view c.move_files.new.records) (KeepsFiles m x.0)) size1
    (c.move_files.ensures.stops x.0 x.1 x.2.volume x.2.stands x.2.slots_are x.2.starts x.2.ends)) in
    kept_further (g.R.Records.view c.args.records.now) (g.R.Records.view c.move_files.new.records) (g.R.Records.view c.close_directory.new.records) n t y.0 (g.met.R.Records.is_store _) y.1 one
    (subst (λ (m : ℕ). RunLeaves (g.R.Records.view c.move_files.new.records) (g.R.Records.view c.close_directory.new.records) (KeepsFiles m y.0)) size2
    (c.close_directory.ensures.stops y.0 y.1 c.args.found.now.end c.args.found.now.redo (subst (λ (m : ℕ). MayPack m c.args.found.now.first c.args.found.now.end c.args.found.now.redo slots2) (sym size2) may2)
    (record x.2.volume { slots = slots2 }) moved refl x.2.starts x.2.ends))

-- ---- it was packed already

pub returns-in_err-close_directory-clause-idle : goal.returns-in_err-close_directory-clause-idle
returns-in_err-close_directory-clause-idle g c none live placed =
    let held = ap slots_held (c.in_ok-finish_held.ensures.idle none).2 in
    let front = c.placed_front-from.ensures in
    let all = front.longest c.args.found.now.redo (omega arith) (ap (λ xs. are_packed c.args.found.now.end (take c.args.found.now.redo xs)) held ∙ placed) in
    let there : c.placed_front-from.result.0 ≡ c.args.found.now.redo = omega (arith, all, front.within) in
    let kept = (c.in_ok-move_files.ensures.idle there).2 ∙ held in
    let done = c.close_directory.ensures.idle (subst AreLive (sym kept) live) in
    let no : Err c.in_err-close_directory.field-0.0 ≡ Ok tt = sym c.in_err-close_directory.was ∙ done.0 in
    absurd (cc)

pub returns-clause-idle : goal.returns-clause-idle
returns-clause-idle g c none live placed =
    let fin = c.in_ok-finish_held.ensures.idle none in
    let held = ap slots_held fin.2 in
    let front = c.placed_front-from.ensures in
    let all = front.longest c.args.found.now.redo (omega arith) (ap (λ xs. are_packed c.args.found.now.end (take c.args.found.now.redo xs)) held ∙ placed) in
    let there : c.placed_front-from.result.0 ≡ c.args.found.now.redo = omega (arith, all, front.within) in
    let kept = c.in_ok-move_files.ensures.idle there in
    let done = c.in_ok-close_directory.ensures.idle (subst AreLive (sym (kept.2 ∙ held)) live) in
    (refl, done.1 ∙ kept.1 ∙ fin.1)
