use Rattle.std.proofs.Common.{◌≡◌, ◌∙◌, ◌+◌, ◌-◌, ◌*◌, ◌/◌, ℕ, refl, subst, sym, arith, inl}
use Rattle.std.proofs.lemmas.Result.{on_ok_weaker}
use Rattle.lif_model.specs.Tape.{Tape, IsTape}
use Rattle.lif_model.proofs.Moments.{follows}
use Rattle.il_ports.proofs.Stores.{goes_nowhere, goes_further, goes_within, quiet_run, quiet_nowhere}
use Rattle.lif_pack.specs.Moving.{IsMidway}
use Rattle.lif_pack.proofs.MovedParts.{midway_first}
use Rattle.lif_pack.proofs.LastPart.{more_is_under_way, moved_is_under_way}
use Rattle.lif_pack.proofs.memory.Packer.move_rest.Goals as goal

pub loop-i-init : goal.loop-i-init
loop-i-init g c = record {
  still = refl;
  goes_on = goes_nowhere _ _ c.requires.ready;
  settled = c.requires.settled;
  moves = λ t is mark.
      let n : ℕ = (g.R.Records.view c.args.records.now).record_count in
      let may = c.requires.may in
      let none : c.args.file.now.moved ≡ c.args.file.now.moved + 0 = omega arith in (
        t,
        is,
        subst (λ (m : ℕ). IsMidway c.args.first c.args.file.now.place c.args.redo c.args.file.now m t t) none
            (midway_first n c.args.first c.args.file.now.place c.args.redo t ((g.met.R.Records.is_store _).is_tape t is)
            (omega (arith, may.redo_slot, may.above, may.down, may.part, may.below)) c.args.file.now mark),
      );
  stops = λ t is mark.
      let n : ℕ = (g.R.Records.view c.args.records.now).record_count in
      let may = c.requires.may in
      quiet_run _ _ _ t (g.met.R.Records.is_store _) (quiet_nowhere _) is (inl (
        c.args.file.now.moved,
        omega arith,
        may.part,
        subst (λ (x : Tape). IsMidway c.args.first c.args.file.now.place c.args.redo c.args.file.now c.args.file.now.moved t x) (sym (c.requires.settled t is))
            (midway_first n c.args.first c.args.file.now.place c.args.redo t ((g.met.R.Records.is_store _).is_tape t is)
            (omega (arith, may.redo_slot, may.above, may.down, may.part, may.below)) c.args.file.now mark),
      ));
}

pub loop-i-preserved : goal.loop-i-preserved
loop-i-preserved g c =
    let inv = c.loop-i.invariant in
    record {
      still = c.move_part.ensures.still ∙ inv.still;
      goes_on = goes_within (99 * c.loop-i.i + (3 * 30 + 9)) (99 * (c.loop-i.i + 1)) _ _ _ (omega arith)
          (goes_further (99 * c.loop-i.i) (3 * 30 + 9) _ _ _ _ _ inv.goes_on c.in_ok-move_part.ensures.goes_on);
      settled = c.in_ok-move_part.ensures.settled;
      moves = λ t is mark.
          let was = inv.moves t is mark in
          let same : c.args.file.now.moved + 30 * c.loop-i.i ≡ c.from-moved.result + 30 * c.loop-i.i = omega (arith, c.from-moved.ensures) in
          let next : c.from-moved.result + 30 * c.loop-i.i + 30 ≡ c.args.file.now.moved + 30 * (c.loop-i.i + 1) = omega (arith, c.from-moved.ensures) in
          let tape : IsTape (g.R.Records.view c.loop-i.records).record_count t =
          subst (λ (m : ℕ). IsTape m t) (sym inv.goes_on.continues.size) ((g.met.R.Records.is_store _).is_tape t is) in
          let now = c.in_ok-move_part.ensures.moves t was.0 tape was.1
          (subst (λ (m : ℕ). IsMidway c.args.first c.args.file.now.place c.args.redo c.args.file.now m t was.0) same was.2) in
          (now.0, now.1, subst (λ (m : ℕ). IsMidway c.args.first c.args.file.now.place c.args.redo c.args.file.now m t now.0) next now.2);
      stops = λ t is mark.
          let was = inv.moves t is mark in
          let same : c.args.file.now.moved + 30 * c.loop-i.i ≡ c.from-moved.result + 30 * c.loop-i.i = omega (arith, c.from-moved.ensures) in
          let tape : IsTape (g.R.Records.view c.loop-i.records).record_count t =
          subst (λ (m : ℕ). IsTape m t) (sym inv.goes_on.continues.size) ((g.met.R.Records.is_store _).is_tape t is) in
          follows _ _ _ _ _ _ _ _ (inv.stops t is mark)
          (c.in_ok-move_part.ensures.stops t was.0 tape was.1 (subst (λ (m : ℕ). IsMidway c.args.first c.args.file.now.place c.args.redo c.args.file.now m t was.0) same was.2))
          (λ y stopped. more_is_under_way c.args.first c.args.file.now.place c.args.redo c.args.file.now (c.from-moved.result + 30 * c.loop-i.i) 30 t y
          (omega (arith, c.from-moved.ensures)) (omega (arith, c.from-moved.ensures, c.loop-i-test.true, c.requires.may.part)) stopped);
    }

pub returns-clause-moves : goal.returns-clause-moves
returns-clause-moves g c = on_ok_weaker c.move_last.result (λ moves t is mark.
    let inv = c.loop-i.invariant in
    let was = inv.moves t is mark in
    let tape : IsTape (g.R.Records.view c.loop-i.records).record_count t =
    subst (λ (m : ℕ). IsTape m t) (sym inv.goes_on.continues.size) ((g.met.R.Records.is_store _).is_tape t is) in
    let same : c.args.file.now.moved + 30 * c.loop-i.i ≡ c.from-moved.result + 30 * ((c.args.file.now.length - c.from-moved.result - 1) / 30) =
    omega (arith, c.from-moved.ensures, c.loop-i.auto.i-end, c.loop-i-test.false) in
    moves t was.0 tape was.1 (subst (λ (m : ℕ). IsMidway c.args.first c.args.file.now.place c.args.redo c.args.file.now m t was.0) same was.2)) c.move_last.ensures.moves

pub returns-in_err-move_part-clause-stops : goal.returns-in_err-move_part-clause-stops
returns-in_err-move_part-clause-stops g c t is mark =
    let inv = c.loop-i.invariant in
    let was = inv.moves t is mark in
    let same : c.args.file.now.moved + 30 * c.loop-i.i ≡ c.from-moved.result + 30 * c.loop-i.i = omega (arith, c.from-moved.ensures) in
    let tape : IsTape (g.R.Records.view c.loop-i.records).record_count t =
    subst (λ (m : ℕ). IsTape m t) (sym inv.goes_on.continues.size) ((g.met.R.Records.is_store _).is_tape t is) in
    follows _ _ _ _ _ _ _ _ (inv.stops t is mark)
    (c.move_part.ensures.stops t was.0 tape was.1 (subst (λ (m : ℕ). IsMidway c.args.first c.args.file.now.place c.args.redo c.args.file.now m t was.0) same was.2))
    (λ y stopped. more_is_under_way c.args.first c.args.file.now.place c.args.redo c.args.file.now (c.from-moved.result + 30 * c.loop-i.i) 30 t y
    (omega (arith, c.from-moved.ensures)) (omega (arith, c.from-moved.ensures, c.loop-i-test.true, c.requires.may.part)) stopped)

pub returns-clause-stops : goal.returns-clause-stops
returns-clause-stops g c t is mark =
    let inv = c.loop-i.invariant in
    let was = inv.moves t is mark in
    let parts : ℕ = (c.args.file.now.length - c.from-moved.result - 1) / 30 in
    let same : c.args.file.now.moved + 30 * c.loop-i.i ≡ c.from-moved.result + 30 * parts =
    omega (arith, c.from-moved.ensures, c.loop-i.auto.i-end, c.loop-i-test.false) in
    let tape : IsTape (g.R.Records.view c.loop-i.records).record_count t =
    subst (λ (m : ℕ). IsTape m t) (sym inv.goes_on.continues.size) ((g.met.R.Records.is_store _).is_tape t is) in
    follows _ _ _ _ _ _ _ _ (inv.stops t is mark)
    (c.move_last.ensures.stops t was.0 tape was.1 (subst (λ (m : ℕ). IsMidway c.args.first c.args.file.now.place c.args.redo c.args.file.now m t was.0) same was.2))
    (λ y stopped. moved_is_under_way c.args.first c.args.file.now.place c.args.redo c.args.file.now (c.from-moved.result + 30 * parts) t y
    (omega (arith, c.from-moved.ensures)) (omega (arith, c.from-moved.ensures, c.requires.may.part)) stopped)

pub returns-in_err-move_part-clause-still : goal.returns-in_err-move_part-clause-still
returns-in_err-move_part-clause-still g c = c.move_part.ensures.still ∙ c.loop-i.invariant.still

pub returns-clause-still : goal.returns-clause-still
returns-clause-still g c = c.move_last.ensures.still ∙ c.loop-i.invariant.still
