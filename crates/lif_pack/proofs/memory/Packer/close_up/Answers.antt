use Rattle.std.proofs.Common.{◌≡◌, ◌≤◌, ◌+◌, ◌*◌, ◌/◌, ◌∙◌, ℕ, min, length, refl, sym, ap, subst, arith, rules}
use Rattle.std.specs.Prelude.{Ok, Err}
use Rattle.std.proofs.Math.Nat.{min-le_right, min-eq_left, min-eq_right}
use Rattle.std.proofs.lemmas.List.{length-map}
use Rattle.lif_model.proofs.Moments.{follows}
use Rattle.il_ports.proofs.Stores.{goes_nowhere, goes_further, goes_within, quiet_run, quiet_nowhere}
use Rattle.lif_commit.proofs.Staging.{goes_failed, goes_told}
use Rattle.lif_dir.specs.Entries.{slot_bytes}
use Rattle.lif_pack.specs.Packers.{slots_held}
use Rattle.lif_pack.specs.Steps.{AreLive, IsGap, MayPack, MayStillPack, TapeHasSlots}
use Rattle.lif_pack.proofs.Placing.{same_slots_of, still_then, tape_then}
use Rattle.lif_pack.proofs.ClosedShown.{closed_keeps, not_yet_keeps}
use Rattle.lif_pack.proofs.memory.Packer.close_up.Goals as goal

pub loop-i-init : goal.loop-i-init
loop-i-init g c =
    let n : ℕ = (g.R.Records.view c.args.records.now).record_count in
    let old = slots_held c.args.self.now in
    record {
      goes_on = goes_nowhere _ _ c.requires.ready;
      settled = c.requires.settled;
      room = refl;
      long = refl;
      gap = search rules;
      live = refl;
      may = λ end redo may. (redo, may, λ v ends. refl);
      closes = λ end redo t may is. (t, is, same_slots_of c.args.first end old t);
      idle = λ live. (omega (arith, min-le_right (length old) (8 * 0)), refl, refl);
      stops = λ end redo t v may is some same starts ends.
          quiet_run _ _ _ t (g.met.R.Records.is_store _) (quiet_nowhere _) is
          (not_yet_keeps n c.args.first end redo old may t v some same ((g.met.R.Records.is_store _).is_tape t is) (c.requires.settled t is));
    }

pub close_record-requires-clause-may : goal.close_record-requires-clause-may
close_record-requires-clause-may g c =
    let p = c.requires.may in
    let inv = c.loop-i.invariant in
    let now = inv.may p.0 p.1 p.2 in
    (p.0, now.0, subst (λ (m : ℕ). MayPack m c.args.first p.0 now.0 (slots_held c.loop-i.self)) (sym inv.goes_on.continues.size) now.1)

pub returns-in_err-front-clause-goes_on : goal.returns-in_err-front-clause-goes_on
returns-in_err-front-clause-goes_on g c =
    let all : ℕ = length (slots_held c.args.self.now) in
    let is : c.from_residual.result ≡ Err c.in_err-front.field-0.0 = search rules in
    let few : 13 * c.loop-i.i + 13 ≤ 13 * (all / 8 + 1) = omega (arith, c.loop-i-test.true, c.len.ensures.count, length-map c.args.self.now.slots.slots slot_bytes) in
    rw is (goes_within (13 * c.loop-i.i + 13) (13 * (all / 8 + 1)) _ _ _ few
    (goes_further (13 * c.loop-i.i) 13 _ _ _ _ _ c.loop-i.invariant.goes_on (goes_failed 13 _ _ c.in_err-front.field-0.0 c.in_err-front.ensures.goes_on)))

pub returns-in_err-front-clause-stops : goal.returns-in_err-front-clause-stops
returns-in_err-front-clause-stops g c = λ end redo t v may is some same starts ends.
    let n : ℕ = (g.R.Records.view c.args.records.now).record_count in
    let inv = c.loop-i.invariant in
    let done = c.close_record.ensures in
    let old = slots_held c.args.self.now in
    let mid = slots_held c.loop-i.self in
    let now = inv.closes end redo t may is in
    follows _ _ _ _ _ _ _ _ (inv.stops end redo t v may is some same starts ends)
    (done.stops now.0 (record v { slots = mid }) now.1 (now.2.volume v some same starts ends) refl starts)
    (λ y left. closed_keeps n c.args.first end redo old may t v some same mid (slots_held c.close_record.new.self) inv.live (done.live ∙ inv.live) y left)

pub loop-i-preserved : goal.loop-i-preserved
loop-i-preserved g c =
    let n : ℕ = (g.R.Records.view c.args.records.now).record_count in
    let inv = c.loop-i.invariant in
    let done = c.in_ok-front.ensures in
    let old = slots_held c.args.self.now in
    let mid = slots_held c.loop-i.self in
    let later = slots_held c.close_record.new.self in
    let size : (g.R.Records.view c.loop-i.records).record_count ≡ n = inv.goes_on.continues.size in
    let next : 8 * c.loop-i.i + 8 ≡ 8 * (c.loop-i.i + 1) = omega arith in
    record {
      goes_on = goes_within (13 * c.loop-i.i + 13) (13 * (c.loop-i.i + 1)) _ _ _ (omega arith)
          (goes_further (13 * c.loop-i.i) 13 _ _ _ _ _ inv.goes_on (goes_told 13 _ _ _ _ done.goes_on));
      settled = done.settled;
      room = done.room ∙ inv.room;
      long = done.long ∙ inv.long;
      gap = subst (λ (m : ℕ). IsGap c.in_ok-front.front m later) (ap (min (length mid)) next ∙ ap (λ (m : ℕ). min m (8 * (c.loop-i.i + 1))) (sym done.long)) done.gap;
      live = done.live ∙ inv.live;
      may = still_then n c.args.first old mid later inv.may (subst (λ (m : ℕ). MayStillPack m c.args.first mid later) size done.may);
      closes = tape_then n c.args.first old mid later _ _ _ inv.may inv.closes
          (subst (λ (m : ℕ). TapeHasSlots m c.args.first mid later (g.R.Records.view c.loop-i.records).tape (g.R.Records.view c.close_record.new.records).tape) size done.closes);
      idle = λ live.
          let was = inv.idle live in
          let within : 8 * c.loop-i.i ≤ length old = omega (arith, c.loop-i-test.true, c.len.ensures.count, length-map c.args.self.now.slots.slots slot_bytes) in
          let there : c.loop-i.front ≡ 8 * c.loop-i.i = was.0 ∙ min-eq_right within in
          let kept = done.idle there (subst AreLive (sym was.2) live) in
          let told : c.in_ok-front.front ≡ min (length mid) (8 * c.loop-i.i + 8) = let same : Ok c.in_ok-front.front ≡ Ok (min (length mid) (8 * c.loop-i.i + 8)) = kept.0 in cc in
          (told ∙ ap (min (length mid)) next ∙ ap (λ (m : ℕ). min m (8 * (c.loop-i.i + 1))) inv.long, kept.1 ∙ was.1, kept.2 ∙ was.2);
      stops = λ end redo t v may is some same starts ends.
          let now = inv.closes end redo t may is in
          follows _ _ _ _ _ _ _ _ (inv.stops end redo t v may is some same starts ends)
          (done.stops now.0 (record v { slots = mid }) now.1 (now.2.volume v some same starts ends) refl starts)
          (λ y left. closed_keeps n c.args.first end redo old may t v some same mid later inv.live (done.live ∙ inv.live) y left);
    }

pub returns-clause-goes_on : goal.returns-clause-goes_on
returns-clause-goes_on g c =
    let all : ℕ = length (slots_held c.args.self.now) in
    goes_within (13 * c.loop-i.i) (13 * (all / 8 + 1)) _ _ _ (omega (arith, c.loop-i.auto.i-end, c.len.ensures.count, length-map c.args.self.now.slots.slots slot_bytes))
    (goes_told (13 * c.loop-i.i) _ _ _ _ c.loop-i.invariant.goes_on)

pub returns-in_err-front-clause-idle : goal.returns-in_err-front-clause-idle
returns-in_err-front-clause-idle g c live =
    let was = c.loop-i.invariant.idle live in
    let within : 8 * c.loop-i.i ≤ length (slots_held c.args.self.now) = omega (arith, c.loop-i-test.true, c.len.ensures.count, length-map c.args.self.now.slots.slots slot_bytes) in
    let kept = c.close_record.ensures.idle (was.0 ∙ min-eq_right within) (subst AreLive (sym was.2) live) in
    let no : Err c.in_err-front.field-0.0 ≡ Ok (min (length (slots_held c.loop-i.self)) (8 * c.loop-i.i + 8)) = sym c.in_err-front.was ∙ kept.0 in
    absurd (cc)

pub returns-clause-idle : goal.returns-clause-idle
returns-clause-idle g c live =
    let was = c.loop-i.invariant.idle live in
    let all : ℕ = length (slots_held c.args.self.now) in
    let past : all ≤ 8 * c.loop-i.i = omega (arith, c.loop-i-test.false, c.len.ensures.count, length-map c.args.self.now.slots.slots slot_bytes) in
    (ap Ok (was.0 ∙ min-eq_left past), was.1, was.2)
