use Rattle.std.proofs.Common.{arith, ◌++◌, ◌∷◌, [], ◌∙◌, ap, sym}
use Rattle.il_script.specs.Replies.{next}
use Rattle.il_script.specs.Sheet.{Sheet}
use Rattle.il_script.proofs.UpperDigits.{encode-none}
use Rattle.il_host.proofs.GeneratedRuns.{rising_text, put_size}
use Rattle.il_host.proofs.generating.put_next_rising.Goals as goal

pub loop-place-init : goal.loop-place-init
loop-place-init c =
    let p = c.put-2.ensures in
    record {
      text = ap (λ (s : Sheet). s.text) p ∙ ap (λ l. c.args.page.now.text ++ next l) (sym encode-none);
      room = ap (λ (s : Sheet). s.room) p;
      size = omega (arith, put_size c.args.page.now c.put-2.new.self (32 ∷ []) p);
    }

pub loop-place-preserved : goal.loop-place-preserved
loop-place-preserved c =
    let p = c.put_hex.ensures.text in
    record {
      text = ap (λ (s : Sheet). s.text) p ∙ rising_text c.args.page.now.text c.loop-place.page.text c.args.first c.loop-place.place c.loop-place.invariant.text;
      room = ap (λ (s : Sheet). s.room) p ∙ c.loop-place.invariant.room;
      size = omega (arith, c.put_hex.ensures.size, c.loop-place.invariant.size);
    }
