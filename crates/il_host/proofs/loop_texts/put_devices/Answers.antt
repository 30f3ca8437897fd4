use Rattle.std.proofs.Common.{arith, ◌≡◌, ◌<◌, ◌+◌, ◌++◌, ◌∙◌, ap, sym, take, length, get_or, List, Option, None, ℕ, append_assoc, length-take-le}
use Rattle.std.proofs.lemmas.List.{take_more}
use Rattle.il_script.specs.Sheet.{Sheet}
use Rattle.host_model.specs.Replies.{device_lines}
use Rattle.il_host.specs.Texts.{device_line}
use Rattle.il_host.proofs.Rows.{one_device_more}
use Rattle.il_host.proofs.loop_texts.put_devices.Goals as goal

pub loop-place-preserved : goal.loop-place-preserved
loop-place-preserved c =
    let ids = c.args.ids.now.items in
    let k = c.loop-place.place in
    let text = c.args.page.now.text in
    let id : Option ℕ = get_or ids k None in
    let within : k < length ids = omega (arith, c.loop-place-test.true, c.len-place-end.ensures.value) in
    let more : device_lines 1 (take (k + 1) ids) ≡ device_lines 1 (take k ids) ++ device_line (k + 1) id =
    ap (device_lines 1) (take_more ids k None within) ∙ one_device_more 1 (take k ids) id
    ∙ ap (λ (n : ℕ). device_lines 1 (take k ids) ++ device_line n id) (omega (arith, length-take-le k ids)) in
    record {
      text = ap (λ (p : Sheet). p.text) c.put_device.ensures.text ∙ ap (λ (l : List (Option ℕ)). c.loop-place.page.text ++ device_line (k + 1) (get_or l k None)) c.deref.ensures.0
          ∙ ap (λ l. l ++ device_line (k + 1) id) c.loop-place.invariant.text
          ∙ append_assoc text (device_lines 1 (take k ids)) (device_line (k + 1) id) ∙ ap (λ l. text ++ l) (sym more);
      room = ap (λ (p : Sheet). p.room) c.put_device.ensures.text ∙ c.loop-place.invariant.room;
      size = omega (arith, c.put_device.ensures.size, c.loop-place.invariant.size);
    }
