use Rattle.std.proofs.Common.{◌≡◌, ◌∙◌, ◌+◌, ◌-◌, ◌++◌, ◌≤◌, ℕ, List, length, take, map, sym, ap, min, arith}
use Rattle.std.proofs.lemmas.List.{take_all}
use Rattle.mended_names.specs.Mending.{mended_byte}
use Rattle.mended_names.proofs.Steps.{take-both, take-room}
use Rattle.mended_names.proofs.mending.append_mended.Goals as goal

pub returns : goal.returns
returns c =
    let fits : length c.args.base.now.items ≤ 10 = omega arith in
    let full : length c.args.base.now.items + (10 - length c.args.base.now.items) ≡ 10 = omega arith in
    let room : c.min-room.result ≡ min (length c.args.text.now) (10 - length c.args.base.now.items) = c.min-room.ensures ∙ ap (λ (k : ℕ). min (length c.args.text.now) (10 - k)) c.len.ensures.value in
    c.bytes.invariant.items
    ∙ ap (λ (l : List ℕ). c.args.base.now.items ++ map mended_byte l) (take_all c.bytes.byte-index (take c.min-room.result c.args.text.now) c.bytes-test.false ∙ take-room c.min-room.result (10 - length c.args.base.now.items) c.args.text.now room)
    ∙ sym (take-both 10 (10 - length c.args.base.now.items) c.args.base.now.items c.args.text.now full)
