use Rattle.std.proofs.Common.{rules, ◌≡◌, ◌∙◌, ap, sym, take, length, ◌++◌, ◌+◌, List, ℕ, arith}
use Rattle.std.proofs.lemmas.List.{take_all}
use Rattle.lif_model.specs.Writing.{with_entry}
use Rattle.lif_model.specs.Directory.{entry_at}
use Rattle.lif_pack.specs.Moving.{with_mark}
use Rattle.lif_pack.proofs.moving.put_mark.Goals as goal

pub returns : goal.returns
unfolding with_mark entry_at
returns c =
    let size : length c.put_part.new.entry ≡ 32 = search rules in
    let four : length c.args.mark ≡ 4 = search rules in
    let sum : 32 ≡ 28 + length c.args.mark = omega (arith, four) in
    let whole : c.put_part.new.entry ≡ take 28 c.bytes_at-entry.result ++ c.args.mark = sym (take_all 32 c.put_part.new.entry (omega (arith, size)))
    ∙ ap (λ (m : ℕ). take m c.put_part.new.entry) sum ∙ c.put_part.ensures in
    c.put_entry.ensures ∙ ap (with_entry c.args.bytes.now c.args.k) (whole ∙ ap (λ (e : List ℕ). take 28 e ++ c.args.mark) c.bytes_at-entry.ensures)
