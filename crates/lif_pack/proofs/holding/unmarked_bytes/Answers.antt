use Rattle.std.proofs.Common.{◌≡◌, ◌++◌, ◌∙◌, ℕ, List, length, take, replicate, ap, sym, arith, rules}
use Rattle.std.proofs.lemmas.List.{take_all}
use Rattle.lif_model.specs.Packing.{unmarked}
use Rattle.lif_pack.proofs.holding.unmarked_bytes.Goals as goal

pub returns-clause-bytes : goal.returns-clause-bytes
unfolding unmarked
returns-clause-bytes c =
    let size : length c.put_part.new.entry ≡ 32 = search rules in
    sym (take_all 32 c.put_part.new.entry (omega (arith, size))) ∙ c.put_part.ensures
    ∙ ap (λ (e : List ℕ). take 28 e ++ replicate 4 0) c.bytes-bytes.ensures.bytes
