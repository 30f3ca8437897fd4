use Rattle.std.proofs.lemmas.Result.{on_ok_weaker}
use Rattle.lif_pack.proofs.SetAside.{written_later}
use Rattle.lif_pack.proofs.memory.Packer.stage_other.Goals as goal

pub returns-clause-staged : goal.returns-clause-staged
returns-clause-staged g c = on_ok_weaker c.stage_record.result (λ staged writes aside has.
    let one = staged writes aside in
    (one.0, one.1, λ k lt at. written_later writes one.0 k (one.2 k lt at))) c.stage_record.ensures.staged
