use Rattle.std.proofs.Common.{sym, subst}
use Rattle.trace_readers.specs.Exchanges.{Reader, IsReadAfter}
use Rattle.trace_readers.proofs.PrefixLemmas.{read_finished}
use Rattle.trace_readers.proofs.exchanges.Exchanges.may_end.Goals as goal

pub returns : goal.returns
returns c = λ k log known d.
    read_finished k d log _ _ (subst (λ (r : Reader). IsReadAfter k log r)
    (sym c.self.view_is) known) c.is_finished.ensures
