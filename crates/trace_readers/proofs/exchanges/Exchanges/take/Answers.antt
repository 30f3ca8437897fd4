-- The place goes on by one entry, and there is one exactly where the log can go on.
use Rattle.std.proofs.Common.{refl, sym, subst}
use Rattle.trace_readers.specs.Exchanges.{Reader, IsReadAfter}
use Rattle.trace_readers.proofs.PrefixLemmas.{read_more, read_open}
use Rattle.trace_readers.proofs.exchanges.Exchanges.take.Goals as goal

pub returns-clause-known : goal.returns-clause-known
returns-clause-known c = λ k log known.
    read_more k log c.args.entry _ _ (subst (λ (r : Reader). IsReadAfter k log r) (sym c.self.view_is) known) refl
    c.after_any-self-inside.ensures

pub returns-clause-answer : goal.returns-clause-answer
returns-clause-answer c = λ k log known d.
    read_open k d _ _ _
    (read_more k log c.args.entry _ (record { devices = c.self.inside.devices; place = c.after_any-self-inside.result })
    (subst (λ (r : Reader). IsReadAfter k log r) (sym c.self.view_is) known) refl c.after_any-self-inside.ensures)
    c.is_open.ensures
