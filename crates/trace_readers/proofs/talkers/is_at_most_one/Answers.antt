use Rattle.std.proofs.Common.{◌∙◌, ap, ℕ, nat_le}
use Rattle.trace_readers.proofs.TalkerLemmas.{at_most_one_count}
use Rattle.trace_readers.proofs.talkers.is_at_most_one.Goals as goal

pub returns : goal.returns
returns c = ap (λ (n : ℕ). nat_le n 1) c.talker_count.ensures ∙ at_most_one_count c.args.devices.now
