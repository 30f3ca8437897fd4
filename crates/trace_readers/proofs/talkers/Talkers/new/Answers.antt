use Rattle.std.proofs.Common.{refl}
use Rattle.std.proofs.lemmas.List.{take-replicate}
use Rattle.il_device.specs.Roles.{no_roles}
use Rattle.trace_readers.proofs.TalkerLemmas.{known_first}
use Rattle.trace_readers.proofs.talkers.Talkers.new.Goals as goal

pub returns : goal.returns
returns c = known_first c.args.devices _ (take-replicate c.args.devices 30 no_roles c.requires.1) refl
