use Rattle.il_host.proofs.Drives.{has_status}
use Rattle.il_host.proofs.host.Host.answered.Goals as goal

pub returns-clause-drive : goal.returns-clause-drive
returns-clause-drive g c = has_status _ _ _ _ c.requires.volume_open.valid
