use Rattle.std.proofs.Common.{rules}
use Rattle.tape_drives.proofs.SystemMade.{made_or_not}
use Rattle.tape_drives.proofs.system.SystemMakersMakersMadeImageSystemFileSystemImages.make.Goals as goal

pub returns : goal.returns
returns g c = made_or_not _ _ c.args.name.now c.args.size _ c.make_among.result c.make_among.ensures.made c.make_among.ensures.refused
