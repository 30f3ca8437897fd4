-- What contracts see of a volume.
use Rattle.lif_volume.specs.declared.volume.Volume.{Volume}
use Rattle.lif_volume.specs.Views.{VolumeView}

abbrev pub seen : {R : Type 0} → Volume R → VolumeView R
seen v = record { records = v.records; kept = v.kept; is_open = v.is_open; last = v.staged.last; slots = v.directory.table.slots; room = v.directory.table.room }
