-- What a volume is once its store of records, which was lent, is handed back.
use Rattle.std.specs.Prelude.{None}
use Rattle.std.specs.Borrow.{Fml, RattleType, MutBor, Lends}
use Rattle.lif_volume.specs.declared.volume.Volume.{Volume}
use Rattle.lif_volume.specs.contracts.volume.Volume.{the_row}

-- with this store, and without what was kept of the one before
abbrev pub with_records : {R : Type 0} → Volume R → R → Volume R
with_records volume records = record volume { records = records; kept = None }

-- the volume ends with the last store after r
abbrev pub LendsRecords : (R : RattleType) → MutBor (Volume R.Denot) → MutBor R.Denot → Fml
LendsRecords R volume r = Lends (the_row R) R volume r (with_records volume.now)
