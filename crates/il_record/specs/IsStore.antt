-- Every store over the loop is a store of records.
use Rattle.il_ports.specs.Media.{MediumView, IsMedium}
use Rattle.il_ports.specs.Stores.{IsStore}
use Rattle.il_ring.specs.Rings.{RingView}
use Rattle.il_record.specs.LoopStores.{LoopView, view_of}

pub is_store_of : {M S : Type 0} (view : M → MediumView) (seen : S → RingView M) (p : S) (l : LoopView M) → ((m : M) → IsMedium (view m)) → IsStore (view_of view seen p l)
is_store_of view seen p l law = let m = law l.ring.drive.medium in record { is_tape = m.is_tape; leaves_now = m.leaves_now; leaves_only = m.leaves_only }
