-- What holds of every host between its commands.
use Rattle.std.proofs.Common.{◌≡◌, ℕ, Bool, true, false, List, ap}
use Rattle.loop_model.specs.Roles.{is_at_most_one, talkers}
use Rattle.il_ports.specs.Media.{MediumView, IsMedium}
use Rattle.il_ring.specs.declared.ring.Ring.{Ring}
use Rattle.il_ring.specs.Rings.{RingView}
use Rattle.il_record.specs.declared.records.Since.{Since}
use Rattle.il_record.specs.declared.records.LoopRecords.{LoopRecords}
use Rattle.il_record.specs.LoopStores.{LoopView, StandsBy}
use Rattle.lif_volume.specs.declared.volume.Volume.{Volume}
use Rattle.host_model.specs.LoopStates.{all_roles}
use Rattle.host_model.specs.RingStates.{loop_on}
use Rattle.host_model.proofs.RingStates.{roles_on}
use Rattle.il_host.specs.HostView.{IsHost}
use Rattle.il_host.specs.Hosts.{Space, host_in, loop_in}

one_talks : {M : Type 0} (ready : Bool) (r : RingView M) (sound : Bool) (log : Since) → StandsBy ready r sound log → is_at_most_one (talkers (all_roles (loop_on r))) ≡ true
one_talks true r sound log so = rw (roles_on r) (ap is_at_most_one so.0.silent)
one_talks false r sound log so = rw (roles_on r) so.0.one

pub is_host_at : {M I : Type 0} {D : I → Type 0} (view : M → MediumView) (seen : Ring M I D → RingView M) (v : Volume (LoopRecords M I D)) (text : List ℕ) (text_space : ℕ) (space : Space) → ((m : M) → IsMedium (view m))
    → (host_in view seen v text text_space space).valid → IsHost (host_in view seen v text text_space space)
is_host_at {M} view seen v text text_space space law valid =
    let l : LoopView M = loop_in seen v.records in
    let m = law l.ring.drive.medium in
    record { one = one_talks l.ready l.ring l.sound l.since valid.stands; kept = valid.kept; is_tape = m.is_tape; leaves_now = m.leaves_now; leaves_only = m.leaves_only }
