use Rattle.il_host.proofs.Closing.{closes}
use Rattle.il_host.proofs.host.Host.close.Goals as goal

pub returns-clause-closed : goal.returns-clause-closed
returns-clause-closed g c =
    closes _ _ c.args.self.volume _ _ _ _ _ _ c.into_rig.result.guest c.into_records.result _ c.into_records.ensures c.into_ring.ensures
    (record { medium_is = c.into_rig.ensures.medium; devices_before = c.into_rig.ensures.before; devices_after = c.into_rig.ensures.after; guest_is = c.into_rig.ensures.guest })
