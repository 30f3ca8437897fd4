use Rattle.std.proofs.Common.{◌*◌, ap, refl}
use Rattle.il_record.proofs.Places.{kept_then, kept_sent, kept_not_sent}
use Rattle.il_record.proofs.Sends.{if_err}
use Rattle.il_record.proofs.WriteRuns.{wrote_not_at_seek, wrote_not_at_send, wrote_not_at_status, wrote}
use Rattle.il_record.proofs.runs.write_run.Goals as goal

pub returns-in_err-seek-clause-broken : goal.returns-in_err-seek-clause-broken
returns-in_err-seek-clause-broken g c = if_err _ _ _ c.from_residual.ensures (wrote_not_at_seek g.M.Medium.view _ _ c.args.count c.args.from.now _ c.party-drive.ensures.range c.party-drive.ensures.party c.requires.idle c.ranges.first.fits c.requires.free c.requires.idle.free.ring.drive.1.buffer_0 (g.met.M.Medium.is_medium _) c.requires.within c.requires.some _ _ c.in_err-seek.ensures.broken)

pub returns-in_err-send-clause-broken : goal.returns-in_err-send-clause-broken
returns-in_err-send-clause-broken g c = if_err _ _ _ c.from_residual-in_err-send.ensures (wrote_not_at_send g.M.Medium.view _ _ c.args.count c.args.from.now _ c.party-drive.ensures.range c.party-drive.ensures.party c.requires.idle c.ranges.first.fits c.requires.free c.requires.idle.free.ring.drive.1.buffer_0 (g.met.M.Medium.is_medium _) c.requires.within c.requires.some _ _ _ (ap (λ n. 256 * n) c.from.ensures) c.in_ok-seek.ensures.sent c.in_err-send.ensures.broken)

pub returns-in_err-told-clause-broken : goal.returns-in_err-told-clause-broken
returns-in_err-told-clause-broken g c = if_err _ _ _ c.from_residual-in_err-told.ensures (wrote_not_at_status g.M.Medium.view _ _ c.args.count c.args.from.now _ c.party-drive.ensures.range c.party-drive.ensures.party c.requires.idle c.ranges.first.fits c.requires.free c.requires.idle.free.ring.drive.1.buffer_0 (g.met.M.Medium.is_medium _) c.requires.within c.requires.some _ _ _ _ (ap (λ n. 256 * n) c.from.ensures) c.in_ok-seek.ensures.sent c.in_ok-send.ensures.sent c.in_err-told.ensures.broken)

pub returns-clause-wrote : goal.returns-clause-wrote
returns-clause-wrote g c = wrote g.M.Medium.view _ _ c.args.count c.args.from.now _ c.party-drive.ensures.range c.party-drive.ensures.party c.requires.idle c.ranges.first.fits c.requires.free c.requires.idle.free.ring.drive.1.buffer_0 (g.met.M.Medium.is_medium _) c.requires.within c.requires.some _ _ _ _ _ (ap (λ n. 256 * n) c.from.ensures) c.in_ok-seek.ensures.sent c.in_ok-send.ensures.sent c.in_ok-told.ensures.told _ refl

pub returns-in_err-seek-clause-places : goal.returns-in_err-seek-clause-places
returns-in_err-seek-clause-places g c = kept_not_sent g.M.Medium.view _ _ _ _ _ c.in_err-seek.ensures.broken

pub returns-in_err-send-clause-places : goal.returns-in_err-send-clause-places
returns-in_err-send-clause-places g c = kept_then _ _ _ (kept_sent g.M.Medium.view _ _ _ _ _ _ c.in_ok-seek.ensures.sent) (kept_not_sent g.M.Medium.view _ _ _ _ _ c.in_err-send.ensures.broken)

pub returns-in_err-told-clause-places : goal.returns-in_err-told-clause-places
returns-in_err-told-clause-places g c =
    let second = kept_then _ _ _ (kept_sent g.M.Medium.view _ _ _ _ _ _ c.in_ok-seek.ensures.sent) (kept_sent g.M.Medium.view _ _ _ _ _ _ c.in_ok-send.ensures.sent) in
    kept_then _ _ _ second c.in_err-told.ensures.places

pub returns-clause-places : goal.returns-clause-places
returns-clause-places g c =
    let second = kept_then _ _ _ (kept_sent g.M.Medium.view _ _ _ _ _ _ c.in_ok-seek.ensures.sent) (kept_sent g.M.Medium.view _ _ _ _ _ _ c.in_ok-send.ensures.sent) in
    kept_then _ _ _ second c.in_ok-told.ensures.places
