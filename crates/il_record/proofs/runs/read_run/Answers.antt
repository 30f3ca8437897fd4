use Rattle.std.proofs.Common.{◌≡◌, ◌*◌, ◌/◌, ◌≤◌, ◌+◌, length, arith}
use Rattle.il_record.proofs.Places.{kept_then, kept_sent, kept_not_sent, kept_received, kept_not_received}
use Rattle.il_record.proofs.ReadRuns.{read_broke_at_seek, read_broke_at_receive, read_broke_at_status, read_done, same_length, all_came}
use Rattle.il_record.proofs.Sends.{if_err, sent_room}
use Rattle.il_record.proofs.Used.{used_on, received_room, received_used, not_received_used}
use Rattle.il_record.proofs.runs.read_run.Goals as goal

pub returns-in_err-seek-clause-broken : goal.returns-in_err-seek-clause-broken
returns-in_err-seek-clause-broken g c =
    let some : 1 ≤ length c.args.into.now / 256 = omega (arith, c.requires.records.some, c.requires.records.whole) in
    if_err _ _ _ c.from_residual.ensures
    (read_broke_at_seek g.M.Medium.view _ _ (length c.args.into.now / 256) _ c.party-drive.ensures.range c.party-drive.ensures.party c.requires.idle c.ranges.first.fits c.requires.free (g.met.M.Medium.is_medium _) c.requires.within some _ _ c.in_err-seek.ensures.broken)

pub returns-in_err-count-clause-broken : goal.returns-in_err-count-clause-broken
returns-in_err-count-clause-broken g c =
    let some : 1 ≤ length c.args.into.now / 256 = omega (arith, c.requires.records.some, c.requires.records.whole) in
    if_err _ _ _ c.from_residual-in_err-count.ensures
    (read_broke_at_receive g.M.Medium.view _ _ (length c.args.into.now / 256) _ c.party-drive.ensures.range c.party-drive.ensures.party c.requires.idle c.ranges.first.fits c.requires.free (g.met.M.Medium.is_medium _) c.requires.within some _ _ _ c.in_ok-seek.ensures.sent c.in_err-count.ensures.not_received)

pub status-requires-clause-room : goal.status-requires-clause-room
status-requires-clause-room g c =
    let within = c.in_ok-count.ensures.received.within in
    received_room g.M.Medium.view _ _ _ _ _ _ _ _ _ c.in_ok-count.ensures.received (sent_room g.M.Medium.view _ _ _ _ _ _ _ c.in_ok-seek.ensures.sent (omega (arith, within, c.requires.room)))

pub returns-in_err-told-clause-broken : goal.returns-in_err-told-clause-broken
returns-in_err-told-clause-broken g c =
    let some : 1 ≤ length c.args.into.now / 256 = omega (arith, c.requires.records.some, c.requires.records.whole) in
    let long : length c.args.into.now ≡ 256 * (length c.args.into.now / 256) = omega (arith, c.requires.records.whole) in
    if_err _ _ _ c.from_residual-in_err-told.ensures
    (read_broke_at_status g.M.Medium.view _ _ (length c.args.into.now / 256) _ c.party-drive.ensures.range c.party-drive.ensures.party c.requires.idle c.ranges.first.fits c.requires.free (g.met.M.Medium.is_medium _) c.requires.within some _ _ _ _ _ _ long c.in_ok-seek.ensures.sent c.in_ok-count.ensures.received c.in_err-told.ensures.broken)

pub returns-clause-read : goal.returns-clause-read
returns-clause-read g c =
    let some : 1 ≤ length c.args.into.now / 256 = omega (arith, c.requires.records.some, c.requires.records.whole) in
    let long : length c.args.into.now ≡ 256 * (length c.args.into.now / 256) = omega (arith, c.requires.records.whole) in
    let same = same_length g.M.Medium.view _ _ _ _ _ _ _ _ c.in_ok-count.ensures.received in
    read_done g.M.Medium.view _ _ (length c.args.into.now / 256) _ c.party-drive.ensures.range c.party-drive.ensures.party c.requires.idle c.ranges.first.fits c.requires.free (g.met.M.Medium.is_medium _) c.requires.within some _ _ _ _ _ _ _ long c.in_ok-seek.ensures.sent c.in_ok-count.ensures.received c.in_ok-told.ensures.told _
    (all_came _ _ _ _ _ same c.is_whole.ensures)

pub returns-in_err-seek-clause-places : goal.returns-in_err-seek-clause-places
returns-in_err-seek-clause-places g c = kept_not_sent g.M.Medium.view _ _ _ _ _ c.in_err-seek.ensures.broken

pub returns-in_err-count-clause-places : goal.returns-in_err-count-clause-places
returns-in_err-count-clause-places g c =
    kept_then _ _ _ (kept_sent g.M.Medium.view _ _ _ _ _ _ c.in_ok-seek.ensures.sent) (kept_not_received g.M.Medium.view _ _ _ _ _ _ c.in_err-count.ensures.not_received)

pub returns-in_err-told-clause-places : goal.returns-in_err-told-clause-places
returns-in_err-told-clause-places g c =
    let second = kept_then _ _ _ (kept_sent g.M.Medium.view _ _ _ _ _ _ c.in_ok-seek.ensures.sent) (kept_received g.M.Medium.view _ _ _ _ _ _ _ _ c.in_ok-count.ensures.received) in
    kept_then _ _ _ second c.in_err-told.ensures.places

pub returns-clause-places : goal.returns-clause-places
returns-clause-places g c =
    let second = kept_then _ _ _ (kept_sent g.M.Medium.view _ _ _ _ _ _ c.in_ok-seek.ensures.sent) (kept_received g.M.Medium.view _ _ _ _ _ _ _ _ c.in_ok-count.ensures.received) in
    kept_then _ _ _ second c.in_ok-told.ensures.places

pub returns-in_err-count-clause-used : goal.returns-in_err-count-clause-used
returns-in_err-count-clause-used g c = used_on _ _ _ 9 (length c.args.into.now + 13) _ c.in_ok-seek.ensures.used (not_received_used g.M.Medium.view _ _ _ _ _ _ c.in_err-count.ensures.not_received) (omega arith)

pub returns-in_err-told-clause-used : goal.returns-in_err-told-clause-used
returns-in_err-told-clause-used g c =
    used_on _ _ _ 9 (length c.args.into.now + 26) _ c.in_ok-seek.ensures.used (used_on _ _ _ (length c.args.into.now + 12) 14 _ (received_used g.M.Medium.view _ _ _ _ _ _ _ _ c.in_ok-count.ensures.received) c.in_err-told.ensures.used (omega arith)) (omega arith)

pub returns-clause-used : goal.returns-clause-used
returns-clause-used g c =
    used_on _ _ _ 9 (length c.args.into.now + 26) _ c.in_ok-seek.ensures.used (used_on _ _ _ (length c.args.into.now + 12) 14 _ (received_used g.M.Medium.view _ _ _ _ _ _ _ _ c.in_ok-count.ensures.received) c.in_ok-told.ensures.used (omega arith)) (omega arith)
