use Rattle.std.proofs.Common.{◌≡◌, rules}
use Rattle.std.specs.Prelude.{Err}
use Rattle.lif_dir.specs.Names.{label_bytes}
use Rattle.lif_volume.specs.Seen.{seen}
use Rattle.lif_volume.proofs.Renewing.{room_is, long_is, settled_there, free_there, formatted, not_cleared, no_room}
use Rattle.lif_volume.proofs.volume.Volume.format.Goals as goal

pub returns-then-not-fits-clause-did : goal.returns-then-not-fits-clause-did
returns-then-not-fits-clause-did g c =
    no_room g.R.Records.view (seen c.args.self.now) (label_bytes c.args.label.now) c.args.slots _ c.requires.ready (g.met.R.Records.is_store c.args.self.now.records)
    (long_is _ c.size.result c.args.slots c.fits.result c.size.ensures c.fits.ensures c.if-not-fits.true)

pub returns-in_err-clear_for_format-clause-did : goal.returns-in_err-clear_for_format-clause-did
returns-in_err-clear_for_format-clause-did g c =
    let is : c.from_residual.result ≡ Err c.in_err-clear_for_format.field-0.0 = search rules in
    let e = c.in_err-clear_for_format.ensures in
    rw is (not_cleared g.R.Records.view (seen c.args.self.now) (seen c.clear_for_format.new.self) (label_bytes c.args.label.now) c.args.slots c.in_err-clear_for_format.field-0.0
    e.clears (room_is _ c.size.result c.args.slots c.fits.result c.size.ensures c.fits.ensures c.if-not-fits.false) e.only e.settling e.stays e.transfers)

pub renew-requires-clause-settled : goal.renew-requires-clause-settled
renew-requires-clause-settled g c =
    settled_there g.R.Records.view (seen c.args.self.now) (seen c.clear_for_format.new.self) (seen c.clear_for_format.new.self) (label_bytes c.args.label.now) c.args.slots c.in_ok-clear_for_format.ensures.clears

pub renew-requires-clause-free : goal.renew-requires-clause-free
renew-requires-clause-free g c =
    free_there g.R.Records.view (seen c.args.self.now) (seen c.clear_for_format.new.self) (seen c.clear_for_format.new.self) (label_bytes c.args.label.now) c.args.slots c.in_ok-clear_for_format.ensures.clears (room_is _ c.size.result c.args.slots c.fits.result c.size.ensures c.fits.ensures c.if-not-fits.false)

pub returns-clause-did : goal.returns-clause-did
returns-clause-did g c =
    let e = c.in_ok-clear_for_format.ensures in
    formatted g.R.Records.view (seen c.args.self.now) (seen c.clear_for_format.new.self) (seen c.renew.new.self) (label_bytes c.args.label.now) c.args.slots e.clears
    c.renew.result c.renew.ensures.renews c.renew.ensures.only e.settling e.stays e.transfers
