use Rattle.std.proofs.Common.{arith}
use Rattle.il_record.proofs.Collecting.{begun, broke_within, not_begun, identified_next, identify_not, collected, collected_not}
use Rattle.il_record.proofs.Sends.{if_err}
use Rattle.il_record.proofs.poll.collect.Goals as goal

pub returns-in_err-command-clause-broken : goal.returns-in_err-command-clause-broken
returns-in_err-command-clause-broken g c = if_err _ _ _ c.from_residual.ensures (broke_within g.M.Medium.view _ _ _ _ _ (omega arith) (not_begun g.M.Medium.view _ c.requires.idle c.requires.silent _ _ _ c.of.ensures.value c.in_err-command.ensures.broken c.in_err-command.ensures.part))

pub returns-in_err-frame-clause-broken : goal.returns-in_err-frame-clause-broken
returns-in_err-frame-clause-broken g c =
    let first = begun g.M.Medium.view _ c.requires.idle c.requires.silent _ _ c.of.ensures.value (omega (arith, c.requires.room)) c.in_ok-command.ensures.made c.in_ok-command.ensures.obeyed in
    if_err _ _ _ c.from_residual-in_err-frame.ensures (broke_within g.M.Medium.view _ _ _ _ _ (omega arith) (identify_not g.M.Medium.view _ c.requires.idle c.requires.silent _ _ _ _ _ _ first c.in_err-frame.ensures.broken c.in_err-frame.ensures.stays))

pub returns-in_err-command-2-clause-broken : goal.returns-in_err-command-2-clause-broken
returns-in_err-command-2-clause-broken g c =
    let first = begun g.M.Medium.view _ c.requires.idle c.requires.silent _ _ c.of.ensures.value (omega (arith, c.requires.room)) c.in_ok-command.ensures.made c.in_ok-command.ensures.obeyed in
    let before = first.room in
    let second = identified_next g.M.Medium.view _ c.requires.idle c.requires.silent _ _ _ _ _ first (omega (arith, c.requires.room, before)) c.in_ok-frame.ensures.made c.in_ok-frame.ensures.stays in
    if_err _ _ _ c.from_residual-in_err-command-2.ensures (collected_not g.M.Medium.view _ c.requires.idle c.requires.silent _ _ _ _ _ _ c.of.ensures.value c.of-2.ensures.value first c.in_ok-command.ensures.obeyed second c.in_ok-frame.ensures.poll c.in_err-command-2.ensures.broken c.in_err-command-2.ensures.part)

pub returns-clause-collected : goal.returns-clause-collected
returns-clause-collected g c =
    let first = begun g.M.Medium.view _ c.requires.idle c.requires.silent _ _ c.of.ensures.value (omega (arith, c.requires.room)) c.in_ok-command.ensures.made c.in_ok-command.ensures.obeyed in
    let before = first.room in
    let second = identified_next g.M.Medium.view _ c.requires.idle c.requires.silent _ _ _ _ _ first (omega (arith, c.requires.room, before)) c.in_ok-frame.ensures.made c.in_ok-frame.ensures.stays in
    collected g.M.Medium.view _ c.requires.idle c.requires.silent _ _ _ _ _ _ c.of.ensures.value c.of-2.ensures.value first c.in_ok-command.ensures.obeyed second c.in_ok-frame.ensures.poll c.in_ok-command-2.ensures.made c.in_ok-command-2.ensures.obeyed
