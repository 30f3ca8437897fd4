use Rattle.std.proofs.Common.{arith}
use Rattle.il_record.proofs.Collecting.{begun, broke_within, not_begun, told_next, told_not, assigned_by, assigned_not}
use Rattle.il_record.proofs.Sends.{if_err, err_as, ok_both}
use Rattle.il_record.proofs.poll.assign.Goals as goal

pub returns-in_err-command-clause-broken : goal.returns-in_err-command-clause-broken
returns-in_err-command-clause-broken g c = if_err _ _ _ c.from_residual.ensures (broke_within g.M.Medium.view _ _ _ _ _ (omega arith) (not_begun g.M.Medium.view _ c.requires.idle c.requires.silent _ _ _ c.of.ensures.value c.in_err-command.ensures.broken c.in_err-command.ensures.part))

pub returns-in_err-command-2-clause-broken : goal.returns-in_err-command-2-clause-broken
returns-in_err-command-2-clause-broken g c =
    let first = begun g.M.Medium.view _ c.requires.idle c.requires.silent _ _ c.of.ensures.value (omega (arith, c.requires.room)) c.in_ok-command.ensures.made c.in_ok-command.ensures.obeyed in
    if_err _ _ _ c.from_residual-in_err-command-2.ensures
    (broke_within g.M.Medium.view _ _ _ _ _ (omega arith) (told_not g.M.Medium.view _ c.requires.idle c.requires.silent _ c.requires.address.0 c.requires.address.1 _ _ _ c.of-2.ensures.value first c.in_err-command-2.ensures.broken c.in_err-command-2.ensures.part))

pub returns-clause-assigned : goal.returns-clause-assigned
returns-clause-assigned g c =
    let first = begun g.M.Medium.view _ c.requires.idle c.requires.silent _ _ c.of.ensures.value (omega (arith, c.requires.room)) c.in_ok-command.ensures.made c.in_ok-command.ensures.obeyed in
    let before = first.room in
    let second =
    told_next g.M.Medium.view _ c.requires.idle c.requires.silent _ c.requires.address.0 c.requires.address.1 _ _ _ c.of-2.ensures.value first (omega (arith, c.requires.room, before)) c.in_ok-command-2.ensures.made c.in_ok-command-2.ensures.obeyed in
    let behind = second.room in
    ok_both _ _ _ _
    (λ s made obeyed.
    assigned_by g.M.Medium.view _ c.requires.idle c.requires.silent _ c.requires.address.0 c.requires.address.1 _ _ _ _ _ _ c.of.ensures.value c.of-2.ensures.value c.of-3.ensures.value first second (omega (arith, c.requires.room, behind)) c.in_ok-command.ensures.obeyed c.in_ok-command-2.ensures.obeyed made obeyed)
    c.command-3.ensures.made c.command-3.ensures.obeyed

pub returns-clause-broken : goal.returns-clause-broken
returns-clause-broken g c =
    let first = begun g.M.Medium.view _ c.requires.idle c.requires.silent _ _ c.of.ensures.value (omega (arith, c.requires.room)) c.in_ok-command.ensures.made c.in_ok-command.ensures.obeyed in
    let before = first.room in
    let second =
    told_next g.M.Medium.view _ c.requires.idle c.requires.silent _ c.requires.address.0 c.requires.address.1 _ _ _ c.of-2.ensures.value first (omega (arith, c.requires.room, before)) c.in_ok-command-2.ensures.made c.in_ok-command-2.ensures.obeyed in
    err_as _ _ _
    (λ e broken.
    assigned_not g.M.Medium.view _ c.requires.idle c.requires.silent _ c.requires.address.0 c.requires.address.1 _ _ _ _ _ _ c.of.ensures.value c.of-2.ensures.value c.of-3.ensures.value first second c.in_ok-command.ensures.obeyed c.in_ok-command-2.ensures.obeyed broken c.command-3.ensures.part)
    c.command-3.ensures.broken
