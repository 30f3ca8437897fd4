use Rattle.std.proofs.Common.{◌∙◌, ap, refl, arith}
use Rattle.il_frames.specs.NamedFrames.{lad}
use Rattle.il_record.proofs.Clearing.{broke_first, broke_second, broke_third, cleared_by, commanded_as, lad_says, low_party, uncommanded_as}
use Rattle.il_record.proofs.Sends.{by_result, err_as, if_err, ok_both}
use Rattle.il_record.proofs.Used.{used_on, command_used, command_not_used}
use Rattle.il_record.proofs.runs.clear.Goals as goal

pub returns-in_err-command-clause-broken : goal.returns-in_err-command-clause-broken
returns-in_err-command-clause-broken g c =
    let low = low_party _ _ c.party-drive.ensures.range c.party-drive.ensures.party in
    let first = uncommanded_as g.M.Medium.view _ _ _ _ _ c.of.ensures.value refl c.in_err-command.ensures.broken c.in_err-command.ensures.part in
    if_err _ _ _ c.from_residual.ensures (broke_first g.M.Medium.view _ _ c.requires.idle low _ first.broken first.part)

pub returns-in_err-command-2-clause-broken : goal.returns-in_err-command-2-clause-broken
returns-in_err-command-2-clause-broken g c =
    let low = low_party _ _ c.party-drive.ensures.range c.party-drive.ensures.party in
    let first = commanded_as g.M.Medium.view _ _ _ _ _ c.of.ensures.value refl c.in_ok-command.ensures.made c.in_ok-command.ensures.obeyed in
    let second = uncommanded_as g.M.Medium.view _ _ _ _ _ (c.of-2.ensures.value ∙ ap lad c.party-drive.ensures.party) (lad_says _ low) c.in_err-command-2.ensures.broken c.in_err-command-2.ensures.part in
    if_err _ _ _ c.from_residual-in_err-command-2.ensures (broke_second g.M.Medium.view _ _ c.requires.idle low _ first.made first.obeyed _ second.broken second.part)

pub returns-clause-broken : goal.returns-clause-broken
returns-clause-broken g c =
    let low = low_party _ _ c.party-drive.ensures.range c.party-drive.ensures.party in
    let first = commanded_as g.M.Medium.view _ _ _ _ _ c.of.ensures.value refl c.in_ok-command.ensures.made c.in_ok-command.ensures.obeyed in
    let second = commanded_as g.M.Medium.view _ _ _ _ _ (c.of-2.ensures.value ∙ ap lad c.party-drive.ensures.party) (lad_says _ low) c.in_ok-command-2.ensures.made c.in_ok-command-2.ensures.obeyed in
    err_as _ _ _
    (λ broken not.
    let third = uncommanded_as g.M.Medium.view _ _ _ _ _ c.of-3.ensures.value refl not c.command-3.ensures.part in
    broke_third g.M.Medium.view _ _ c.requires.idle low _ first.made first.obeyed _ second.made second.obeyed _ third.broken third.part)
    c.command-3.ensures.broken

pub returns-clause-cleared : goal.returns-clause-cleared
returns-clause-cleared g c =
    let low = low_party _ _ c.party-drive.ensures.range c.party-drive.ensures.party in
    let first = commanded_as g.M.Medium.view _ _ _ _ _ c.of.ensures.value refl c.in_ok-command.ensures.made c.in_ok-command.ensures.obeyed in
    let second = commanded_as g.M.Medium.view _ _ _ _ _ (c.of-2.ensures.value ∙ ap lad c.party-drive.ensures.party) (lad_says _ low) c.in_ok-command-2.ensures.made c.in_ok-command-2.ensures.obeyed in
    ok_both _ _ _ _
    (λ done made obeyed. cleared_by g.M.Medium.view _ _ _ _ _ c.requires.idle low refl first second (commanded_as g.M.Medium.view _ _ _ _ _ c.of-3.ensures.value refl made obeyed))
    c.command-3.ensures.made c.command-3.ensures.obeyed

pub returns-in_err-command-clause-used : goal.returns-in_err-command-clause-used
returns-in_err-command-clause-used g c =
    let not = command_not_used g.M.Medium.view _ _ _ c.in_err-command.ensures.broken in
    omega (arith, not)

pub returns-in_err-command-2-clause-used : goal.returns-in_err-command-2-clause-used
returns-in_err-command-2-clause-used g c = used_on _ _ _ 2 3 _ (command_used g.M.Medium.view _ _ _ c.in_ok-command.ensures.made) (command_not_used g.M.Medium.view _ _ _ c.in_err-command-2.ensures.broken) (omega arith)

pub returns-clause-used : goal.returns-clause-used
returns-clause-used g c =
    used_on _ _ _ 2 5 _ (command_used g.M.Medium.view _ _ _ c.in_ok-command.ensures.made)
    (used_on _ _ _ 2 3 _ (command_used g.M.Medium.view _ _ _ c.in_ok-command-2.ensures.made)
    (by_result _ _ _ (λ done made. let used = command_used g.M.Medium.view _ _ _ made in omega (arith, used)) (λ broken not. command_not_used g.M.Medium.view _ _ _ not) c.command-3.ensures.made c.command-3.ensures.broken) (omega arith)) (omega arith)
