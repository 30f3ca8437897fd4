use Rattle.std.proofs.Common.{refl}
use Rattle.il_control.proofs.Made.{command_hands, command_plain, command_made, command_broken}
use Rattle.il_control.proofs.exchanges.command.Goals as goal

pub command-requires-clause-plain : goal.command-requires-clause-plain
command-requires-clause-plain g c = command_plain c.args.frame (search) c.requires.command

pub command-requires-clause-hands : goal.command-requires-clause-hands
command-requires-clause-hands g c = command_hands c.args.frame c.requires.command

pub returns-then-command-clause-made : goal.returns-then-command-clause-made
returns-then-command-clause-made g c = command_made g.M.Medium.view _ _ _ c.requires.idle c.requires.command c.if-command.ensures.done

pub returns-else-command-clause-broken : goal.returns-else-command-clause-broken
returns-else-command-clause-broken g c = command_broken g.M.Medium.view _ _ _ c.requires.idle c.requires.command c.if-command.ensures.done

pub returns-then-command-clause-obeyed : goal.returns-then-command-clause-obeyed
returns-then-command-clause-obeyed g c = c.if-command.ensures.obeyed refl
