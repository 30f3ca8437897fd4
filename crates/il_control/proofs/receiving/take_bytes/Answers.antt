use Rattle.std.proofs.Common.{arith}
use Rattle.il_control.proofs.Taking.{bytes_broken, bytes_ended, full_held, full_room, full_holding, bytes_stopped, bytes_not_stopped}
use Rattle.il_control.proofs.receiving.take_bytes.Goals as goal

pub held_byte-requires : goal.held_byte-requires
held_byte-requires g c = record { held = full_held g.M.Medium.view _ _ _ (omega (arith, c.requires.some)) _ _ c.in-Full.ensures c.requires.holding }

pub stop-requires-clause-room : goal.stop-requires-clause-room
stop-requires-clause-room g c = full_room g.M.Medium.view _ _ _ (omega (arith, c.requires.some)) _ _ c.in-Full.ensures c.requires.holding 34 (omega (arith, c.requires.room))

pub stop-requires-clause-holding : goal.stop-requires-clause-holding
stop-requires-clause-holding g c = full_holding g.M.Medium.view _ _ _ (omega (arith, c.requires.some)) _ _ c.in-Full.ensures c.requires.holding

pub returns-in-Broken : goal.returns-in-Broken
returns-in-Broken g c = bytes_broken g.M.Medium.view _ _ _ (omega (arith, c.requires.some)) _ c.in-Broken.ensures

pub returns-in-Ended : goal.returns-in-Ended
returns-in-Ended g c = bytes_ended g.M.Medium.view _ _ _ (omega (arith, c.requires.some)) _ _ _ c.in-Ended.ensures

pub returns-then-stop : goal.returns-then-stop
returns-then-stop g c = bytes_stopped g.M.Medium.view _ _ _ (omega (arith, c.requires.some)) _ _ _ _ c.in-Full.ensures c.held_byte.ensures c.if-stop.ensures

pub returns-else-stop : goal.returns-else-stop
returns-else-stop g c = bytes_not_stopped g.M.Medium.view _ _ _ (omega (arith, c.requires.some)) _ _ _ c.in-Full.ensures c.if-stop.ensures
