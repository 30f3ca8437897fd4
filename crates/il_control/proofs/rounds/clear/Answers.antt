use Rattle.std.proofs.Common.{true, false, arith, refl}
use Rattle.il_frames.specs.Messages.{message_of}
use Rattle.il_frames.specs.NamedFrames.{aau, ifc}
use Rattle.il_control.proofs.Addressing.{clear_done, clear_not}
use Rattle.il_control.proofs.Places.{broke_stay, done_stay, stay_then_more, whole_stay}
use Rattle.il_control.proofs.TakingControl.{about_free, of_unlent, part_of_unlent, room_unlent}
use Rattle.il_control.proofs.rounds.clear.Goals as goal

pub clear_interface-requires-clause-room : goal.clear_interface-requires-clause-room
clear_interface-requires-clause-room g c = room_unlent _ 33 c.requires.free.ring (omega (arith, c.requires.room))

pub clear_interface-requires-clause-free : goal.clear_interface-requires-clause-free
clear_interface-requires-clause-free g c = about_free _ c.requires.free

pub returns-then-clear_interface-clause-done : goal.returns-then-clear_interface-clause-done
returns-then-clear_interface-clause-done g c = clear_done g.M.Medium.view _ _ _ ifc _ _ c.requires.free.ring refl c.of.ensures.value (of_unlent g.M.Medium.view _ _ _ true c.requires.free.ring c.if-clear_interface.ensures.done) c.command.ensures.done

pub returns-then-clear_interface-clause-stays : goal.returns-then-clear_interface-clause-stays
returns-then-clear_interface-clause-stays g c =
    let first = of_unlent g.M.Medium.view _ _ _ true c.requires.free.ring c.if-clear_interface.ensures.done in
    let part = part_of_unlent g.M.Medium.view _ _ _ true (message_of ifc) c.requires.free.ring first c.if-clear_interface.ensures.part in
    stay_then_more g.M.Medium.view _ _ _ _ _ _ _ first c.command.ensures.done (whole_stay g.M.Medium.view _ _ _ _ ifc first refl refl refl part)
    (done_stay g.M.Medium.view _ _ _ _ aau _ c.command.ensures.done c.of.ensures.value refl refl c.command.ensures.part)

pub returns-else-clear_interface-clause-done : goal.returns-else-clear_interface-clause-done
returns-else-clear_interface-clause-done g c = clear_not g.M.Medium.view _ _ ifc _ refl c.if-clear_interface.false (of_unlent g.M.Medium.view _ _ _ false c.requires.free.ring c.if-clear_interface.ensures.done)

pub returns-else-clear_interface-clause-stays : goal.returns-else-clear_interface-clause-stays
returns-else-clear_interface-clause-stays g c =
    let first = of_unlent g.M.Medium.view _ _ _ false c.requires.free.ring c.if-clear_interface.ensures.done in
    let part = part_of_unlent g.M.Medium.view _ _ _ false (message_of ifc) c.requires.free.ring first c.if-clear_interface.ensures.part in
    broke_stay g.M.Medium.view _ _ _ _ ifc first refl refl refl part
