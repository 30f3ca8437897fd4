use Rattle.std.proofs.Common.{refl, ap}
use Rattle.il_guest.specs.Frames.{tct}
use Rattle.il_frames.specs.NamedFrames.{is_frame}
use Rattle.il_ring.proofs.ControlledRounds.{host_keeps}
use Rattle.il_control.proofs.Bytes.{byte_done}
use Rattle.il_control.proofs.rounds.byte_round.Goals as goal

pub returns-in-Frame : goal.returns-in-Frame
returns-in-Frame g c = byte_done g.M.Medium.view _ _ _ _ _ _ _ (c.in-Frame.ensures (host_keeps _ c.new-frame.result c.requires.idle.host (ap (λ f. is_frame f tct) c.new-frame.ensures))) c.new-frame.ensures c.same_but_service.ensures c.requires.idle.free.held c.requires.idle

pub returns-in-Lost : goal.returns-in-Lost
returns-in-Lost g c = byte_done g.M.Medium.view _ _ _ _ _ _ _ (c.in-Lost.ensures (host_keeps _ c.new-frame.result c.requires.idle.host (ap (λ f. is_frame f tct) c.new-frame.ensures))) c.new-frame.ensures refl c.requires.idle.free.held c.requires.idle
