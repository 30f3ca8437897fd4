use Rattle.std.proofs.Common.{◌∙◌, inl, sym}
use Rattle.il_ring.specs.Seen.{ring_seen}
use Rattle.il_control.proofs.Calls.{done_as}
use Rattle.il_control.proofs.TakingControl.{about_held, ifc_done, ifc_obeyed, ifc_part, ifc_sent}
use Rattle.il_control.proofs.rounds.take_control.Goals as goal

pub send-requires-clause-free : goal.send-requires-clause-free
send-requires-clause-free g c = inl (about_held (ring_seen (λ b. (goal.Device-dyn g (b.vtable, b.value)).state b.value) c.args.ring.now) c.requires.free)

pub returns-clause-done : goal.returns-clause-done
returns-clause-done g c = done_as g.M.Medium.view _ _ _ _ _ c.came_back.ensures (ifc_done g.M.Medium.view _ _ _ _ c.of.ensures.value (ifc_sent g.M.Medium.view _ _ _ _ c.of.ensures.value c.requires.free c.send.ensures.round c.send.ensures.taken_back))

pub returns-clause-obeyed : goal.returns-clause-obeyed
returns-clause-obeyed g c = λ done. ifc_obeyed g.M.Medium.view _ _ _ _ c.of.ensures.value (ifc_sent g.M.Medium.view _ _ _ _ c.of.ensures.value c.requires.free c.send.ensures.round c.send.ensures.taken_back) (sym c.came_back.ensures ∙ done)

pub returns-clause-part : goal.returns-clause-part
returns-clause-part g c = ifc_part g.M.Medium.view _ _ _ _ c.of.ensures.value (ifc_sent g.M.Medium.view _ _ _ _ c.of.ensures.value c.requires.free c.send.ensures.round c.send.ensures.taken_back)

pub returns-clause-host : goal.returns-clause-host
returns-clause-host g c = λ done. (ifc_sent g.M.Medium.view _ _ _ _ c.of.ensures.value c.requires.free c.send.ensures.round c.send.ensures.taken_back).host (sym c.came_back.ensures ∙ done)
