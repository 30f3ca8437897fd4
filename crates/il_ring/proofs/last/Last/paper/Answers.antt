use Rattle.std.proofs.Common.{ap, ◌∙◌, sym}
use Rattle.il_ring.specs.Guests.{guest_devices}
use Rattle.il_ring.specs.Rings.{paper_of}
use Rattle.il_ring.proofs.Guests.{guest_paper}
use Rattle.il_ring.proofs.last.Last.paper.Goals as goal

pub returns : goal.returns
returns c = sym (guest_paper c.self.inside.guest c.self.invariant) ∙ ap (λ guest. paper_of (guest_devices guest)) c.self.view_is
