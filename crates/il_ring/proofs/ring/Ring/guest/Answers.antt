use Rattle.std.proofs.Common.{◌++◌, ◌∙◌, ap, map, sym}
use Rattle.il_ring.specs.Guests.{guest_devices}
use Rattle.il_ring.proofs.ring.Ring.guest.Goals as goal

pub returns-clause-device : goal.returns-clause-device
returns-clause-device g c =
    let boxed = map (λ b. (goal.Device-dyn g (b.vtable, b.value)).state b.value) c.args.self.now.parts.value.boxes.after.items in
    (boxed, ap (λ guest. boxed ++ guest_devices guest) (sym (c.guest.ensures ∙ ap (λ parts. parts.boxes.last) c.deref.ensures)))
