use Rattle.std.proofs.Common.{◌≡◌, ◌∙◌, ◌++◌, ◌∷◌, [], sym, arith, length-set}
use Rattle.std.specs.Prelude.{string_bytes}
use Rattle.lif_model.proofs.History.{set_shaped}
use Rattle.il_ports.specs.Drive.{images_of}
use Rattle.il_ports.specs.MemoryMedium.{state_of}
use Rattle.il_ports.proofs.Kept.{pushed, replays_on, shelf_held, tape_held}
use Rattle.il_ports.proofs.memory_medium.MemoryMedium.keep.Goals as goal

pub invariant_of-self-clause-shaped : goal.invariant_of-self-clause-shaped
invariant_of-self-clause-shaped c = set_shaped c.args.self.now.tape.items c.args.n c.args.bytes.now c.told-bytes c.args.self.now.shaped

pub invariant_of-self-clause-replays : goal.invariant_of-self-clause-replays
invariant_of-self-clause-replays c =
    let self = c.args.self.now in
    let is : c.push.new.self.items ≡ self.history.items ++ (c.args.n, c.args.bytes.now) ∷ [] = pushed _ _ _ _ _ _ c.push.ensures.full (omega arith) c.push.ensures.items in
    replays_on self.first.items self.tape.items self.history.items _ c.args.n c.args.bytes.now self.replays is

pub returns : goal.returns
returns c =
    let self = c.args.self.now in
    let is : c.push.new.self.items ≡ self.history.items ++ (c.args.n, c.args.bytes.now) ∷ [] = pushed _ _ _ _ _ _ c.push.ensures.full (omega arith) c.push.ensures.items in
    λ i. record (state_of self) {
      shelf = shelf_held self.drive (string_bytes self.made) self.tape.items (images_of self.images.items) c.args.n c.args.bytes.now self.in_place i;
      tape = tape_held self.drive self.tape.items c.args.n c.args.bytes.now i;
      history = is i;
    }

pub invariant_of-self-clause-first_size : goal.invariant_of-self-clause-first_size
invariant_of-self-clause-first_size c = c.args.self.now.first_size ∙ sym (length-set c.args.self.now.tape.items c.args.n c.args.bytes.now)
