use Rattle.std.proofs.Common.{length, ap, sym, subst}
use Rattle.lif_model.specs.Stops.{Torn, Elapses}
use Rattle.il_ports.specs.MemoryMedium.{MediumState, state_of, IsLeft}
use Rattle.il_ports.proofs.Kept.{others_kept, time_goes_on}
use Rattle.il_ports.proofs.memory_medium.MemoryMediumMedium.write.Goals as goal

pub returns-in-Some-clause-others : goal.returns-in-Some-clause-others
returns-in-Some-clause-others c = others_kept _ _ _ _ (ap (λ s. s.shelf) c.keep.ensures)

pub returns-in-None-clause-others : goal.returns-in-None-clause-others
returns-in-None-clause-others c = others_kept _ _ _ _ (ap (λ s. s.shelf) c.keep-in-None.ensures)

pub returns-in-Some-clause-time : goal.returns-in-Some-clause-time
returns-in-Some-clause-time c =
    let self = c.args.self.now in
    let old = state_of self in
    let goes_on : MediumState → Type 0 = λ s. Elapses (length old.history) (length s.history) (IsLeft old.first old.history) (IsLeft s.first s.history) old.tape (Torn c.args.n) in
    subst goes_on (sym c.keep.ensures) (time_goes_on self.first.items self.tape.items self.history.items c.args.n c.in-Some.bytes self.drive self.replays c.in-Some.ensures.whole self.shaped c.requires)

pub returns-in-None-clause-time : goal.returns-in-None-clause-time
returns-in-None-clause-time c =
    let self = c.args.self.now in
    let old = state_of self in
    let goes_on : MediumState → Type 0 = λ s. Elapses (length old.history) (length s.history) (IsLeft old.first old.history) (IsLeft s.first s.history) old.tape (Torn c.args.n) in
    subst goes_on (sym c.keep-in-None.ensures) (time_goes_on self.first.items self.tape.items self.history.items c.args.n c.args.from.now self.drive self.replays c.told-from self.shaped c.requires)
