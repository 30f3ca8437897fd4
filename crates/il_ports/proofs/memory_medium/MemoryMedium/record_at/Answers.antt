use Rattle.std.proofs.Common.{◌≡◌, ◌<◌, ◌∙◌, ap, sym, arith, rules, length, take}
use Rattle.std.proofs.lemmas.List.{length-take}
use Rattle.lif_model.specs.Redo.{changed}
use Rattle.std.specs.Option.{option_copied}
use Rattle.lif_model.specs.Tape.{record_at}
use Rattle.lif_model.specs.History.{stopped_at}
use Rattle.il_ports.proofs.Kept.{held_next, held_torn}
use Rattle.il_ports.proofs.memory_medium.MemoryMedium.record_at.Goals as goal

pub loop-write-preserved : goal.loop-write-preserved
loop-write-preserved c =
    held_next c.args.self.now.first.items c.args.self.now.history.items c.args.n c.requires.within c.args.writes c.loop-write.write-index c.deref.result.now c.loop-write.bytes.now c.behind_write-bytes.result.now
    c.deref.ensures.value c.loop-write-test.true c.loop-write.invariant c.behind_write-bytes.ensures

pub returns-in-Some : goal.returns-in-Some
returns-in-Some c =
    let self = c.args.self.now in
    let more : c.args.writes < length self.history.items = search rules in
    let all : c.loop-write.write-index ≡ c.args.writes = omega (arith, c.loop-write-test.false, c.loop-write.auto.write-index-end, c.requires.made, length-take c.args.writes c.deref.result.now, ap length c.deref.ensures.value) in
    held_torn self.first.items self.history.items c.args.n c.requires.within c.args.writes c.index.result.now c.in-Some.torn.now c.loop-write.bytes.now c.behind_write.result.now c.index.ensures more
    (c.loop-write.invariant ∙ ap (λ i. record_at (changed (take i self.history.items) self.first.items) c.args.n) all) c.behind_write.ensures
    ∙ ap (λ o. record_at (stopped_at self.first.items self.history.items c.args.writes (option_copied o)) c.args.n) (sym c.in-Some.is)
