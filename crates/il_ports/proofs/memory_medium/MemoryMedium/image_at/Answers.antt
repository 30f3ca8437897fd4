use Rattle.std.proofs.Common.{◌≡◌, ◌∙◌, ◌*◌, ◌+◌, ◌++◌, ap, sym, arith, length, take}
use Rattle.std.specs.Option.{option_copied}
use Rattle.std.proofs.lemmas.List.{take_all}
use Rattle.lif_model.specs.Tape.{record_at, bytes_from}
use Rattle.lif_model.specs.Shelf.{bytes_of}
use Rattle.lif_model.specs.History.{stopped_at}
use Rattle.lif_model.proofs.Runs.{bytes_from_all}
use Rattle.il_ports.proofs.Kept.{first_told, records_here, stopped_long}
use Rattle.il_ports.proofs.RunsInMemory.{bytes_more}
use Rattle.il_ports.proofs.memory_medium.MemoryMedium.image_at.Goals as goal

pub loop-n-preserved : goal.loop-n-preserved
loop-n-preserved c =
    let self = c.args.self.now in
    let next : c.loop-n.n ≡ 0 + c.loop-n.n = omega arith in
    record {
      size = c.lay_out.ensures.size ∙ c.loop-n.invariant.size;
      bytes = bytes_more (stopped_at self.first.items self.history.items c.args.writes (option_copied c.args.torn)) 0 c.loop-n.n _ _ c.loop-n.invariant.bytes
          (c.lay_out.ensures.front ∙ ap (λ l. take (256 * c.loop-n.n) c.loop-n.into ++ l) (c.record_at.ensures ∙ ap (record_at (stopped_at self.first.items self.history.items c.args.writes (option_copied c.args.torn))) next));
    }

pub returns : goal.returns
returns c first told =
    let self = c.args.self.now in
    let stop = stopped_at self.first.items self.history.items c.args.writes (option_copied c.args.torn) in
    let same : first ≡ self.first.items = first_told self.drive self.first.items first told in
    let long : length stop ≡ length self.first.items = stopped_long self.first.items self.history.items c.args.writes (option_copied c.args.torn) in
    let all : c.loop-n.n ≡ length stop = omega (arith, c.loop-n-test.false, c.loop-n.auto.n-end, c.len-n-end.ensures, self.first_size, long, self.tape.ok.0) in
    let whole : take (256 * c.loop-n.n) c.loop-n.into ≡ c.loop-n.into =
    take_all (256 * c.loop-n.n) c.loop-n.into (omega (arith, c.loop-n.invariant.size, c.requires.size, records_here self.drive self.tape.items c.requires.inside, all, long, self.first_size)) in
    sym whole ∙ c.loop-n.invariant.bytes ∙ ap (bytes_from stop 0) all ∙ bytes_from_all stop ∙ ap (λ f. bytes_of (stopped_at f self.history.items c.args.writes (option_copied c.args.torn))) (sym same)
