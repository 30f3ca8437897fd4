use Rattle.std.proofs.Common.{◌≡◌, ◌≤◌}
use Rattle.il_script.specs.Progress.{turns_left}
use Rattle.il_host.specs.Gathering.{stands_open, IsGathered}
use Rattle.il_host.proofs.Runs.{Sofar}
use Rattle.il_host.proofs.running.answer_all.Given as goal

abbrev pub invariant-turns : goal.invariant-turns
invariant-turns g l = record {
  valid : (g.P.Performer.view l.host).valid;
  gathered : IsGathered l.batch;
  sofar : Sofar l.fn.quiet l.lines (stands_open l.gathering l.batch) (g.P.Performer.view l.fn.host) (g.P.Performer.view l.host) (g.S.Source.left l.fn.script)
      (g.S.Source.left l.script) (g.K.Sink.written l.fn.out) (g.K.Sink.written l.out) l.all_ok;
  source : g.S.Source.faults l.script ≡ g.S.Source.faults l.fn.script;
  sink : g.K.Sink.faults l.out ≡ g.K.Sink.faults l.fn.out;
  medium : (g.P.Performer.view l.fn.host).state.faults ≤ (g.P.Performer.view l.host).state.faults;
}

abbrev pub decreases-turns : goal.decreases-turns
decreases-turns g l = turns_left l.lines
