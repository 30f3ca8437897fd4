use Rattle.std.proofs.Common.{◌≡◌, ◌≤◌}
use Rattle.il_host.specs.Generating.{total}
use Rattle.il_host.specs.declared.generating.TheConstants.{GENERATED_ROOM}
use Rattle.il_host.proofs.GeneratedRuns.{Generating}
use Rattle.il_host.proofs.generating.answer_generated.Given as goal

abbrev pub invariant-lines : goal.invariant-lines
invariant-lines g l = record {
  valid : (g.P.Performer.view l.host).valid;
  made : Generating l.fn.seed l.count l.place l.draws.state (g.P.Performer.view l.fn.host) (g.P.Performer.view l.host) l.counts;
  total : total l.counts ≡ l.place;
  room : l.page.room ≡ GENERATED_ROOM;
  medium : (g.P.Performer.view l.fn.host).state.faults ≤ (g.P.Performer.view l.host).state.faults;
}
