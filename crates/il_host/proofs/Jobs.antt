-- Work over a host that was opened and is closed again.
use Rattle.std.proofs.Common.{◌≡◌, ◌∙◌, List, ap, subst}
use Rattle.lif_model.proofs.Moments.{after_still, still}
use Rattle.lif_model.specs.Tape.{Tape}
use Rattle.il_ports.specs.Media.{MediumView}
use Rattle.il_ring.specs.declared.plan.Planned.{Planned}
use Rattle.host_model.specs.HostStates.{HostState}
use Rattle.il_host.specs.HostView.{HostView, IsHost}
use Rattle.il_host.specs.Hosts.{IsOpened, IsClosed}
use Rattle.il_host.specs.Jobs.{Devices, Worked, WorkedOver}

pub worked_over : {M T : Type 0} (view : M → MediumView) (does : T → List Planned → HostState → HostState → Type 0) (leaves : T → HostState → HostState → Tape → Type 0) (plan : List Planned)
    (medium closed : M) (old now : Devices) (v w : HostView) → IsOpened view medium old.before old.after old.guest plan v → IsHost v → Worked does leaves v w
    → IsClosed view w closed now.before now.after now.guest → (view closed).record_count ≡ w.state.records → WorkedOver does leaves plan (view medium) (view closed) old now
worked_over view does leaves plan medium closed old now v w opens host worked closes count = record {
  told = worked.told;
  start = v.state;
  finish = w.state;
  fresh = opens.state;
  one = host.one;
  did = subst (λ p. does worked.told p v.state w.state) opens.plan_is worked.did;
  tape = closes.tape;
  faults = closes.faults;
  records = worked.size ∙ ap (λ (s : HostState). s.records) opens.state;
  size = count ∙ worked.size ∙ ap (λ (s : HostState). s.records) opens.state;
  before = closes.devices_before;
  after = closes.devices_after;
  guest = closes.guest_is;
  stops = λ told.
      still (view medium).moment w.moment (view closed).moment (view medium).left_since w.left_since (view closed).left_since (leaves worked.told v.state w.state) closes.moment closes.since
      (after_still (view medium).moment v.moment w.moment (view medium).left_since v.left_since w.left_since (leaves worked.told v.state w.state) opens.moment opens.since (worked.stops told));
  images = record {
    same = closes.inside ∙ worked.images.same ∙ opens.inside;
    others = λ name s inside told.
        let there = worked.images.others name s (opens.inside ∙ inside) (opens.images ∙ told) in
        (there.0, closes.shelf ∙ there.1, there.2);
  };
}
