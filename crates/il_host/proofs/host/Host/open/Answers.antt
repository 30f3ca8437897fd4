use Rattle.std.proofs.Common.{◌≡◌, rules, ◌∙◌, false, true, refl, sym, ap}
use Rattle.std.specs.Prelude.{is_some}
use Rattle.il_ring.specs.Seen.{ring_seen}
use Rattle.il_host.specs.Hosts.{loop_in}
use Rattle.il_host.proofs.Closing.{unsent}
use Rattle.il_host.proofs.NewRings.{new_ring_lost, new_ring_may_poll, new_ring_short, new_ring_state, ring_unsent}
use Rattle.il_host.proofs.host.Host.open.Goals as goal

pub new-requires-3 : goal.new-requires-3
new-requires-3 g c = let made = c.in-Ok-new.ensures in new_ring_lost _ _ _ _ _ _ _ _ _ refl made.ring made.books made.drive made.before made.after c.requires.devices.1 c.requires.devices.2 c.requires.devices.3 c.requires.devices.4

pub new-requires-4-clause-lost : goal.new-requires-4-clause-lost
new-requires-4-clause-lost g c = let made = c.in-Ok-new.ensures in new_ring_lost _ _ _ _ _ _ _ _ _ c.new-3.ensures made.ring made.books made.drive made.before made.after c.requires.devices.1 c.requires.devices.2 c.requires.devices.3 c.requires.devices.4

pub new-requires-4-clause-places : goal.new-requires-4-clause-places
new-requires-4-clause-places g c = let made = c.in-Ok-new.ensures in new_ring_may_poll _ _ _ _ _ _ _ _ _ c.new-3.ensures made.ring made.books made.drive made.before made.after c.requires.devices.1 c.requires.devices.2 c.requires.devices.3 c.requires.devices.4

pub returns-in-Ok-open-clause-opened : goal.returns-in-Ok-open-clause-opened
returns-in-Ok-open-clause-opened g c =
    let made = c.in-Ok-new.ensures in
    record {
      valid = record {
        volume_open = c.in-Ok-open.ensures.open;
        size = search rules;
        stands = search rules;
        kept = λ on. let clash : false ≡ true = sym (ap is_some c.in-Ok-open.ensures.kept) ∙ on in cc;
        log = search rules;
        short = new_ring_short g.M.Medium.view _ _ _ _ c.args.rig.before.items c.args.rig.after.items c.args.rig.guest (ap (loop_in (ring_seen (λ b. (goal.Device-dyn g (b.vtable, b.value)).state b.value))) c.in-Ok-open.ensures.records ∙ c.new-4.ensures.at) c.new-3.ensures made.before made.after c.requires.devices.1 c.requires.devices.2 c.requires.devices.3 c.requires.devices.4;
        text = search rules;
        space_is = search rules;
        unmarked = λ t told on. let clash : false ≡ true = sym (ap is_some c.in-Ok-open.ensures.kept) ∙ on in cc;
      };
      state = new_ring_state g.M.Medium.view _ _ _ _ (ap (loop_in (ring_seen (λ b. (goal.Device-dyn g (b.vtable, b.value)).state b.value))) c.in-Ok-open.ensures.records ∙ c.new-4.ensures.at) c.new-3.ensures (ap is_some c.in-Ok-open.ensures.kept) ∙ (search rules);
      plan_is = search rules;
      log = search rules;
      text = search rules;
      images = search rules;
      inside = search rules;
      moment = search rules;
      since = search rules;
    }

pub returns-in-Err-open-clause-after : goal.returns-in-Err-open-clause-after
returns-in-Err-open-clause-after g c =
    let made = c.in-Ok-new.ensures in
    let same = ring_unsent _ _ _ _ (ap (loop_in (ring_seen (λ b. (goal.Device-dyn g (b.vtable, b.value)).state b.value))) c.in-Err-open.ensures.handed_back ∙ c.new-4.ensures.at) c.new-3.ensures c.into_ring.ensures in
    (unsent _ _ _ _ _ _ same made.after made.guest c.into_rig.ensures.after c.into_rig.ensures.guest).0

pub returns-in-Err-open-clause-guest : goal.returns-in-Err-open-clause-guest
returns-in-Err-open-clause-guest g c =
    let made = c.in-Ok-new.ensures in
    let same = ring_unsent _ _ _ _ (ap (loop_in (ring_seen (λ b. (goal.Device-dyn g (b.vtable, b.value)).state b.value))) c.in-Err-open.ensures.handed_back ∙ c.new-4.ensures.at) c.new-3.ensures c.into_ring.ensures in
    (unsent _ _ _ _ _ _ same made.after made.guest c.into_rig.ensures.after c.into_rig.ensures.guest).1
