-- As the host of an idle ring hands control over to the device that it has talk, a second controller begins to poll.
use Rattle.std.proofs.Common.{◌≡◌, ◌∙◌, ◌⊎◌, inl, inr, ⊎_elim, ◌≤◌, ◌++◌, ◌==◌, ◌&&◌, ◌+◌, ℕ, true, false, not, List, [], ◌∷◌, Option, Some, None, length, refl, sym, ap, ap₂, subst, arith, append_assoc, length-append}
use Rattle.std.specs.Prelude.{if◌then◌else◌}
use Rattle.std.specs.List.{list_all}
use Rattle.std.proofs.lemmas.Bool.{and_parts, le-leb, ne_eqb, not-true}
use Rattle.std.proofs.lemmas.List.{append_cancel_left, map-append}
use Rattle.il_frames.specs.declared.entry.Entry.{Entry}
use Rattle.il_frames.specs.declared.entry.Outcome.TheVariants as outcome
use Rattle.il_frames.specs.Messages.{message_of}
use Rattle.il_frames.specs.NamedFrames.{entry, rfc, tad}
use Rattle.il_device.specs.declared.roles.Roles.{Roles}
use Rattle.il_device.specs.State.{DeviceState, risen}
use Rattle.il_drive.specs.State.{device_of, status_of}
use Rattle.il_ports.specs.Media.{MediumView}
use Rattle.loop_model.specs.Exchanges.{commanded, receive_front, returned}
use Rattle.loop_model.specs.Leading.{controller_after, controller_after_entry, handed_or_back, roles_led}
use Rattle.loop_model.proofs.LeadingLaws.{controller_after-no_lend, roles_led-no_lend}
use Rattle.loop_model.proofs.RoleSteps.{changes_roles}
use Rattle.loop_model.proofs.RoundLaws.{message_of-tad}
use Rattle.il_guest.specs.Frames.{nop, tct}
use Rattle.il_ring.specs.declared.plan.Arrival.{Arrival}
use Rattle.il_ring.specs.Flights.{hit, lost_at, sourced}
use Rattle.il_ring.specs.Plans.{next_fault}
use Rattle.il_ring.specs.Statuses.{reported_by, ReportsStatus}
use Rattle.il_ring.specs.Guests.{IsUnderHost}
use Rattle.il_ring.specs.HandedOver.{HandedOver}
use Rattle.il_ring.specs.ControlledAdds.{ControlledCounts, ControlledSince, standing}
use Rattle.il_ring.specs.Lending.{IsControlled, ControlledRound, entry_of_kept, hands_over}
use Rattle.il_ring.specs.Lists.{Each}
use Rattle.il_ring.specs.Outcomes.{IsDeaf}
use Rattle.il_ring.specs.Polls.{is_poll}
use Rattle.il_ring.specs.Rings.{RingView, devices_of, drive_party, roles_of}
use Rattle.il_ring.specs.Turned.{StandsNot, StandsThere}
use Rattle.il_ring.proofs.HandedCounts.{handed_counts}
use Rattle.il_ring.proofs.EntryMeasures.{at_host}
use Rattle.il_ring.proofs.ControlledKeeps.{handed_keeps}
use Rattle.il_ring.proofs.ControlledSince.{none_stands, since_adds, since_append}
use Rattle.il_ring.proofs.ControlledTalkers.{kept_entry}
use Rattle.il_control.specs.Calls.{IsIdle}
use Rattle.il_control.specs.Lent.{DriveLeft, DriveMild, KeptSince, LentBroke, LentSo, base_of, last_of}
use Rattle.il_control.specs.Polling.{BrokeOff, Polling}
use Rattle.il_control.specs.Receives.{Asked, IsCalm}
use Rattle.il_control.proofs.LendFronts.{kept_adds}
use Rattle.il_control.proofs.LendHands.{asked_guest, asked_host, handed_address, handed_at, handed_numbered, handed_silent, talks_last}
use Rattle.il_control.proofs.LentDriveAnswers.{answers_gone, answers_handed, handed_few}
use Rattle.il_control.proofs.LentHanded.{handed_base, handed_polls, tct_roles}
use Rattle.il_control.proofs.IdleDrives.{idle_silent}
use Rattle.il_control.proofs.LentHost.{StaysDeaf, drive_handed, drive_handed_left, tad_plain, unl_whole}
use Rattle.il_ring.specs.declared.flight.Flight.{Flight}
use Rattle.il_control.proofs.LentReached.{met_since, out_met, risen_up}
use Rattle.il_control.proofs.LentPasses.{kept_more, stands_mute}
use Rattle.il_control.proofs.LentWalks.{own_hit}

-- entries that change no roles
keeps_all : (c : ℕ) (rs : List Roles) (es : List Entry) → list_all (λ e. not (changes_roles (message_of e.frame))) es ≡ true → roles_led c rs es ≡ rs
keeps_all c rs [] keep = refl
keeps_all c rs (e ∷ es) keep =
    let parts = and_parts (not (changes_roles (message_of e.frame))) (list_all (λ e. not (changes_roles (message_of e.frame))) es) keep in
    ap (λ rs. roles_led (controller_after_entry c e) rs es) (kept_entry c rs e (not-true (changes_roles (message_of e.frame)) parts.0)) ∙ keeps_all (controller_after_entry c e) rs es parts.1

calm_deaf : (j : ℕ) (ds : List DeviceState) → Each IsCalm j ds → Each IsDeaf j ds
calm_deaf j [] calm = tt
calm_deaf j (d ∷ ds) calm = (calm.0.0, calm_deaf (j + 1) ds calm.1)

module _ {M : Type 0} (view : M → MediumView) (q r s : RingView M) (a : ℕ) (idle : IsIdle q) (some : 1 ≤ a) (low : a ≤ 30) (asked : Asked view a None q r) (answer : Arrival) (round : ControlledRound view r (sourced 0 tct) answer s) (hands : hands_over r tct ≡ true) (over : HandedOver r answer s) (controlled : IsControlled s) where
  abbrev k : ℕ
  k = length (devices_of q)

  size : length (devices_of r) ≡ k
  size = asked.whole.adds.size

  k_some : 1 ≤ k
  k_some =
      let all = length-append q.before (device_of q.drive.state ∷ q.after) in
      omega (arith, all)

  talks : over.g.device.roles.talks ≡ true
  talks = talks_last view q r a idle some low asked over.boxed over.g.device hands over.after

  at : a ≡ k
  at = handed_at view q r a idle some low asked over.boxed over.g.device over.after talks ∙ size

  last_is : over.g.last ≡ last_of q.guest
  last_is = ap last_of (sym over.mind ∙ asked_guest view q r a idle some low asked)

  own_is : over.g.device.roles.address ≡ Some k
  own_is = handed_address view q r a idle some low asked over.boxed over.g.device over.after talks ∙ ap (λ k. Some k) size

  base_is : handed_base view r s answer over controlled ≡ base_of a q
  base_is =
      ap (λ log. log ++ entry 0 tct (outcome.Taken (length (devices_of r))) ∷ []) asked.whole.adds.log
      ∙ append_assoc q.books.log (receive_front 0 a None) (entry 0 tct (outcome.Taken (length (devices_of r))) ∷ [])
      ∙ ap (λ k. q.books.log ++ (receive_front 0 a None ++ entry 0 tct (outcome.Taken k) ∷ [])) size

  begins : Polling view k (last_of q.guest) (Some k) (base_of a q) s 1 ⊎ BrokeOff view k (last_of q.guest) (Some k) (base_of a q) s 1
  begins =
      subst (λ base. Polling view k (last_of q.guest) (Some k) base s 1 ⊎ BrokeOff view k (last_of q.guest) (Some k) base s 1) base_is
      (subst (λ own. Polling view k (last_of q.guest) own (handed_base view r s answer over controlled) s 1 ⊎ BrokeOff view k (last_of q.guest) own (handed_base view r s answer over controlled) s 1) own_is
      (subst (λ last. Polling view k last over.g.device.roles.address (handed_base view r s answer over controlled) s 1 ⊎ BrokeOff view k last over.g.device.roles.address (handed_base view r s answer over controlled) s 1) last_is
      (subst (λ k. Polling view k over.g.last over.g.device.roles.address (handed_base view r s answer over controlled) s 1 ⊎ BrokeOff view k over.g.last over.g.device.roles.address (handed_base view r s answer over controlled) s 1) size
      (handed_polls view r s answer over controlled
      (handed_silent view q r a idle some low asked over.boxed over.g.device over.after talks)
      (handed_numbered view q r a idle some low asked over.boxed over.g.device over.after talks)))))

  -- ---- what was added

  under : IsUnderHost r.guest
  under = asked_host view q r a idle some low asked

  counts : ControlledCounts r s
  counts = handed_counts view r s answer round asked.whole.ring under hands

  same_roles : roles_of (devices_of s) ≡ roles_of (devices_of r)
  same_roles =
      let front : List DeviceState = r.before ++ device_of r.drive.state ∷ over.boxed in
      let front_then : List DeviceState = s.before ++ device_of s.drive.state ∷ over.boxed_then in
      let all : devices_of r ≡ front ++ over.g.device ∷ [] = ap (λ after. r.before ++ device_of r.drive.state ∷ after) over.after ∙ sym (append_assoc r.before (device_of r.drive.state ∷ over.boxed) (over.g.device ∷ [])) in
      let all_then : devices_of s ≡ front_then ++ over.h.device ∷ [] = ap (λ after. s.before ++ device_of s.drive.state ∷ after) over.after_then ∙ sym (append_assoc s.before (device_of s.drive.state ∷ over.boxed_then) (over.h.device ∷ [])) in
      ap roles_of all_then ∙ map-append (λ d. d.roles) front_then (over.h.device ∷ [])
      ∙ ap₂ (λ rs r. rs ++ r ∷ []) (tct_roles front front_then over.obeyed).0 over.roles
      ∙ sym (map-append (λ d. d.roles) front (over.g.device ∷ [])) ∙ ap roles_of (sym all)

  front_since : ControlledSince 0 0 q r (receive_front 0 a None)
  front_since = since_adds view 0 0 q r (receive_front 0 a None) asked.whole.adds idle.free.ring.lent idle.free.ring.kept asked.whole.ring.lent asked.whole.ring.kept
      (controller_after-no_lend (receive_front 0 a None) refl) (λ rs. roles_led-no_lend rs (receive_front 0 a None) refl)

  not_host : (k == 0) ≡ false
  not_host = ne_eqb k 0 (λ e. omega (arith, e, k_some))

  hand_since : (entries : List Entry) → counts.entries ≡ entries → controller_after 0 entries ≡ k → list_all (λ e. not (changes_roles (message_of e.frame))) (entries ++ standing k s.books) ≡ true → ControlledSince 0 k r s entries
  hand_since entries are controls keep = subst (λ es. ControlledSince 0 k r s es) are (record {
    log = counts.log;
    size = counts.size;
    controls = ap (controller_after 0) are ∙ controls;
    links = counts.links;
    crossings = counts.crossings;
    linked = counts.linked;
    frames = counts.frames;
    roles = λ before stood.
        let none : standing (length (devices_of r)) r.books ≡ [] = none_stands (length (devices_of r)) r.books asked.whole.ring.lent asked.whole.ring.kept in
        let here : roles_of (devices_of r) ≡ before = stood ∙ ap (roles_led 0 before) none in
        let all : counts.entries ++ standing (length (devices_of r)) s.books ≡ entries ++ standing k s.books = ap₂ (λ es j. es ++ standing j s.books) are size in
        same_roles ∙ here ∙ sym (keeps_all 0 before (entries ++ standing k s.books) keep) ∙ ap (roles_led 0 before) (sym all);
  })

  all_since : (entries : List Entry) → ControlledSince 0 k r s entries → ControlledSince 0 k q s (receive_front 0 a None ++ entries)
  all_since entries more = since_append 0 0 k q r s (receive_front 0 a None) entries front_since more

  kept : KeptSince q s
  kept = kept_more tct q r s (kept_adds view None q r (receive_front 0 a None) asked.whole.adds (asked.whole.unheard refl) (ap (λ m. not (is_poll m) && true) (message_of-tad a (le-leb a 30 low)))) (handed_keeps view r s answer round) (calm_deaf 1 (devices_of r) asked.calm) refl

  deaf : Each IsDeaf 1 (devices_of s)
  deaf = (handed_keeps view r s answer round).deaf refl (calm_deaf 1 (devices_of r) asked.calm)

  few_asked : last_of q.guest ≤ 30
  few_asked = subst (λ last. last ≤ 30) last_is (handed_few view r s (sourced 0 tct) answer round under over)

  -- ---- the drive

  front_drive : StaysDeaf q.drive r.drive
  front_drive = unl_whole view q r (returned 0 rfc ∷ commanded 0 (tad a)) (tad_plain a low) refl (idle_silent q idle) asked.whole

  drive_so : (base : List Entry) → DriveMild r.drive base s → DriveMild q.drive base s
  drive_so base at = record {
    so = record {
      entries = at.so.entries;
      log = at.so.log;
      deaf = at.so.deaf;
      medium = at.so.medium ∙ front_drive.medium;
      told = subst (λ before. ReportsStatus before (reported_by (length (devices_of s)) (drive_party s) at.so.entries) (status_of s.drive.state)) front_drive.status at.so.told;
      under_way = at.so.under_way;
    };
    mild = at.mild;
  }

  left_so : DriveLeft r.drive s.drive → DriveLeft q.drive s.drive
  left_so left = record {
    medium = left.medium ∙ front_drive.medium;
    status = ⊎_elim (λ same. inl (same ∙ front_drive.status)) (λ none. inr none) left.status;
  }

  -- ---- it polls, or its first frame was lost

  pub lent_or_broke : (limit : ℕ) → 1 ≤ limit → LentSo view a q s 1 ⊎ LentBroke view a q limit s
  lent_or_broke limit some_limit = ⊎_elim there gone over.out.1
    where
      there : StandsThere r (entry 0 tct (outcome.Taken (length (devices_of r))) ∷ []) (sourced (length (devices_of r)) nop) None over.out.0 answer s → LentSo view a q s 1 ⊎ LentBroke view a q limit s
      there at_host_now = ⊎_elim
          (λ polls.
          let entries : List Entry = entry 0 tct (outcome.Taken k) ∷ [] in
          let are : counts.entries ≡ entries =
          append_cancel_left r.books.log counts.entries entries (sym counts.log ∙ at_host_now.log_is ∙ ap (λ k. r.books.log ++ entry 0 tct (outcome.Taken k) ∷ []) size) in
          let stood : standing k s.books ≡ entry k nop (outcome.Taken 0) ∷ [] =
          ap₂ (λ kept lent. entry_of_kept k kept ++ entry_of_kept 0 lent) at_host_now.kept_is
          (at_host_now.lent_is ∙ ap (λ f. Some f) (own_hit (length (devices_of r)) nop (next_fault r.books.plan over.out.0) at_host_now.at refl at_host_now.came) ∙ ap (λ k. Some (sourced k nop)) size)
          ∙ ap (λ e. e ∷ []) (at_host (sourced k nop) k_some) in
          inl (record {
            at = at;
            few_asked = few_asked;
            from = idle.free.ring.crossings;
            altered = λ way. ⊎_elim
                (λ way.
                let own = at_host_now.lent_is ∙ ap (λ f. Some f) (own_hit (length (devices_of r)) nop (next_fault r.books.plan over.out.0) at_host_now.at refl at_host_now.came) in
                let same : false ≡ way.0.altered = ap (λ (o : Option Flight). elim o [ Some h ↦ h.altered | None ↦ false ]) (sym own ∙ way.1) in
                let clash = same ∙ way.2 in cc)
                (λ way. let clash = sym at_host_now.kept_is ∙ way.1 in cc)
                way;
            polls = polls;
            added = receive_front 0 a None ++ entries;
            since = all_since entries (hand_since entries are refl (ap (λ es. list_all (λ e. not (changes_roles (message_of e.frame))) (entries ++ es)) stood));
            kept = kept;
            deaf = deaf;
            answers = answers_handed view r s (sourced 0 tct) answer round under over (base_of a q) (at_host_now.log_is ∙ base_is);
            drive = drive_so (base_of a q) (drive_handed view r s answer round front_drive.mild front_drive.deaf over (base_of a q) (entry 0 tct (outcome.Taken (length (devices_of r))) ∷ []) over.out.0 (at_host_now.log_is ∙ base_is) at_host_now);
          }))
          (λ off. let clash = sym off.lent_is ∙ at_host_now.lent_is in cc)
          begins

      gone : StandsNot r (entry 0 tct (outcome.Taken (length (devices_of r))) ∷ []) None (lost_at (sourced (length (devices_of r)) nop) 0 ∷ []) (risen over.out.0) answer s × (hit (next_fault r.books.plan over.out.0) (sourced (length (devices_of r)) nop) ≡ None) → LentSo view a q s 1 ⊎ LentBroke view a q limit s
      gone stood_not = ⊎_elim
          (λ polls. let stands = stands_mute view k (last_of q.guest) (Some k) (base_of a q) s 1 polls in let clash = sym stood_not.0.lent_is ∙ stands.1 in cc)
          (λ off.
          let entries : List Entry = entry 0 tct (outcome.Taken k) ∷ entry k nop (outcome.Lost 0) ∷ [] in
          let are : counts.entries ≡ entries =
          append_cancel_left r.books.log counts.entries entries (sym counts.log ∙ stood_not.0.log_is ∙ ap (λ k. r.books.log ++ entry 0 tct (outcome.Taken k) ∷ entry k nop (outcome.Lost 0) ∷ []) size) in
          let stood : standing k s.books ≡ [] = none_stands k s.books stood_not.0.lent_is stood_not.0.kept_is in
          let controls : controller_after 0 entries ≡ k = ap (λ own. if own then handed_or_back k (outcome.Lost 0) (message_of nop) else k) not_host in
          inr (record {
            at = at;
            few_asked = few_asked;
            arrived = 1;
            few = some_limit;
            off = off;
            controlled = controlled;
            added = receive_front 0 a None ++ entries;
            since = all_since entries (hand_since entries are controls (ap (λ es. list_all (λ e. not (changes_roles (message_of e.frame))) (entries ++ es)) stood));
            kept = kept;
            answers = answers_gone view r s (sourced 0 tct) answer round under over (base_of a q) (length (devices_of r)) (stood_not.0.log_is ∙ sym (append_assoc r.books.log (entry 0 tct (outcome.Taken (length (devices_of r))) ∷ []) (entry (length (devices_of r)) nop (outcome.Lost 0) ∷ [])) ∙ ap (λ base. base ++ entry (length (devices_of r)) nop (outcome.Lost 0) ∷ []) base_is);
            drive = left_so (drive_handed_left view r s answer round front_drive.mild);
            met =
                let low = risen_up front_since.links q.books.crossings r.books.crossings idle.free.ring.crossings front_since.crossings in
                met_since q r s asked.whole.adds.plan low (out_met r s over.out.0 (sourced (length (devices_of r)) nop) over.later stood_not.0.crossings_are stood_not.1);
          }))
          begins
