-- A lend in which nobody took control, whole or broken off: rounds of the host.
use Rattle.il_control.proofs.LendDrives.{refused_left, refused_told}
use Rattle.std.proofs.Common.{Bool, List, None, Option, [], ap, arith, false, length, length-append, nat_le, nat_lt, not, refl, subst, suc, sym, true, zero, ℕ, ◌&&◌, ◌+◌, ◌==◌, ◌∙◌, ◌∷◌, ◌≡◌, ◌≤◌, ◌<◌}
use Rattle.std.specs.List.{list_all}
use Rattle.std.proofs.lemmas.Bool.{and_from, and_parts, le-leb, lt-ltb, ne_eqb, not-true}
use Rattle.il_frames.specs.declared.entry.Entry.{Entry}
use Rattle.il_frames.specs.Frames.{is_data, same_but_service}
use Rattle.il_frames.specs.NamedFrames.{ifc}
use Rattle.il_ports.specs.Media.{MediumView}
use Rattle.loop_model.specs.Exchanges.{returned, Break, FrameLost, HostAltered, TalkerAltered, can_cut, cut_at, is_altered, is_end}
use Rattle.loop_model.specs.Leading.{has_no_lend, is_no_lend}
use Rattle.loop_model.proofs.LeadingLaws.{controller_after-no_lend, roles_led-no_lend}
use Rattle.loop_model.proofs.RoundLaws.{message_of-tad}
use Rattle.il_ring.specs.Adds.{Adds}
use Rattle.il_ring.specs.Guests.{IsUnderHost}
use Rattle.il_ring.specs.ControlledAdds.{ControlledSince}
use Rattle.il_ring.specs.Lends.{NoTaker, NoTakerCut, came_back, refused_entries}
use Rattle.il_ring.specs.Polls.{is_no_poll, is_poll}
use Rattle.il_ring.specs.Rings.{RingView, devices_of, drive_party}
use Rattle.il_ring.specs.Turned.{is_on}
use Rattle.il_ring.proofs.ControlledSince.{since_adds}
use Rattle.il_control.specs.Calls.{Broke, IsIdle, Unheard, Whole}
use Rattle.il_control.specs.Lent.{KeptSince, LendBroken, LendMade, controller_at}
use Rattle.il_control.proofs.Calls.{cut_within, unheard_then}
use Rattle.il_drive.specs.State.{device_of}
use Rattle.il_control.proofs.LentAnswers.{hosts-answers}
use Rattle.il_control.proofs.LendSums.{lend_broken, lend_made}
use Rattle.il_control.proofs.LentPasses.{places_then}

-- ---- what rounds of the host keep

pub kept_adds : {M : Type 0} (view : M → MediumView) (to : Option ℕ) (r s : RingView M) (entries : List Entry) → Adds view r None entries to s → Unheard r s → list_all is_no_poll entries ≡ true → KeptSince r s
kept_adds view to r s entries adds unheard no_poll = record {
  plan = adds.plan;
  begun = adds.begun;
  room = adds.room;
  before = adds.before;
  last = adds.guest.0;
  unheard = unheard;
  places = adds.places no_poll;
}

pub kept_then : {M : Type 0} (q r s : RingView M) → KeptSince q r → KeptSince r s → KeptSince q s
kept_then q r s one more = record {
  plan = more.plan ∙ one.plan;
  begun = more.begun ∙ one.begun;
  room = more.room ∙ one.room;
  before = more.before ∙ one.before;
  last = more.last ∙ one.last;
  unheard = unheard_then (devices_of q) (devices_of r) (devices_of s) one.unheard more.unheard;
  places = places_then (devices_of q) (devices_of r) (devices_of s) one.places more.places;
}

-- ---- logs of the host's commands that broke off

-- a command or ready frame of the host
abbrev is_order : Entry → Bool
is_order e = (e.source == 0) && not (is_data e.frame)

-- a loss alone breaks them off
pub only_lost : (es : List Entry) (n : ℕ) (b : Break) → list_all is_order es ≡ true → can_cut 0 es n b ≡ true → (q : ℕ) × (b ≡ FrameLost q)
only_lost [] n b orders can = cc
only_lost (e ∷ es) (suc n) b orders can = only_lost es n b (and_parts (is_order e) (list_all is_order es) orders).1 can
only_lost (e ∷ es) zero (FrameLost q) orders can = (q, refl)
only_lost (e ∷ es) zero (HostAltered f) orders can =
    let one = (and_parts (is_order e) (list_all is_order es) orders).0 in
    let other = not-true (is_data e.frame) (and_parts (e.source == 0) (not (is_data e.frame)) one).1 in
    let altered = (and_parts (e.source == 0) (is_altered e.frame f) can).1 in
    let bytes = (and_parts (is_data e.frame) (not (same_but_service e.frame f)) altered).0 in
    let clash = sym bytes ∙ other in cc
only_lost (e ∷ es) zero (TalkerAltered f end) orders can =
    let one = (and_parts (is_order e) (list_all is_order es) orders).0 in
    let host = (and_parts (e.source == 0) (not (is_data e.frame)) one).0 in
    let guest = not-true (e.source == 0) (and_parts (not (e.source == 0)) (is_altered e.frame f && is_end 0 end) can).0 in
    let clash = sym host ∙ guest in cc

-- what holds of frames alone holds of a broken beginning
cut_no_poll : (es : List Entry) (n q : ℕ) → list_all is_no_poll es ≡ true → list_all is_no_poll (cut_at es n (FrameLost q)) ≡ true
cut_no_poll [] n q all = refl
cut_no_poll (e ∷ es) zero q all = and_from (is_no_poll e) true (and_parts (is_no_poll e) (list_all is_no_poll es) all).0 refl
cut_no_poll (e ∷ es) (suc n) q all = let parts = and_parts (is_no_poll e) (list_all is_no_poll es) all in and_from (is_no_poll e) (list_all is_no_poll (cut_at es n (FrameLost q))) parts.0 (cut_no_poll es n q parts.1)

cut_hosts : (es : List Entry) (n q : ℕ) → list_all (λ e. e.source == 0) es ≡ true → list_all (λ e. e.source == 0) (cut_at es n (FrameLost q)) ≡ true
cut_hosts [] n q all = refl
cut_hosts (e ∷ es) zero q all = and_from (e.source == 0) true (and_parts (e.source == 0) (list_all (λ e. e.source == 0) es) all).0 refl
cut_hosts (e ∷ es) (suc n) q all = let parts = and_parts (e.source == 0) (list_all (λ e. e.source == 0) es) all in and_from (e.source == 0) (list_all (λ e. e.source == 0) (cut_at es n (FrameLost q))) parts.0 (cut_hosts es n q parts.1)

cut_no_lend : (es : List Entry) (n q : ℕ) → has_no_lend es ≡ true → has_no_lend (cut_at es n (FrameLost q)) ≡ true
cut_no_lend [] n q all = refl
cut_no_lend (e ∷ es) zero q all = refl
cut_no_lend (e ∷ es) (suc n) q all = let parts = and_parts (is_no_lend e) (has_no_lend es) all in and_from (is_no_lend e) (has_no_lend (cut_at es n (FrameLost q))) parts.0 (cut_no_lend es n q parts.1)

pub cut_length : (es : List Entry) (n q : ℕ) → length (cut_at es n (FrameLost q)) ≤ length es
cut_length [] n q = omega arith
cut_length (e ∷ es) zero q = omega arith
cut_length (e ∷ es) (suc n) q = let more = cut_length es n q in omega (arith, more)

-- a lost IFC has one entry
pub ifc_short : {M : Type 0} (view : M → MediumView) (r s : RingView M) → Broke view r (returned 0 ifc ∷ []) s → length s.books.log ≡ length r.books.log + 2 → ⊥
ifc_short view r s done long =
    let lost = only_lost (returned 0 ifc ∷ []) done.standing done.break refl done.legal in
    let few = cut_length (returned 0 ifc ∷ []) done.standing lost.0 in
    let log = ap length done.adds.log ∙ length-append r.books.log (cut_at (returned 0 ifc ∷ []) done.standing done.break) in
    let same = ap (λ b. length (cut_at (returned 0 ifc ∷ []) done.standing b)) lost.1 in
    omega (arith, few, log, same, long)

-- of such a beginning on a ring of k devices
pub cut_on : (es : List Entry) (n q k : ℕ) → n < length es → list_all (is_on k) (cut_at es n (FrameLost q)) ≡ true → nat_le q k ≡ true
cut_on [] n q k less on = let no : ⊥ = omega (arith, less) in absurd no
cut_on (e ∷ es) zero q k less on = (and_parts (nat_le e.source k) (nat_le q k) (and_parts (nat_le e.source k && nat_le q k) true on).0).1
cut_on (e ∷ es) (suc n) q k less on = cut_on es n q k (omega (arith, less)) (and_parts (is_on k e) (list_all (is_on k) (cut_at es n (FrameLost q))) on).1

-- ---- the lend

refused_no_poll : (a : ℕ) → a ≤ 30 → list_all is_no_poll (refused_entries a) ≡ true
refused_no_poll a low = ap (λ m. not (is_poll m) && true) (message_of-tad a (le-leb a 30 low))

module _ {M : Type 0} (view : M → MediumView) (a limit : ℕ) (q s : RingView M) (idle : IsIdle q) (low : a ≤ 30) where
  other : (0 == length (devices_of q)) ≡ false
  other =
      let all = length-append q.before (device_of q.drive.state ∷ q.after) in
      ne_eqb 0 (length (devices_of q)) (λ e. omega (arith, e, all))

  host_since : (entries : List Entry) → Adds view q None entries None s → s.books.lent ≡ None → s.books.kept ≡ None → has_no_lend entries ≡ true → ControlledSince 0 0 q s entries
  host_since entries adds lent kept none =
      since_adds view 0 0 q s entries adds idle.free.ring.lent idle.free.ring.kept lent kept (controller_after-no_lend entries none) (λ rs. roles_led-no_lend rs entries none)

  pub refused_made : Whole view q (refused_entries a) s → false ≡ controller_at a q → IsUnderHost s.guest → LendMade a limit false q s
  refused_made whole stands host =
      lend_made a limit 0 true q s idle (NoTaker a) (le-leb a 30 low) refl refl refl (λ taken. cc)
      (host_since (refused_entries a) whole.adds whole.ring.lent whole.ring.kept refl)
      (kept_adds view None q s (refused_entries a) whole.adds (whole.unheard refl) (refused_no_poll a low))
      (omega arith) (λ taken. cc) (λ back. sym stands) (λ not_taken. whole.adds.guest.1 idle.host) (hosts-answers (length (devices_of q)) (drive_party q) other (refused_entries a) refl)
      whole.ring refl false refl stands (refused_told view q s a idle low whole) (λ not_taken. whole.met_none) host whole.held

  pub refused_broken : (broke : Broke view q (refused_entries a) s) → ((p : ℕ) → broke.break ≡ FrameLost p → came_back (NoTakerCut a broke.standing p) ≡ true → controller_at a q ≡ false) → LendBroken a limit q s
  refused_broken broke refused =
      let n = broke.standing in
      let lost = only_lost (refused_entries a) n broke.break refl broke.legal in
      let entries = cut_at (refused_entries a) n (FrameLost lost.0) in
      let adds : Adds view q None entries None s = subst (λ to. Adds view q None entries to s) (broke.told refl) (subst (λ b. Adds view q None (cut_at (refused_entries a) n b) broke.held_at_end s) lost.1 broke.adds) in
      lend_broken a limit 0 false q s idle (NoTakerCut a n lost.0)
      (and_from _ _ (le-leb a 30 low)
      (and_from (nat_lt n (length (refused_entries a))) (nat_le lost.0 (length (devices_of q))) (lt-ltb n (length (refused_entries a)) (cut_within (refused_entries a) n broke.break broke.legal))
      (cut_on (refused_entries a) n lost.0 (length (devices_of q)) (cut_within (refused_entries a) n broke.break broke.legal) adds.on)))
      refl refl refl (λ taken. cc)
      (host_since entries adds broke.ring.lent broke.ring.kept (cut_no_lend (refused_entries a) n lost.0 refl))
      (kept_adds view None q s entries adds (broke.unheard refl) (cut_no_poll (refused_entries a) n lost.0 (refused_no_poll a low)))
      (let many = cut_length (refused_entries a) n lost.0 in omega (arith, many)) (λ taken. cc) (refused lost.0 lost.1) (λ not_taken. broke.adds.guest.1 idle.host)
      (hosts-answers (length (devices_of q)) (drive_party q) other entries (cut_hosts (refused_entries a) n lost.0 refl))
      broke.ring refl (refused_left view q s a idle low broke) broke.held
      broke.met_some (λ keeps. cc) (λ back. cc)
