-- Laws of runs: what is told of each step joins to what is told of them all.
use Rattle.std.proofs.Common.{◌≡◌, ◌≢◌, ◌≤◌, ◌<◌, ◌+◌, ◌++◌, ◌∙◌, ◌⊎◌, ⊎_elim, inl, inr, ℕ, Bool, zero, suc, true, false, cond, List, [], ◌∷◌, Option, Some, None, is_some, refl, sym, ap, subst, arith, append-nil}
use Rattle.std.specs.Prelude.{min, sum_by}
use Rattle.std.proofs.lemmas.Bool.{and_from, and_parts}
use Rattle.std.proofs.lemmas.List.Sums.{sum_by-append}
use Rattle.lif_model.specs.Tape.{Tape}
use Rattle.il_frames.specs.declared.entry.Entry.{Entry}
use Rattle.il_device.specs.State.{risen, risen_by}
use Rattle.il_device.specs.declared.roles.Roles.{Roles}
use Rattle.il_device.proofs.Laws.{risen_by-min}
use Rattle.loop_model.specs.Effect.{UnitsEffect, Effect}
use Rattle.loop_model.specs.Exchanges.{Reading}
use Rattle.loop_model.specs.Loops.{Loop}
use Rattle.loop_model.specs.Reach.{links, passes, met}
use Rattle.loop_model.specs.Leading.{OneTalkerLed, are_commands_led, controller_after, has_one_talker_led, roles_led}
use Rattle.loop_model.specs.Roles.{talkers, is_at_most_one}
use Rattle.loop_model.specs.Units.{RecordUnit, units_of, ends_within}
use Rattle.loop_model.proofs.EffectLaws.{Effect-append}
use Rattle.loop_model.proofs.ReachLaws.{length-met}
use Rattle.loop_model.proofs.LeadingLaws.{are_commands_led-append, has_one_talker_led-append, roles_led-append}
use Rattle.loop_model.proofs.TakingBack.{are_commands_led-back, has_one_talker_led-back, roles_led-back}
use Rattle.il_script.specs.declared.reply.Reply.{Reply}
use Rattle.il_script.specs.declared.reply.Reply.TheVariants as reply
use Rattle.il_ring.specs.declared.plan.Planned.{Planned}
use Rattle.il_ring.specs.Plans.{hops_of}
use Rattle.host_model.specs.Requests.{Asks, Item, Lend, is_lending, is_of_volume, uses_frames}
use Rattle.host_model.specs.LoopStates.{all_roles, device_count, ring_of}
use Rattle.host_model.specs.HostStates.{HostState}
use Rattle.host_model.specs.Replies.{reply_of}
use Rattle.host_model.specs.Next.{BoxedBecome}
use Rattle.host_model.specs.Steps.{Event, IsStep, HasReplyCause, CountsWhole, MayReply, OnTapes, TookFrames, is_frame_fault, takes_back_first}
use Rattle.host_model.specs.Runs.{Chained, joined_log}
use Rattle.host_model.specs.Histories.{IsLostWhere, all_links, crossed_behind, all_passes, joined_exchanges, log_unless, TookAll, is_medium_fault, failed_replies, last_count, RunTells}
use Rattle.host_model.proofs.Steps.{boxed_same, boxed_then, count_stays, is_lend_or, ring_stays, lost_at_most, lost_exactly, faults_later}

-- ---- counts that rise

pub risen_by-add : (a b n : ℕ) → risen_by (a + b) n ≡ risen_by b (risen_by a n)
risen_by-add zero b n = let e : zero + b ≡ b = omega arith in ap (λ k. risen_by k n) e
risen_by-add (suc a) b n = let e : suc a + b ≡ suc (a + b) = omega arith in ap (λ k. risen_by k n) e ∙ risen_by-add a b (risen n)

sum_first : (f : Event → ℕ) (e : Event) (events : List Event) → sum_by f (e ∷ events) ≡ f e + sum_by f events
sum_first f e events = let sums = sum_by-append f (e ∷ []) events in omega (arith, sums)

-- so many times, and so many times more
risen_more : (f : Event → ℕ) (e : Event) (events : List Event) (n : ℕ) → risen_by (sum_by f (e ∷ events)) n ≡ risen_by (sum_by f events) (risen_by (f e) n)
risen_more f e events n = ap (λ k. risen_by k n) (sum_first f e events) ∙ risen_by-add (f e) (sum_by f events) n

-- a count rises, and stays at its greatest value
risen_within : (k n : ℕ) → n ≤ 18446744073709551615 → (n ≤ risen_by k n) × (risen_by k n ≤ 18446744073709551615)
risen_within k n le = let least = risen_by-min k n le in (omega (arith, least), omega (arith, least))

-- ---- tapes

effect_joins : (l m : Loop) → m ≡ l → (a b c : Option Tape) (first second : List Entry) → (reading : Reading l first) → ends_within l reading.pieces ≡ false
    → is_some b ≡ is_some a → OnTapes a b (UnitsEffect (units_of l reading.pieces)) → OnTapes b c (λ t u. Effect m t second u) → OnTapes a c (λ t u. Effect l t (first ++ second) u)
effect_joins l m same None b c first second reading outside told now later = tt
effect_joins l m same (Some t) None c first second reading outside told now later = absurd now
effect_joins l m same (Some t) (Some b) None first second reading outside told now later = absurd later
effect_joins l m same (Some t) (Some b) (Some u) first second reading outside told now later =
    let here : Effect l t first b = record { reading = reading; effect = now } in
    Effect-append here outside (subst (λ l. Effect l b second u) same later)

nothing_done : (l : Loop) (a : Option Tape) → OnTapes a a (λ t u. Effect l t [] u)
nothing_done l None = tt
nothing_done l (Some t) = record { reading = record { pieces = []; legal = refl; entries = refl }; effect = refl }

-- what an event adds to the exchanges that move records
effect_more : (plan : List Planned) (e : Event) (events : List Event) (c : Option Tape) → IsStep plan e → ring_of e.after.loop ≡ ring_of e.before.loop
    → OnTapes e.after.tape c (λ t u. Effect (ring_of e.after.loop) t (joined_exchanges events) u) → OnTapes e.before.tape c (λ t u. Effect (ring_of e.before.loop) t (joined_exchanges (e ∷ events)) u)
effect_more plan e events c s same later = ⊎_elim (λ is. lent is.0 is.1) moved (is_lend_or e.item)
  where
    more : Bool → Type 0
    more lends = OnTapes e.before.tape c (λ t u. Effect (ring_of e.before.loop) t (log_unless lends e.log ++ joined_exchanges events) u)

    moved : is_lending e.item ≡ false → more (is_lending e.item)
    moved other =
        let so = s.acts.exchanged other in
        subst more (sym other) (effect_joins (ring_of e.before.loop) (ring_of e.after.loop) same e.before.tape e.after.tape c e.log (joined_exchanges events) so.reading so.outside s.acts.replied.told so.effect later)

    lent : (frames : ℕ) → e.item ≡ Asks (Lend frames) → more (is_lending e.item)
    lent frames is =
        let stays : e.after.tape ≡ e.before.tape = s.acts.replied.stays (ap is_of_volume is) in
        subst more (sym (ap is_lending is)) (subst (λ l. OnTapes e.before.tape c (λ t u. Effect l t (joined_exchanges events) u)) same (subst (λ tape. OnTapes tape c (λ t u. Effect (ring_of e.after.loop) t (joined_exchanges events) u)) stays later))

-- ---- talkers and controllers

-- these entries read so from roles and a controller, and leave the roles
abbrev LedSo : ℕ → List Roles → List Entry → List Roles → Type 0
LedSo c rs log now = OneTalkerLed c rs log × (are_commands_led c log ≡ true) × (now ≡ roles_led c rs log)

-- an IFC of the host first
led_back : (c : ℕ) (rs now : List Roles) (log : List Entry) → takes_back_first log ≡ true → LedSo 0 rs log now → LedSo c rs log now
led_back c rs now [] back so = cc
led_back c rs now (e ∷ log) back so = (
  has_one_talker_led-back c e log back rs ∙ so.0,
  are_commands_led-back c e log back ∙ so.1,
  so.2 ∙ sym (roles_led-back c e log back rs),
)

-- Where a loop is not ready, the logs of the events after it begin so, or have no entry.
joined_back : (plan : List Planned) (start : HostState) (events : List Event) (finish : HostState) → Chained plan start events finish → start.ready ≡ false
    → (joined_log events ≡ []) ⊎ (takes_back_first (joined_log events) ≡ true)
joined_back plan start [] finish chain off = inl refl
joined_back plan start (e ∷ events) finish chain off = by (uses_frames e.item) refl (λ ready. joined_back plan e.after events finish chain.2 ready)
  where
    not_ready : e.before.ready ≡ false
    not_ready = ap (λ s. s.ready) chain.0 ∙ off

    first_of : (log more : List Entry) → takes_back_first log ≡ true → takes_back_first (log ++ more) ≡ true
    first_of [] more back = cc
    first_of (x ∷ log) more back = back

    by : (sends : Bool) → uses_frames e.item ≡ sends → (e.after.ready ≡ false → (joined_log events ≡ []) ⊎ (takes_back_first (joined_log events) ≡ true))
        → (joined_log (e ∷ events) ≡ []) ⊎ (takes_back_first (joined_log (e ∷ events)) ≡ true)
    by true is rest = inr (first_of e.log (joined_log events) (chain.1.acts.clears is not_ready))
    by false is rest =
        let still = chain.1.acts.still is in
        let ready : e.after.ready ≡ false = ap (λ s. s.ready) still.1 ∙ not_ready in
        subst (λ log. (log ++ joined_log events ≡ []) ⊎ (takes_back_first (log ++ joined_log events) ≡ true)) (sym still.0)
        (rest ready)

-- whoever controls the loop
led_on : (c : ℕ) (rs now : List Roles) (log : List Entry) → (log ≡ []) ⊎ (takes_back_first log ≡ true) → LedSo 0 rs log now → LedSo c rs log now
led_on c rs now log first so = ⊎_elim (λ none. subst (λ log. LedSo c rs log now) (sym none) (subst (λ log. LedSo 0 rs log now) none so)) (λ back. led_back c rs now log back so) first

-- the log of an event, and those after it
led_more : (plan : List Planned) (e : Event) (events : List Event) (finish : HostState) → IsStep plan e → Chained plan e.after events finish
    → LedSo 0 (all_roles e.after.loop) (joined_log events) (all_roles finish.loop) → LedSo 0 (all_roles e.before.loop) (joined_log (e ∷ events)) (all_roles finish.loop)
led_more plan e events finish s chain so =
    let t = s.acts.travels in
    let rs = all_roles e.before.loop in
    let now = all_roles finish.loop in
    let c = controller_after 0 e.log in
    let behind : LedSo c (roles_led 0 rs e.log) (joined_log events) now =
    subst (λ ss. LedSo c ss (joined_log events) now) t.roles (by e.after.ready refl) in (
      has_one_talker_led-append 0 rs e.log (joined_log events) ∙ and_from (has_one_talker_led 0 rs e.log) _ t.one_talker behind.0,
      are_commands_led-append 0 e.log (joined_log events) ∙ and_from (are_commands_led 0 e.log) _ t.commands behind.1,
      behind.2 ∙ sym (roles_led-append 0 rs e.log (joined_log events)),
    )
  where
    by : (ready : Bool) → e.after.ready ≡ ready → LedSo (controller_after 0 e.log) (all_roles e.after.loop) (joined_log events) (all_roles finish.loop)
    by true is = subst (λ c. LedSo c (all_roles e.after.loop) (joined_log events) (all_roles finish.loop)) (sym (s.acts.controls is)) so
    by false is = led_on (controller_after 0 e.log) (all_roles e.after.loop) (all_roles finish.loop) (joined_log events) (joined_back plan e.after events finish chain is) so

still_one : (rs : List Roles) (log : List Entry) → OneTalkerLed 0 rs log → is_at_most_one (talkers (roles_led 0 rs log)) ≡ true
still_one rs log one =
    (and_parts (has_one_talker_led 0 rs log) (has_one_talker_led (controller_after 0 log) (roles_led 0 rs log) [])
    (sym (has_one_talker_led-append 0 rs log []) ∙ subst (OneTalkerLed 0 rs) (sym (append-nil log)) one)).1

-- ---- faults

failed_once : (r : Reply) (hops : List ℕ) (before now : ℕ) (units : List RecordUnit) → HasReplyCause r hops before now units
    → min (before + cond (is_medium_fault r) 1 0) last_count ≤ now
failed_once reply.FaultFrame hops before now units cause = omega (arith, cause.1)
failed_once reply.FaultMedium hops before now units cause = omega (arith, cause.1.risen)
failed_once reply.Ok hops before now units cause = omega (arith, cause.1)
failed_once (reply.No c) hops before now units cause = omega (arith, cause.1)

failed_more : (before here now more then_ : ℕ) → min (before + here) last_count ≤ now → min (now + more) last_count ≤ then_ → min (before + (here + more)) last_count ≤ then_
failed_more before here now more then_ a b = omega (arith, a, b)

-- nothing was planned, and the medium did not fail
answered_once : (r : Reply) (found : List ℕ) (units : List RecordUnit) (item : Item) (s t : HostState) → HasReplyCause r found s.faults t.faults units
    → found ≡ [] → t.faults ≤ s.faults → s.faults < last_count → CountsWhole item r s t → r ≡ reply_of item s
answered_once reply.FaultFrame found units item s t cause none same low whole = absurd (cause.0 none)
answered_once reply.FaultMedium found units item s t cause none same low whole = let risen = cause.1.risen in absurd (omega (arith, risen, same, low))
answered_once reply.Ok found units item s t cause none same low whole = whole.0
answered_once (reply.No c) found units item s t cause none same low whole = whole.0

failed_at_most : (plan : List Planned) (e : Event) → IsStep plan e → min (e.before.faults + cond (is_medium_fault e.reply) 1 0) last_count ≤ e.after.faults
failed_at_most plan e s = ⊎_elim (λ is. by is.0 e.reply (subst (λ item. MayReply item e.reply) is.1 s.acts.replied.may) (s.acts.lent is.0 is.1).faults) (λ other. failed_once e.reply _ _ _ _ (s.acts.exchanged other).cause) (is_lend_or e.item)
  where
    by : (frames : ℕ) (r : Reply) → MayReply (Asks (Lend frames)) r → e.after.faults ≡ e.before.faults → min (e.before.faults + cond (is_medium_fault r) 1 0) last_count ≤ e.after.faults
    by frames reply.FaultFrame may same = omega (arith, same)
    by frames reply.FaultMedium may same = cc
    by frames reply.Ok may same = omega (arith, same)
    by frames (reply.No c) may same = omega (arith, same)

answered_if : (plan : List Planned) (e : Event) → IsStep plan e → met (hops_of plan) e.before.crossings e.after.crossings ≡ [] → e.after.faults ≤ e.before.faults → e.before.faults < last_count
    → CountsWhole e.item e.reply e.before e.after → e.reply ≡ reply_of e.item e.before
answered_if plan e s none same low whole =
    ⊎_elim (λ is. by is.0 e.reply e.item (subst (λ item. MayReply item e.reply) is.1 s.acts.replied.may) (s.acts.lent is.0 is.1).cause whole)
    (λ other. answered_once e.reply _ _ e.item e.before e.after (s.acts.exchanged other).cause none same low whole) (is_lend_or e.item)
  where
    by : (frames : ℕ) (r : Reply) (item : Item) → MayReply (Asks (Lend frames)) r → (is_frame_fault r ≡ true → met (hops_of plan) e.before.crossings e.after.crossings ≢ []) → CountsWhole item r e.before e.after → r ≡ reply_of item e.before
    by frames reply.FaultFrame item may cause whole = absurd (cause refl none)
    by frames reply.FaultMedium item may cause whole = cc
    by frames reply.Ok item may cause whole = whole.0
    by frames (reply.No c) item may cause whole = whole.0

-- ---- runs

pub faults_of_run : (plan : List Planned) (start : HostState) (events : List Event) (finish : HostState) → Chained plan start events finish → start.faults ≤ finish.faults
faults_of_run plan start [] finish chain = let same = ap (λ s. s.faults) chain in omega (arith, same)
faults_of_run plan start (e ∷ events) finish chain =
    let first = ap (λ s. s.faults) chain.0 in
    let here = faults_later plan e chain.1 in
    let rest = faults_of_run plan e.after events finish chain.2 in
    omega (arith, first, here, rest)

-- ---- which reply is a fault of the loop

crossed_more : (plan : List Planned) (e : Event) (events : List Event) → IsStep plan e → crossed_behind e.after events ≡ crossed_behind e.before (e ∷ events)
crossed_more plan e events s =
    let k = device_count e.before.loop in
    ap (λ j. risen_by (all_links j events) e.after.crossings) (count_stays _ e.before.loop e.after.loop s.acts.next.devices)
    ∙ ap (risen_by (all_links k events)) s.acts.travels.crossings ∙ sym (risen_more (λ e. links k e.log) e events e.before.crossings)

-- the reply of an event is a fault where a hop was met from here on up to there
abbrev IsLostBetween : List Planned → Event → ℕ → ℕ → Type 0
IsLostBetween plan e from to = IsLostWhere e.item (e.reply ≡ reply.FaultFrame) (met (hops_of plan) from to ≢ [])

pub lost_in_run : (plan : List Planned) (start : HostState) (done : List Event) (e : Event) (more : List Event) (finish : HostState) → Chained plan start (done ++ e ∷ more) finish
    → IsLostWhere e.item (e.reply ≡ reply.FaultFrame) (met (hops_of plan) (crossed_behind start done) (crossed_behind start (done ++ e ∷ [])) ≢ [])
lost_in_run plan start [] e more finish chain =
    let behind : e.after.crossings ≡ crossed_behind e.before (e ∷ []) = crossed_more plan e [] chain.1 in
    let here : IsLostBetween plan e e.before.crossings (crossed_behind e.before (e ∷ [])) = subst (IsLostBetween plan e e.before.crossings) behind (lost_exactly plan e chain.1) in
    subst (λ s. IsLostBetween plan e s.crossings (crossed_behind s (e ∷ []))) chain.0 here
lost_in_run plan start (d ∷ done) e more finish chain =
    let rest : IsLostBetween plan e (crossed_behind d.after done) (crossed_behind d.after (done ++ e ∷ [])) = lost_in_run plan d.after done e more finish chain.2 in
    let first : IsLostBetween plan e (crossed_behind d.before (d ∷ done)) (crossed_behind d.after (done ++ e ∷ [])) =
    subst (λ n. IsLostBetween plan e n (crossed_behind d.after (done ++ e ∷ []))) (crossed_more plan d done chain.1) rest in
    let both : IsLostBetween plan e (crossed_behind d.before (d ∷ done)) (crossed_behind d.before (d ∷ (done ++ e ∷ []))) =
    subst (IsLostBetween plan e (crossed_behind d.before (d ∷ done))) (crossed_more plan d (done ++ e ∷ []) chain.1) first in
    subst (λ s. IsLostBetween plan e (crossed_behind s (d ∷ done)) (crossed_behind s (d ∷ (done ++ e ∷ [])))) chain.0 both

-- ---- all of it

no_event : (done : List Event) (e : Event) (more : List Event) → [] ≡ done ++ e ∷ more → ⊥
no_event [] e more h = cc
no_event (d ∷ done) e more h = cc

-- nothing was answered yet
pub tells_nothing : (plan : List Planned) (start : HostState) → is_at_most_one (talkers (all_roles start.loop)) ≡ true → RunTells plan start [] start
tells_nothing plan start alone = record {
  one_talker = alone;
  commands = refl;
  roles = refl;
  effect = nothing_done (ring_of start.loop) start.tape;
  gate = λ g. g;
  guest = refl;
  crossings = refl;
  frames = boxed_same (TookAll (device_count start.loop) []) (λ party d. refl) start.loop;
  lost = λ done e more are. absurd (no_event done e more are);
  few_lost = omega arith;
  few_failed = omega arith;
  complete = λ none same low. tt;
}

-- one step before what is told of the others
pub tells_more : (plan : List Planned) (e : Event) (events : List Event) (finish : HostState) → IsStep plan e → e.before.crossings ≤ 18446744073709551615
    → Chained plan e.after events finish → RunTells plan e.after events finish → RunTells plan e.before (e ∷ events) finish
tells_more plan e events finish step low chain t =
    let s = step.acts in
    let grown = faults_of_run plan e.after events finish chain in
    let led = led_more plan e events finish step chain (t.one_talker, t.commands, t.roles) in
    let now = faults_later plan e step in
    let k = device_count e.before.loop in
    let count : device_count e.after.loop ≡ k = count_stays _ e.before.loop e.after.loop s.next.devices in
    let ring = ring_stays _ e.before.loop e.after.loop s.next.devices in
    let rose : e.after.crossings ≡ risen_by (links k e.log) e.before.crossings = s.travels.crossings in
    let range = risen_within (links k e.log) e.before.crossings low in
    let here : (e.before.crossings ≤ e.after.crossings) × (e.after.crossings ≤ 18446744073709551615) = (omega (arith, rose, range.0), omega (arith, rose, range.1)) in
    let ends = risen_within (all_links (device_count e.after.loop) events) e.after.crossings here.1 in
    let behind : e.after.crossings ≤ finish.crossings = let is = t.crossings in omega (arith, is, ends.0) in
    record {
      one_talker = led.0;
      commands = led.1;
      roles = led.2;
      effect = effect_more plan e events finish.tape step ring t.effect;
      gate = λ g. t.gate (s.replied.gate g);
      guest = t.guest ∙ s.travels.guest;
      crossings = t.crossings ∙ ap (λ j. risen_by (all_links j events) e.after.crossings) count ∙ ap (risen_by (all_links k events)) rose ∙ sym (risen_more (λ e. links k e.log) e events e.before.crossings);
      frames = boxed_then (TookFrames k e.log) (TookAll k events) (TookAll k (e ∷ events))
          (λ party d f g first more. more ∙ ap (risen_by (all_passes k party events)) first ∙ sym (risen_more (λ e. passes k party e.log) e events d.frames))
          e.before.loop e.after.loop finish.loop s.travels.frames
          (subst (λ j. BoxedBecome (TookAll j events) e.after.loop finish.loop) count t.frames);
      lost = λ done f more are. lost_in_run plan e.before done f more finish (subst (λ es. Chained plan e.before es finish) are (refl, step, chain));
      few_lost =
          let once = lost_at_most plan e step in
          let split = length-met (hops_of plan) e.before.crossings e.after.crossings finish.crossings here.0 behind in
          let sums = sum_first (λ e. cond (is_frame_fault e.reply) 1 0) e events in
          let rest = t.few_lost in
          omega (arith, once, split, sums, rest);
      few_failed =
          let once = failed_at_most plan e step in
          let sums = sum_first (λ e. cond (is_medium_fault e.reply) 1 0) e events in
          subst (λ n. min (e.before.faults + n) last_count ≤ finish.faults) (sym sums)
          (failed_more e.before.faults (cond (is_medium_fault e.reply) 1 0) e.after.faults (failed_replies events) finish.faults once t.few_failed);
      complete = λ none same bound. (
        λ told. answered_if plan e step (ap (λ p. met (hops_of p) e.before.crossings e.after.crossings) none) (omega (arith, grown, same)) bound (s.replied.whole told),
        t.complete none (omega (arith, now, same)) (omega (arith, grown, same, bound)),
      );
    }

-- a run tells what it tells
pub run_tells : (plan : List Planned) (start : HostState) (events : List Event) (finish : HostState) → Chained plan start events finish
    → is_at_most_one (talkers (all_roles start.loop)) ≡ true → start.crossings ≤ 18446744073709551615 → RunTells plan start events finish
run_tells plan start [] finish chain alone low = subst (λ s. RunTells plan start [] s) (sym chain) (tells_nothing plan start alone)
run_tells plan start (e ∷ events) finish chain alone low =
    let s = chain.1.acts in
    let first : e.before.crossings ≤ 18446744073709551615 = let same = ap (λ s. s.crossings) chain.0 in omega (arith, same, low) in
    let rose = s.travels.crossings in
    let range = risen_within (links (device_count e.before.loop) e.log) e.before.crossings first in
    let next : e.after.crossings ≤ 18446744073709551615 = omega (arith, rose, range.1) in
    let one : is_at_most_one (talkers (all_roles e.after.loop)) ≡ true =
    subst (λ rs. is_at_most_one (talkers rs) ≡ true) (sym s.travels.roles) (still_one (all_roles e.before.loop) e.log s.travels.one_talker) in
    let rest = run_tells plan e.after events finish chain.2 one next in
    subst (λ s. RunTells plan s (e ∷ events) finish) chain.0 (tells_more plan e events finish chain.1 first chain.2 rest)
