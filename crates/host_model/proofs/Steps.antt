-- Laws of one step, for those who say a part of it by itself.
use Rattle.std.proofs.Common.{◌≡◌, ◌≢◌, ◌≤◌, ◌+◌, ◌↔◌, ◌∙◌, ◌==◌, ◌||◌, ◌⊎◌, ⊎_elim, inr, ℕ, Bool, All, true, false, not, cond, List, [], ◌∷◌, Option, Some, None, length, inl, refl, sym, ap, subst, arith, eqb-true}
use Rattle.std.specs.Prelude.{IfSome}
use Rattle.std.specs.List.{list_all}
use Rattle.std.proofs.lemmas.Bool.{and_parts}
use Rattle.std.proofs.lemmas.List.Elements.{All-nil, All-cons}
use Rattle.lif_model.specs.Tape.{Tape}
use Rattle.lif_model.specs.Redo.{settled}
use Rattle.lif_model.specs.Commit.{SettlesAs}
use Rattle.lif_model.proofs.Commit.{settles_self}
use Rattle.il_frames.specs.declared.frame.Frame.{Frame}
use Rattle.il_frames.specs.declared.entry.Entry.{Entry}
use Rattle.il_frames.specs.declared.entry.Outcome.{Outcome}
use Rattle.il_frames.specs.declared.entry.Outcome.TheVariants as outcome
use Rattle.il_frames.specs.Frames.{byte_of, is_data}
use Rattle.il_device.specs.State.{DeviceState}
use Rattle.loop_model.specs.Devices.{EachBecomes}
use Rattle.loop_model.specs.Loops.{host_loop}
use Rattle.loop_model.specs.Reach.{met}
use Rattle.loop_model.specs.Units.{RecordUnit}
use Rattle.loop_model.proofs.DeviceLaws.{each_length, each_same, each_then}
use Rattle.il_script.specs.declared.reply.Reply.{Reply}
use Rattle.il_script.specs.declared.reply.Reply.TheVariants as reply
use Rattle.il_ring.specs.declared.plan.Planned.{Planned}
use Rattle.il_ring.specs.Plans.{hops_of}
use Rattle.il_ring.specs.Fates.{EndsSo, IsByPlan}
use Rattle.host_model.specs.LoopStates.{LoopState, device_count, drive_at, ring_of}
use Rattle.host_model.specs.Next.{BoxedBecome}
use Rattle.host_model.specs.Requests.{Asks, Devices, Get, Item, Lend, NoCommand, OfVolume, Pack, Paper, Poll, Say, Status, is_lending}
use Rattle.host_model.specs.Histories.{IsLostWhere}
use Rattle.host_model.specs.Steps.{Event, IsStep, HasReplyCause, SettlesAlike, is_frame_fault}

-- ---- devices one by one

pub boxed_same : (R : ℕ → DeviceState → DeviceState → Type 0) → ((party : ℕ) (d : DeviceState) → R party d d) → (z : LoopState) → BoxedBecome R z z
boxed_same R same z = record { before = each_same R same 1 z.before; after = each_same R same (length z.before + 2) z.after }

pub boxed_then : (R S T : ℕ → DeviceState → DeviceState → Type 0) → ((party : ℕ) (d e f : DeviceState) → R party d e → S party e f → T party d f)
    → (x y z : LoopState) → BoxedBecome R x y → BoxedBecome S y z → BoxedBecome T x z
boxed_then R S T join x y z a b = record {
  before = each_then R S T join 1 x.before y.before z.before a.before b.before;
  after =
      let same : length y.before + 2 ≡ length x.before + 2 = ap (λ k. k + 2) (each_length R 1 x.before y.before a.before) in
      each_then R S T join (length x.before + 2) x.after y.after z.after a.after (subst (λ k. EachBecomes S k y.after z.after) same b.after);
}

-- the ring stays as large as it is, and the drive in its place
pub count_stays : (R : ℕ → DeviceState → DeviceState → Type 0) (z y : LoopState) → BoxedBecome R z y → device_count y ≡ device_count z
count_stays R z y h =
    let first = each_length R 1 z.before y.before h.before in
    let last = each_length R (length z.before + 2) z.after y.after h.after in
    omega (arith, first, last)

pub ring_stays : (R : ℕ → DeviceState → DeviceState → Type 0) (z y : LoopState) → BoxedBecome R z y → ring_of y ≡ ring_of z
ring_stays R z y h =
    let first = each_length R 1 z.before y.before h.before in
    ap (λ k. host_loop k (drive_at y)) (count_stays R z y h) ∙ ap (λ k. host_loop (device_count z) (k + 1)) first

-- ---- causes

some_hop : (hops : List ℕ) → hops ≢ [] → 1 ≤ length hops
some_hop [] h = absurd (h refl)
some_hop (hop ∷ hops) h = omega arith

-- a fault of the loop stands for a planned hop
pub lost_once : (r : Reply) (hops : List ℕ) (before now : ℕ) (units : List RecordUnit) → HasReplyCause r hops before now units
    → cond (is_frame_fault r) 1 0 ≤ length hops
lost_once reply.FaultFrame hops before now units cause = some_hop hops cause.0
lost_once reply.FaultMedium hops before now units cause = omega arith
lost_once reply.Ok hops before now units cause = omega arith
lost_once (reply.No c) hops before now units cause = omega arith

-- the medium's count never falls
pub faults_grow : (r : Reply) (hops : List ℕ) (before now : ℕ) (units : List RecordUnit) → HasReplyCause r hops before now units → before ≤ now
faults_grow reply.FaultFrame hops before now units cause = cause.1
faults_grow reply.FaultMedium hops before now units cause = cause.1.later
faults_grow reply.Ok hops before now units cause = omega (arith, cause.1)
faults_grow (reply.No c) hops before now units cause = omega (arith, cause.1)

-- ---- by the item

-- a lend or not
pub is_lend_or : (item : Item) → ((frames : ℕ) × (item ≡ Asks (Lend frames))) ⊎ (is_lending item ≡ false)
is_lend_or (Asks (OfVolume command)) = inr refl
is_lend_or (Asks (Get name)) = inr refl
is_lend_or (Asks Pack) = inr refl
is_lend_or (Asks Devices) = inr refl
is_lend_or (Asks Status) = inr refl
is_lend_or (Asks Poll) = inr refl
is_lend_or (Asks (Say bytes)) = inr refl
is_lend_or (Asks Paper) = inr refl
is_lend_or (Asks (Lend frames)) = inl (frames, refl)
is_lend_or (NoCommand code) = inr refl

-- of a lend one direction is said
where_met : (item : Item) (Lost Met : Type 0) → is_lending item ≡ false → Lost ↔ Met → IsLostWhere item Lost Met
where_met (Asks (OfVolume command)) Lost Met other both = both
where_met (Asks (Get name)) Lost Met other both = both
where_met (Asks Pack) Lost Met other both = both
where_met (Asks Devices) Lost Met other both = both
where_met (Asks Status) Lost Met other both = both
where_met (Asks Poll) Lost Met other both = both
where_met (Asks (Say bytes)) Lost Met other both = both
where_met (Asks Paper) Lost Met other both = both
where_met (Asks (Lend frames)) Lost Met other both = let clash : true ≡ false = other in cc
where_met (NoCommand code) Lost Met other both = both

of_lend : (item : Item) (frames : ℕ) (Lost Met : Type 0) → item ≡ Asks (Lend frames) → (Lost → Met) → IsLostWhere item Lost Met
of_lend item frames Lost Met is only = subst (λ item. IsLostWhere item Lost Met) (sym is) only

-- ---- what a step tells of its faults

fault_is : (r : Reply) → r ≡ reply.FaultFrame → is_frame_fault r ≡ true
fault_is r is = ap is_frame_fault is

-- the reply is `fault frame` exactly where a planned hop was met, and of a lend only there
pub lost_exactly : (plan : List Planned) (e : Event) → IsStep plan e → IsLostWhere e.item (e.reply ≡ reply.FaultFrame) (met (hops_of plan) e.before.crossings e.after.crossings ≢ [])
lost_exactly plan e s =
    ⊎_elim (λ is. of_lend e.item is.0 _ _ is.1 (λ lost. (s.acts.lent is.0 is.1).cause (fault_is e.reply lost)))
    (λ other. where_met e.item _ _ other (by_reply e.reply (met (hops_of plan) e.before.crossings e.after.crossings) _ _ _ (s.acts.exchanged other).cause))
    (is_lend_or e.item)
  where
    by_reply : (r : Reply) (found : List ℕ) (before now : ℕ) (units : List RecordUnit) → HasReplyCause r found before now units → (r ≡ reply.FaultFrame) ↔ (found ≢ [])
    by_reply reply.FaultFrame found before now units cause = (λ h. cause.0, λ h. refl)
    by_reply reply.FaultMedium found before now units cause = (λ h. cc, λ h. absurd (h cause.0))
    by_reply reply.Ok found before now units cause = (λ h. cc, λ h. absurd (h cause.0))
    by_reply (reply.No c) found before now units cause = (λ h. cc, λ h. absurd (h cause.0))

-- a fault of the loop stands for a planned hop
pub lost_at_most : (plan : List Planned) (e : Event) → IsStep plan e → cond (is_frame_fault e.reply) 1 0 ≤ length (met (hops_of plan) e.before.crossings e.after.crossings)
lost_at_most plan e s =
    ⊎_elim (λ is. by_fault (is_frame_fault e.reply) (s.acts.lent is.0 is.1).cause) (λ other. lost_once e.reply _ _ _ _ (s.acts.exchanged other).cause) (is_lend_or e.item)
  where
    by_fault : (fault : Bool) → (fault ≡ true → met (hops_of plan) e.before.crossings e.after.crossings ≢ []) → cond fault 1 0 ≤ length (met (hops_of plan) e.before.crossings e.after.crossings)
    by_fault true cause = some_hop (met (hops_of plan) e.before.crossings e.after.crossings) (cause refl)
    by_fault false cause = omega arith

-- the medium's count never falls
pub faults_later : (plan : List Planned) (e : Event) → IsStep plan e → e.before.faults ≤ e.after.faults
faults_later plan e s =
    ⊎_elim (λ is. let same = (s.acts.lent is.0 is.1).faults in omega (arith, same)) (λ other. faults_grow e.reply _ _ _ _ (s.acts.exchanged other).cause) (is_lend_or e.item)

-- what settles to the same as the tape before
pub alike : {before : Option Tape} (t x : Tape) → before ≡ Some t → SettlesAs (settled t) x → SettlesAlike before x
alike t x is so u was foreign = subst (λ (o : Option Tape). IfSome o (λ u. SettlesAs (settled u) x)) (sym is ∙ was) so

-- a tape that stays does
pub alike_staying : (tape : Option Tape) → IfSome tape (SettlesAlike tape)
alike_staying None = tt
alike_staying (Some t) = alike t t refl (settles_self t)

-- ---- logs without a fault

-- a frame that was not lost, nor its byte altered
abbrev pub went_well : Frame → Outcome → Bool
went_well f (outcome.Back g) = not (is_data f) || (byte_of g == byte_of f)
went_well f (outcome.Taken party) = true
went_well f (outcome.Lost party) = false

each_unfaulted : (plan : List Planned) (from to : ℕ) (f : Frame) (o : Outcome) → went_well f o ≡ true → EndsSo plan from to f o
each_unfaulted plan from to f (outcome.Back g) well = λ is.
    inl (eqb-true (byte_of g) (byte_of f) (ap (λ b. not b || (byte_of g == byte_of f)) (sym is) ∙ well))
each_unfaulted plan from to f (outcome.Taken party) well = tt
each_unfaulted plan from to f (outcome.Lost party) well = let clash : false ≡ true = well in cc

-- any plan makes them
pub unfaulted : (plan : List Planned) (from to : ℕ) (log : List Entry) → list_all (λ e. went_well e.frame e.outcome) log ≡ true
    → All (IsByPlan plan from to) log
unfaulted plan from to [] well = All-nil (IsByPlan plan from to)
unfaulted plan from to (e ∷ log) well =
    let parts = and_parts (went_well e.frame e.outcome) (list_all (λ e. went_well e.frame e.outcome) log) well in
    All-cons (IsByPlan plan from to) e log (each_unfaulted plan from to e.frame e.outcome parts.0) (unfaulted plan from to log parts.1)
