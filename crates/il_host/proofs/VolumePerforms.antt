-- A command of the volume, from the moment at which its log is emptied to its reply, is a step of a run.
use Rattle.std.proofs.Common.{◌≡◌, ◌≤◌, ℕ, false, Option, Some, refl, sym, subst, true}
use Rattle.std.specs.Prelude.{Ok, Err}
use Rattle.lif_model.specs.Apply.{VolumeCommand, apply}
use Rattle.lif_model.specs.declared.refusal.Refusal.{Refusal}
use Rattle.lif_model.specs.Tape.{Tape}
use Rattle.lif_model.specs.Volume.{is_foreign_gated}
use Rattle.lif_model.specs.Packing.{finished_volume_of}
use Rattle.il_ports.specs.Media.{MediumView}
use Rattle.il_ports.specs.Stores.{Begun, GoesOn, IsStore}
use Rattle.il_ports.specs.declared.records.Trouble.{Trouble}
use Rattle.il_ports.specs.declared.records.Trouble.TheVariants as trouble
use Rattle.il_ring.specs.Rings.{RingView}
use Rattle.il_record.specs.LoopStores.{LoopView, view_of}
use Rattle.il_script.specs.declared.reply.Reply.{Reply}
use Rattle.il_script.specs.declared.reply.Reply.TheVariants as reply
use Rattle.lif_volume.specs.Commands.{SettlesOnly}
use Rattle.host_model.specs.Requests.{Asks, Item, OfVolume}
use Rattle.host_model.specs.HostStates.{HostState, volume_at}
use Rattle.host_model.specs.Replies.{refused_as}
use Rattle.host_model.specs.Steps.{Event, Acts, event}
use Rattle.host_model.specs.Stops.{StopsLeave}
use Rattle.il_host.specs.Standings.{HasDriveStatus, IsHostRing, MakesSound, event_at, fault_of, state_at}
use Rattle.il_host.proofs.VolumeCarries.{CarriesAs, none_carried}
use Rattle.il_host.proofs.VolumeCommands.{KeepsRing, keeps_emptied, volume_broke, volume_done}
use Rattle.il_host.proofs.VolumeReplied.{IsSeenAs, ShownTurns, StaysQuiet, broke_quiet, broke_replied, broke_stops, fits_fault, fits_refused, made_quiet, quiet_then, seen_as, seen_still, volume_answered, volume_stops, volume_troubled}
use Rattle.il_host.proofs.VolumeStarts.{Emptied, volume_begun}
use Rattle.il_host.proofs.VolumeSteps.{volume_step}

-- The command is a step, a power stop during it leaves what it may leave, and plan, room and images stay.
pub record Performs {M S : Type 0} (view : M → MediumView) (seen : S → RingView M) (o q : S) (item : Item) (answered : Reply) (old new : LoopView M) : Type 0 where
  pub step : Acts (old.ring.books.plan) (event_at view item answered old new)
  pub stops : StopsLeave (event_at view item answered old new) (view_of view seen o old).moment (view_of view seen q new).moment (view_of view seen o old).left_since (view_of view seen q new).left_since
  pub keeps : KeepsRing view old new

-- The store was o, was emptied as a, and is q in the end.
module _ {M S : Type 0} (view : M → MediumView) (seen : S → RingView M) (o a q : S) (item : Item) (old begun new : LoopView M) (emptied : Emptied view old begun) where
  -- the event, from before the emptying on
  pub performs_of : (answered : Reply) → Acts (begun.ring.books.plan) (event_at view item answered begun new)
      → StopsLeave (event_at view item answered begun new) (view_of view seen o old).moment (view_of view seen q new).moment (view_of view seen o old).left_since (view_of view seen q new).left_since
      → KeepsRing view begun new → Performs view seen o q item answered old new
  performs_of answered step stops keeps = record {
    step = subst (λ plan. Acts plan (event_at view item answered old new)) emptied.plan
        (subst (λ (s : HostState). Acts (begun.ring.books.plan) (event_from s)) emptied.state step);
    stops = subst (λ (s : HostState). StopsLeave (event_from s) (view_of view seen o old).moment (view_of view seen q new).moment (view_of view seen o old).left_since (view_of view seen q new).left_since) emptied.state stops;
    keeps = keeps_emptied view old begun new emptied keeps;
  }
    where
      event_from : HostState → Event
      event_from s = event item answered (new.ring.books.log) s (state_at view new)

module _ {M S : Type 0} (view : M → MediumView) (seen : S → RingView M) (o a q : S) (command : VolumeCommand) (old begun new : LoopView M)
    (valid : (view_of view seen o old).valid) (here : seen o ≡ old.ring) (there : seen a ≡ begun.ring) (empties : Begun (view_of view seen o old) (view_of view seen a begun))
    (room : IsHostRing view old.ring) (low : HasDriveStatus new.ring) (left : 1 ≤ (view_of view seen q new).calls_left) where
  emptied : Emptied view old begun
  emptied = volume_begun view seen o a old begun valid here there empties

  performs : (answered : Reply) → Acts (begun.ring.books.plan) (event_at view (Asks (OfVolume command)) answered begun new)
      → StopsLeave (event_at view (Asks (OfVolume command)) answered begun new) (view_of view seen o old).moment (view_of view seen q new).moment (view_of view seen o old).left_since (view_of view seen q new).left_since
      → KeepsRing view begun new → Performs view seen o q (Asks (OfVolume command)) answered old new
  performs = performs_of view seen o a q (Asks (OfVolume command)) old begun new emptied

  -- The store could not be made sound, and the volume was not asked.
  pub volume_not_asked : (T : Type 0) (e : Trouble) → IsStore (view_of view seen o old) → MakesSound {T = T} view begun new (Err e) → (e ≡ trouble.Frame) × Performs view seen o q (Asks (OfVolume command)) reply.FaultFrame old new
  volume_not_asked T e store makes =
      let loop = volume_broke view command begun new emptied.stands emptied.log emptied.begins (emptied.room room) low T seen q e left makes in
      let still = broke_quiet view seen a q begun new emptied.stands T e makes in
      let before = seen_as view seen a begun in
      let after = seen_as view seen q new in
      let replied = broke_replied command (view_of view seen a begun) (view_of view seen q new) (state_at view begun) (state_at view new) (new.ring.books.log) before after still in
      let first = subst (λ (s : HostState). IsSeenAs s (view_of view seen o old)) (sym emptied.state) (seen_as view seen o old) in
      let stops = broke_stops (Asks (OfVolume command)) reply.FaultFrame (view_of view seen o old) (view_of view seen q new) (state_at view begun) (state_at view new) (new.ring.books.log) first store
      (quiet_then (view_of view seen o old) (view_of view seen a begun) (view_of view seen q new) empties.quiet still.quiet) in
      (loop.0, performs reply.FaultFrame (volume_step (begun.ring.books.plan) (event_at view (Asks (OfVolume command)) reply.FaultFrame begun new) command refl replied loop.1) stops loop.2)

  -- The store was made sound as p, and the volume was asked.
  module _ {T : Type 0} (x : T) (p : S) (calls : ℕ) (mid : LoopView M) (makes : MakesSound view begun mid (Ok x)) (agrees : seen p ≡ mid.ring)
      (turns : (t : Tape) → (view_of view seen p mid).tape ≡ Some t → is_foreign_gated t ≡ false → ShownTurns (view_of view seen p mid).record_count command (view_of view seen p mid) (view_of view seen q new) t)
      (foreign : (t : Tape) → (view_of view seen p mid).tape ≡ Some t → is_foreign_gated t ≡ true → SettlesOnly (view_of view seen p mid) (view_of view seen q new) t) where
    quiet_mid : StaysQuiet (view_of view seen a begun) (view_of view seen p mid)
    quiet_mid = made_quiet view seen a p begun mid emptied.stands x emptied.unbroken makes

    seen_mid : IsSeenAs (state_at view begun) (view_of view seen p mid)
    seen_mid = seen_still (state_at view begun) (view_of view seen a begun) (view_of view seen p mid) (seen_as view seen a begun) quiet_mid.quiet quiet_mid.size

    stops_mid : (answered : Reply) → StopsLeave (event_at view (Asks (OfVolume command)) answered begun new) (view_of view seen o old).moment (view_of view seen q new).moment (view_of view seen o old).left_since (view_of view seen q new).left_since
    stops_mid answered =
        volume_stops command (view_of view seen p mid) (view_of view seen q new) (state_at view begun) (state_at view new) (new.ring.books.log) seen_mid (seen_as view seen q new) turns foreign answered (view_of view seen o old)
        (quiet_then (view_of view seen o old) (view_of view seen a begun) (view_of view seen p mid) empties.quiet quiet_mid.quiet)

    -- The store did not fail: ok, or a refusal.
    pub volume_asked : (refusal : Option Refusal) → GoesOn {T = Unit {0}} calls (view_of view seen p mid) (view_of view seen q new) (Ok tt)
        → ((t u : Tape) → (view_of view seen p mid).tape ≡ Some t → (view_of view seen q new).tape ≡ Some u → apply (view_of view seen p mid).record_count command (finished_volume_of t) ≡ (refusal, finished_volume_of u))
        → CarriesAs command (refused_as refusal) (state_at view old).records (volume_at (state_at view old)) (view_of view seen q new).transferred
        → Performs view seen o q (Asks (OfVolume command)) (refused_as refusal) old new
    volume_asked refusal goes answers carries =
        let carried = subst (λ (s : HostState). CarriesAs command (refused_as refusal) s.records (volume_at s) (view_of view seen q new).transferred) (sym emptied.state) carries in
        let loop = volume_done view command begun new emptied.stands emptied.log emptied.begins (emptied.room room) low x seen p q calls mid (Ok tt) (refused_as refusal) emptied.unbroken makes agrees goes (fits_refused {T = Unit {0}} tt refusal) carried left in
        let replied = volume_answered command (view_of view seen p mid) (view_of view seen q new) (state_at view begun) (state_at view new) (new.ring.books.log) seen_mid (seen_as view seen q new) turns foreign goes.continues.told goes.continues.size refusal answers in
        performs (refused_as refusal) (volume_step (begun.ring.books.plan) (event_at view (Asks (OfVolume command)) (refused_as refusal) begun new) command refl replied loop.0) (stops_mid (refused_as refusal)) loop.1

    -- It failed.
    pub volume_failed : (e : Trouble) → GoesOn {T = Unit {0}} calls (view_of view seen p mid) (view_of view seen q new) (Err e) → Performs view seen o q (Asks (OfVolume command)) (fault_of e) old new
    volume_failed e goes =
        let loop = volume_done view command begun new emptied.stands emptied.log emptied.begins (emptied.room room) low x seen p q calls mid (Err e) (fault_of e) emptied.unbroken makes agrees goes (fits_fault (Unit {0}) e) (none_carried command e _ _ _) left in
        let replied = volume_troubled command (view_of view seen p mid) (view_of view seen q new) (state_at view begun) (state_at view new) (new.ring.books.log) seen_mid (seen_as view seen q new) turns foreign goes.continues.told goes.continues.size e in
        performs (fault_of e) (volume_step (begun.ring.books.plan) (event_at view (Asks (OfVolume command)) (fault_of e) begun new) command refl replied loop.0) (stops_mid (fault_of e)) loop.1
