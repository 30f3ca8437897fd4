-- What stands where the volume is asked: the state before the command is that of its store, and nothing was read or written since.
use Rattle.std.proofs.Common.{◌≡◌, ℕ, Bool, true, false, List, [], map, inl, inr, refl, sym, subst}
use Rattle.std.specs.Prelude.{Ok}
use Rattle.lif_model.specs.Transfers.{Transfer}
use Rattle.il_ports.specs.Media.{MediumView}
use Rattle.il_ports.specs.Stores.{Begun, GoesOn}
use Rattle.il_ring.specs.Rings.{RingView}
use Rattle.il_control.specs.Calls.{loop_of}
use Rattle.loop_model.specs.Effect.{Transferred, transfer_of}
use Rattle.loop_model.specs.Units.{units_of}
use Rattle.il_record.specs.LoopStores.{LoopView, view_of}
use Rattle.il_record.proofs.StoreCalls.{transferred_then}
use Rattle.host_model.specs.HostStates.{HostState}
use Rattle.il_host.specs.Standings.{MakesSound, state_at}
use Rattle.il_host.proofs.VolumeExchanges.{EndsBy, StartsBy}
use Rattle.il_host.proofs.VolumeReplied.{IsSeenAs, made_quiet, seen_as, seen_still}
use Rattle.il_host.proofs.VolumeStarts.{Emptied, made_sound, volume_begun}
use Rattle.il_host.proofs.VolumeSteps.{behind}

-- To make a store sound reads and writes nothing.
start_transferred : {M : Type 0} (view : M → MediumView) (was sound : Bool) (r m : RingView M) → StartsBy view was sound r m → Transferred (loop_of r) r.books.log [] → Transferred (loop_of m) m.books.log []
start_transferred view was true r m same so = subst (λ r. Transferred (loop_of r) r.books.log []) (sym same) so
start_transferred view was false r m keeps so = transferred_then view true [] r m [] keeps.came refl so

module _ {M S : Type 0} (view : M → MediumView) (seen : S → RingView M) (o a p : S) (old begun mid : LoopView M)
    (valid : (view_of view seen o old).valid) (here : seen o ≡ old.ring) (there : seen a ≡ begun.ring) (empties : Begun (view_of view seen o old) (view_of view seen a begun))
    {T : Type 0} (x : T) (makes : MakesSound view begun mid (Ok x)) where
  emptied : Emptied view old begun
  emptied = volume_begun view seen o a old begun valid here there empties

  pub asked_seen : IsSeenAs (state_at view old) (view_of view seen p mid)
  asked_seen =
      let quiet = made_quiet view seen a p begun mid emptied.stands x emptied.unbroken makes in
      subst (λ (s : HostState). IsSeenAs s (view_of view seen p mid)) emptied.state
      (seen_still (state_at view begun) (view_of view seen a begun) (view_of view seen p mid) (seen_as view seen a begun) quiet.quiet quiet.size)

  pub asked_transferred : (view_of view seen p mid).transferred []
  asked_transferred = start_transferred view begun.ready begun.sound begun.ring mid.ring (made_sound view begun mid emptied.unbroken x emptied.stands makes).started.by empties.transferred

  -- after calls that did not fail some are told
  pub asked_lists : {U : Type 0} {y : U} (q : S) (calls : ℕ) (new : LoopView M) → seen p ≡ mid.ring → GoesOn calls (view_of view seen p mid) (view_of view seen q new) (Ok y)
      → (list : List Transfer) × (view_of view seen q new).transferred list
  asked_lists {y = y} q calls new agrees goes =
      let made = made_sound view begun mid emptied.unbroken x emptied.stands makes in
      let so = behind view seen p q calls mid new (Ok y) made.since made.idle agrees goes in
      by y mid.ring new.ring asked_transferred so.ends
    where
      by : {U : Type 0} (y : U) (m s : RingView M) → Transferred (loop_of m) m.books.log [] → EndsBy view (Ok y) m s → (list : List Transfer) × Transferred (loop_of s) s.books.log list
      by y m s none (inl same) = ([], subst (λ (r : RingView M). Transferred (loop_of r) r.books.log []) (sym same) none)
      by y m s none (inr good) =
          let units = units_of (loop_of m) good.came.pieces in
          (map transfer_of units, transferred_then view true units m s [] (record { came = good.came; are = refl }) good.good none)
