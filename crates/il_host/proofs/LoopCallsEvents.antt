-- The exchanges of asking for accessory IDs, of polling and of printing, once the loop is ready.
use Rattle.std.proofs.Common.{◌≡◌, ◌+◌, ◌++◌, ◌∙◌, ℕ, Bool, true, false, min, List, [], ◌∷◌, length, map, Option, Some, None, refl, sym, ap, ap₂, subst, arith, append-nil}
use Rattle.il_frames.specs.declared.frame.Frame.{Frame}
use Rattle.il_device.specs.Passing.{identified}
use Rattle.il_device.specs.State.{DeviceState}
use Rattle.il_ports.specs.Media.{MediumView}
use Rattle.il_drive.specs.State.{drive_id}
use Rattle.il_ring.specs.Lists.{First}
use Rattle.il_ring.specs.Rings.{RingView, devices_of}
use Rattle.il_control.specs.Calls.{IsFree, Stays, idy, loop_of}
use Rattle.il_record.specs.Asks.{CameAsked, up_to}
use Rattle.il_record.specs.LoopCalls.{LeftAlone, id_asks, ids_of, say_asks}
use Rattle.il_record.specs.Polls.{poll_asks}
use Rattle.host_model.specs.LoopStates.{all_ids, device_count, poll_frame, printer_at}
use Rattle.host_model.specs.RingStates.{loop_on}
use Rattle.host_model.specs.Courses.{Due, bytes_due, ids_due, is_commanding, is_identified, places_due}
use Rattle.host_model.proofs.RingStates.{count_on, ids_on, poll_on}
use Rattle.il_frames.specs.NamedFrames.{unl}
use Rattle.loop_model.specs.Polls.{poll_place, poll_unconfigure, polled_along}
use Rattle.il_host.proofs.Courses.{meets_ids, meets_poll, meets_say}
use Rattle.il_host.proofs.Keeping.{Keeps, keeps_asked, keeps_broken, keeps_then}
use Rattle.il_host.proofs.LoopEvents.{Readies}

-- ---- what `ready` leaves of the devices

told_same : {X : Type 0} (tell : DeviceState → X) → ((d e : DeviceState) → Stays true d e → tell e ≡ tell d) → (ds es : List DeviceState) → First (Stays true) (length ds) ds es → map tell es ≡ map tell ds
told_same tell same [] [] stays = refl
told_same tell same (d ∷ ds) (e ∷ es) stays = ap₂ (λ x xs. x ∷ xs) (same d e stays.0) (told_same tell same ds es stays.1)
told_same tell same _ _ stays = absurd stays

ready_told : {M X : Type 0} (view : M → MediumView) (tell : DeviceState → X) → ((d e : DeviceState) → Stays true d e → tell e ≡ tell d) → (was : Bool) (r m : RingView M) → Readies view was r m
    → map tell (devices_of m) ≡ map tell (devices_of r)
ready_told {M} view tell same true r m ready = ap (λ (m : RingView M). map tell (devices_of m)) ready.0
ready_told view tell same false r m ready = told_same tell same (devices_of r) (devices_of m) ready.1.leaves.stays

-- the poll's frame tells which devices want service, and that stays
polled_same : (k : ℕ) (ds es : List DeviceState) (f : Frame) → First (Stays true) (length ds) ds es → polled_along k es f ≡ polled_along k ds f
polled_same k [] [] f stays = refl
polled_same k (d ∷ ds) (e ∷ es) f stays =
    polled_same (k + 1) ds es (identified (poll_place k) e.wants f) stays.1 ∙ ap (λ wants. polled_along (k + 1) ds (identified (poll_place k) wants f)) (stays.0.wants refl)
polled_same k [] (e ∷ es) f stays = absurd stays
polled_same k (d ∷ ds) [] f stays = absurd stays

ready_polled : {M : Type 0} (view : M → MediumView) (was : Bool) (r m : RingView M) → Readies view was r m → polled_along 1 (devices_of m) idy ≡ polled_along 1 (devices_of r) idy
ready_polled {M} view true r m ready = ap (λ (m : RingView M). polled_along 1 (devices_of m) idy) ready.0
ready_polled view false r m ready = polled_same 1 (devices_of r) (devices_of m) idy ready.1.leaves.stays

ready_count : {M : Type 0} (view : M → MediumView) (was : Bool) (r m : RingView M) → Readies view was r m → length (devices_of m) ≡ length (devices_of r)
ready_count {M} view true r m ready = ap (λ (m : RingView M). length (devices_of m)) ready.0
ready_count view false r m ready = ready.1.came.units.came.talked.adds.size

pub ready_free : {M : Type 0} (view : M → MediumView) (was : Bool) (r m : RingView M) → Readies view was r m → IsFree m
ready_free {M} view true r m ready = subst (λ (m : RingView M). IsFree m) (sym ready.0) ready.1.free
ready_free view false r m ready = ready.1.idle.free

module _ {M : Type 0} (view : M → MediumView) (was : Bool) (r m : RingView M) (ready : Readies view was r m) where
  pub ready_ids : r.drive.state.interface.accessory ≡ Some drive_id → ids_of (devices_of m) ≡ all_ids (loop_on r)
  ready_ids drive = ready_told view (λ d. d.accessory) (λ d e stays. stays.nothing.accessory) was r m ready ∙ sym (ids_on r drive)

  pub ready_frame : polled_along 1 (devices_of m) idy ≡ poll_frame (loop_on r)
  ready_frame = ready_polled view was r m ready ∙ poll_on r

-- ---- what a command makes after `ready`

module _ {M : Type 0} (view : M → MediumView) (was : Bool) (r m s : RingView M) (ready : Readies view was r m) where
  -- each device is asked for its accessory ID, whole or broken off
  pub ids_kept : (whole : Bool) → r.drive.state.interface.accessory ≡ Some drive_id → LeftAlone view whole (up_to (id_asks (devices_of m)) (length (devices_of m))) m s → Keeps view whole (ids_due 1 (all_ids (loop_on r))) m s
  ids_kept whole drive left =
      subst (λ ids. Keeps view whole (ids_due 1 ids) m s) (ready_ids view was r m ready drive)
      (keeps_asked view whole (up_to (id_asks (devices_of m)) (length (devices_of m))) (ids_due 1 (ids_of (devices_of m))) m s left.came (meets_ids (loop_of m) (devices_of m)))

  -- the parallel poll
  abbrev poll_due : Frame → ℕ → List Due
  poll_due f n = places_due 1 n ++ is_commanding unl ∷ is_identified f ∷ is_commanding poll_unconfigure ∷ []

  abbrev pub poll_course : List Due
  poll_course = poll_due (poll_frame (loop_on r)) (min 8 (device_count (loop_on r)))

  places : min (length (devices_of m)) 8 ≡ min 8 (device_count (loop_on r))
  places = let count = ready_count view was r m ready in let all = count_on r in omega (arith, count, all)

  pub poll_kept : (whole : Bool) → CameAsked view whole (poll_asks (length (devices_of m)) (polled_along 1 (devices_of m) idy)) m s → Keeps view whole poll_course m s
  poll_kept whole came =
      let f = polled_along 1 (devices_of m) idy in
      let n = min (length (devices_of m)) 8 in
      subst (λ f. Keeps view whole (poll_due f (min 8 (device_count (loop_on r)))) m s) (ready_frame view was r m ready)
      (subst (λ n. Keeps view whole (poll_due f n) m s) places (keeps_asked view whole (poll_asks (length (devices_of m)) f) (poll_due f n) m s came (meets_poll (loop_of m) f n)))

-- the accessory IDs of all, and then these bytes for the printer
abbrev pub say_due : {M : Type 0} → RingView M → List ℕ → Option ℕ → List Due
say_due r bytes printer = ids_due 1 (all_ids (loop_on r)) ++ bytes_due printer bytes

module _ {M : Type 0} (view : M → MediumView) (was : Bool) (r m : RingView M) (ready : Readies view was r m) (drive : r.drive.state.interface.accessory ≡ Some drive_id) (bytes : List ℕ) where
  -- no printer is on the loop
  pub refused_kept : (s : RingView M) → LeftAlone view true (up_to (id_asks (devices_of m)) (length (devices_of m))) m s → Keeps view true (say_due r bytes None) m s
  refused_kept s left = subst (λ dues. Keeps view true dues m s) (sym (append-nil (ids_due 1 (all_ids (loop_on r))))) (ids_kept view was r m s ready true drive left)

  -- a device was asked for its ID, and that was broken off
  pub unnamed_kept : (s : RingView M) → LeftAlone view false (up_to (id_asks (devices_of m)) (length (devices_of m))) m s → Keeps view false (say_due r bytes (printer_at (loop_on r))) m s
  unnamed_kept s left = keeps_broken view (ids_due 1 (all_ids (loop_on r))) (bytes_due (printer_at (loop_on r)) bytes) m s (ids_kept view was r m s ready false drive left)

  -- the bytes went to the printer, all or the first ones
  pub said_kept : (n s : RingView M) (a : ℕ) (whole : Bool) → LeftAlone view true (up_to (id_asks (devices_of m)) (length (devices_of m))) m n → CameAsked view whole (say_asks a bytes) n s → Keeps view whole (say_due r bytes (Some a)) m s
  said_kept n s a whole left came =
      keeps_then view whole (ids_due 1 (all_ids (loop_on r))) (bytes_due (Some a) bytes) m n s (ready_free view was r m ready) (ids_kept view was r m n ready true drive left)
      (keeps_asked view whole (say_asks a bytes) (bytes_due (Some a) bytes) n s came (meets_say (loop_of n) a bytes))
