-- What is said of the devices of a ring, in the words of what the ring stands for.
use Rattle.std.proofs.Common.{◌≡◌, ◌≤◌, ◌+◌, ◌++◌, ◌∙◌, ℕ, suc, Bool, true, List, [], ◌∷◌, length, map, Option, Some, None, refl, sym, ap, subst, arith, length-append}
use Rattle.il_frames.specs.declared.entry.Entry.{Entry}
use Rattle.il_frames.specs.declared.frame.Class.TheVariants as class
use Rattle.il_frames.specs.declared.frame.Frame.{Frame}
use Rattle.il_frames.specs.Frames.{framed}
use Rattle.il_device.specs.Passing.{identified}
use Rattle.il_device.specs.State.{DeviceState, risen_by}
use Rattle.il_ports.specs.Media.{MediumView}
use Rattle.il_drive.specs.State.{drive_id, device_of}
use Rattle.loop_model.specs.Devices.{EachBecomes}
use Rattle.loop_model.specs.Loops.{host_loop}
use Rattle.loop_model.specs.Polls.{poll_place, polled_along}
use Rattle.loop_model.specs.Reach.{links, passes, held_at_end}
use Rattle.loop_model.specs.Exchanges.{Reading}
use Rattle.loop_model.specs.Leading.{OneTalkerLed, are_commands_led, has_no_lend, roles_led}
use Rattle.loop_model.specs.Roles.{OneTalker}
use Rattle.loop_model.proofs.Commanded.{commands-reading}
use Rattle.loop_model.proofs.LeadingLaws.{OneTalkerLed-no_lend, has_no_lend-reading, roles_led-no_lend}
use Rattle.loop_model.proofs.DeviceLaws.{each_weaker}
use Rattle.il_ring.specs.Adds.{Adds}
use Rattle.il_ring.specs.Rings.{RingView, devices_of, roles_of, drive_party}
use Rattle.il_ring.specs.Rounded.{AllTook, Took}
use Rattle.il_script.specs.declared.reply.Reply.{Reply}
use Rattle.host_model.specs.Requests.{Item}
use Rattle.host_model.specs.LoopStates.{LoopState, all_roles, all_ids, device_count, drive_at, poll_frame, ring_of}
use Rattle.host_model.specs.HostStates.{log_room}
use Rattle.host_model.specs.RingStates.{loop_on, state_on}
use Rattle.host_model.specs.Next.{BoxedBecome}
use Rattle.host_model.specs.Steps.{Travels, TookFrames}

-- ---- all devices

-- a list of all devices, told one by one
all_told : {X : Type 0} (tell : DeviceState → X) (before : List DeviceState) (drive : DeviceState) (after : List DeviceState)
    → map tell (before ++ drive ∷ after) ≡ map tell before ++ tell drive ∷ map tell after
all_told tell [] drive after = refl
all_told tell (d ∷ before) drive after = ap (λ ds. tell d ∷ ds) (all_told tell before drive after)

pub roles_on : {M : Type 0} (r : RingView M) → all_roles (loop_on r) ≡ roles_of (devices_of r)
roles_on r = sym (all_told (λ d. d.roles) r.before (device_of r.drive.state) r.after)

pub ids_on : {M : Type 0} (r : RingView M) → r.drive.state.interface.accessory ≡ Some drive_id → all_ids (loop_on r) ≡ map (λ d. d.accessory) (devices_of r)
ids_on r is =
    ap (λ id. map (λ d. d.accessory) r.before ++ id ∷ map (λ d. d.accessory) r.after) (sym is)
    ∙ sym (all_told (λ d. d.accessory) r.before (device_of r.drive.state) r.after)

pub count_on : {M : Type 0} (r : RingView M) → device_count (loop_on r) ≡ length (devices_of r)
count_on r = sym (length-append r.before (device_of r.drive.state ∷ r.after))

pub ring_on : {M : Type 0} (r : RingView M) → ring_of (loop_on r) ≡ host_loop (length (devices_of r)) (drive_party r)
ring_on r = ap (λ k. host_loop k (drive_party r)) (count_on r)

-- ---- the parallel poll

-- after all devices the frame is that after the first ones and then the others
polled_parts : (k : ℕ) (xs ys : List DeviceState) (f : Frame) → polled_along k (xs ++ ys) f ≡ polled_along (k + length xs) ys (polled_along k xs f)
polled_parts k [] ys f = let same : k ≡ k + 0 = omega arith in ap (λ j. polled_along j ys f) same
polled_parts k (x ∷ xs) ys f =
    let g = identified (poll_place k) x.wants f in
    let same : k + 1 + length xs ≡ k + suc (length xs) = omega arith in
    polled_parts (k + 1) xs ys g ∙ ap (λ j. polled_along j ys (polled_along (k + 1) xs g)) same

pub poll_on : {M : Type 0} (r : RingView M) → polled_along 1 (devices_of r) (framed class.Idy 0x00) ≡ poll_frame (loop_on r)
poll_on r =
    let behind = device_of r.drive.state ∷ r.after in
    let place : 1 + length r.before ≡ drive_at (loop_on r) = omega arith in
    polled_parts 1 r.before behind (framed class.Idy 0x00) ∙ ap (λ j. polled_along j behind (polled_along 1 r.before (framed class.Idy 0x00))) place

-- ---- the devices beside the drive

-- of a list of devices, the first ones and the others
each_parts : (R : ℕ → DeviceState → DeviceState → Type 0) (party : ℕ) (xs zs ys ws : List DeviceState) → length zs ≡ length xs
    → EachBecomes R party (xs ++ ys) (zs ++ ws) → EachBecomes R party xs zs × EachBecomes R (party + length xs) ys ws
each_parts R party [] [] ys ws same h = let e : party ≡ party + 0 = omega arith in (tt, subst (λ p. EachBecomes R p ys ws) e h)
each_parts R party (x ∷ xs) (z ∷ zs) ys ws same h =
    let fewer : length zs ≡ length xs = omega (arith, same) in
    let rest = each_parts R (party + 1) xs zs ys ws fewer h.1 in
    let e : party + 1 + length xs ≡ party + suc (length xs) = omega arith in
    ((h.0, rest.0), subst (λ p. EachBecomes R p ys ws) e rest.1)
each_parts R party [] (z ∷ zs) ys ws same h = absurd (omega (arith, same))
each_parts R party (x ∷ xs) [] ys ws same h = absurd (omega (arith, same))

-- what holds of each device of a ring holds of those beside the drive
pub beside_drive : (R : ℕ → DeviceState → DeviceState → Type 0) (z y : LoopState) (d e : DeviceState) → length y.before ≡ length z.before
    → EachBecomes R 1 (z.before ++ d ∷ z.after) (y.before ++ e ∷ y.after) → BoxedBecome R z y
beside_drive R z y d e same h =
    let parts = each_parts R 1 z.before y.before (d ∷ z.after) (e ∷ y.after) same h in
    let place : 1 + length z.before + 1 ≡ length z.before + 2 = omega arith in
    record { before = parts.0; after = subst (λ p. EachBecomes R p z.after y.after) place parts.1.1 }

-- ---- frames

took_each : (k : ℕ) (sending : Option ℕ) (entries : List Entry) (held : Option ℕ) (j : ℕ) (ds es : List DeviceState) → AllTook k sending entries held j ds es
    → EachBecomes (λ q d e. Took k sending entries held q d e) (j + 1) ds es
took_each k sending entries held j [] [] h = tt
took_each k sending entries held j (d ∷ ds) (e ∷ es) h = (h.0, took_each k sending entries held (j + 1) ds es h.1)
took_each k sending entries held j [] (e ∷ es) h = absurd h
took_each k sending entries held j (d ∷ ds) [] h = absurd h

took_frames : (k : ℕ) (log : List Entry) (party : ℕ) (d e : DeviceState) → Took k None log (held_at_end None log) party d e → TookFrames k log party d e
took_frames k log party d e h =
    let count : h.0 ≡ passes k party log = let same = h.2 in omega (arith, same) in
    h.1 ∙ ap (λ c. risen_by c d.frames) count

-- ---- what the frames of a log did

-- a log of exchanges of the host, whole or broken off
pub record HostLed (devices : List DeviceState) (log : List Entry) : Type 0 where
  pub one : OneTalker (roles_of devices) log
  pub none : has_no_lend log ≡ true
  pub commands : are_commands_led 0 log ≡ true

pub host_led : (devices : List DeviceState) (k q : ℕ) (log : List Entry) → Reading (host_loop k q) log → OneTalker (roles_of devices) log → HostLed devices log
host_led devices k q log reading one = record { one = one; none = has_no_lend-reading (host_loop k q) log reading; commands = commands-reading k q log reading }

-- by what the ring tells of rounds after each other, which began and ended without a held frame
pub travels_on : {M : Type 0} (view : M → MediumView) (item : Item) (reply : Reply) (was is sound sound_now : Bool) (log : List Entry) (r s : RingView M)
    → Adds view r None log (held_at_end None log) s → HostLed (devices_of r) log → length log ≤ log_room (view r.drive.medium).record_count
    → Travels (record { item = item; reply = reply; log = log; before = state_on view was sound r; after = state_on view is sound_now s })
travels_on view item reply was is sound sound_now log r s adds one short =
    let k = length (devices_of r) in
    let crossed : adds.links ≡ links k log = let same = adds.linked in omega (arith, same) in
    let frames = each_weaker (λ q d e. Took k None log (held_at_end None log) q d e) (TookFrames k log) (took_frames k log) 1 (devices_of r) (devices_of s)
    (took_each k None log (held_at_end None log) 0 (devices_of r) (devices_of s) adds.frames) in
    let beside = beside_drive (TookFrames k log) (loop_on r) (loop_on s) (device_of r.drive.state) (device_of s.drive.state) adds.before frames in
    record {
      one_talker = subst (λ rs. OneTalkerLed 0 rs log) (sym (roles_on r)) ((OneTalkerLed-no_lend (roles_of (devices_of r)) log one.none).1 one.one);
      commands = one.commands;
      roles = roles_on s ∙ adds.roles ∙ sym (roles_led-no_lend (roles_of (devices_of r)) log one.none) ∙ ap (λ rs. roles_led 0 rs log) (sym (roles_on r));
      crossings = adds.crossings ∙ ap (λ c. risen_by c r.books.crossings) (crossed ∙ ap (λ j. links j log) (sym (count_on r)));
      frames = subst (λ j. BoxedBecome (TookFrames j log) (loop_on r) (loop_on s)) (sym (count_on r)) beside;
      guest = adds.guest.0;
      short = short;
    }
