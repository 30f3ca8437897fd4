-- What a command of the volume leaves of the loop, and what the devices heard of its log.
use Rattle.std.proofs.Common.{◌≡◌, ◌≢◌, ◌≤◌, ◌<◌, ◌+◌, ◌++◌, ◌∙◌, ℕ, Bool, List, [], ◌∷◌, length, refl, sym, ap, subst, arith}
use Rattle.lif_model.specs.Apply.{VolumeCommand}
use Rattle.il_frames.specs.declared.entry.Entry.{Entry}
use Rattle.il_device.specs.State.{DeviceState}
use Rattle.il_device.specs.declared.roles.Roles.{Roles}
use Rattle.il_drive.specs.State.{status_of}
use Rattle.loop_model.specs.Devices.{EachBecomes}
use Rattle.loop_model.specs.Listening.{HearsAll}
use Rattle.il_ring.specs.Outcomes.{HearsNothing}
use Rattle.il_ring.specs.Rings.{RingView, devices_of, drive_party, roles_of}
use Rattle.il_record.specs.Came.{OnlyHeard, OthersUnheard, heard_on}
use Rattle.il_script.specs.declared.reply.Reply.{Reply}
use Rattle.host_model.specs.Requests.{Asks, OfVolume}
use Rattle.host_model.specs.LoopStates.{LoopState, all_roles, device_count}
use Rattle.host_model.specs.RingStates.{loop_on}
use Rattle.host_model.specs.Next.{BoxedBecome, DeviceBehind, Next, StatusBehindVolume}
use Rattle.host_model.specs.Steps.{HearsLog}
use Rattle.host_model.proofs.RingStates.{count_on, roles_on}
use Rattle.il_host.proofs.Devices.{boxed_by, boxed_unheard}

-- a device that heard nothing is as it is to be after a command of the volume
heard_nothing : (command : VolumeCommand) (answer : Reply) (z : LoopState) (party : ℕ) (d e : DeviceState) → HearsNothing d e → DeviceBehind (Asks (OfVolume command)) answer z party d e
heard_nothing command answer z party d e nothing = record { accessory = nothing.accessory; hears = nothing; service = λ is. cc }

module _ {M : Type 0} (r s : RingView M) (place : length s.before ≡ length r.before) (unheard : OnlyHeard (drive_party r) r s) where
  -- no device but the drive heard anything, and the drive's status is that after the reply
  pub volume_next : (command : VolumeCommand) (answer : Reply) → StatusBehindVolume answer (status_of s.drive.state) → Next (Asks (OfVolume command)) answer (loop_on r) (loop_on s)
  volume_next command answer status = record {
    devices = boxed_unheard (DeviceBehind (Asks (OfVolume command)) answer (loop_on r)) r s place unheard (heard_nothing command answer (loop_on r));
    status = status;
  }

-- ---- what the log brought the devices

-- the same with the parties that these devices are
pub each_within : (a k : ℕ) (ds es : List DeviceState) → OthersUnheard a k ds es → EachBecomes (λ party d e. (k ≤ party) × (party < k + length ds) × (party ≢ a → HearsNothing d e)) k ds es
each_within a k [] [] h = tt
each_within a k (d ∷ ds) (e ∷ es) h = ((omega arith, omega arith, h.0), each_further (each_within a (k + 1) ds es h.1))
  where
    shifted : (j : ℕ) (xs ys : List DeviceState) → EachBecomes (λ party d e. (k + 1 ≤ party) × (party < k + 1 + length ds) × (party ≢ a → HearsNothing d e)) j xs ys
        → EachBecomes (λ party d e. (k ≤ party) × (party < k + length (d ∷ ds)) × (party ≢ a → HearsNothing d e)) j xs ys
    shifted j [] [] h = tt
    shifted j (x ∷ xs) (y ∷ ys) h = let low = h.0.0 in let high = h.0.1 in ((omega (arith, low), omega (arith, high), h.0.2), shifted (j + 1) xs ys h.1)
    shifted j _ _ h = absurd h

    each_further : EachBecomes (λ party d e. (k + 1 ≤ party) × (party < k + 1 + length ds) × (party ≢ a → HearsNothing d e)) (k + 1) ds es
        → EachBecomes (λ party d e. (k ≤ party) × (party < k + length (d ∷ ds)) × (party ≢ a → HearsNothing d e)) (k + 1) ds es
    each_further h = shifted (k + 1) ds es h
each_within a k [] (e ∷ es) h = absurd h
each_within a k (d ∷ ds) [] h = absurd h

module _ {M : Type 0} (r s : RingView M) (place : length s.before ≡ length r.before) (empty : r.books.log ≡ []) (unheard : OnlyHeard (drive_party r) r s) (whole : Bool) where
  -- a device beside the drive: the log brought it no byte, and it heard none
  hears_log : (party : ℕ) (d e : DeviceState) → 1 ≤ party → party ≤ length (devices_of r) → party ≢ drive_party r → HearsNothing d e → HearsLog (length (devices_of r)) (roles_of (devices_of r)) unheard.entries whole party d e
  hears_log party d e some here other nothing =
      let none : heard_on r party unheard.entries ++ [] ≡ [] = ap (λ bytes. bytes ++ []) (unheard.by_log party some here other) in
      record {
        more = [];
        few = omega arith;
        none = λ is. refl;
        heard = subst (λ bytes. HearsAll bytes d e) (sym none) (record { heard = nothing.heard; heard_count = nothing.heard_count; room = nothing.room; accessory = nothing.accessory });
      }

  -- what the devices heard, by the log
  pub volume_heard : BoxedBecome (HearsLog (device_count (loop_on r)) (all_roles (loop_on r)) s.books.log whole) (loop_on r) (loop_on s)
  volume_heard =
      let log : s.books.log ≡ unheard.entries = unheard.log ∙ ap (λ log. log ++ unheard.entries) empty in
      let heard = boxed_by (λ party d e. (1 ≤ party) × (party < 1 + length (devices_of r)) × (party ≢ drive_party r → HearsNothing d e))
      (HearsLog (length (devices_of r)) (roles_of (devices_of r)) unheard.entries whole) r s place
      (λ party d e other h. let high = h.1 in hears_log party d e h.0 (omega (arith, high)) other (h.2 other))
      (each_within (drive_party r) 1 (devices_of r) (devices_of s) unheard.unheard) in
      subst (λ (es : List Entry). BoxedBecome (HearsLog (device_count (loop_on r)) (all_roles (loop_on r)) es whole) (loop_on r) (loop_on s)) (sym log)
      (subst (λ (rs : List Roles). BoxedBecome (HearsLog (device_count (loop_on r)) rs unheard.entries whole) (loop_on r) (loop_on s)) (sym (roles_on r))
      (subst (λ k. BoxedBecome (HearsLog k (roles_of (devices_of r)) unheard.entries whole) (loop_on r) (loop_on s)) (sym (count_on r)) heard))
