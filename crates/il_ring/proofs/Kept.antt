-- What every device keeps in any round.
use Rattle.std.proofs.Common.{◌≡◌, ◌+◌, ℕ, Bool, true, false, List, [], ◌∷◌, Option, Some, None, refl, ap, ◌∙◌}
use Rattle.il_frames.specs.declared.frame.Frame.{Frame}
use Rattle.il_frames.specs.declared.message.Message.{Message}
use Rattle.il_frames.specs.declared.message.Message.TheVariants as msg
use Rattle.il_frames.specs.Frames.{byte_of}
use Rattle.il_frames.specs.Messages.{message_of}
use Rattle.il_device.specs.declared.device.Out.{Out}
use Rattle.il_device.specs.declared.interface.OwnFrame.{OwnFrame}
use Rattle.il_device.specs.declared.interface.Turn.{Turn}
use Rattle.il_device.specs.declared.interface.Turn.TheVariants as turn
use Rattle.il_device.specs.State.{DeviceState}
use Rattle.il_device.specs.Takes.{Takes, turn_of, turn_at, turn_at_data, turn_at_start, asked_for_id, heard_after, count_after}
use Rattle.il_ring.specs.declared.plan.Planned.{Planned}
use Rattle.il_ring.specs.Journeys.{Trip, Passage, Journey}
use Rattle.il_ring.specs.Outcomes.{Keeps, AllKeep}
use Rattle.il_ring.proofs.Journeys.{past_party}

-- ---- only a listener hears

abbrev is_hear : Turn → Bool
is_hear turn.Hear = true
is_hear turn.Pass = false
is_hear turn.Begin = false
is_hear (turn.Identify id) = false
is_hear (turn.Compare own) = false

data_unheard : (own : Option OwnFrame) (listens : Bool) → listens ≡ false → is_hear (turn_at_data own listens) ≡ false
data_unheard (Some own) listens e = refl
data_unheard None true e = cc
data_unheard None false e = refl

start_unheard : (own : Option OwnFrame) (talks : Bool) (asked : Turn) → is_hear asked ≡ false → is_hear (turn_at_start own talks asked) ≡ false
start_unheard (Some own) talks asked e = refl
start_unheard None true asked e = e
start_unheard None false asked e = refl

id_unheard : (id : Option ℕ) → is_hear (asked_for_id id) ≡ false
id_unheard None = refl
id_unheard (Some id) = refl

unheard_at : (d : DeviceState) (m : Message) → d.roles.listens ≡ false → is_hear (turn_at d.roles d.own d.accessory m) ≡ false
unheard_at d (msg.Dab b) e = data_unheard d.own d.roles.listens e
unheard_at d (msg.Dsr b) e = data_unheard d.own d.roles.listens e
unheard_at d (msg.End b) e = data_unheard d.own d.roles.listens e
unheard_at d (msg.Esr b) e = data_unheard d.own d.roles.listens e
unheard_at d msg.Sda e = start_unheard d.own d.roles.talks turn.Begin refl
unheard_at d msg.Sst e = start_unheard d.own d.roles.talks turn.Begin refl
unheard_at d msg.Sdi e = start_unheard d.own d.roles.talks turn.Begin refl
unheard_at d msg.Sai e = start_unheard d.own d.roles.talks (asked_for_id d.accessory) (id_unheard d.accessory)
unheard_at d _ e = refl

same_heard : (asked : Turn) (room : ℕ) (heard : List ℕ) (byte count : ℕ) → is_hear asked ≡ false → (heard_after asked room heard byte ≡ heard) × (count_after asked count ≡ count)
same_heard turn.Hear room heard byte count e = cc
same_heard turn.Pass room heard byte count e = (refl, refl)
same_heard turn.Begin room heard byte count e = (refl, refl)
same_heard (turn.Identify id) room heard byte count e = (refl, refl)
same_heard (turn.Compare own) room heard byte count e = (refl, refl)

pub takes_keeps : (d e : DeviceState) (f : Frame) (out : Out) → Takes d f out e → Keeps d e
takes_keeps d e f out takes = record {
  accessory = takes.accessory;
  room = takes.room;
  unheard = λ silent.
      let same = same_heard (turn_of d f) d.room d.heard (byte_of f) d.heard_count (unheard_at d (message_of f) silent) in
      (takes.heard ∙ same.0, takes.heard_count ∙ same.1);
}

pub stays_keeps : (d e : DeviceState) → e ≡ d → Keeps d e
stays_keeps d e is = record {
  accessory = ap (λ (d : DeviceState). d.accessory) is;
  room = ap (λ (d : DeviceState). d.room) is;
  unheard = λ silent. (ap (λ (d : DeviceState). d.heard) is, ap (λ (d : DeviceState). d.heard_count) is);
}

passage_keeps : (plan : List Planned) (k : ℕ) (t : Trip) (d e : DeviceState) (u : Trip) → Passage Takes plan k t d u e → Keeps d e
passage_keeps plan k t d e u passage = past_party Takes plan k t d (λ u e. Keeps d e) (λ is. stays_keeps d d refl) (λ f is gone. stays_keeps d d refl) (λ f g out e is came takes. takes_keeps d e g.now out takes) u e passage

-- each device of a journey keeps its accessory ID and its room, and hears nothing if it does not listen
pub journey_keeps : (plan : List Planned) (k : ℕ) (t u : Trip) (ds es : List DeviceState) → Journey plan k t ds u es → AllKeep ds es
journey_keeps plan k t u [] [] journey = tt
journey_keeps plan k t u (d ∷ ds) (e ∷ es) journey = (passage_keeps plan k t d e journey.0 journey.1, journey_keeps plan (k + 1) journey.0 u ds es journey.2)
journey_keeps plan k t u [] (e ∷ es) journey = absurd journey
journey_keeps plan k t u (d ∷ ds) [] journey = absurd journey
