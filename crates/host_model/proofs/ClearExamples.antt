-- Worked examples of commands of the volume after a fault, computed by the checker: the drive is to be cleared first.
use Rattle.std.proofs.Common.{◌≡◌, ◌∙◌, ◌++◌, suc, zero, Bool, List, [], ◌∷◌, Some, true, false, refl, sym, ap, subst, inl, arith}
use Rattle.std.specs.Prelude.{unwrap_or}
use Rattle.lif_model.specs.Tape.{Tape}
use Rattle.lif_model.specs.Redo.{settled}
use Rattle.lif_model.specs.Commit.{SettlesAs}
use Rattle.lif_model.proofs.Commit.{settles_self}
use Rattle.lif_model.specs.Apply as volume
use Rattle.lif_model.proofs.VolumeExamples.{a_name}
use Rattle.il_frames.specs.declared.frame.Frame.{Frame}
use Rattle.il_drive.specs.Resting.{sdc}
use Rattle.il_frames.specs.NamedFrames.{ifc, aau, unl, lad}
use Rattle.loop_model.specs.Exchanges.{Command, Address, Send, Receive, Identify, FrameLost, HostAltered, TalkerAltered, Piece, Whole, Cut}
use Rattle.il_script.specs.declared.reply.Code.TheVariants as code
use Rattle.il_script.specs.declared.reply.Reply.TheVariants as reply
use Rattle.host_model.proofs.Tapes.{tape_faulted}
use Rattle.host_model.specs.Requests.{OfVolume, Item, Asks}
use Rattle.host_model.specs.HostStates.{HostState}
use Rattle.host_model.specs.Courses.{Due, begins_with, cleared_first, is_commanding}
use Rattle.host_model.specs.Steps.{Acts, IsStep}
use Rattle.host_model.proofs.Steps.{alike_staying}
use Rattle.host_model.proofs.Small.{a_host, empty_host, false_is_not_true}
use Rattle.host_model.proofs.StepExamples.{log_of, asking, lost_event, lost_host, hop_is_none, sixth, sixth_lost}

-- ---- exchanges that begin with clearing

-- of a command of the volume, where the loop is ready or not, and the store sound or not
abbrev pub begins : (ready sound : Bool) → List Piece → Bool
begins ready sound pieces = begins_with (cleared_first a_host.loop ready sound) pieces

abbrev pub addressing : List Piece
addressing = Whole (Command ifc) ∷ Whole (Command aau) ∷ Whole (Address 2) ∷ []

abbrev pub clearing : List Piece
clearing = Whole (Command unl) ∷ Whole (Command (lad 1)) ∷ Whole (Command sdc) ∷ []

-- After a fault of the medium the loop is ready, and the drive is cleared; after a fault of the frames it is addressed before that.
-- What comes after is free.
clears_first : (begins true false (clearing ++ Whole asking ∷ []) ≡ true) × (begins false false (addressing ++ clearing ++ Whole asking ∷ []) ≡ true)
    × (begins true false clearing ≡ true) × (begins true true (Whole asking ∷ []) ≡ true) × (begins false true [] ≡ true)
clears_first = (refl, refl, refl, refl, refl)

-- no clearing, one that comes late, one without addresses, one of another device, and one that is not whole
clears_not : (begins true false (Whole asking ∷ []) ≡ false) × (begins true false (Whole asking ∷ clearing) ≡ false)
    × (begins false false (clearing ++ Whole asking ∷ []) ≡ false) × (begins true false (Whole (Command unl) ∷ Whole (Command (lad 2)) ∷ Whole (Command sdc) ∷ []) ≡ false)
    × (begins true false (Whole (Command unl) ∷ Whole (Command (lad 1)) ∷ []) ≡ false) × (begins true false [] ≡ false)
clears_not = (refl, refl, refl, refl, refl, refl)

-- a broken exchange of it ends all
clears_broken : (begins true false (Whole (Command unl) ∷ Cut (Command (lad 1)) 1 (FrameLost 0) ∷ []) ≡ true)
    × (begins true false (Cut (Command unl) 1 (FrameLost 0) ∷ Whole (Command (lad 1)) ∷ []) ≡ false)
    × (begins true false (Whole (Command unl) ∷ Cut (Command (lad 2)) 1 (FrameLost 0) ∷ []) ≡ false)
clears_broken = (refl, refl, refl)

-- ---- as steps

abbrev pub asks_fetch : Item
asks_fetch = Asks (OfVolume (volume.Fetch a_name))

-- a fetch of which the addressing is broken off
lost_fetch_acts : Acts sixth (record lost_event { item = asks_fetch })
lost_fetch_acts = record {
  replied = record { may = refl; whole = λ h g. inl refl; stays = λ h. absurd (false_is_not_true (sym h)); told = refl; size = refl; gate = λ g. g; foreign = alike_staying empty_host.tape };
  next = record {
    devices = record {
      before = tt;
      after = (record { accessory = refl; hears = record { heard = refl; heard_count = refl; room = refl; accessory = refl }; service = λ h. refl }, tt);
    };
    status = omega arith;
  };
  travels = record { one_talker = refl; commands = refl; roles = refl; crossings = refl; frames = record { before = tt; after = (refl, tt) }; guest = refl; short = omega arith };
  heard = λ h. record { before = tt; after = (record { more = []; few = omega arith; none = λ h. refl; heard = record { heard = refl; heard_count = refl; room = refl; accessory = refl } }, tt) };
  exchanged = λ h. record {
    reading = record { pieces = Cut (Command ifc) 1 (FrameLost 0) ∷ []; legal = refl; entries = refl };
    ends = refl;
    course = refl;
    begins = λ h. refl;
    outside = refl;
    cause = (hop_is_none, omega arith);
    effect = refl;
    carried = tt;
  };
  lent = λ frames is. cc;
  by_plan = sixth_lost;
  ready = λ h. refl;
  controls = λ h. refl;
  clears = λ h g. refl;
  sound = λ h. refl;
  unsound = λ h. absurd (false_is_not_true (sym h));
  still = λ h. absurd (false_is_not_true (sym h));
}

-- the tape is as it was
alike : (t u : Tape) → Some t ≡ Some u → SettlesAs (settled t) u
alike t u same = subst (SettlesAs (settled t)) (ap (λ o. unwrap_or o t) same) (settles_self t)

lost_fetch : IsStep sixth (record lost_event { item = asks_fetch })
lost_fetch = record { acts = lost_fetch_acts; directory = record { kept = refl; log = λ on. absurd (false_is_not_true on) }; tape = tape_faulted _ refl (λ on t u before after off. alike t u (sym before ∙ after)) }

-- and the store counted as sound after it
sound_behind_a_fault : IsStep sixth (record lost_event { item = asks_fetch; after = record lost_host { sound = true } }) → ⊥
sound_behind_a_fault s = false_is_not_true (sym (s.acts.sound refl))

-- ---- what is no step

-- exchanges that begin with a command have an entry
some_entry : (f : Frame) (dues : List Due) (pieces : List Piece) → begins_with (is_commanding f ∷ dues) pieces ≡ true → [] ≡ log_of pieces → ⊥
some_entry f dues [] h empty = false_is_not_true h
some_entry f dues (Whole (Command g) ∷ pieces) h empty = cc
some_entry f dues (Whole (Address n) ∷ pieces) h empty = false_is_not_true h
some_entry f dues (Whole (Send a number ds) ∷ pieces) h empty = false_is_not_true h
some_entry f dues (Whole (Receive a number start answer) ∷ pieces) h empty = false_is_not_true h
some_entry f dues (Whole (Identify g) ∷ pieces) h empty = false_is_not_true h
some_entry f dues (Cut x n b ∷ p ∷ pieces) h empty = false_is_not_true h
some_entry f dues (Cut (Command g) zero (FrameLost q) ∷ []) h empty = cc
some_entry f dues (Cut (Command g) zero (HostAltered d) ∷ []) h empty = cc
some_entry f dues (Cut (Command g) zero (TalkerAltered d end) ∷ []) h empty = cc
some_entry f dues (Cut (Command g) (suc n) b ∷ []) h empty = cc
some_entry f dues (Cut (Address k) n b ∷ []) h empty = false_is_not_true h
some_entry f dues (Cut (Send a number ds) n b ∷ []) h empty = false_is_not_true h
some_entry f dues (Cut (Receive a number start answer) n b ∷ []) h empty = false_is_not_true h
some_entry f dues (Cut (Identify g) n b ∷ []) h empty = false_is_not_true h

-- after a fault of the medium a command of the volume replies without a frame
abbrev pub failed_host : HostState
failed_host = record a_host { ready = true }

without_clearing : IsStep [] (record { item = asks_fetch; reply = reply.No code.NoFile; log = []; before = failed_host; after = record failed_host { sound = true } }) → ⊥
without_clearing s = some_entry unl (is_commanding (lad 1) ∷ is_commanding sdc ∷ []) (s.acts.exchanged refl).reading.pieces ((s.acts.exchanged refl).begins refl) (s.acts.exchanged refl).reading.entries
