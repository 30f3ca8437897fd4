-- A worked example, computed by the checker: a file of one record is fetched, by one transfer over the loop.
use Rattle.std.proofs.Common.{◌≡◌, ℕ, List, [], ◌∷◌, Option, Some, None, refl, sym, ◌∙◌, ap, subst, arith, map, replicate, take, false, true}
use Rattle.std.specs.Prelude.{unwrap_or}
use Rattle.lif_model.specs.Tape.{Tape}
use Rattle.lif_model.specs.Shelf.{piece}
use Rattle.lif_model.specs.Redo.{settled, zeros, targets_record, is_valid}
use Rattle.lif_model.specs.Commit.{SettlesAs}
use Rattle.lif_model.proofs.Commit.{settles_self}
use Rattle.lif_model.specs.Volume.{Volume, volume_of}
use Rattle.lif_model.specs.Changing.{IsWrittenOn}
use Rattle.lif_model.specs.Finished.{IsPlain, IsFinished}
use Rattle.loop_model.specs.Effect.{transfer_of}
use Rattle.lif_model.specs.Numbers.{two_at, four_at}
use Rattle.lif_model.specs.Gate.{is_open}
use Rattle.lif_model.specs.Directory.{name_of, entry_at, entries_of}
use Rattle.lif_model.specs.Apply as volume
use Rattle.lif_model.proofs.VolumeExamples.{file, a_name}
use Rattle.loop_model.specs.Loops.{host_loop}
use Rattle.loop_model.specs.Units.{RecordUnit, units_of}
use Rattle.il_drive.specs.Resting.{sdc}
use Rattle.il_frames.specs.NamedFrames.{ifc, aau, unl, lad}
use Rattle.loop_model.specs.Exchanges.{Echo, Command, Address, Send, Receive, Sda, Sst, Stopped, Piece, Whole}
use Rattle.il_script.specs.declared.reply.Reply.TheVariants as reply
use Rattle.host_model.specs.Requests.{OfVolume, Asks}
use Rattle.host_model.specs.HostStates.{HostState}
use Rattle.host_model.specs.Steps.{Acts, Event, IsFetchedFrom, LeavesOnTape, Travels, IsStep, Exchanged}
use Rattle.host_model.proofs.Steps.{alike_staying, unfaulted}
use Rattle.host_model.proofs.Small.{printer, a_host, a_tape, false_is_not_true}
use Rattle.host_model.proofs.TextExamples.{a_bytes, a_found}
use Rattle.host_model.proofs.StepExamples.{log_of, addressed}
use Rattle.host_model.proofs.LoopExamples.{byte}

abbrev echoes : List ℕ → List Echo
echoes bytes = map byte bytes

-- the loop is addressed, the drive is cleared, record 4 is sought, its bytes come and then the status 00
abbrev pub fetch_pieces : List Piece
fetch_pieces = Whole (Command ifc) ∷ Whole (Command aau) ∷ Whole (Address 2) ∷ Whole (Command unl) ∷ Whole (Command (lad 1)) ∷ Whole (Command sdc)
    ∷ Whole (Send 1 (Some 4) (echoes (0 ∷ 4 ∷ []))) ∷ Whole (Receive 1 (Some 2) Sda (Stopped 1 (echoes (take 255 a_bytes)) (byte 0))) ∷ Whole (Receive 1 None Sst (Stopped 1 [] (byte 0))) ∷ []

abbrev pub fetched_host : HostState
fetched_host = record a_host {
  crossings = 882;
  ready = true;
  sound = true;
  kept = true;
  loop = record { before = []; status = 0; drive = addressed 1; after = record printer { roles = addressed 2; frames = 294 } ∷ []; guest = None };
}

abbrev pub fetch_event : Event
fetch_event = record { item = Asks (OfVolume (volume.Fetch a_name)); reply = reply.Ok; log = log_of fetch_pieces; before = a_host; after = fetched_host }

fetch_travels : Travels fetch_event
fetch_travels = record { one_talker = refl; commands = refl; roles = refl; crossings = refl; frames = record { before = tt; after = (refl, tt) }; guest = refl; short = omega arith }

-- what is carried, by the bytes that the file map tells
abbrev pub Carried : Option (List ℕ) → Type 0
Carried found = IsFetchedFrom (Some (file a_name 4 1)) found (units_of (host_loop 2 1) fetch_pieces)

fetch_exchanged : Exchanged [] fetch_event
unfolding two_at four_at name_of is_open entry_at entries_of
fetch_exchanged = record {
  reading = record { pieces = fetch_pieces; legal = refl; entries = refl };
  ends = refl;
  course = refl;
  begins = λ h. refl;
  outside = refl;
  cause = (refl, refl, refl);
  effect = (a_tape, refl, refl);
  carried = subst Carried (sym a_found) (refl, refl);
}

fetch_acts : Acts [] fetch_event
unfolding two_at four_at name_of is_open entry_at entries_of
fetch_acts = record {
  replied = record { may = tt; whole = λ h. (refl, refl); stays = λ h. refl; told = refl; size = refl; gate = λ g. g; foreign = alike_staying (Some a_tape) };
  next = record {
    devices = record {
      before = tt;
      after = (record { accessory = refl; hears = record { heard = refl; heard_count = refl; room = refl; accessory = refl }; service = λ h. refl }, tt);
    };
    status = refl;
  };
  travels = fetch_travels;
  heard = λ h. record { before = tt; after = (record { more = []; few = omega arith; none = λ h. refl; heard = record { heard = refl; heard_count = refl; room = refl; accessory = refl } }, tt) };
  exchanged = λ h. fetch_exchanged;
  lent = λ frames is. cc;
  by_plan = unfaulted [] 0 882 (log_of fetch_pieces) refl;
  ready = λ h. refl;
  controls = λ h. refl;
  clears = λ h g. refl;
  sound = λ h. refl;
  unsound = λ h. absurd (false_is_not_true (sym h));
  still = λ h. absurd (false_is_not_true (sym h));
}

same_tape : (x t : Tape) → Some x ≡ Some t → x ≡ t
same_tape x t is = ap (λ o. unwrap_or o x) is

-- the tape is settled, and no packing of it was stopped
finished_here : IsFinished a_tape a_tape
unfolding two_at four_at name_of is_open entry_at entries_of is_valid targets_record piece zeros
finished_here = record { is_settled = refl; records = refl; plain = λ off. refl; below = λ k lt. refl; volume = refl; clear = refl }

plain_here : IsPlain 12 a_tape
unfolding two_at four_at name_of is_open entry_at entries_of is_valid targets_record piece zeros
plain_here = record { is_settled = refl; clear = refl }

fetch_tape : LeavesOnTape fetch_event
fetch_tape = record {
  plain = λ of ok t u before after. subst (IsPlain 12) (same_tape a_tape u after) plain_here;
  same = λ on t u before after. subst (λ (x : Tape). IsFinished x u) (same_tape a_tape t before) (subst (IsFinished a_tape) (same_tape a_tape u after) finished_here);
  writes = λ on t before off. record {
    list = map transfer_of (units_of (host_loop 2 1) fetch_pieces);
    transferred = record { reading = record { pieces = fetch_pieces; legal = refl; entries = refl }; outside = refl; good = refl; are = refl };
    only = (λ h. absurd (false_is_not_true h), tt);
  };
  commits = λ ok changes. absurd (false_is_not_true (sym changes));
  reads = λ on t u before after off. subst (SettlesAs (settled t)) (same_tape t u (sym before ∙ after)) (settles_self t);
  written = λ t u before after. (
    a_tape,
    subst (λ (x : Tape). IsFinished x a_tape) (same_tape a_tape t before) finished_here,
    written_none (volume_of a_tape) u (sym (same_tape a_tape u after)),
  );
  again = λ is. cc;
}
  where
    written_none : (v : Option Volume) (u : Tape) → u ≡ a_tape → IsWrittenOn 12 (volume.Fetch a_name) v a_tape u
    written_none None u is = is
    written_none (Some v) u is = is

fetch_step : IsStep [] fetch_event
fetch_step = record { acts = fetch_acts; directory = record { kept = refl; log = λ on. absurd (false_is_not_true on) }; tape = fetch_tape }

-- with bytes of another record it carries nothing of the file
carried_of_another : IsFetchedFrom (Some (file a_name 5 1)) (Some a_bytes) (units_of (host_loop 2 1) fetch_pieces) → ⊥
unfolding two_at four_at
carried_of_another h = false_is_not_true h.0

-- and two records by one unit alone
abbrev got : ℕ → List ℕ → RecordUnit
got first bytes = record { writes = false; first = first; bytes = bytes; status = Some 0 }

carried_in_at_once : IsFetchedFrom (Some (file a_name 4 2)) (Some (replicate 512 7)) (got 4 (replicate 512 7) ∷ [])
unfolding two_at four_at
carried_in_at_once = (refl, refl)

carried_in_by_parts : IsFetchedFrom (Some (file a_name 4 2)) (Some (replicate 512 7)) (got 4 (replicate 256 7) ∷ got 5 (replicate 256 7) ∷ []) → ⊥
unfolding two_at four_at
carried_in_by_parts h = false_is_not_true h.1
