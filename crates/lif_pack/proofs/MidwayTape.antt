-- What a stop between two commits of a move leaves is finished to a tape on which the whole file was moved.
use Rattle.std.proofs.Common.{◌≡◌, ◌≢◌, ◌<◌, ◌≤◌, ◌+◌, ◌-◌, ◌∙◌, ℕ, suc, List, [], ◌∷◌, true, Some, length, get_or, set, take, inl, inr, refl, sym, ap, subst, arith}
use Rattle.std.proofs.lemmas.Bool.{cases_lt}
use Rattle.std.proofs.lemmas.List.{take-set-le}
use Rattle.std.proofs.Common.{get_or-set_other}
use Rattle.lif_model.specs.Tape.{Tape, IsTape, record_at}
use Rattle.lif_model.specs.Header.{directory_start, directory_end}
use Rattle.lif_model.specs.Directory.{start_of, length_of, slots_of}
use Rattle.lif_model.specs.Redo.{IsSettled}
use Rattle.lif_model.specs.Volume.{Volume, files_of, volume_in, volume_of}
use Rattle.lif_model.specs.Fit.{redo_place}
use Rattle.lif_model.specs.Apply.{is_upgraded}
use Rattle.lif_pack.proofs.Slotting.{MayStand}
use Rattle.lif_model.specs.Writing.{with_slots}
use Rattle.lif_model.proofs.Volume.{slots_agree}
use Rattle.lif_model.proofs.Slotted.{IsOn, is_on, header_stays, slot_set}
use Rattle.lif_model.proofs.Written.{volume_by_parts}
use Rattle.lif_model.specs.Packing.{unmarked, live_records, finished_volume_of, redo_slot, bears_mark, move_of}
use Rattle.lif_pack.specs.declared.marks.Move.{Move}
use Rattle.lif_pack.specs.Marks.{IsMoveAt}
use Rattle.lif_pack.specs.Moving.{with_mark, MayMove, IsMidway, HasMoved}
use Rattle.lif_model.specs.Finished.{IsFinished}
use Rattle.lif_pack.proofs.Order.{CanMove, above_directory}
use Rattle.lif_pack.proofs.Finishing.{redo_here}
use Rattle.lif_pack.proofs.FinishedTape.{redo_stands, moved_is_finished}
use Rattle.lif_pack.proofs.LastPart.{written_over}
use Rattle.lif_pack.proofs.Midway.{same_place, remarked_may_stand, remarked_is_volume, remarked_moves}

-- The tape f is one on which the whole file was moved.
module _ (n : ℕ) (t : Tape) (v : Volume) (is : IsTape n t) (some : volume_of t ≡ Some v) (quiet : IsSettled t) (up : is_upgraded n v ≡ true)
    (i j0 j : ℕ) (can : CanMove v i j0) (move : Move) (at_file : IsMoveAt v i j0 move)
    (f : Tape) (quiet_f : IsSettled f) (there : HasMoved (directory_start v.header) move.place (redo_place v.slots) move t f) where
  abbrev start : ℕ
  start = directory_start v.header

  abbrev r : ℕ
  r = redo_place v.slots

  abbrev part : Move
  part = record move { moved = j }

  module _ (x : Tape) (tape_x : IsTape n x) (quiet_x : IsSettled x) (may : MayMove n start move.place r move) (was : IsMidway start move.place r move j t x)
      (more : j0 ≤ j) (some_moved : 0 < j) (less : j < move.length) where
    abbrev on : IsOn n t v
    on = is_on n t v is (ap volume_in (sym quiet) ∙ some)

    within : r < length v.slots
    within = redo_here n v on.volume up

    low : directory_end v.header ≤ move.place
    low = omega (arith, above_directory n v i j0 on.volume within can, at_file.place)

    rest : take 28 was.entry ≡ take 28 (redo_slot v)
    rest = was.rest ∙ ap (take 28) (redo_stands n t v is some quiet up)

    abbrev later : List (List ℕ)
    later = set v.slots r was.entry

    abbrev w : Volume
    w = record { header = v.header; slots = later; files = files_of x later }

    abbrev z : Tape
    z = with_slots start ((r, was.entry) ∷ []) t

    stand : MayStand n v r was.entry
    stand = remarked_may_stand n v on.volume up was.entry was.size rest

    header_z : record_at z 0 ≡ v.header
    header_z = header_stays n t v on ((r, was.entry) ∷ []) (omega (arith, stand.here, on.volume.room), stand.size, tt) ∙ sym on.header

    header_x : record_at x 0 ≡ v.header
    header_x = was.tape.others 0 (omega (arith, is.records, may.above, may.down, may.part, may.below, low, on.starts)) (inl on.starts) (inl (omega (arith, low, on.starts))) ∙ sym on.header

    slots_x : slots_of x ≡ later
    slots_x = slots_agree x z (header_x ∙ sym header_z) (λ k le lt.
        was.tape.directory k (omega (arith, le, ap directory_start header_z)) (omega (arith, lt, ap directory_end header_z, low)))
        ∙ slot_set n t v on r was.entry stand.here stand.size stand.kind

    volume_x : volume_of x ≡ Some w
    volume_x = ap volume_in quiet_x ∙ volume_by_parts n x v.header later (files_of x later) (sym tape_x.records)
        (remarked_is_volume n v on.volume up was.entry was.size rest).legal header_x slots_x refl

    moves : (bears_mark n w ≡ true) × (move_of w ≡ Some (i, j))
    moves = remarked_moves n v on.volume up was.entry was.size rest i j j0 can some_moved (omega (arith, less, at_file.long)) ((was.mark some_moved).0 ∙ ap suc at_file.slot) (was.mark some_moved).1

    same_redo_place : redo_place later ≡ r
    same_redo_place = same_place n v on.volume up was.entry was.size rest

    -- and so one on which the rest was moved
    rest_has_moved : HasMoved start move.place r part x f
    unfolding with_mark unmarked
    rest_has_moved = record {
      records = there.records ∙ sym was.tape.records;
      moved = λ q le lt.
          there.moved q (omega (arith, le, more, at_file.moved)) lt
          ∙ sym (was.tape.others (move.start + q) (omega (arith, lt, may.below, is.records)) (inr (omega (arith, may.down))) (inr (omega (arith, le, may.down))));
      directory = λ k le lt. there.directory k le lt ∙ sym (written_over n start move.place r move j t x is tape_x may was k le lt);
      others = λ k lt out apart. elim apart [
        | inl early ↦ elim (cases_lt k (move.place + j0)) [
          | inl first ↦ there.others k (omega (arith, lt, was.tape.records)) out (inl (omega (arith, first, at_file.moved)))
              ∙ sym (was.tape.others k (omega (arith, lt, was.tape.records)) out (inl (omega (arith, first, at_file.moved))))
          | inr next ↦
              let q : ℕ = k - move.place in
              let to : k ≡ move.place + q = omega (arith, next) in
              ap (record_at f) to ∙ there.moved q (omega (arith, next, at_file.moved)) (omega (arith, early, less))
              ∙ sym (was.tape.moved q (omega (arith, next, at_file.moved)) (omega (arith, early, next))) ∙ sym (ap (record_at x) to)
        ]
        | inr late ↦ there.others k (omega (arith, lt, was.tape.records)) out (inr late)
            ∙ sym (was.tape.others k (omega (arith, lt, was.tape.records)) out (inr (omega (arith, late, less))))
      ];
    }

    at_part : IsMoveAt w i j part
    at_part =
        let off : i ≢ r = λ e. absurd (omega (arith, e, can.before_redo)) in
        let slot : get_or later i [] ≡ get_or v.slots i [] = get_or-set_other v.slots r i was.entry [] off in
        let front : take i later ≡ take i v.slots = take-set-le i v.slots r was.entry (omega (arith, can.before_redo)) in
        record {
          slot = at_file.slot;
          moved = refl;
          place = at_file.place ∙ sym (ap (λ (xs : List (List ℕ)). directory_end v.header + live_records xs) front);
          start = at_file.start ∙ sym (ap start_of slot);
          long = at_file.long ∙ sym (ap length_of slot);
        }

    midway_is_finished : IsFinished x f
    midway_is_finished = moved_is_finished n x w tape_x volume_x quiet_x moves.0 i j moves.1 part at_part f quiet_f
        (subst (λ (q : ℕ). HasMoved start move.place q part x f) (sym same_redo_place) rest_has_moved)

    -- its volume has a mark
    pub midway_marked : (q : Volume) × (volume_of x ≡ Some q) × (bears_mark n q ≡ true)
    midway_marked = (w, volume_x, moves.0)

    -- it is shown as the volume that the file is moved in
    pub midway_shows : finished_volume_of x ≡ volume_of f
    midway_shows = sym midway_is_finished.volume
