-- How many slots a directory has at most, and what a job that did nothing leaves.
use Rattle.std.proofs.Common.{◌≡◌, ◌≤◌, ◌*◌, ◌∙◌, ℕ, Bool, true, false, List, [], Option, Some, None, inl, refl, sym, ap, arith}
use Rattle.std.specs.Prelude.{◌<◌, ◌+◌, ◌-◌, length, is_some, get_or, if◌then◌else◌}
use Rattle.std.proofs.lemmas.List.{length-map}
use Rattle.lif_model.specs.Apply.{Dir}
use Rattle.lif_model.specs.Directory.{length_of, slots_of, start_of}
use Rattle.lif_model.specs.Header.{HeaderParts}
use Rattle.lif_model.specs.Packing.{bears_mark, finished, finished_by, finished_volume_of, finished_with, finishing_slots, move_of, packed_start, records_from, with_moved}
use Rattle.lif_model.specs.Redo.{settled}
use Rattle.lif_model.specs.Tape.{Tape, record_at}
use Rattle.lif_model.specs.Volume.{Volume, volume_of}
use Rattle.lif_model.proofs.Directory.{slots_room, volume_tells}
use Rattle.lif_model.proofs.Legal.{legal_tells}
use Rattle.lif_model.proofs.Slots.{readable_tells}
use Rattle.lif_model.proofs.Recorded.{length_records}
use Rattle.lif_model.proofs.Redo.{length_settled}
use Rattle.lif_model.proofs.Writing.{length_slots}
use Rattle.lif_dir.specs.Entries.{slot_from}
use Rattle.lif_dir.specs.declared.entries.Slot.{Slot}
use Rattle.tape_volumes.specs.Volumes.{IsDirectoryAt, IsMounted, StaysBeside, StopLeaves, VolumesView, volume_seen, volume_shown}

-- ---- the slots of a directory

length_moved : (v : Volume) (move : Option (ℕ × ℕ)) (t : Tape) → length (with_moved v move t) ≡ length t
length_moved v None t = refl
length_moved v (Some move) t =
    let slot = get_or v.slots move.0 [] in
    length_records (packed_start v move.0 + move.1) (records_from t (start_of slot + move.1) (length_of slot - move.1)) t

length_finished_with : (v : Volume) (move : Option (ℕ × ℕ)) (t : Tape) → length (finished_with v move t) ≡ length t
length_finished_with v move t = length_slots _ (finishing_slots v move) (with_moved v move t) ∙ length_moved v move t

length_finished_by : (volume : Option Volume) (t : Tape) → length (finished_by volume t) ≡ length t
length_finished_by None t = refl
length_finished_by (Some v) t = go (bears_mark (length t) v)
  where
    go : (b : Bool) → length (if b then finished_with v (move_of v) t else t) ≡ length t
    go true = length_finished_with v (move_of v) t
    go false = refl

length_finished : (t : Tape) → length (finished t) ≡ length t
length_finished t = length_finished_by (volume_of t) (settled t) ∙ length_settled t

-- A volume that can be read has at most eight slots for each record of its tape.
pub few_slots : (t : Tape) (v : Volume) → finished_volume_of t ≡ Some v → length v.slots ≤ 8 * length t
few_slots t v is =
    let tells = volume_tells (finished t) v is in
    let readable = readable_tells (length (finished t)) (record_at (finished t) 0) (legal_tells (length (finished t)) (record_at (finished t) 0) (slots_of (finished t)) tells.0).readable in
    omega (arith, ap length tells.2, slots_room (finished t), readable.2, length_finished t)

-- a directory with more slots is none of a tape that contracts can see
pub unseen : (v : VolumesView) (header : HeaderParts) (slots : List Slot) → IsMounted v → IsDirectoryAt (volume_shown v.mounted.tape) header slots
    → (size : ℕ) (entries : List Slot) → size ≡ v.mounted.records → entries ≡ slots → 8 * size < length entries → v.mounted.tape ≡ None
unseen v header slots law is size entries sizes tables many = go v.mounted.tape refl
  where
    go : (tape : Option Tape) → v.mounted.tape ≡ tape → tape ≡ None
    go None here = refl
    go (Some t) here =
        let found = is (finished_volume_of t) (ap volume_shown here) in
        let few : length found.0.slots ≤ 8 * length t = few_slots t found.0 found.1 in
        let count : length slots ≡ length found.0.slots = ap length found.2.slots_are ∙ length-map found.0.slots slot_from in
        absurd (omega (arith, many, few, count, sizes, ap length tables, (law.is_tape t here).records))

-- ---- nothing was done

pub beside_still : (v : VolumesView) → IsMounted v → StaysBeside (StopLeaves Dir v.mounted) v v
beside_still v law = record {
  stops = λ seen. record {
    later = omega arith;
    each = λ x left. before x left v.mounted.tape refl seen;
    earlier = λ m x le left. inl left;
  };
  same = refl;
  others = λ name s is old. (s, old, λ other not. refl);
}
  where
    before : (x : Tape) → v.left_since v.moment x → (tape : Option Tape) → v.mounted.tape ≡ tape → is_some v.mounted.tape ≡ true → StopLeaves Dir v.mounted x
    before x left None here seen = let no : false ≡ true = ap is_some (sym here) ∙ seen in cc
    before x left (Some t) here seen = λ own. inl (ap finished_volume_of (law.leaves_only t x here left) ∙ sym (ap volume_seen here))
