-- What finishes a volume, by a directory in memory.
use Rattle.std.proofs.Common.{◌≡◌, ◌<◌, ◌≤◌, ◌+◌, ◌/◌, ℕ, List, [], true, Option, Some, None, length, get_or, ap, arith}
use Rattle.std.specs.Prelude.{IfSome}
use Rattle.std.proofs.lemmas.Bool.{and_parts, and_from, lt-ltb}
use Rattle.lif_model.specs.Header.{HeaderParts, directory_start, directory_length, directory_end}
use Rattle.lif_model.specs.Directory.{length_of}
use Rattle.lif_model.specs.declared.version.Version.TheVariants.{Two}
use Rattle.lif_model.specs.Redo.{redo_start}
use Rattle.lif_model.specs.Legal.{is_live, occupies}
use Rattle.lif_model.specs.Volume.{Volume, IsVolume}
use Rattle.lif_model.specs.Fit.{redo_place}
use Rattle.lif_model.specs.Apply.{is_upgraded}
use Rattle.lif_model.proofs.Legal.{legal_tells}
use Rattle.lif_model.proofs.Adopted.{is_file_tells, ends_before_redo}
use Rattle.lif_plan.specs.Directories.{IsLegalDirectory}
use Rattle.lif_model.specs.Packing.{bears_mark}
use Rattle.lif_pack.specs.declared.marks.Move.{Move}
use Rattle.lif_pack.specs.Marks.{MayBeMoved, IsMarked}
use Rattle.lif_pack.specs.Tasks.{limit_of, MayFinish}
use Rattle.lif_pack.specs.Steps.{volume_with}
use Rattle.lif_pack.proofs.Finishing.{redo_here, other_is_file}

pub marked_is_upgraded : (n : ℕ) (v : Volume) → bears_mark n v ≡ true → is_upgraded n v ≡ true
marked_is_upgraded n v is = (and_parts (is_upgraded n v) _ is).0

-- a legal directory in memory is that of some volume
pub directory_is_volume : (n : ℕ) (header : HeaderParts) (slots : List (List ℕ)) (legal : IsLegalDirectory n header slots) → IsVolume n (volume_with legal.bytes slots)
directory_is_volume n header slots legal =
    let long : header.length ≡ directory_length legal.bytes = ap (λ (h : HeaderParts). h.length) legal.told in
    record {
      header = legal.whole;
      legal = legal_tells n legal.bytes slots legal.legal;
      room = omega (arith, legal.shape.few, long);
      entries = legal.shape.entries;
      kinds = legal.shape.kinds;
    }

-- the file of a mark ends before the redo file
module _ (n : ℕ) (v : Volume) (is : IsVolume n v) (up : is_upgraded n v ≡ true) (move : Move) (may : MayBeMoved v.slots move) where
  abbrev slot : List ℕ
  slot = get_or v.slots move.slot []

  pub move_here : move.slot < length v.slots
  move_here = omega (arith, may.before_redo, redo_here n v is up)

  pub move_below : move.start + move.length ≤ redo_start Two n
  move_below =
      let on : occupies slot ≡ true = and_from (is_live slot) _ may.live (lt-ltb 0 (length_of slot) (omega (arith, may.part, may.long))) in
      let file = other_is_file n v is up move.slot move_here (λ e. absurd (omega (arith, e, may.before_redo))) may.live in
      omega (arith, (ends_before_redo Two n v is up).1 move.slot move_here on (is_file_tells n slot file).1, may.start, may.long)

pub may_finish : (n first : ℕ) (v : Volume) (found : Option Move) → IsVolume n v → is_upgraded n v ≡ true → IfSome found (MayBeMoved v.slots)
    → first + redo_place v.slots / 8 < limit_of n found → MayFinish n (record { first = first; redo = redo_place v.slots; moving = found })
may_finish n first v None is up may below = record { redo = below; moving = tt }
may_finish n first v (Some move) is up may below =
    let end = move_below n v is up move may in
    record {
      redo = omega (arith, below, end, may.down, may.part);
      moving = record {
        redo_slot = below;
        file_slot = omega (arith, below, may.before_redo);
        other = λ e. absurd (omega (arith, e, may.before_redo));
        number = may.number;
        above = omega arith;
        down = may.down;
        part = may.part;
        below = end;
      };
    }

-- the redo entry's record is in the directory, which ends before
pub within_limit : (n : ℕ) (v : Volume) (found : Option Move) → IsVolume n v → is_upgraded n v ≡ true → IsMarked v found
    → directory_start v.header + redo_place v.slots / 8 < limit_of n found
within_limit n v found is up marked = by found marked
  where
    within : directory_start v.header + redo_place v.slots / 8 < directory_end v.header
    within = omega (arith, redo_here n v is up, is.room)

    by : (found : Option Move) → IsMarked v found → directory_start v.header + redo_place v.slots / 8 < limit_of n found
    by None none = omega (arith, within, (ends_before_redo Two n v is up).0)
    by (Some move) marked = omega (arith, within, marked.3.place)
