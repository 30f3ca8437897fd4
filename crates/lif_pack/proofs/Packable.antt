-- A directory that was read: what of it may be packed, and what is left to finish.
use Rattle.std.proofs.Common.{◌≡◌, ◌<◌, ◌+◌, ℕ, List, [], true, Option, Some, None, length, get_or, set, take, map, refl, sym, ◌∙◌, ap, arith, get_or-set_other}
use Rattle.std.specs.Prelude.{IfSome}
use Rattle.std.proofs.lemmas.Bool.{and_from, lt-ltb}
use Rattle.std.proofs.lemmas.List.{take-set-le}
use Rattle.lif_model.specs.Tape.{Tape, IsTape, record_at}
use Rattle.lif_model.specs.Header.{HeaderParts, directory_start, directory_end}
use Rattle.lif_model.specs.Directory.{start_of, length_of, slots_of}
use Rattle.lif_model.specs.Redo.{settled}
use Rattle.lif_model.specs.Legal.{is_live, has_records, occupies}
use Rattle.lif_model.specs.declared.version.Version.TheVariants.{Two}
use Rattle.lif_model.specs.Volume.{Volume, IsVolume, is_adopted_with, files_of, volume_in, volume_of}
use Rattle.lif_model.specs.Fit.{redo_place}
use Rattle.lif_model.specs.Apply.{is_upgraded}
use Rattle.lif_model.proofs.Redo.{settled_twice}
use Rattle.lif_model.proofs.Directory.{volume_from, volume_in_is, settled_shape}
use Rattle.lif_dir.specs.Entries.{slot_bytes}
use Rattle.lif_dir.specs.declared.entries.Slot.{Slot}
use Rattle.lif_plan.specs.Directories.{IsLegalDirectory}
use Rattle.lif_volume.specs.Views.{IsDirectoryOf}
use Rattle.lif_model.specs.Packing.{is_in_order, are_packed, live_records, redo_slot, unmarked, pack_refusal}
use Rattle.lif_pack.specs.declared.marks.Move.{Move}
use Rattle.lif_pack.specs.declared.tasks.Task.{Task}
use Rattle.lif_pack.specs.Marks.{IsMarked}
use Rattle.lif_pack.specs.Tasks.{MayFinish, IsTask}
use Rattle.lif_pack.specs.Steps.{volume_with, HasPlainStart, MayPack}
use Rattle.lif_pack.specs.Packs.{IsFileLeft, IsTaskWith, AreThoseOf}
use Rattle.lif_pack.proofs.Order.{move_is, move_some}
use Rattle.lif_pack.proofs.Tasking.{directory_is_volume}
use Rattle.lif_pack.proofs.Cleared.{cleared_may}
use Rattle.lif_pack.proofs.Refused.{refused_by_none}

-- the file that is left is one of those in memory
file_of : (n end : ℕ) (v : Volume) (move : Move) → directory_end v.header ≡ end → IsMarked v (Some move)
    → IsFileLeft end (redo_place v.slots) (set v.slots (redo_place v.slots) (unmarked (redo_slot v))) move
file_of n end v move ends marked =
    let r : ℕ = redo_place v.slots in
    let entry : List ℕ = unmarked (redo_slot v) in
    let i : ℕ = marked.0 in
    let can = move_is v i marked.1 marked.2 in
    let at = marked.3 in
    let before : move.slot < r = omega (arith, at.slot, can.before_redo) in
    let front : take move.slot (set v.slots r entry) ≡ take i v.slots = take-set-le move.slot v.slots r entry (omega (arith, before)) ∙ ap (λ (k : ℕ). take k v.slots) at.slot in
    let here : get_or (set v.slots r entry) move.slot [] ≡ get_or v.slots i [] =
    get_or-set_other v.slots r move.slot entry [] (λ e. absurd (omega (arith, e, before))) ∙ ap (λ (k : ℕ). get_or v.slots k []) at.slot in
    record {
      before = before;
      placed = record {
        packed = ap (are_packed end) front ∙ ap (λ (e : ℕ). are_packed e (take i v.slots)) (sym ends) ∙ can.packed;
        next = omega (arith, at.place, ap live_records front, ends);
      };
      takes = ap occupies here ∙ and_from (is_live (get_or v.slots i [])) (has_records (get_or v.slots i [])) can.live (lt-ltb 0 (length_of (get_or v.slots i [])) (omega (arith, can.fewer)));
      down = omega (arith, at.place, can.down, ap start_of here);
      long = at.long ∙ sym (ap length_of here);
      some = omega (arith, at.moved, move_some v i marked.1 marked.2);
    }

pub task_with : (n end : ℕ) (v : Volume) (task : Option Task) → directory_end v.header ≡ end → IsTask n v task → IfSome task (MayFinish n)
    → IsTaskWith n end (redo_place v.slots) (set v.slots (redo_place v.slots) (unmarked (redo_slot v))) task
task_with n end v None ends is may = tt
task_with n end v (Some task) ends is may = (may, by task.moving is.moving)
  where
    by : (moving : Option Move) → IsMarked v moving → IfSome moving (IsFileLeft end (redo_place v.slots) (set v.slots (redo_place v.slots) (unmarked (redo_slot v))))
    by None marked = tt
    by (Some move) marked = file_of n end v move ends marked

-- ---- a legal directory in memory, which nothing refuses

module _ (n first end : ℕ) (header : HeaderParts) (slots : List (List ℕ)) (legal : IsLegalDirectory n header slots)
    (free : (v : Volume) → IsVolume n v → v.slots ≡ slots → None ≡ pack_refusal n (Some v)) (plain : (k : ℕ) → k < length slots → HasPlainStart (get_or slots k []))
    (starts : header.start ≡ first) (ends : header.start + header.length ≡ end) where
  abbrev w : Volume
  w = volume_with legal.bytes slots

  volume : IsVolume n w
  volume = directory_is_volume n header slots legal

  both : (is_upgraded n w ≡ true) × (is_in_order slots ≡ true)
  both = refused_by_none n w (sym (free w volume refl))

  start_w : directory_start legal.bytes ≡ first
  start_w = sym (ap (λ (h : HeaderParts). h.start) legal.told) ∙ starts

  end_w : directory_end legal.bytes ≡ end
  end_w = omega (arith, ap (λ (h : HeaderParts). h.start) legal.told, ap (λ (h : HeaderParts). h.length) legal.told, ends)

  pub read_may : MayPack n first end (redo_place slots) (set slots (redo_place slots) (unmarked (get_or slots (redo_place slots) [])))
  read_may = cleared_may n legal.bytes slots volume both.0 first end both.1 (λ k lt on. plain k lt) start_w end_w

  pub read_task : (task : Option Task) → ((v : Volume) → IsVolume n v → v.slots ≡ slots → directory_start v.header ≡ first → directory_end v.header ≡ end → IsTask n v task)
      → IfSome task (MayFinish n) → IsTaskWith n end (redo_place slots) (set slots (redo_place slots) (unmarked (get_or slots (redo_place slots) []))) task
  read_task task of may = task_with n end w task end_w (of w volume refl start_w end_w) may

  -- and a volume with these slots
  pub read_those : (task : Option Task) → ((v : Volume) → IsVolume n v → v.slots ≡ slots → directory_start v.header ≡ first → directory_end v.header ≡ end → IsTask n v task)
      → (v : Volume) → IsVolume n v → v.slots ≡ slots → directory_start v.header ≡ first → directory_end v.header ≡ end
      → AreThoseOf n first end (redo_place slots) task (set slots (redo_place slots) (unmarked (get_or slots (redo_place slots) []))) v
  read_those task of v is same start_v end_v = record {
    starts = start_v;
    ends = end_v;
    volume = is;
    version = ap (is_adopted_with n Two) same ∙ both.0;
    redo_is = ap redo_place same;
    slots_are = λ i. set (sym same i) (redo_place slots) (unmarked (get_or (sym same i) (redo_place (sym same i)) []));
    task_is = of v is same start_v end_v;
  }

-- ---- a directory that is kept

-- the volume of its tape
pub record IsVolumeOf (n : ℕ) (t : Tape) (header : HeaderParts) (found : List Slot) (v : Volume) : Type 0 where
  pub some : volume_of t ≡ Some v
  pub settled_too : volume_of (settled t) ≡ Some v
  pub volume : IsVolume n v
  pub slots : v.slots ≡ map slot_bytes found
  pub starts : directory_start v.header ≡ header.start
  pub ends : directory_end v.header ≡ header.start + header.length

pub kept_volume : (n : ℕ) (t : Tape) (header : HeaderParts) (found : List Slot) → IsTape n t → IsDirectoryOf (settled t) header found → (v : Volume) × IsVolumeOf n t header found v
kept_volume n t header found is kept =
    let u : Tape = settled t in
    let v : Volume = record { header = record_at u 0; slots = slots_of u; files = files_of u (slots_of u) } in
    let some : volume_in u ≡ Some v = volume_from u kept.directory.legal in (
      v,
      record {
        some = some;
        settled_too = ap volume_in (settled_twice t) ∙ some;
        volume = volume_in_is n u v (settled_shape n t is) some;
        slots = sym kept.directory.bytes;
        starts = sym (ap (λ (h : HeaderParts). h.start) kept.directory.header);
        ends = omega (arith, ap (λ (h : HeaderParts). h.start) kept.directory.header, ap (λ (h : HeaderParts). h.length) kept.directory.header);
      },
    )
