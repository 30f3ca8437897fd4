-- Of every tape: what finishing leaves, and that it leaves nothing more to finish.
use Rattle.std.proofs.Common.{◌≡◌, ◌≤◌, ℕ, [], Bool, true, false, if◌then◌else◌, Option, Some, None, length, map, filter, refl, sym, ◌∙◌, ap, subst}
use Rattle.std.proofs.lemmas.Bool.{and_parts}
use Rattle.lif_model.specs.Tape.{Tape, IsTape, record_at}
use Rattle.lif_model.specs.Gate.{gate_of}
use Rattle.lif_model.specs.declared.version.Version.TheVariants.{Two}
use Rattle.lif_model.specs.Redo.{redo_start, targets_place, redo_of, settled}
use Rattle.lif_model.specs.Volume.{Volume, is_file, volume_in, volume_of}
use Rattle.lif_model.specs.Apply.{is_upgraded}
use Rattle.lif_model.proofs.Redo.{settled_none, settled_is_quiet, settled_twice, length_settled, redo_places}
use Rattle.lif_model.proofs.Directory.{settled_shape}
use Rattle.lif_model.proofs.Volume.{quiet_agree}
use Rattle.lif_model.specs.Packing.{bears_mark, has_mark, move_of, finishing_slots, finished_with, finished_by, finished, finished_volume_of, slots_after, finished_files, finished_volume, without_start}
use Rattle.lif_pack.proofs.FinishedVolume.{ends_by}

-- ---- no mark

-- where the volume of a tape has no mark, or there is none, finishing is settling
pub finished_unmarked : (t : Tape) → has_mark (length t) (volume_of t) ≡ false → finished t ≡ settled t
finished_unmarked t none = go (volume_of t) none
  where
    go : (o : Option Volume) → has_mark (length t) o ≡ false → finished_by o (settled t) ≡ settled t
    go None none = refl
    go (Some v) none =
        let off : bears_mark (length (settled t)) v ≡ false = ap (λ (m : ℕ). bears_mark m v) (length_settled t) ∙ none in
        ap (λ (b : Bool). if b then finished_with v (move_of v) (settled t) else settled t) off

-- and the volume is that of the tape
pub unmarked_volume : (t : Tape) → has_mark (length t) (volume_of t) ≡ false → finished_volume_of t ≡ volume_of t
unmarked_volume t none = ap volume_in (finished_unmarked t none)

-- ---- a volume

-- the tape is finished to x, whose volume is w, and that is v without its mark and with a file that moves at its place
pub record Finishes (n : ℕ) (t : Tape) (v w : Volume) (x : Tape) : Type 0 where
  pub shape : IsTape n x
  pub quiet : redo_of x ≡ []
  pub volume : volume_in x ≡ Some w
  pub clear : bears_mark n w ≡ false
  pub upgraded : is_upgraded n w ≡ is_upgraded n v
  pub header : w.header ≡ v.header
  -- the slots of the files are as before, without their starts
  pub bare : map without_start (filter (is_file n) w.slots) ≡ map without_start (filter (is_file n) v.slots)

pub finishes : (n : ℕ) (t : Tape) (v : Volume) → IsTape n t → volume_of t ≡ Some v → Finishes n t v (finished_volume v (settled t)) (finished t)
finishes n t v is some =
    subst (λ (o : Option Volume). Finishes n t v (finished_volume v (settled t)) (finished_by o (settled t))) (sym some) (go (bears_mark n v) refl)
  where
    shape : IsTape n (settled t)
    shape = settled_shape n t is

    quiet : redo_of (settled t) ≡ []
    quiet = settled_is_quiet t

    here : (b : Bool) → bears_mark n v ≡ b → bears_mark (length (settled t)) v ≡ b
    here b e = ap (λ (m : ℕ). bears_mark m v) shape.records ∙ e

    go : (b : Bool) → bears_mark n v ≡ b → Finishes n t v (finished_volume v (settled t)) (finished_by (Some v) (settled t))
    go false e =
        let off : bears_mark (length (settled t)) v ≡ false = here false e in
        subst (λ (b : Bool). Finishes n t v (if b then record v { slots = slots_after (finishing_slots v (move_of v)) v.slots; files = finished_files v (move_of v) (settled t) } else v)
        (if b then finished_with v (move_of v) (settled t) else (settled t))) (sym off) (record {
          shape = shape;
          quiet = quiet;
          volume = some;
          clear = e;
          upgraded = refl;
          header = refl;
          bare = refl;
        })
    go true e =
        let marked : bears_mark (length (settled t)) v ≡ true = here true e in
        let up : is_upgraded n v ≡ true = (and_parts (is_upgraded n v) _ e).0 in
        let ends = ends_by n (settled t) v shape some up (move_of v) refl in
        let places = redo_places Two n in
        let above : (k : ℕ) → redo_start Two n ≤ k → record_at (finished_with v (move_of v) (settled t)) k ≡ record_at (settled t) k = ends.above in
        subst (λ (b : Bool). Finishes n t v (if b then record v { slots = slots_after (finishing_slots v (move_of v)) v.slots; files = finished_files v (move_of v) (settled t) } else v)
        (if b then finished_with v (move_of v) (settled t) else (settled t))) (sym marked) (record {
          shape = ends.shape;
          quiet = quiet_agree (settled t) (finished_with v (move_of v) (settled t)) (settled_twice t) (ends.shape.records ∙ sym shape.records)
              (subst (λ (m : ℕ). record_at (finished_with v (move_of v) (settled t)) (gate_of m) ≡ record_at (settled t) (gate_of m)) (sym shape.records) (above (gate_of n) places.0))
              (subst (λ (m : ℕ). record_at (finished_with v (move_of v) (settled t)) (targets_place m) ≡ record_at (settled t) (targets_place m)) (sym shape.records) (above (targets_place n) places.1));
          volume = ends.volume;
          clear = ends.clear;
          upgraded = ends.upgraded ∙ sym up;
          header = refl;
          bare = ends.bare;
        })

-- ---- every tape

-- a finished tape is settled ..
pub finished_is_settled : (n : ℕ) (t : Tape) → IsTape n t → settled (finished t) ≡ finished t
finished_is_settled n t is = settled_none (finished t) (go (volume_of t) refl)
  where
    go : (o : Option Volume) → volume_of t ≡ o → redo_of (finished t) ≡ []
    go None e = subst (λ (o : Option Volume). redo_of (finished_by o (settled t)) ≡ []) (sym e) (settled_is_quiet t)
    go (Some v) e = (finishes n t v is e).quiet

-- .. so that its volume is the one that it is finished to ..
pub volume_of_finished : (n : ℕ) (t : Tape) → IsTape n t → volume_of (finished t) ≡ finished_volume_of t
volume_of_finished n t is = ap volume_in (finished_is_settled n t is)

-- .. which has no mark ..
pub finished_has_no_mark : (n : ℕ) (t : Tape) → IsTape n t → has_mark n (finished_volume_of t) ≡ false
finished_has_no_mark n t is = go (volume_of t) refl
  where
    go : (o : Option Volume) → volume_of t ≡ o → has_mark n (finished_volume_of t) ≡ false
    go None e = ap (has_mark n) (unmarked_volume t (ap (has_mark (length t)) e) ∙ e)
    go (Some v) e = let done = finishes n t v is e in ap (has_mark n) done.volume ∙ done.clear

pub finished_shape : (n : ℕ) (t : Tape) → IsTape n t → IsTape n (finished t)
finished_shape n t is = go (volume_of t) refl
  where
    go : (o : Option Volume) → volume_of t ≡ o → IsTape n (finished t)
    go None e = subst (IsTape n) (sym (finished_unmarked t (ap (has_mark (length t)) e))) (settled_shape n t is)
    go (Some v) e = (finishes n t v is e).shape

-- .. and nothing is left to finish
pub finished_twice : (n : ℕ) (t : Tape) → IsTape n t → finished (finished t) ≡ finished t
finished_twice n t is =
    let shape : IsTape n (finished t) = finished_shape n t is in
    finished_unmarked (finished t) (ap (λ (m : ℕ). has_mark m (volume_of (finished t))) shape.records
    ∙ ap (has_mark n) (volume_of_finished n t is) ∙ finished_has_no_mark n t is)
    ∙ finished_is_settled n t is
