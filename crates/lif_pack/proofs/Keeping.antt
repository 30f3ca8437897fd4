-- A stop while a file is moved leaves a tape that is shown with the same files.
use Rattle.std.proofs.Common.{◌≡◌, ℕ, [], true, false, Some, get_or, set, inl, inr, sym, ◌∙◌, ap, refl, arith}
use Rattle.std.specs.Prelude.{is_some}
use Rattle.std.proofs.lemmas.Bool.{cases_eq}
use Rattle.lif_model.specs.Tape.{Tape, IsTape, record_at}
use Rattle.lif_model.specs.Header.{directory_start}
use Rattle.lif_model.specs.Redo.{settled, IsSettled}
use Rattle.lif_model.specs.Volume.{Volume, volume_in, volume_of}
use Rattle.lif_model.specs.Fit.{redo_place}
use Rattle.lif_model.specs.Apply.{is_upgraded}
use Rattle.lif_model.proofs.Moments.{follows, reads_too, weaker}
use Rattle.lif_model.proofs.Redo.{settled_twice}
use Rattle.il_ports.specs.Stores.{RecordsView, IsStore, RunLeaves}
use Rattle.lif_model.specs.Packing.{packed_start, with_start, bears_mark, has_mark, finished_with, finished_volume_of, files_shown, repacked}
use Rattle.lif_pack.specs.declared.marks.Move.{Move}
use Rattle.lif_pack.specs.Marks.{IsMoveAt}
use Rattle.lif_pack.specs.Moving.{MayMove, HasMoved, IsUnderWay}
use Rattle.lif_pack.specs.Tasks.{IsShownAs, StaysShown, KeepsFiles}
use Rattle.lif_pack.specs.Packs.{StaysFiled}
use Rattle.lif_pack.proofs.Order.{CanMove}
use Rattle.lif_pack.proofs.Finishes.{unmarked_volume}
use Rattle.lif_pack.proofs.FinishedTape.{with_has_moved}
use Rattle.lif_pack.proofs.MovedParts.{midway_none}
use Rattle.lif_pack.proofs.MovedVolume.{moved_is_settled, moved_volume, moved_shows, moved_keeps}
use Rattle.lif_pack.proofs.Agreeing.{settles_shown, settles_finished}
use Rattle.lif_pack.proofs.Stopped.{stays_after, midway_shown}

pub shown_keeps : (n : ℕ) (t x : Tape) → IsShownAs t x → KeepsFiles n t x
shown_keeps n t x is = record { files = ap (files_shown n) is.volume; again = ap (repacked n) is.volume; own_gate = is.own_gate }

-- of a tape t that is kept by x, what keeps x keeps t
pub keeps_then : (n : ℕ) (t x y : Tape) → KeepsFiles n t x → KeepsFiles n x y → KeepsFiles n t y
keeps_then n t x y one two = record { files = two.files ∙ one.files; again = two.again ∙ one.again; own_gate = two.own_gate }

-- a run after a run
pub kept_further : {S : Type 0} (v w u : RecordsView S) (n : ℕ) (t x : Tape) → IsStore w → w.tape ≡ Some x → RunLeaves v w (KeepsFiles n t) → RunLeaves w u (KeepsFiles n x)
    → RunLeaves v u (KeepsFiles n t)
kept_further v w u n t x store told first next =
    let here : KeepsFiles n t x = reads_too _ _ _ _ (KeepsFiles n t) x first (λ m le. store.leaves_now m x le told) in
    follows _ _ _ _ _ _ (KeepsFiles n t) (KeepsFiles n x) first next (λ y is. keeps_then n t x y here is)

module _ (n : ℕ) (t : Tape) (v : Volume) (is : IsTape n t) (some : volume_of t ≡ Some v) (quiet : IsSettled t) (up : is_upgraded n v ≡ true) where
  pub keeps_itself : KeepsFiles n t t
  keeps_itself = shown_keeps n t t (settles_shown n t v is some quiet up t (record { records = refl; same = λ k lt. ap (λ (q : Tape). record_at q k) quiet }))

  -- the volume has no mark, and a file is moved as a whole
  module _ (clear : bears_mark n v ≡ false) (i : ℕ) (can : CanMove v i 0) (move : Move) (at_file : IsMoveAt v i 0 move)
      (may : MayMove n (directory_start v.header) move.place (redo_place v.slots) move)
      (alike : repacked n (Some (record v { slots = set v.slots i (with_start (packed_start v i) (get_or v.slots i [])) })) ≡ repacked n (Some v)) where
    pub way_keeps : (y : Tape) → IsUnderWay (directory_start v.header) move.place (redo_place v.slots) move t y → KeepsFiles n t y
    way_keeps y (inr has) = moved_keeps n t v is some quiet up clear i can move at_file (settled y) (settled_twice y) has alike y refl
    way_keeps y (inl way) = elim (cases_eq way.0 0) [
      | inl none ↦
          shown_keeps n t y (settles_shown n t v is some quiet up y
          (midway_none n (directory_start v.header) move.place (redo_place v.slots) move way.0 t y is may (omega (arith, none, at_file.moved)) way.3))
      | inr begun ↦
          let f : Tape = finished_with v (Some (i, 0)) t in
          let quiet_f : IsSettled f = moved_is_settled n t v is some quiet up clear i can in
          let there : HasMoved (directory_start v.header) move.place (redo_place v.slots) move t f = with_has_moved n t v is some quiet up i 0 can move at_file in
          let shown = midway_shown n t v is some quiet up i 0 way.0 can move at_file f quiet_f there y may way.3 (omega arith) (omega (arith, begun)) way.2 in
          let before : finished_volume_of t ≡ Some v = unmarked_volume t ((λ q. has_mark (is.records q) (some q)) ∙ clear) ∙ some in
          record {
            files = ap (files_shown n) (shown.0 ∙ moved_volume n t v is some quiet up clear i can move at_file f quiet_f there)
                ∙ moved_shows n t v is some quiet up clear i can ∙ sym (ap (files_shown n) before);
            again = ap (repacked n) (shown.0 ∙ moved_volume n t v is some quiet up clear i can move at_file f quiet_f there) ∙ alike ∙ sym (ap (repacked n) before);
            own_gate = shown.1;
          }
    ]

-- ---- of a whole call

-- the tape is settled alone
pub filed_by_shown : {S : Type 0} (v w : RecordsView S) (t : Tape) → StaysShown v w t → StaysFiled v w t
filed_by_shown v w t shown = record {
  stops = weaker _ _ _ _ _ _ shown.stops (λ x is. shown_keeps v.record_count t x is);
  after = (shown.after.0, shown.after.1, shown_keeps v.record_count t shown.after.0 shown.after.2);
}

-- and then it is packed
pub filed_further : {S : Type 0} (v w u : RecordsView S) (t : Tape) → IsStore u → is_some u.tape ≡ true → StaysShown v w t → RunLeaves w u (KeepsFiles v.record_count (settled t)) → StaysFiled v u t
filed_further v w u t store told first next =
    let n : ℕ = v.record_count in
    let run : RunLeaves v u (KeepsFiles n t) = follows _ _ _ _ _ _ (KeepsFiles n t) (KeepsFiles n (settled t)) (filed_by_shown v w t first).stops next
    (λ y is. record {
      files = is.files ∙ ap (λ (x : Tape). files_shown n (volume_in x)) (settles_finished t);
      again = is.again ∙ ap (λ (x : Tape). repacked n (volume_in x)) (settles_finished t);
      own_gate = is.own_gate;
    }) in
    record { stops = run; after = stays_after v u (KeepsFiles n t) store run told }
