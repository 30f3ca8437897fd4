-- Slots that change places: what a stop within closing up leaves is shown with the files of the tape before.
use Rattle.std.proofs.Common.{◌≡◌, ℕ, List, false, Some, length, map, filter, inl, inr, refl, sym, ◌∙◌, ap}
use Rattle.lif_model.specs.Tape.{Tape, IsTape}
use Rattle.lif_model.specs.Redo.{IsSettled}
use Rattle.lif_model.specs.Legal.{is_live}
use Rattle.lif_model.specs.Volume.{Volume, is_file, volume_of, is_foreign_gated}
use Rattle.lif_model.specs.Packing.{redo_slot, marked_slot, marked_count, bears_mark, has_mark, without_start, finished_volume_of, files_shown, repacked}
use Rattle.lif_pack.specs.Tasks.{KeepsFiles}
use Rattle.lif_pack.specs.Steps.{volume_with, MayPack, IsOldOrClosed}
use Rattle.lif_pack.proofs.Finishing.{marked_by}
use Rattle.lif_pack.proofs.Finishes.{unmarked_volume}
use Rattle.lif_pack.proofs.MovedVolume.{no_mark_is_zero}
use Rattle.lif_pack.proofs.ClosedVolume.{live_files}
use Rattle.lif_pack.proofs.LivePacked.{redo_live, repacked_live}
use Rattle.lif_pack.proofs.ClosedTape.{closed_not_yet}

module _ (n first end redo : ℕ) (old : List (List ℕ)) (may : MayPack n first end redo old) where
  abbrev w : Volume
  w = volume_with may.header old

  -- a volume with the same live slots has no mark
  unmarked_too : (m : ℕ) (u : Volume) → filter is_live u.slots ≡ filter is_live old → bears_mark m u ≡ false
  unmarked_too m u live =
      let zero = no_mark_is_zero n w may.version may.unmarked in
      let same : redo_slot u ≡ redo_slot w = redo_live m w u.slots live in
      marked_by m u (ap (λ (e : List ℕ). marked_slot e) same ∙ zero.0) (ap (λ (e : List ℕ). marked_count e) same ∙ zero.1)

  shown_of : (x : Tape) (u : Volume) → volume_of x ≡ Some u → filter is_live u.slots ≡ filter is_live old → finished_volume_of x ≡ Some u
  shown_of x u some live = unmarked_volume x (ap (has_mark (length x)) some ∙ unmarked_too (length x) u live) ∙ some

  module _ (t : Tape) (v : Volume) (some : volume_of t ≡ Some v) (same : v.slots ≡ old) where
    with_live : (slots : List (List ℕ)) (x : Tape) → filter is_live slots ≡ filter is_live old → volume_of x ≡ Some (record v { slots = slots })
        → is_foreign_gated x ≡ false → KeepsFiles n t x
    with_live slots x live is own = record {
      files = ap (files_shown n) after ∙ (λ i. Some (record { header = v.header; slots = map without_start (files i); files = v.files })) ∙ sym (ap (files_shown n) before);
      again = ap (repacked n) after ∙ repacked_live n v slots (live ∙ ap (filter is_live) (sym same)) ∙ sym (ap (repacked n) before);
      own_gate = own;
    }
      where
        after : finished_volume_of x ≡ Some (record v { slots = slots })
        after = shown_of x (record v { slots = slots }) is live

        before : finished_volume_of t ≡ Some v
        before = shown_of t v some (ap (filter is_live) same)

        files : filter (is_file n) slots ≡ filter (is_file n) v.slots
        files = live_files n slots v.slots (live ∙ ap (filter is_live) (sym same))

    -- a stop within a commit that closes a record
    pub closed_keeps : (mid new : List (List ℕ)) → filter is_live mid ≡ filter is_live old → filter is_live new ≡ filter is_live old
        → (y : Tape) → IsOldOrClosed (record v { slots = mid }) new y → KeepsFiles n t y
    closed_keeps mid new was now y left = elim left.0 [ inl is ↦ with_live mid y was is left.1 | inr is ↦ with_live new y now is left.1 ]

    -- and before the first
    pub not_yet_keeps : IsTape n t → IsSettled t → KeepsFiles n t t
    not_yet_keeps tape quiet = record { files = refl; again = refl; own_gate = (closed_not_yet n first end redo old may old t tape quiet v some same).1 }
