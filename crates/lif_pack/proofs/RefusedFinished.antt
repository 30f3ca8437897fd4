-- What refuses the packing of the volume of a tape refuses that of the one that it is finished to.
use Rattle.std.proofs.Common.{◌≡◌, ℕ, Bool, true, false, if◌then◌else◌, Option, Some, None, length, refl, sym, ◌∙◌, ap}
use Rattle.lif_model.specs.Tape.{Tape, IsTape}
use Rattle.lif_model.specs.declared.version.Version.TheVariants.{Two}
use Rattle.lif_model.specs.Redo.{settled}
use Rattle.lif_model.specs.Volume.{Volume, IsVolume, is_adopted, volume_of}
use Rattle.lif_model.specs.Apply.{is_upgraded}
use Rattle.lif_model.specs.declared.refusal.Refusal.{Refusal}
use Rattle.lif_model.proofs.Adopted.{adopted_some}
use Rattle.lif_model.proofs.Directory.{volume_in_is, settled_shape}
use Rattle.lif_model.specs.Packing.{is_in_order, bears_mark, has_mark, move_of, finishing_slots, finished_volume_of, slots_after, finished_files, finished_volume, pack_refusal}
use Rattle.lif_pack.proofs.Finishes.{unmarked_volume, finishes}
use Rattle.lif_pack.proofs.Order.{move_is}
use Rattle.lif_pack.proofs.Tasking.{marked_is_upgraded}
use Rattle.lif_pack.proofs.Refused.{refused_never, refused_alike}
use Rattle.lif_pack.proofs.Cleared.{cleared_order}

module _ (n : ℕ) (t : Tape) (is : IsTape n t) (why : Refusal) where
  shape : IsTape n (settled t)
  shape = settled_shape n t is

  -- of a volume with a mark, which is not in order
  marks : (v : Volume) → volume_of t ≡ Some v → bears_mark n v ≡ true → pack_refusal n (Some v) ≡ Some why → pack_refusal n (finished_volume_of t) ≡ Some why
  marks v some marked refused =
      let w : Volume = finished_volume v (settled t) in
      let done = finishes n t v is some in
      let up : is_upgraded n v ≡ true = marked_is_upgraded n v marked in
      let up_w : is_upgraded n w ≡ true = done.upgraded ∙ up in
      let adopted : is_adopted n v.slots ≡ true = adopted_some n Two v.slots up in
      let here : bears_mark (length (settled t)) v ≡ true = ap (λ (m : ℕ). bears_mark m v) shape.records ∙ marked in
      let slots : w.slots ≡ slots_after (finishing_slots v (move_of v)) v.slots =
      ap (λ (b : Bool). (if b then record v { slots = slots_after (finishing_slots v (move_of v)) v.slots; files = finished_files v (move_of v) (settled t) } else v).slots) here in
      ap (pack_refusal n) done.volume
      ∙ refused_alike n v w adopted (adopted_some n Two w.slots up_w) done.upgraded (ap is_in_order slots ∙ order (volume_in_is n (settled t) v shape some) up adopted (move_of v) refl) ∙ refused
    where
      order : IsVolume n v → is_upgraded n v ≡ true → is_adopted n v.slots ≡ true → (move : Option (ℕ × ℕ)) → move_of v ≡ move
          → is_in_order (slots_after (finishing_slots v move) v.slots) ≡ is_in_order v.slots
      order volume up adopted None named = cleared_order n v.header v.slots
          (record { header = volume.header; legal = volume.legal; room = volume.room; entries = volume.entries; kinds = volume.kinds }) up
      order volume up adopted (Some move) named =
          let no : None ≡ Some why = sym (refused_never n v adopted up (move_is v move.0 move.1 named).in_order) ∙ refused in cc

  by : (o : Option Volume) → volume_of t ≡ o → pack_refusal n o ≡ Some why → pack_refusal n (finished_volume_of t) ≡ Some why
  by None none refused = ap (pack_refusal n) (unmarked_volume t (ap (has_mark (length t)) none) ∙ none) ∙ refused
  by (Some v) some refused = marked (bears_mark n v) refl
    where
      marked : (b : Bool) → bears_mark n v ≡ b → pack_refusal n (finished_volume_of t) ≡ Some why
      marked true on = marks v some on refused
      marked false off = ap (pack_refusal n) (unmarked_volume t ((λ i. has_mark (is.records i) (some i)) ∙ off) ∙ some) ∙ refused

  pub refused_finished : pack_refusal n (volume_of t) ≡ Some why → pack_refusal n (finished_volume_of t) ≡ Some why
  refused_finished = by (volume_of t) refl
