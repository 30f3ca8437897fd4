-- The steps of a packing, one after the other: the tape has what packing makes of the volume.
use Rattle.std.proofs.Common.{filter, ◌≡◌, ◌+◌, ℕ, List, true, false, Option, Some, None, unwrap_or, length, take, refl, sym, ◌∙◌, ap, subst, arith}
use Rattle.lif_model.specs.Tape.{Tape, IsTape}
use Rattle.lif_model.specs.declared.version.Version.TheVariants.{Two}
use Rattle.lif_model.specs.Header.{directory_start}
use Rattle.lif_model.specs.Redo.{settled, IsSettled}
use Rattle.lif_model.specs.Fit.{redo_place}
use Rattle.lif_model.specs.Legal.{is_live}
use Rattle.lif_model.specs.Volume.{Volume, is_adopted_with, volume_in, volume_of}
use Rattle.lif_model.specs.Apply.{is_upgraded}
use Rattle.lif_model.proofs.Directory.{volume_is}
use Rattle.lif_model.proofs.Redo.{settled_twice}
use Rattle.lif_model.specs.Packing.{is_in_order, are_packed, live_records, packed_start, bears_mark, has_mark, finished_volume_of, pack_refusal, packed}
use Rattle.lif_pack.specs.Steps.{AreLive, MayPack, HasSlotsOf, ArePackedAlike}
use Rattle.lif_pack.specs.declared.pack.Packed.{Packed}
use Rattle.lif_pack.specs.declared.tasks.Task.{Task}
use Rattle.lif_pack.specs.Packs.{AreThoseOf, IsPacking, IsFinishedTo}
use Rattle.lif_model.specs.Finished.{IsPackedOn, StaysOutside}
use Rattle.lif_pack.proofs.Counted.{files_kept}
use Rattle.lif_pack.proofs.Outside.{outside_then, outside_wider}
use Rattle.lif_pack.proofs.Placing.{slots_then}
use Rattle.lif_pack.proofs.Agreeing.{settles_finished}
use Rattle.lif_pack.proofs.Finishes.{unmarked_volume}
use Rattle.lif_pack.proofs.Held.{held_same}
use Rattle.lif_pack.proofs.Packs.{packed_again, packed_is_upgraded, packed_stands}
use Rattle.lif_pack.proofs.PackedLive.{packed_is_live}
use Rattle.lif_pack.proofs.Refused.{may_never}

module _ (n first end redo : ℕ) (held slots : List (List ℕ)) (t x : Tape) (finished : IsFinishedTo first end held t x) where
  abbrev w : Volume
  w = finished.volume

  -- the files are moved to their places, and the live slots closed up
  pub packed_after : MayPack n first end redo slots → are_packed end (take redo slots) ≡ true → ArePackedAlike n end held slots
      → (y u : Tape) → HasSlotsOf first end held slots x y → HasSlotsOf first end slots (filter is_live slots) y u → volume_of u ≡ Some (packed n finished.volume)
  packed_after may are alike y u moved closed =
      let there : volume_of u ≡ Some (record w { slots = filter is_live slots }) =
      closed.volume (record w { slots = slots }) (moved.volume w finished.stands finished.slots_are finished.starts finished.ends) refl finished.starts finished.ends in
      let makes : record w { slots = filter is_live slots } ≡ packed n w =
      sym (packed_is_live n first end redo slots may are w finished.ends) ∙ alike w finished.ends ∙ sym (λ i. packed n (record w { slots = finished.slots_are i })) in
      there ∙ ap (λ (v : Volume). Some v) makes

  -- nothing refuses it
  pub packed_may : MayPack n first end redo held → pack_refusal n (Some finished.volume) ≡ None
  packed_may may =
      ap (λ (xs : List (List ℕ)). pack_refusal n (Some (record w { slots = xs }))) finished.slots_are
      ∙ may_never n first end redo held may w

  -- what it makes has no mark
  pub packed_shown : IsTape n x → MayPack n first end redo held → (u : Tape) → length u ≡ n → volume_of u ≡ Some (packed n finished.volume)
      → finished_volume_of u ≡ Some (packed n finished.volume)
  packed_shown is may u size after =
      let up : is_upgraded n w ≡ true = ap (is_adopted_with n Two) finished.slots_are ∙ may.version in
      let in_order : is_in_order w.slots ≡ true = ap is_in_order finished.slots_are ∙ may.in_order in
      let clear = (packed_is_upgraded n w (volume_is n x w is finished.stands) up in_order).1 in
      unmarked_volume u ((λ i. has_mark (size i) (after i)) ∙ clear) ∙ after

  -- packing makes the same of that
  pub packed_on : IsTape n x → MayPack n first end redo held → (u : Tape) → volume_of u ≡ Some (packed n finished.volume) → IsPackedOn n u
  packed_on is may u after =
      let up : is_upgraded n w ≡ true = ap (is_adopted_with n Two) finished.slots_are ∙ may.version in
      let in_order : is_in_order w.slots ≡ true = ap is_in_order finished.slots_are ∙ may.in_order in
      let volume = volume_is n x w is finished.stands in
      record { volume = packed n w; has = after; unmarked = (packed_is_upgraded n w volume up in_order).1; same = packed_again n w volume up in_order }

  -- the records outside the directory and the packed files stay
  pub packed_outside : IsSettled t → MayPack n first end redo held → MayPack n first end redo slots → ArePackedAlike n end held slots
      → (y u : Tape) → HasSlotsOf first end held slots x y → HasSlotsOf first end slots (filter is_live slots) y u
      → StaysOutside (directory_start finished.volume.header) (packed_start finished.volume (redo_place finished.volume.slots)) (settled t) u
  packed_outside quiet was now alike y u moved closed =
      let until : ℕ = packed_start w (redo_place w.slots) in
      let both = slots_then first end held slots (filter is_live slots) x y u (files_kept n first end redo redo held slots was now alike) moved closed in
      let counted = ap (λ (xs : List (List ℕ)). live_records (take (redo_place xs) xs)) finished.slots_are in
      let to_u = outside_then first until until t x u (omega arith) finished.outside (outside_wider first (end + live_records (take (redo_place held) held)) until x u (omega (arith, counted, finished.ends)) both.outside) in
      subst (λ (z : Tape). StaysOutside (directory_start w.header) until z u) (sym quiet) (subst (λ (d : ℕ). StaysOutside d until t u) (sym finished.starts) to_u)

-- a packing of the settled tape is one of the tape
pub packing_of : (n : ℕ) (t u : Tape) (answer : Packed) → IsPacking n (settled t) u answer → IsPacking n t u answer
packing_of n t u answer is = record {
  volume = is.volume;
  shown = sym (ap volume_in (settles_finished t)) ∙ is.shown;
  may = is.may;
  after = is.after;
  shown_after = is.shown_after;
  is_packed = is.is_packed;
  is_settled = is.is_settled;
  outside = subst (λ (z : Tape). StaysOutside (directory_start is.volume.header) (packed_start is.volume (redo_place is.volume.slots)) z u) (settled_twice t) is.outside;
  files = is.files;
  free = is.free;
}

-- its volume is that of the settled tape
packed_volume : (n : ℕ) (t : Tape) (v : Volume) → volume_of (settled t) ≡ Some v → (on : IsPackedOn n t) → v ≡ on.volume
packed_volume n t v stands on = ap (λ (o : Option Volume). unwrap_or o v) (sym stands ∙ ap volume_in (settled_twice t) ∙ on.has)

-- of a tape that is packed already nothing is left to do, no slot is purged, and the files stand at their places
pub record StandsPacked (end redo : ℕ) (task : Option Task) (slots : List (List ℕ)) : Type 0 where
  pub none : task ≡ None
  pub live : AreLive slots
  pub placed : are_packed end (take redo slots) ≡ true

pub packed_those : (n first end redo : ℕ) (task : Option Task) (slots : List (List ℕ)) (t : Tape) (v : Volume) → volume_of (settled t) ≡ Some v → IsPackedOn n t
    → MayPack n first end redo slots → AreThoseOf n first end redo task slots v → StandsPacked end redo task slots
packed_those n first end redo (Some task) slots t v stands on may those =
    let no : true ≡ false = sym those.task_is.marked ∙ ap (bears_mark n) (packed_volume n t v stands on) ∙ on.unmarked in
    absurd (cc)
packed_those n first end redo None slots t v stands on may those =
    let volume : v ≡ on.volume = packed_volume n t v stands on in
    let held : slots ≡ v.slots = held_same n first end redo slots v those in
    let both = packed_stands n v those.volume those.version (ap is_in_order (sym held) ∙ may.in_order) (ap (packed n) volume ∙ on.same ∙ sym volume) in
    record {
      none = refl;
      live = subst AreLive (sym held) both.0;
      placed = (λ i. are_packed (sym those.ends i) (take (sym those.redo_is i) (held i))) ∙ both.1;
    }
