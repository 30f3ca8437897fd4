-- Slots written into the directory, after which the live ones stand in the same order as before: the volume has the new slots
-- then, and its files as before.
use Rattle.std.proofs.Common.{◌≡◌, ◌<◌, ◌≤◌, ℕ, List, [], true, false, Some, length, get_or, filter, inl, inr, refl, sym, ◌∙◌, subst, arith}
use Rattle.lif_model.specs.Tape.{Tape, IsTape}
use Rattle.lif_model.specs.Header.{directory_start, directory_length, capacity_of}
use Rattle.lif_model.specs.Directory.{is_end, slots_of}
use Rattle.lif_model.specs.declared.version.Version.TheVariants.{Two}
use Rattle.lif_model.specs.Redo.{changed}
use Rattle.lif_model.specs.Commit.{IsCommitted, IsOldOrNew}
use Rattle.lif_model.specs.Writing.{SlotWrites, with_slots, changes_by}
use Rattle.lif_model.specs.Legal.{is_live}
use Rattle.lif_model.specs.Volume.{Volume, volume_in, volume_of}
use Rattle.lif_model.specs.Apply.{is_upgraded}
use Rattle.lif_model.proofs.Writing.{AreEntries, untouched, slots_elsewhere, slots_shape, changes_write}
use Rattle.lif_model.proofs.Slotted.{IsOn, is_on, header_stays}
use Rattle.lif_model.proofs.Written.{Makes}
use Rattle.lif_model.proofs.Outcomes.{commit_leaves, stop_leaves}
use Rattle.lif_pack.specs.Steps.{IsOldOrClosed}
use Rattle.lif_pack.proofs.ClosedVolume.{closed_is_adopted, closed_volume}

-- the slots that are written, and what the directory is then
pub record AreRewritten (n : ℕ) (t : Tape) (v : Volume) (later : List (List ℕ)) (ws : SlotWrites) : Type 0 where
  pub live : filter is_live later ≡ filter is_live v.slots
  pub room : length later ≤ capacity_of v.header
  pub sizes : (k : ℕ) → k < length later → length (get_or later k []) ≡ 32
  pub kinds : (k : ℕ) → k < length later → is_end (get_or later k []) ≡ false
  pub entries : AreEntries (capacity_of v.header) ws
  pub slots : slots_of (with_slots (directory_start v.header) ws t) ≡ later

module _ (n : ℕ) (t : Tape) (v : Volume) (tape : IsTape n t) (inside : volume_in t ≡ Some v) (later : List (List ℕ)) (ws : SlotWrites)
    (are : AreRewritten n t v later ws) where
  abbrev on : IsOn n t v
  on = is_on n t v tape inside

  abbrev start : ℕ
  start = directory_start v.header

  shape : IsTape n (with_slots start ws t)
  shape = slots_shape start n (directory_length v.header) ws t tape (omega (arith, on.ends)) are.entries

  pub rewritten_makes : Makes n v (record v { slots = later }) (changed (changes_by (directory_start v.header) ws t) t)
  rewritten_makes = subst (Makes n v (record v { slots = later }))
      (sym (changes_write start (directory_length v.header) ws are.entries n t t (omega (arith, on.ends)) tape.records tape.records (λ k low high. refl))) (record {
        tape = shape;
        volume = closed_volume n t v on inside later are.live are.room are.sizes are.kinds (with_slots start ws t) shape (header_stays n t v on ws are.entries ∙ sym on.header) are.slots
            (λ k low lt. slots_elsewhere start ws t k (untouched start (directory_length v.header) ws k are.entries (inr low)));
        adopted = λ version adopted. closed_is_adopted n v on.volume later are.live are.room are.sizes are.kinds version ∙ adopted;
      })

  module _ (up : is_upgraded n v ≡ true) where
    pub rewritten_stands : (x : Tape) → IsCommitted Two (changes_by (directory_start v.header) ws t) t x → volume_of x ≡ Some (record v { slots = later })
    rewritten_stands x done = (commit_leaves Two n (changes_by start ws t) t x v (record v { slots = later }) up rewritten_makes done).0

    pub rewritten_stops : (x : Tape) → IsOldOrNew Two (changes_by (directory_start v.header) ws t) t x → IsOldOrClosed v later x
    rewritten_stops x stopped =
        let leaves = stop_leaves Two n (changes_by start ws t) t x v (record v { slots = later }) tape inside up rewritten_makes stopped in
        (elim leaves.0 [ inl was ↦ inl was | inr now ↦ inr now ], leaves.1)
