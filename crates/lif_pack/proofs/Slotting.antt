-- One slot of a volume that is set to another entry: the volume stays one, and the tape has its slots.
use Rattle.std.proofs.Common.{◌≡◌, ◌≢◌, ◌⊎◌, ◌<◌, ◌≤◌, ℕ, List, [], ◌∷◌, true, false, length, get_or, set, inl, inr, sym, ◌∙◌, ap, arith, length-set, get_or-set_other}
use Rattle.std.proofs.lemmas.Bool.{cases_order}
use Rattle.lif_model.specs.Tape.{Tape}
use Rattle.lif_model.specs.Header.{directory_start, directory_length, directory_end}
use Rattle.lif_model.specs.Directory.{name_of, start_of, is_end}
use Rattle.lif_model.specs.Legal.{is_live, occupies, end_of}
use Rattle.lif_model.specs.Volume.{Volume, IsVolume}
use Rattle.lif_model.specs.Writing.{with_slots}
use Rattle.lif_model.proofs.Slots.{occupies_tells, set_new, each_with_new, legal_with_new}
use Rattle.lif_model.proofs.Writing.{slots_shape}
use Rattle.lif_model.proofs.Slotted.{IsOn, header_stays, slot_set}

-- an entry that may stand in slot i of a legal volume: whatever is live beside it lies apart and has another name
pub record MayStand (n : ℕ) (v : Volume) (i : ℕ) (entry : List ℕ) : Type 0 where
  pub here : i < length v.slots
  pub size : length entry ≡ 32
  pub kind : is_end entry ≡ false
  pub above : directory_end v.header ≤ start_of entry
  pub below : end_of entry ≤ n
  pub apart : (k : ℕ) → k < length v.slots → k ≢ i → occupies (get_or v.slots k []) ≡ true
      → (end_of (get_or v.slots k []) ≤ start_of entry) ⊎ (end_of entry ≤ start_of (get_or v.slots k []))
  pub named : (k : ℕ) → k < length v.slots → k ≢ i → is_live (get_or v.slots k []) ≡ true
      → name_of (get_or v.slots k []) ≢ name_of entry

module _ (n : ℕ) (v : Volume) (i : ℕ) (entry : List ℕ) (may : MayStand n v i entry) where
  abbrev later : List (List ℕ)
  later = set v.slots i entry

  count : length later ≡ length v.slots
  count = length-set v.slots i entry

  other : (k : ℕ) → k ≢ i → get_or later k [] ≡ get_or v.slots k []
  other k off = get_or-set_other v.slots i k entry [] off

  pub set_is_volume : IsVolume n v → IsVolume n (record v { slots = later })
  set_is_volume is = record {
    header = is.header;
    legal = legal_with_new n v.header v.slots later i entry (λ k. k) is.legal (set_new v.slots i entry may.here) may.above may.below
        (λ k lt off on. elim (may.apart k (omega (arith, lt, count)) off (sym (ap occupies (other k off)) ∙ on)) [
          | inl le ↦ inl (omega (arith, le, ap end_of (other k off)))
          | inr le ↦ inr (omega (arith, le, ap start_of (other k off)))
        ])
        (λ k lt off live same. may.named k (omega (arith, lt, count)) off (sym (ap is_live (other k off)) ∙ live) (sym (ap name_of (other k off)) ∙ same));
    room = omega (arith, is.room, count);
    entries = each_with_new (λ e. length e ≡ 32) v.slots later i entry (λ k. k) (set_new v.slots i entry may.here) may.size is.entries;
    kinds = each_with_new (λ e. is_end e ≡ false) v.slots later i entry (λ k. k) (set_new v.slots i entry may.here) may.kind is.kinds;
  }

  pub set_is_on : (t : Tape) → IsOn n t v → IsOn n (with_slots (directory_start v.header) ((i, entry) ∷ []) t) (record v { slots = later })
  set_is_on t on = record {
    tape = slots_shape (directory_start v.header) n (directory_length v.header) ((i, entry) ∷ []) t on.tape (omega (arith, on.ends))
        (omega (arith, may.here, on.volume.room), may.size, tt);
    volume = set_is_volume on.volume;
    header = on.header ∙ sym (header_stays n t v on ((i, entry) ∷ []) (omega (arith, may.here, on.volume.room), may.size, tt));
    slots = sym (slot_set n t v on i entry may.here may.size may.kind);
    starts = on.starts;
    ends = on.ends;
  }

-- an entry with the extent and the name of the slot
pub stands_as_before : (n : ℕ) (v : Volume) (i : ℕ) (entry : List ℕ) → IsVolume n v → i < length v.slots → occupies (get_or v.slots i []) ≡ true
    → length entry ≡ 32 → is_end entry ≡ false → start_of entry ≡ start_of (get_or v.slots i []) → end_of entry ≡ end_of (get_or v.slots i [])
    → name_of entry ≡ name_of (get_or v.slots i []) → MayStand n v i entry
stands_as_before n v i entry is lt on size kind start end name = record {
  here = lt;
  size = size;
  kind = kind;
  above = omega (arith, start, (is.legal.within i lt on).0);
  below = omega (arith, end, (is.legal.within i lt on).1);
  apart = λ k less off takes. elim (cases_order k i) [
    | inl e ↦ absurd (off e)
    | inr (inl under) ↦ elim (is.legal.apart k i under lt takes on) [
      | inl le ↦ inl (omega (arith, le, start))
      | inr le ↦ inr (omega (arith, le, end))
    ]
    | inr (inr over) ↦ elim (is.legal.apart i k over less on takes) [
      | inl le ↦ inr (omega (arith, le, end))
      | inr le ↦ inl (omega (arith, le, start))
    ]
  ];
  named = λ k less off live same. elim (cases_order k i) [
    | inl e ↦ off e
    | inr (inl under) ↦ is.legal.distinct k i under lt live (live_here) (same ∙ name)
    | inr (inr over) ↦ is.legal.distinct i k over less (live_here) live (sym (same ∙ name))
  ];
}
  where
    live_here : is_live (get_or v.slots i []) ≡ true
    live_here = (occupies_tells (get_or v.slots i []) on).0
