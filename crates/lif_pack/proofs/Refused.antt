-- What refuses a packing, by the redo entry of a volume.
use Rattle.std.proofs.Common.{◌≡◌, ◌<◌, ◌≤◌, ◌||◌, not, ℕ, List, [], ◌∷◌, Bool, true, false, if◌then◌else◌, Some, None, length, inl, inr, refl, sym, ◌∙◌, ap, arith}
use Rattle.std.proofs.lemmas.Bool.{cases_Bool}
use Rattle.lif_model.specs.declared.version.Version.TheVariants.{One, Two}
use Rattle.lif_model.specs.declared.refusal.Refusal.TheVariants.{NoRedo, NeedsUpgrade, OutOfOrder}
use Rattle.lif_model.specs.Volume.{Volume, IsVolume, is_redo_entry, is_redo_file, is_adopted}
use Rattle.lif_model.specs.Fit.{redo_place}
use Rattle.lif_model.specs.Apply.{is_upgraded, first_met}
use Rattle.lif_model.proofs.Lists.{any_from}
use Rattle.lif_model.proofs.Adopted.{redo_place_is, redo_entry_tells, adopted_some}
use Rattle.lif_model.specs.Packing.{is_in_order, redo_slot, pack_refusal}
use Rattle.lif_pack.specs.Steps.{volume_with, MayPack}
use Rattle.lif_pack.proofs.Finishing.{redo_is_two}

module _ (n : ℕ) (v : Volume) (is : IsVolume n v) where
  not_adopted : is_adopted n v.slots ≡ false → pack_refusal n (Some v) ≡ Some NoRedo
  not_adopted off = by (is_adopted n v.slots) (is_upgraded n v) (is_in_order v.slots) off
    where
      by : (a u o : Bool) → a ≡ false → first_met ((not a, NoRedo) ∷ (not u, NeedsUpgrade) ∷ (not o, OutOfOrder) ∷ []) ≡ Some NoRedo
      by false u o off = refl
      by true u o off = cc

  -- no slot has its name
  pub refused_without : length v.slots ≤ redo_place v.slots → pack_refusal n (Some v) ≡ Some NoRedo
  refused_without none = elim (cases_Bool (is_adopted n v.slots)) [
    | inl on ↦ absurd (omega (arith, none, (redo_place_is n v (record { volume = is; adopted = on })).0))
    | inr off ↦ not_adopted off
  ]

  -- the slot of that name is not of version 2
  pub refused_old : redo_place v.slots < length v.slots → is_redo_entry n Two (redo_slot v) ≡ false
      → pack_refusal n (Some v) ≡ Some (if is_redo_entry n One (redo_slot v) then NeedsUpgrade else NoRedo)
  refused_old lt two = elim (cases_Bool (is_redo_entry n One (redo_slot v))) [
    | inl one ↦
        let on : is_adopted n v.slots ≡ true = any_from [] (is_redo_file n) v.slots (redo_place v.slots) lt (redo_entry_tells n One (redo_slot v) one).0 in
        by (is_adopted n v.slots) (is_upgraded n v) (is_in_order v.slots) on old ∙ sym (ap (λ (b : Bool). Some (if b then NeedsUpgrade else NoRedo)) one)
    | inr none ↦ elim (cases_Bool (is_adopted n v.slots)) [
      | inl on ↦
          let file : is_redo_file n (redo_slot v) ≡ true = (redo_place_is n v (record { volume = is; adopted = on })).1 in
          let no : true ≡ false = sym file ∙ (λ i. none i || (two i || false)) in cc
      | inr off ↦ not_adopted off ∙ sym (ap (λ (b : Bool). Some (if b then NeedsUpgrade else NoRedo)) none)
    ]
  ]
    where
      old : is_upgraded n v ≡ false
      old = elim (cases_Bool (is_upgraded n v)) [
        | inl up ↦ let no : true ≡ false = sym (redo_is_two n v is up) ∙ two in cc
        | inr off ↦ off
      ]

      by : (a u o : Bool) → a ≡ true → u ≡ false → first_met ((not a, NoRedo) ∷ (not u, NeedsUpgrade) ∷ (not o, OutOfOrder) ∷ []) ≡ Some NeedsUpgrade
      by true false o on off = refl
      by false u o on off = cc
      by true true o on off = cc

  -- it is
  pub refused_by_order : redo_place v.slots < length v.slots → is_redo_entry n Two (redo_slot v) ≡ true
      → pack_refusal n (Some v) ≡ (if is_in_order v.slots then None else Some OutOfOrder)
  refused_by_order lt two =
      by (is_adopted n v.slots) (is_upgraded n v) (is_in_order v.slots) (any_from [] (is_redo_file n) v.slots (redo_place v.slots) lt (redo_entry_tells n Two (redo_slot v) two).0)
      (any_from [] (is_redo_entry n Two) v.slots (redo_place v.slots) lt two)
    where
      by : (a u o : Bool) → a ≡ true → u ≡ true → first_met ((not a, NoRedo) ∷ (not u, NeedsUpgrade) ∷ (not o, OutOfOrder) ∷ []) ≡ (if o then None else Some OutOfOrder)
      by true true true on up = refl
      by true true false on up = refl
      by true false o on up = cc
      by false u o on up = cc

-- nothing refuses it
pub refused_by_none : (n : ℕ) (v : Volume) → pack_refusal n (Some v) ≡ None → (is_upgraded n v ≡ true) × (is_in_order v.slots ≡ true)
refused_by_none n v none = by (is_adopted n v.slots) (is_upgraded n v) (is_in_order v.slots) none
  where
    by : (a u o : Bool) → first_met ((not a, NoRedo) ∷ (not u, NeedsUpgrade) ∷ (not o, OutOfOrder) ∷ []) ≡ None → (u ≡ true) × (o ≡ true)
    by true true true none = (refl, refl)
    by true true false none = cc
    by true false o none = cc
    by false u o none = cc

-- ---- a mark that is taken off, and a file that is finished, change nothing of it

pub refused_alike : (n : ℕ) (v w : Volume) → is_adopted n v.slots ≡ true → is_adopted n w.slots ≡ true → is_upgraded n w ≡ is_upgraded n v → is_in_order w.slots ≡ is_in_order v.slots
    → pack_refusal n (Some w) ≡ pack_refusal n (Some v)
refused_alike n v w adopted adopted_w up order =
    λ i. first_met ((not ((adopted_w ∙ sym adopted) i), NoRedo) ∷ (not (up i), NeedsUpgrade) ∷ (not (order i), OutOfOrder) ∷ [])

pub refused_never : (n : ℕ) (v : Volume) → is_adopted n v.slots ≡ true → is_upgraded n v ≡ true → is_in_order v.slots ≡ true → pack_refusal n (Some v) ≡ None
refused_never n v adopted up order = λ i. first_met ((not (adopted i), NoRedo) ∷ (not (up i), NeedsUpgrade) ∷ (not (order i), OutOfOrder) ∷ [])

pub may_never : (n first end redo : ℕ) (slots : List (List ℕ)) → MayPack n first end redo slots → (v : Volume) → pack_refusal n (Some (record v { slots = slots })) ≡ None
may_never n first end redo slots may v = refused_never n (volume_with may.header slots) (adopted_some n Two slots may.version) may.version may.in_order
