-- Slots that changed places, the live ones standing in the same order: they may be packed as those before.
use Rattle.std.proofs.Common.{◌≡◌, ◌∷◌, ◌++◌, ◌<◌, not, ℕ, suc, List, [], Bool, true, false, length, get_or, filter, inl, inr, refl, sym, ◌∙◌, ap, subst, arith}
use Rattle.std.proofs.lemmas.Bool.{and_from, cases_Bool, not_from_false, not-true}
use Rattle.lif_model.specs.Header.{directory_end}
use Rattle.lif_model.specs.Directory.{is_purged}
use Rattle.lif_model.specs.Pairs.{all_pairs}
use Rattle.lif_model.specs.declared.version.Version.TheVariants.{Two}
use Rattle.lif_model.specs.Writing.{SlotWrites}
use Rattle.lif_model.specs.Legal.{is_live, occupies, is_live_named}
use Rattle.lif_model.specs.Volume.{Volume, IsVolume, redo_name, is_redo_entry}
use Rattle.lif_model.specs.Fit.{redo_place}
use Rattle.lif_model.specs.Apply.{is_upgraded}
use Rattle.lif_model.proofs.Lists.{filter_pairs_tell}
use Rattle.lif_model.proofs.Slots.{occupies_tells}
use Rattle.lif_model.proofs.Adopted.{redo_is_alone, redo_file_is_named, redo_file_is_live, redo_entry_tells}
use Rattle.lif_commit.specs.Staged.{AreBefore}
use Rattle.lif_model.specs.Packing.{rises, is_in_order, slots_after, redo_slot, marked_slot, marked_count, bears_mark, unmarked, packed_from}
use Rattle.lif_pack.specs.Steps.{volume_with, HasPlainStart, MayPack, ArePackedAlike, MayStillPack}
use Rattle.lif_pack.proofs.Order.{parts, live_before_redo}
use Rattle.lif_pack.proofs.Walking.{purged_all}
use Rattle.lif_pack.proofs.Finishing.{upgraded_is_adopted, redo_here, redo_is_two, clear_of}
use Rattle.lif_pack.proofs.MovedVolume.{no_mark_is_zero}
use Rattle.lif_pack.proofs.Filtering.{filter_at, filter_has}
use Rattle.lif_pack.proofs.ClosedTape.{closed_is, closed_with, closed_occupying, closed_files}

-- the first of two slots is not named as the redo file is
abbrev is_other : List ℕ → List ℕ → Bool
is_other a b = not (is_live_named redo_name a)

module _ (n first end redo : ℕ) (old : List (List ℕ)) (may : MayPack n first end redo old) (later : List (List ℕ)) (live : filter is_live later ≡ filter is_live old)
    (count : length later ≡ length old) (ws : SlotWrites) (are : AreBefore (length old) (length old) ws) (becomes : slots_after ws old ≡ later) where
  abbrev w : Volume
  w = volume_with may.header old

  abbrev w' : Volume
  w' = volume_with may.header later

  volume' : IsVolume n w'
  volume' = closed_is n w may.volume later live count ws are becomes

  version' : is_upgraded n w' ≡ true
  version' = closed_with n w may.volume later live count ws are becomes Two ∙ may.version

  -- ---- where the redo entry stands

  entry_tells : is_redo_entry n Two (redo_slot w) ≡ true
  entry_tells = redo_is_two n w may.volume may.version

  abbrev kept : (k : ℕ) × (k < length (filter is_live old)) × (get_or (filter is_live old) k [] ≡ redo_slot w)
  kept = filter_has is_live old (redo_place old) (redo_here n w may.volume may.version) (redo_file_is_live n (redo_slot w) (redo_entry_tells n Two (redo_slot w) entry_tells).0)

  abbrev found : (j : ℕ) × (j < length later) × (is_live (get_or later j []) ≡ true) × (get_or (filter is_live later) kept.0 [] ≡ get_or later j [])
  found = filter_at is_live later kept.0 (subst (λ (xs : List (List ℕ)). kept.0 < length xs) (sym live) kept.1)

  here : get_or later found.0 [] ≡ redo_slot w
  here = sym found.3 ∙ ap (λ (xs : List (List ℕ)). get_or xs kept.0 []) live ∙ kept.2

  named : is_live_named redo_name (get_or later found.0 []) ≡ true
  named = ap (is_live_named redo_name) here ∙ redo_file_is_named n (redo_slot w) (redo_entry_tells n Two (redo_slot w) entry_tells).0

  both : (is_upgraded n w' ≡ true) × (bears_mark n w' ≡ false)
  both =
      let zero = no_mark_is_zero n w may.version may.unmarked in
      clear_of n w' found.0 volume' found.1 (ap (is_redo_entry n Two) here ∙ entry_tells)
      (ap (λ (e : List ℕ). marked_slot e) here ∙ zero.0) (ap (λ (e : List ℕ). marked_count e) here ∙ zero.1)

  redo_later : found.0 ≡ redo_place later
  redo_later = redo_is_alone n w' found.0 (upgraded_is_adopted n w' volume' version') found.1 named

  -- ---- in order

  last_before : all_pairs is_other (filter is_live old) ≡ true
  last_before = (filter_pairs_tell [] is_live is_other old).1 (λ i j less long live_i live_j. elim (cases_Bool (is_live_named redo_name (get_or old i []))) [
    | inl on ↦
        let at : i ≡ redo_place old = redo_is_alone n w i (upgraded_is_adopted n w may.volume may.version) (omega (arith, less, long)) on in
        absurd (omega (arith, at, less, live_before_redo old may.in_order j long live_j))
    | inr off ↦ ap (λ (b : Bool). not b) off
  ])

  last_later : all_pairs is_other (filter is_live later) ≡ true
  last_later = ap (all_pairs is_other) live ∙ last_before

  in_order' : is_in_order later ≡ true
  in_order' = and_from (all_pairs rises (filter occupies later)) _
      (ap (all_pairs rises) (closed_occupying n w may.volume later live count ws are becomes) ∙ (parts old may.in_order).0)
      (purged_all later (suc (redo_place later)) (λ k le lt. elim (cases_Bool (is_purged (get_or later k []))) [
        | inl purged ↦ purged
        | inr alive ↦
            let other = (filter_pairs_tell [] is_live is_other later).0 last_later found.0 k (omega (arith, redo_later, le)) lt found.2 (not_from_false _ alive) in
            let no : true ≡ false = sym named ∙ not-true _ other in
            cc
      ]))

  pub closed_may : MayPack n first end (redo_place later) later
  closed_may = record {
    header = may.header;
    volume = volume';
    starts = may.starts;
    ends = may.ends;
    version = version';
    unmarked = both.1;
    in_order = in_order';
    redo_is = refl;
    plain = λ k lt on.
        let kept = filter_has is_live later k lt (occupies_tells (get_or later k []) on).0 in
        let found = filter_at is_live old kept.0 (subst (λ (xs : List (List ℕ)). kept.0 < length xs) live kept.1) in
        let same : get_or old found.0 [] ≡ get_or later k [] = sym found.3 ∙ ap (λ (xs : List (List ℕ)). get_or xs kept.0 []) (sym live) ∙ kept.2 in
        subst HasPlainStart same (may.plain found.0 found.1 (ap occupies same ∙ on));
  }

  -- packing makes the same of them
  pub closed_alike : ArePackedAlike n end old later
  closed_alike v ends =
      let files = closed_files n w may.volume later live count ws are becomes in
      let redo_same : redo_slot (record v { slots = later }) ≡ redo_slot (record v { slots = old }) = ap (λ (k : ℕ). get_or later k []) (sym redo_later) ∙ here in
      λ q. record v { slots = packed_from (directory_end v.header) (files q) ++ unmarked (redo_same q) ∷ [] }

pub closed_still : (n first : ℕ) (old later : List (List ℕ)) → filter is_live later ≡ filter is_live old → length later ≡ length old → (ws : SlotWrites)
    → AreBefore (length old) (length old) ws → slots_after ws old ≡ later → MayStillPack n first old later
closed_still n first old later live count ws are becomes end redo may =
    (redo_place later, closed_may n first end redo old may later live count ws are becomes, closed_alike n first end redo old may later live count ws are becomes)
