-- The slots of a directory without the mark: they may be packed where those with it are in order.
use Rattle.std.proofs.Common.{◌≡◌, ◌<◌, ℕ, List, [], Bool, true, false, length, get_or, set, inl, inr, refl, sym, ◌∙◌, ap, subst, arith, length-set, get_or-set_same, get_or-set_other}
use Rattle.std.proofs.lemmas.Bool.{cases_eq}
use Rattle.lif_model.specs.Header.{directory_start, directory_end}
use Rattle.lif_model.specs.Directory.{start_of}
use Rattle.lif_model.specs.declared.version.Version.TheVariants.{Two}
use Rattle.lif_model.specs.Legal.{is_live, occupies}
use Rattle.lif_model.specs.Volume.{IsVolume, Volume, is_redo_entry}
use Rattle.lif_model.specs.Fit.{redo_place}
use Rattle.lif_model.specs.Apply.{is_upgraded}
use Rattle.lif_model.proofs.Adopted.{redo_is_alone, redo_file_is_named, redo_entry_tells}
use Rattle.lif_model.specs.Packing.{is_in_order, redo_slot, marked_slot, marked_count, unmarked, bears_mark}
use Rattle.lif_pack.specs.Steps.{volume_with, MayPack, HasPlainStart}
use Rattle.lif_pack.proofs.Entries.{unmarked_slot, unmarked_count, unmarked_redo}
use Rattle.lif_pack.proofs.Order.{order_on}
use Rattle.lif_pack.proofs.Finishing.{upgraded_is_adopted, redo_here, redo_is_two, cleared, cleared_is_volume, clear_of, occupies_alike, live_alike, cleared_is_alike}
use Rattle.lif_pack.proofs.Plain.{plain_unmarked}

module _ (n : ℕ) (header : List ℕ) (slots : List (List ℕ)) (is : IsVolume n (volume_with header slots)) (up : is_upgraded n (volume_with header slots) ≡ true) where
  abbrev w : Volume
  w = volume_with header slots

  abbrev r : ℕ
  r = redo_place slots

  abbrev entry : List ℕ
  entry = redo_slot w

  abbrev later : List (List ℕ)
  later = set slots r (unmarked entry)

  abbrev w' : Volume
  w' = cleared n w is up

  volume' : IsVolume n w'
  volume' = cleared_is_volume n w is up

  here : r < length slots
  here = redo_here n w is up

  size : length entry ≡ 32
  size = is.entries r here

  count : length later ≡ length slots
  count = length-set slots r (unmarked entry)

  at_redo : get_or later r [] ≡ unmarked entry
  at_redo = get_or-set_same slots r (unmarked entry) [] here

  redo_stands : is_redo_entry n Two (get_or later r []) ≡ true
  redo_stands = ap (is_redo_entry n Two) at_redo ∙ unmarked_redo entry size n Two ∙ redo_is_two n w is up

  both : (is_upgraded n w' ≡ true) × (bears_mark n w' ≡ false)
  both = clear_of n w' r volume' (omega (arith, here, count)) redo_stands (ap (λ (e : List ℕ). marked_slot e) at_redo ∙ unmarked_slot entry size) (ap (λ (e : List ℕ). marked_count e) at_redo ∙ unmarked_count entry size)

  redo_later : redo_place later ≡ r
  redo_later = sym (redo_is_alone n w' r (upgraded_is_adopted n w' volume' both.0) (omega (arith, here, count)) (redo_file_is_named n (get_or later r []) (redo_entry_tells n Two (get_or later r []) redo_stands).0))

  alive : (k : ℕ) → is_live (get_or later k []) ≡ is_live (get_or slots k [])
  alive k = live_alike (get_or later k []) (get_or slots k []) (cleared_is_alike n w is up k).type

  takes : (k : ℕ) → occupies (get_or later k []) ≡ occupies (get_or slots k [])
  takes k = occupies_alike (get_or later k []) (get_or slots k []) (cleared_is_alike n w is up k)

  start : (k : ℕ) → start_of (get_or later k []) ≡ start_of (get_or slots k [])
  start k = (cleared_is_alike n w is up k).start

  -- they are in order where those with it are
  pub cleared_order : is_in_order (set slots (redo_place slots) (unmarked (redo_slot (volume_with header slots)))) ≡ is_in_order slots
  cleared_order = by (is_in_order later) (is_in_order slots) refl refl
    where
      by : (a b : Bool) → is_in_order later ≡ a → is_in_order slots ≡ b → a ≡ b
      by true true now was = refl
      by false false now was = refl
      by true false now was = sym (order_on later slots (sym count) (sym redo_later) (λ k. sym (alive k)) (λ k. sym (takes k)) (λ k. sym (start k)) now) ∙ was
      by false true now was = sym now ∙ order_on slots later count redo_later alive takes start was

  pub cleared_may : (first end : ℕ) → is_in_order slots ≡ true → ((k : ℕ) → k < length slots → occupies (get_or slots k []) ≡ true → HasPlainStart (get_or slots k []))
      → directory_start header ≡ first → directory_end header ≡ end
      → MayPack n first end (redo_place slots) (set slots (redo_place slots) (unmarked (redo_slot (volume_with header slots))))
  cleared_may first end in_order plain starts ends = record {
    header = header;
    volume = volume';
    starts = starts;
    ends = ends;
    version = both.0;
    unmarked = both.1;
    in_order = cleared_order ∙ in_order;
    redo_is = redo_later;
    plain = λ k lt on. elim (cases_eq k r) [
      | inl e ↦ subst HasPlainStart (sym (ap (λ (m : ℕ). get_or later m []) e ∙ at_redo)) (plain_unmarked entry size (plain r here (ap (λ (m : ℕ). occupies (get_or slots m [])) (sym e) ∙ sym (takes k) ∙ on)))
      | inr off ↦ subst HasPlainStart (sym (get_or-set_other slots r k (unmarked entry) [] off)) (plain k (omega (arith, lt, count)) (sym (takes k) ∙ on))
    ];
  }
