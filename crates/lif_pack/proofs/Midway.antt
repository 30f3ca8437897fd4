-- A tape between two commits of a move has a good mark, and is finished to what the tape before the move is finished to.
use Rattle.std.proofs.Common.{filter, ◌≡◌, ◌≢◌, ◌<◌, ◌+◌, ◌++◌, ◌&&◌, ◌==◌, nat_lt, ℕ, suc, List, [], Bool, true, not, if◌then◌else◌, Option, Some, None, length, get_or, set, take, replicate, inl, inr, sym, ◌∙◌, ap, arith, length-set, get_or-set_same, get_or-set_other}
use Rattle.std.proofs.lemmas.Bool.{and_from, cases_eq, cases_Bool, lt-ltb, not_from_false}
use Rattle.std.proofs.lemmas.List.{take-set-le}
use Rattle.lif_model.specs.Header.{directory_end}
use Rattle.lif_model.specs.Directory.{name_of, type_of, start_of, length_of, is_purged}
use Rattle.lif_model.specs.Pairs.{all_pairs}
use Rattle.lif_model.specs.declared.version.Version.TheVariants.{Two}
use Rattle.lif_model.specs.Legal.{is_live, occupies, is_live_named}
use Rattle.lif_model.specs.Volume.{Volume, IsVolume, redo_name, is_redo_entry}
use Rattle.lif_model.specs.Fit.{redo_place}
use Rattle.lif_model.specs.Apply.{is_upgraded}
use Rattle.lif_model.proofs.Lists.{any_from, filter_pairs_tell}
use Rattle.lif_model.proofs.Adopted.{redo_is_alone, redo_file_is_named, redo_entry_tells}
use Rattle.lif_model.specs.Packing.{live_records, rises, is_in_order, are_packed, packed_start, redo_slot, marked_slot, marked_count, unmarked, bears_mark, is_move, moving_slot, good_mark, move_of}
use Rattle.lif_pack.proofs.Entries.{unmarked_name, unmarked_type, unmarked_start, unmarked_length, unmarked_redo}
use Rattle.lif_pack.proofs.Order.{CanMove, rise, live_before_redo}
use Rattle.lif_pack.proofs.Walking.{purged_all}
use Rattle.lif_pack.proofs.Slotting.{MayStand, stands_as_before, set_is_volume}
use Rattle.lif_pack.proofs.Finishing.{redo_here, redo_is_two, IsAlike, occupies_alike, upgraded_is_adopted}
use Rattle.lif_pack.proofs.Marking.{marked_some}

-- ---- the redo entry with another mark

module _ (a b : List ℕ) (size_a : length a ≡ 32) (size_b : length b ≡ 32) (rest : take 28 a ≡ take 28 b) where
  same_unmarked : unmarked a ≡ unmarked b
  unfolding unmarked
  same_unmarked = ap (λ (e : List ℕ). e ++ replicate 4 0) rest

  pub same_but_mark : IsAlike a b
  same_but_mark = record {
    type = sym (unmarked_type a size_a) ∙ ap type_of same_unmarked ∙ unmarked_type b size_b;
    start = sym (unmarked_start a size_a) ∙ ap start_of same_unmarked ∙ unmarked_start b size_b;
    long = sym (unmarked_length a size_a) ∙ ap length_of same_unmarked ∙ unmarked_length b size_b;
    name = sym (unmarked_name a size_a) ∙ ap name_of same_unmarked ∙ unmarked_name b size_b;
  }

  pub same_redo_entry : (n : ℕ) → is_redo_entry n Two a ≡ is_redo_entry n Two b
  same_redo_entry n = sym (unmarked_redo a size_a n Two) ∙ ap (is_redo_entry n Two) same_unmarked ∙ unmarked_redo b size_b n Two

-- ---- the volume with that mark

module _ (n : ℕ) (v : Volume) (is : IsVolume n v) (up : is_upgraded n v ≡ true) (entry : List ℕ) (size : length entry ≡ 32)
    (rest : take 28 entry ≡ take 28 (redo_slot v)) where
  abbrev r : ℕ
  r = redo_place v.slots

  abbrev later : List (List ℕ)
  later = set v.slots r entry

  abbrev pub remarked : Volume
  remarked = record v { slots = later }

  within : r < length v.slots
  within = redo_here n v is up

  alike_entry : IsAlike entry (redo_slot v)
  alike_entry = same_but_mark entry (redo_slot v) size (is.entries r within) rest

  here : get_or later r [] ≡ entry
  here = get_or-set_same v.slots r entry [] within

  other : (k : ℕ) → k ≢ r → get_or later k [] ≡ get_or v.slots k []
  other k off = get_or-set_other v.slots r k entry [] off

  alike : (k : ℕ) → IsAlike (get_or later k []) (get_or v.slots k [])
  alike k = elim (cases_eq k r) [
    | inl e ↦
        let now : get_or later k [] ≡ entry = ap (λ (m : ℕ). get_or later m []) e ∙ here in
        let was : redo_slot v ≡ get_or v.slots k [] = ap (λ (m : ℕ). get_or v.slots m []) (sym e) in
        record {
          type = ap type_of now ∙ alike_entry.type ∙ ap type_of was;
          start = ap start_of now ∙ alike_entry.start ∙ ap start_of was;
          long = ap length_of now ∙ alike_entry.long ∙ ap length_of was;
          name = ap name_of now ∙ alike_entry.name ∙ ap name_of was;
        }
    | inr off ↦ let same = other k off in record { type = ap type_of same; start = ap start_of same; long = ap length_of same; name = ap name_of same }
  ]

  redo_is : is_redo_entry n Two entry ≡ true
  redo_is = same_redo_entry entry (redo_slot v) size (is.entries r within) rest n ∙ redo_is_two n v is up

  pub remarked_may_stand : MayStand n v r entry
  remarked_may_stand = stands_as_before n v r entry is within (redo_entry_tells n Two (redo_slot v) (redo_is_two n v is up)).1 size
      (ap (λ (k : ℕ). k == 0xFFFF) alike_entry.type ∙ is.kinds r within) alike_entry.start (omega (arith, alike_entry.start, alike_entry.long)) alike_entry.name

  pub remarked_is_volume : IsVolume n remarked
  remarked_is_volume = set_is_volume n v r entry remarked_may_stand is

  count : length later ≡ length v.slots
  count = length-set v.slots r entry

  up_later : is_upgraded n remarked ≡ true
  up_later = any_from [] (is_redo_entry n Two) later r (omega (arith, count, within)) (ap (is_redo_entry n Two) here ∙ redo_is)

  -- the redo entry stands where it did
  pub same_place : redo_place later ≡ r
  same_place = sym (redo_is_alone n remarked r (upgraded_is_adopted n remarked remarked_is_volume up_later) (omega (arith, count, within))
      (ap (is_live_named redo_name) here ∙ redo_file_is_named n entry (redo_entry_tells n Two entry redo_is).0))

  pub remarked_redo : redo_slot remarked ≡ entry
  remarked_redo = ap (λ (m : ℕ). get_or later m []) same_place ∙ here

  -- it is in order where it was
  pub remarked_in_order : is_in_order v.slots ≡ true → is_in_order later ≡ true
  remarked_in_order in_order =
      let rising : all_pairs rises (filter occupies later) ≡ true = (filter_pairs_tell [] occupies rises later).1 (λ a b less long first second.
      let up_to = rise v.slots in_order a b less (omega (arith, long, count))
      (sym (occupies_alike (get_or later a []) (get_or v.slots a []) (alike a)) ∙ first)
      (sym (occupies_alike (get_or later b []) (get_or v.slots b []) (alike b)) ∙ second) in
      lt-ltb _ _ (omega (arith, up_to, (alike a).start, (alike b).start))) in
      and_from (all_pairs rises (filter occupies later)) _ rising (purged_all later (suc (redo_place later)) (λ k le lt. elim (cases_Bool (is_purged (get_or later k []))) [
        | inl purged ↦ purged
        | inr live ↦ absurd (omega (
          arith,
          le,
          same_place,
          live_before_redo v.slots in_order k (omega (arith, lt, count))
              (sym (ap (λ (m : ℕ). not (m == 0)) (alike k).type) ∙ not_from_false _ live),
        ))
      ]))

  -- the mark is good with another count
  pub remarked_moves : (i j j0 : ℕ) → CanMove v i j0 → 0 < j → j < length_of (get_or v.slots i []) → marked_slot entry ≡ suc i → marked_count entry ≡ j
      → (bears_mark n remarked ≡ true) × (move_of remarked ≡ Some (i, j))
  remarked_moves i j j0 can some fewer number moved =
      let off : i ≢ r = λ e. absurd (omega (arith, e, can.before_redo)) in
      let slot : get_or later i [] ≡ get_or v.slots i [] = other i off in
      let front : take i later ≡ take i v.slots = take-set-le i v.slots r entry (omega (arith, can.before_redo)) in
      let is_move_now : is_move remarked i j ≡ true =
      and_from (nat_lt i (redo_place later) && is_live (get_or later i [])) _
      (and_from (nat_lt i (redo_place later)) _ (lt-ltb i (redo_place later) (omega (arith, same_place, can.before_redo))) (ap is_live slot ∙ can.live))
      (and_from (nat_lt 0 j && nat_lt j (length_of (get_or later i []))) _
      (and_from (nat_lt 0 j) _ (lt-ltb 0 j some) (lt-ltb j (length_of (get_or later i [])) (omega (arith, fewer, ap length_of slot))))
      (and_from (is_in_order later) _ (remarked_in_order can.in_order)
      (and_from (are_packed (directory_end v.header) (take i later)) _ (ap (are_packed (directory_end v.header)) front ∙ can.packed)
      (lt-ltb (packed_start remarked i) (start_of (get_or later i []))
      (omega (arith, can.down, ap start_of slot, ap (λ (xs : List (List ℕ)). directory_end v.header + live_records xs) front)))))) in
      let entry_here = remarked_redo in
      let named : move_of remarked ≡ good_mark remarked (Some i) = ap (λ (m : ℕ). good_mark remarked (moving_slot m)) (ap marked_slot entry_here ∙ number) in
      let counted : marked_count (redo_slot remarked) ≡ j = ap marked_count entry_here ∙ moved in (
        marked_some n remarked (omega (arith, same_place, count, within)) (ap (is_redo_entry n Two) entry_here ∙ redo_is)
            (inl (λ e. absurd (omega (arith, e, ap marked_slot entry_here, number)))),
        named ∙ ap (λ (b : Bool). by b i (marked_count (redo_slot remarked))) (ap (is_move remarked i) counted ∙ is_move_now) ∙ ap (λ (m : ℕ). some_pair i m) counted,
      )
    where
      some_pair : ℕ → ℕ → Option (ℕ × ℕ)
      some_pair a b = Some (a, b)

      by : Bool → ℕ → ℕ → Option (ℕ × ℕ)
      by b a c = if b then Some (a, c) else None
