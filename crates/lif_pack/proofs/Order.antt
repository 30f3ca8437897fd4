-- Volumes in order, and the places of their files.
use Rattle.std.proofs.Common.{filter, ◌≡◌, ◌⊎◌, ◌<◌, ◌≤◌, ◌+◌, ◌-◌, ◌&&◌, ◌==◌, not, ℕ, zero, suc, List, [], ◌∷◌, Bool, true, false, if◌then◌else◌, length, get_or, take, drop, inl, inr, refl, sym, ◌∙◌, ap, subst, arith, get_or-take, Option, Some, None, get_or-drop, length-drop, length-take, nat_lt}
use Rattle.std.specs.Prelude.{unwrap_or}
use Rattle.std.specs.List.{list_all}
use Rattle.lif_model.specs.Pairs.{all_pairs}
use Rattle.std.proofs.lemmas.Bool.{and_parts, and_from, cases_lt, ltb-true, eqb-true, lt-ltb, not-true}
use Rattle.lif_model.specs.Header.{directory_end}
use Rattle.lif_model.specs.Directory.{start_of, length_of, is_purged}
use Rattle.lif_model.specs.Legal.{is_live, occupies, end_of}
use Rattle.lif_model.specs.Volume.{Volume, IsVolume}
use Rattle.lif_model.specs.Fit.{redo_place}
use Rattle.lif_model.proofs.Lists.{all_at, all_from, filter_pairs_tell}
use Rattle.lif_model.proofs.Slots.{occupies_tells}
use Rattle.lif_model.specs.Packing.{rises, is_in_order, live_length, live_records, stands_at, packed_start, are_packed, redo_slot, marked_count, is_move, moving_slot, marked_slot, good_mark, move_of}

-- ---- in order

module _ (slots : List (List ℕ)) (in_order : is_in_order slots ≡ true) where
  pub parts : (all_pairs rises (filter occupies slots) ≡ true) × (list_all is_purged (drop (suc (redo_place slots)) slots) ≡ true)
  parts = and_parts (all_pairs rises (filter occupies slots)) (list_all is_purged (drop (suc (redo_place slots)) slots)) in_order

  -- of two slots with records the first one begins first
  pub rise : (i j : ℕ) → i < j → j < length slots → occupies (get_or slots i []) ≡ true → occupies (get_or slots j []) ≡ true
      → start_of (get_or slots i []) < start_of (get_or slots j [])
  rise i j lt long first second = ltb-true _ _ ((filter_pairs_tell [] occupies rises slots).0 parts.0 i j lt long first second)

  -- a live slot does not stand after the redo entry
  pub live_before_redo : (k : ℕ) → k < length slots → is_live (get_or slots k []) ≡ true → k ≤ redo_place slots
  live_before_redo k lt live = elim (cases_lt (redo_place slots) k) [
    | inr le ↦ le
    | inl after ↦
        let r : ℕ = suc (redo_place slots) in
        let here : is_purged (get_or (drop r slots) (k - r) []) ≡ true = all_at [] is_purged (drop r slots) (k - r) parts.1 (omega (arith, lt, after, length-drop r slots)) in
        let same : get_or (drop r slots) (k - r) [] ≡ get_or slots k [] = get_or-drop r slots (k - r) [] ∙ ap (λ (m : ℕ). get_or slots m []) (omega (arith, after)) in
        let no : true ≡ false = sym here ∙ ap is_purged same ∙ not-true _ live in
        cc
  ]

-- slots that begin where others do, and are live where those are: they are in order where those are
pub order_on : (xs ys : List (List ℕ)) → length ys ≡ length xs → redo_place ys ≡ redo_place xs → ((k : ℕ) → is_live (get_or ys k []) ≡ is_live (get_or xs k []))
    → ((k : ℕ) → occupies (get_or ys k []) ≡ occupies (get_or xs k [])) → ((k : ℕ) → start_of (get_or ys k []) ≡ start_of (get_or xs k [])) → is_in_order xs ≡ true → is_in_order ys ≡ true
order_on xs ys size place live takes start in_order = and_from (all_pairs rises (filter occupies ys)) _
    ((filter_pairs_tell [] occupies rises ys).1 (λ a b less long on_a on_b.
    lt-ltb _ _ (omega (arith, start a, start b, rise xs in_order a b less (omega (arith, long, size)) (sym (takes a) ∙ on_a) (sym (takes b) ∙ on_b)))))
    (all_from [] is_purged (drop (suc (redo_place ys)) ys) (λ i lt.
    let from : ℕ = suc (redo_place ys) in
    let under : from + i < length ys = omega (arith, lt, length-drop from ys) in
    ap is_purged (get_or-drop from ys i []) ∙ not_from_true (is_purged (get_or ys (from + i) [])) (λ alive.
    absurd (omega (arith, place, live_before_redo xs in_order (from + i) (omega (arith, under, size)) (sym (live (from + i)) ∙ alive))))))
  where
    not_from_true : (b : Bool) → (not b ≡ true → ⊥) → b ≡ true
    not_from_true true off = refl
    not_from_true false off = absurd (off refl)

-- ---- at their places

-- where a file that has records stands at its place it begins there
pub standing : (place : ℕ) (slot : List ℕ) → stands_at place slot ≡ true → occupies slot ≡ true → start_of slot ≡ place
standing place slot is on = eqb-true (start_of slot) place (sym (ap (λ (b : Bool). if b then start_of slot == place else true) on) ∙ is)

pub live_whole : (slot : List ℕ) → is_live slot ≡ true → live_length slot ≡ length_of slot
live_whole slot live = ap (λ (b : Bool). if b then length_of slot else 0) live

-- files that stand at their places lie between the first place and the one after them
pub packed_within : (place : ℕ) (slots : List (List ℕ)) → are_packed place slots ≡ true → (k : ℕ) → k < length slots → occupies (get_or slots k []) ≡ true
    → (place ≤ start_of (get_or slots k [])) × (end_of (get_or slots k []) ≤ place + live_records slots)
packed_within place [] are k lt on = absurd (omega arith)
packed_within place (slot ∷ slots) are zero lt on =
    let both = and_parts (stands_at place slot) _ are in
    let here : start_of slot ≡ place = standing place slot both.0 on in
    let counted : live_length slot ≡ length_of slot = live_whole slot (occupies_tells slot on).0 in
    (omega (arith, here), omega (arith, here, counted))
packed_within place (slot ∷ slots) are (suc k) lt on =
    let both = and_parts (stands_at place slot) _ are in
    let rest = packed_within (place + live_length slot) slots both.1 k (omega arith) on in
    (omega (arith, rest.0), omega (arith, rest.1))

-- ---- a file that can be moved

-- Slot i holds a file of which j records, and not all, can stand at its place already, or none.
pub record CanMove (v : Volume) (i j : ℕ) : Type 0 where
  pub before_redo : i < redo_place v.slots
  pub live : is_live (get_or v.slots i []) ≡ true
  pub fewer : j < length_of (get_or v.slots i [])
  pub in_order : is_in_order v.slots ≡ true
  pub packed : are_packed (directory_end v.header) (take i v.slots) ≡ true
  pub down : packed_start v i < start_of (get_or v.slots i [])

pub move_tells : (v : Volume) (i j : ℕ) → is_move v i j ≡ true → CanMove v i j × (0 < j)
move_tells v i j is =
    let slot : List ℕ = get_or v.slots i [] in
    let first = and_parts (nat_lt i (redo_place v.slots) && is_live slot) _ is in
    let one = and_parts (nat_lt i (redo_place v.slots)) (is_live slot) first.0 in
    let second = and_parts (nat_lt 0 j && nat_lt j (length_of slot)) _ first.1 in
    let two = and_parts (nat_lt 0 j) (nat_lt j (length_of slot)) second.0 in
    let third = and_parts (is_in_order v.slots) _ second.1 in
    let last = and_parts (are_packed (directory_end v.header) (take i v.slots)) _ third.1 in (
      record {
        before_redo = ltb-true i (redo_place v.slots) one.0;
        live = one.1;
        fewer = ltb-true j (length_of slot) two.1;
        in_order = third.0;
        packed = last.0;
        down = ltb-true (packed_start v i) (start_of slot) last.1;
      },
      ltb-true 0 j two.0,
    )

-- the mark of a volume names a file that can be moved, or none
move_both : (v : Volume) (i j : ℕ) → move_of v ≡ Some (i, j) → CanMove v i j × (0 < j)
move_both v i j is = go (moving_slot (marked_slot (redo_slot v))) is
  where
    marked : (k : ℕ) → Bool → Option (ℕ × ℕ)
    marked k b = if b then Some (k, marked_count (redo_slot v)) else None

    by : (k : ℕ) (b : Bool) → is_move v k (marked_count (redo_slot v)) ≡ b → marked k b ≡ Some (i, j) → CanMove v i j × (0 < j)
    by k false e none = cc
    by k true e same =
        let pair : (k, marked_count (redo_slot v)) ≡ (i, j) = ap (λ (o : Option (ℕ × ℕ)). unwrap_or o (i, j)) same in
        subst (λ (p : ℕ × ℕ). CanMove v p.0 p.1 × (0 < p.1)) pair (move_tells v k (marked_count (redo_slot v)) e)

    go : (named : Option ℕ) → good_mark v named ≡ Some (i, j) → CanMove v i j × (0 < j)
    go None none = cc
    go (Some k) same = by k (is_move v k (marked_count (redo_slot v))) refl same

pub move_is : (v : Volume) (i j : ℕ) → move_of v ≡ Some (i, j) → CanMove v i j
move_is v i j is = (move_both v i j is).0

pub move_some : (v : Volume) (i j : ℕ) → move_of v ≡ Some (i, j) → 0 < j
move_some v i j is = (move_both v i j is).1

-- of a legal volume: what such a file's records, at the old and at the new place, leave free
module _ (n : ℕ) (v : Volume) (i j : ℕ) (is : IsVolume n v) (within : redo_place v.slots < length v.slots) (can : CanMove v i j) where
  abbrev slot : List ℕ
  slot = get_or v.slots i []

  pub here : i < length v.slots
  here = omega (arith, within, can.before_redo)

  pub takes : occupies slot ≡ true
  takes = and_from (is_live slot) _ can.live (lt-ltb 0 (length_of slot) (omega (arith, can.fewer)))

  pub above_directory : directory_end v.header ≤ packed_start v i
  above_directory = omega arith

  -- a file before it ends before the new place, and one after it begins after the old one
  pub others_clear : (k : ℕ) → k < length v.slots → (k ≡ i → ⊥) → occupies (get_or v.slots k []) ≡ true
      → (end_of (get_or v.slots k []) ≤ packed_start v i) ⊎ (end_of slot ≤ start_of (get_or v.slots k []))
  others_clear k lt off on = elim (cases_lt k i) [
    | inl under ↦
        let front : List (List ℕ) = take i v.slots in
        let same : get_or front k [] ≡ get_or v.slots k [] = get_or-take i v.slots k [] under in
        let rest = packed_within (directory_end v.header) front can.packed k (omega (arith, under, here, length-take i v.slots)) (ap occupies same ∙ on) in
        inl (omega (arith, rest.1, ap end_of same))
    | inr over ↦
        let more : i < k = omega (arith, over, off) in
        let up = rise v.slots can.in_order i k more lt takes on in
        elim (is.legal.apart i k more lt takes on) [
          | inl le ↦ inr le
          | inr le ↦ absurd (omega (arith, le, up))
        ]
  ]
