-- What a batch remembers of the slots that it changes.
use Rattle.std.proofs.Common.{◌≡◌, ◌<◌, ◌≤◌, ◌+◌, ◌++◌, ◌==◌, ◌&&◌, ◌||◌, ℕ, zero, suc, nat_eq, List, [], ◌∷◌, Bool, true, false, if◌then◌else◌, length, get_or, set, map, take, inl, inr, refl, sym, ap, subst, ◌∙◌, arith, length-set, get_or-set_other}
use Rattle.std.specs.Prelude.{All, Option, Some, None, filter}
use Rattle.std.specs.List.{list_any, list_all}
use Rattle.std.specs.Str.{bytes_eq}
use Rattle.std.proofs.lemmas.Bool.{cases_eq, cases_Bool, and_parts, and_from, or_left, or_right, eq-eqb, ne_eqb, eqb-true, false_from_ne_true}
use Rattle.std.proofs.lemmas.List.{ext_get_or, length-map, length-take-le, length_push, get_or_append_left, get_or-take, get_or-set_same}
use Rattle.std.proofs.lemmas.List.Folds.{list_any-append}
use Rattle.std.proofs.lemmas.List.Elements.{All-append, All-cons, All-nil, All-head, All-tail}
use Rattle.std.proofs.lemmas.Slice.Eq.{slice_eq-Decides, bytes_eq-Decides}
use Rattle.lif_model.specs.Numbers.{two_at}
use Rattle.lif_model.specs.Legal.{is_live}
use Rattle.lif_model.specs.Writing.{NewFile, same_slots, is_left_in}
use Rattle.lif_dir.specs.declared.change.Change.{Change}
use Rattle.lif_dir.specs.declared.entries.FileEntry.{FileEntry}
use Rattle.lif_dir.specs.declared.entries.Slot.{Slot}
use Rattle.lif_dir.specs.declared.entries.Slot.TheVariants.{End}
use Rattle.lif_dir.specs.Entries.{slot_of, is_entry, slot_bytes}
use Rattle.lif_dir.specs.Changes.{put_slot, put_next, slots_with}
use Rattle.lif_plan.specs.declared.batches.Before.{Before}
use Rattle.lif_plan.specs.declared.batches.PlannedFile.{PlannedFile}
use Rattle.lif_plan.specs.Batches.{Recalls, Remembers, IsRemembered, is_as_before, is_left, file_of}

outside : (xs : List (List ℕ)) (k : ℕ) → length xs ≤ k → get_or xs k [] ≡ []
outside [] k le = refl
outside (x ∷ xs) zero le = absurd (omega (arith, le))
outside (x ∷ xs) (suc k) le = outside xs k (omega (arith, le))

-- a slot that is not there is not live
pub dead_outside : (xs : List (List ℕ)) (k : ℕ) → length xs ≤ k → is_live (get_or xs k []) ≡ false
unfolding two_at
dead_outside xs k le = ap is_live (outside xs k le)

-- ---- one more is remembered

-- nothing is, and nothing has changed
pub remembers_none : (slots : List Slot) (befores : List Before) → befores ≡ [] → Remembers slots slots befores
remembers_none slots befores none = subst (Remembers slots slots) (sym none) (record {
  longer = omega arith;
  each = All-nil (Recalls slots);
  others = λ j lt off. refl;
})

pub remembers_more : (slots later : List Slot) (befores : List Before) (before : Before) → Remembers slots later befores → before.slot < length slots
    → list_any (λ b. nat_eq b.slot before.slot) befores ≡ false → get_or later before.slot End ≡ before.held → is_entry before.held ≡ true
    → Remembers slots later (befores ++ before ∷ [])
remembers_more slots later befores before is lt new held entry = record {
  longer = is.longer;
  each = All-append (Recalls slots) befores (before ∷ []) is.each
      (All-cons (Recalls slots) before [] (record { within = lt; held = sym (is.others before.slot lt new) ∙ held; entry = entry }) (All-nil (Recalls slots)));
  others = λ j less off. is.others j less (false_from_ne_true _ (λ on.
      let no : true ≡ false = sym (list_any-append (λ b. nat_eq b.slot j) befores (before ∷ []) ∙ or_left (list_any (λ b. nat_eq b.slot j) befores) (nat_eq before.slot j || false) on) ∙ off in cc));
}

pub still_remembered : (befores : List Before) (before : Before) (j : ℕ) → IsRemembered befores j → IsRemembered (befores ++ before ∷ []) j
still_remembered befores before j on = list_any-append (λ b. nat_eq b.slot j) befores (before ∷ []) ∙ or_left (list_any (λ b. nat_eq b.slot j) befores) (nat_eq before.slot j || false) on

pub now_remembered : (befores : List Before) (before : Before) → IsRemembered (befores ++ before ∷ []) before.slot
now_remembered befores before = list_any-append (λ b. nat_eq b.slot before.slot) befores (before ∷ [])
    ∙ or_right (list_any (λ b. nat_eq b.slot before.slot) befores) (nat_eq before.slot before.slot || false) (or_left (nat_eq before.slot before.slot) false (eq-eqb before.slot before.slot refl))

-- ---- slots that change

put_keeps : (slots later : List Slot) (befores : List Before) (k : ℕ) (slot : Slot) → Remembers slots later befores → k ≤ length later → (k < length slots → IsRemembered befores k)
    → Remembers slots (put_slot later k slot) befores
put_keeps slots later befores k slot is le known = elim (cases_eq k (length later)) [
  | inl e ↦
      let same : put_slot later k slot ≡ later ++ slot ∷ [] = ap (λ (b : Bool). if b then later ++ slot ∷ [] else set later k slot) (eq-eqb k (length later) e) in
      record {
        longer = omega (arith, is.longer, ap (λ (xs : List Slot). length xs) same, length_push later slot);
        each = is.each;
        others = λ j lt off. ap (λ (xs : List Slot). get_or xs j End) same ∙ get_or_append_left later (slot ∷ []) End j (omega (arith, lt, is.longer)) ∙ is.others j lt off;
      }
  | inr ne ↦
      let same : put_slot later k slot ≡ set later k slot = ap (λ (b : Bool). if b then later ++ slot ∷ [] else set later k slot) (ne_eqb k (length later) ne) in
      record {
        longer = omega (arith, is.longer, ap (λ (xs : List Slot). length xs) same, length-set later k slot);
        each = is.each;
        others = λ j lt off.
            ap (λ (xs : List Slot). get_or xs j End) same
            ∙ get_or-set_other later k j slot End (λ e. let no : true ≡ false = sym (known (omega (arith, lt, e))) ∙ sym (ap (λ (i : ℕ). list_any (λ b. nat_eq b.slot i) befores) e) ∙ off in cc)
            ∙ is.others j lt off;
      }
]

longer_put : (xs : List Slot) (k : ℕ) (x : Slot) → k ≤ length xs → k < length (put_slot xs k x)
longer_put xs k x le = elim (cases_eq k (length xs)) [
  | inl e ↦ omega (arith, e, ap (λ (b : Bool). length (if b then xs ++ x ∷ [] else set xs k x)) (eq-eqb k (length xs) e), length_push xs x)
  | inr ne ↦ omega (arith, le, ne, ap (λ (b : Bool). length (if b then xs ++ x ∷ [] else set xs k x)) (ne_eqb k (length xs) ne), length-set xs k x)
]

-- the slots of a change are known
pub change_keeps : (slots later : List Slot) (befores : List Before) (c : Change) → Remembers slots later befores → c.slot ≤ length later
    → (c.slot < length slots → IsRemembered befores c.slot) → (c.slot + 1 < length slots → IsRemembered befores (c.slot + 1)) → Remembers slots (slots_with c later) befores
change_keeps slots later befores c is le one two = go c.next
  where
    first : List Slot
    first = put_slot later c.slot (slot_of c.entry)

    kept : Remembers slots first befores
    kept = put_keeps slots later befores c.slot (slot_of c.entry) is le one

    go : (next : Option FileEntry) → Remembers slots (put_next slot_of (suc c.slot) next first) befores
    go None = kept
    go (Some next) = put_keeps slots first befores (suc c.slot) (slot_of next) kept (longer_put later c.slot (slot_of c.entry) le)
        (λ lt. subst (IsRemembered befores) (omega arith) (two (omega (arith, lt))))

-- ---- what did not change

bytes_here : (xs : List Slot) (j : ℕ) → get_or (map slot_bytes xs) j [] ≡ slot_bytes (get_or xs j End)
bytes_here [] j = refl
bytes_here (x ∷ xs) zero = refl
bytes_here (x ∷ xs) (suc j) = bytes_here xs j

all_same : (slots : List Slot) (later : List (List ℕ)) (befores : List Before) → All (Recalls slots) befores → map slot_bytes slots ≡ later
    → list_all (is_as_before later) befores ≡ true
all_same slots later [] each same = refl
all_same slots later (b ∷ befores) each same =
    let here = All-head (Recalls slots) b befores each in
    and_from (is_as_before later b) (list_all (is_as_before later) befores)
    (and_from (is_entry b.held) (bytes_eq (get_or later b.slot []) (slot_bytes b.held)) here.entry
    ((bytes_eq-Decides (get_or later b.slot []) (slot_bytes b.held)).1 (sym (ap (λ (xs : List (List ℕ)). get_or xs b.slot []) same) ∙ bytes_here slots b.slot ∙ ap slot_bytes here.held)))
    (all_same slots later befores (All-tail (Recalls slots) b befores each) same)

one_same : (slots : List Slot) (later : List (List ℕ)) (befores : List Before) (j : ℕ) → All (Recalls slots) befores
    → list_all (is_as_before later) befores ≡ true → IsRemembered befores j → get_or (map slot_bytes slots) j [] ≡ get_or later j []
one_same slots later [] j each all on = cc
one_same slots later (b ∷ befores) j each all on =
    let here = All-head (Recalls slots) b befores each in
    let both = and_parts (is_as_before later b) (list_all (is_as_before later) befores) all in
    let as_before = and_parts (is_entry b.held) (bytes_eq (get_or later b.slot []) (slot_bytes b.held)) both.0 in
    let rest = one_same slots later befores j (All-tail (Recalls slots) b befores each) both.1 in
    elim (cases_eq b.slot j) [
      | inl e ↦ subst (λ (k : ℕ). get_or (map slot_bytes slots) k [] ≡ get_or later k []) e
          (bytes_here slots b.slot ∙ ap slot_bytes here.held ∙ sym ((bytes_eq-Decides (get_or later b.slot []) (slot_bytes b.held)).0 as_before.1))
      | inr ne ↦ rest (sym (ap (λ (t : Bool). t || list_any (λ b. nat_eq b.slot j) befores) (ne_eqb b.slot j ne)) ∙ on)
    ]

-- no slot changed where there are as many, and each that is remembered holds what it held
pub unchanged_is : (slots later : List Slot) (befores : List Before) → Remembers slots later befores
    → ((length later == length slots) && list_all (is_as_before (map slot_bytes later)) befores) ≡ same_slots (map slot_bytes slots) (map slot_bytes later)
unchanged_is slots later befores is = elim (cases_Bool (same_slots old new)) [
  | inl same ↦
      let equal : old ≡ new = (slice_eq-Decides bytes_eq-Decides old new (same_slots old new) refl).0 same in
      and_from (length later == length slots) (list_all (is_as_before new) befores)
      (eq-eqb (length later) (length slots) (omega (arith, ap (λ (xs : List (List ℕ)). length xs) equal, length-map slots slot_bytes, length-map later slot_bytes)))
      (all_same slots new befores is.each equal) ∙ sym same
  | inr differ ↦ false_from_ne_true _ (λ both.
      let parts = and_parts (length later == length slots) (list_all (is_as_before new) befores) both in
      let long : length old ≡ length new = omega (arith, eqb-true (length later) (length slots) parts.0, length-map slots slot_bytes, length-map later slot_bytes) in
      let equal : old ≡ new = ext_get_or [] old new long (λ j lt. elim (cases_Bool (list_any (λ b. nat_eq b.slot j) befores)) [
        | inl on ↦ one_same slots new befores j is.each parts.1 on
        | inr off ↦ bytes_here slots j ∙ ap slot_bytes (sym (is.others j (omega (arith, lt, length-map slots slot_bytes)) off)) ∙ sym (bytes_here later j)
      ]) in
      let no : true ≡ false = sym ((slice_eq-Decides bytes_eq-Decides old new (same_slots old new) refl).1 equal) ∙ differ in cc) ∙ sym differ
]
  where
    old : List (List ℕ)
    old = map slot_bytes slots

    new : List (List ℕ)
    new = map slot_bytes later

-- ---- the slots given back

-- these slots are the first ones but for what the rest of the befores still tells
pub record IsGivenBack (slots now : List Slot) (rest : List Before) : Type 0 where
  pub count : length now ≡ length slots
  pub others : (j : ℕ) → j < length slots → list_any (λ b. nat_eq b.slot j) rest ≡ false → get_or now j End ≡ get_or slots j End

pub given_none : (slots later : List Slot) (befores : List Before) → Remembers slots later befores → IsGivenBack slots (take (length slots) later) befores
given_none slots later befores is = record {
  count = length-take-le (length slots) later is.longer;
  others = λ j lt off. get_or-take (length slots) later j End lt ∙ is.others j lt off;
}

pub given_more : (slots now : List Slot) (before : Before) (rest : List Before) → Recalls slots before → IsGivenBack slots now (before ∷ rest)
    → IsGivenBack slots (set now before.slot before.held) rest
given_more slots now before rest recalls is = record {
  count = length-set now before.slot before.held ∙ is.count;
  others = λ j lt off. elim (cases_eq before.slot j) [
    | inl e ↦ subst (λ (k : ℕ). get_or (set now before.slot before.held) k End ≡ get_or slots k End) e
        (get_or-set_same now before.slot before.held End (omega (arith, recalls.within, is.count)) ∙ sym recalls.held)
    | inr ne ↦ get_or-set_other now before.slot j before.held End (λ e. ne (sym e))
        ∙ is.others j lt (ap (λ (t : Bool). t || list_any (λ b. nat_eq b.slot j) rest) (ne_eqb before.slot j ne) ∙ off)
  ];
}

pub given_all : (slots now : List Slot) → IsGivenBack slots now [] → now ≡ slots
given_all slots now is = ext_get_or End now slots is.count (λ j lt. is.others j (omega (arith, lt, is.count)) refl)

-- ---- the files that are left

pub left_files : (bytes : List ℕ) (slots : List (List ℕ)) (files : List PlannedFile) → map (file_of bytes) (filter (is_left slots) files) ≡ filter (is_left_in slots) (map (file_of bytes) files)
left_files bytes slots [] = refl
left_files bytes slots (f ∷ files) = go (is_left slots f) (left_files bytes slots files)
  where
    go : (b : Bool) → map (file_of bytes) (filter (is_left slots) files) ≡ filter (is_left_in slots) (map (file_of bytes) files)
        → map (file_of bytes) (if b then f ∷ filter (is_left slots) files else filter (is_left slots) files)
        ≡ (if b then file_of bytes f ∷ filter (is_left_in slots) (map (file_of bytes) files) else filter (is_left_in slots) (map (file_of bytes) files))
    go true rest = ap (λ (fs : List NewFile). file_of bytes f ∷ fs) rest
    go false rest = rest
