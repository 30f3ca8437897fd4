-- Legal directories stay legal: with one slot more or another, and with each slot changed in place.
use Rattle.std.proofs.Common.{◌≡◌, ◌≢◌, ◌⊎◌, ◌<◌, ◌≤◌, ◌+◌, ◌-◌, ◌++◌, ℕ, min, List, [], ◌∷◌, Bool, true, false, if◌then◌else◌, length, map, get_or, set, ltb, insert, inl, inr, refl, sym, ◌∙◌, ap, subst, arith, length-set, get_or-set_other, get_or-set_same}
use Rattle.std.proofs.lemmas.Bool.{cases_eq, cases_lt, cases_Bool, and_parts, and_from, ltb-true, leb-true}
use Rattle.std.proofs.lemmas.List.{length-map, get_or-map, get_or_append_left, get_or_push, length_push}
use Rattle.std.proofs.lemmas.List.Edits.{length-insert, get_or-insert_below, get_or-insert_at, get_or-insert_above}
use Rattle.std.proofs.lemmas.Slice.Eq.{bytes_eq-Decides}
use Rattle.lif_model.specs.Gate.{gate_of}
use Rattle.lif_model.specs.Header.{directory_start, directory_length, directory_end, is_marked, is_readable}
use Rattle.lif_model.specs.Directory.{name_of, start_of, length_of}
use Rattle.lif_model.specs.Legal.{is_live, has_records, occupies, end_of, is_live_named, IsLegal}

pub readable_tells : (n : ℕ) (header : List ℕ) → is_readable n header ≡ true → (0 < directory_start header) × (0 < directory_length header) × (directory_end header ≤ gate_of n)
readable_tells n header is =
    let rest = and_parts _ _ (and_parts (is_marked header) _ is).1 in
    let more = and_parts _ _ rest.1 in
    (ltb-true 0 (directory_start header) rest.0, ltb-true 0 (directory_length header) more.0, leb-true (directory_end header) (gate_of n) more.1)

pub occupies_tells : (slot : List ℕ) → occupies slot ≡ true → (is_live slot ≡ true) × (has_records slot ≡ true)
occupies_tells slot is = and_parts (is_live slot) (has_records slot) is

pub live_named_tells : (name slot : List ℕ) → is_live_named name slot ≡ true → (is_live slot ≡ true) × (name_of slot ≡ name)
live_named_tells name slot is = let both = and_parts (is_live slot) _ is in (both.0, (bytes_eq-Decides (name_of slot) name).0 both.1)

-- a live slot that is not of that name has another
pub other_name : (name slot : List ℕ) → is_live_named name slot ≡ false → is_live slot ≡ true → name_of slot ≢ name
other_name name slot off live same = let both : true ≡ false = sym (and_from (is_live slot) _ live ((bytes_eq-Decides (name_of slot) name).1 same)) ∙ off in cc

-- ---- a slot more, or another

-- the later slots are the earlier ones in their order, and a new one at place i
pub record HasNew (slots later : List (List ℕ)) (i : ℕ) (new : List ℕ) (old : ℕ → ℕ) : Type 0 where
  pub here : get_or later i [] ≡ new
  pub others : (k : ℕ) → k < length later → k ≢ i → (old k < length slots) × (get_or later k [] ≡ get_or slots (old k) [])
  pub order : (j k : ℕ) → j < k → j ≢ i → k ≢ i → old j < old k

pub set_new : (slots : List (List ℕ)) (i : ℕ) (new : List ℕ) → i < length slots → HasNew slots (set slots i new) i new (λ k. k)
set_new slots i new lt = record {
  here = get_or-set_same slots i new [] lt;
  others = λ k long ne. (omega (arith, length-set slots i new), get_or-set_other slots i k new [] ne);
  order = λ j k less first second. less;
}

-- the place before a slot was put in at r
abbrev pub before_insert : ℕ → ℕ → ℕ
before_insert r k = k - min 1 (k - r)

pub insert_new : (slots : List (List ℕ)) (r : ℕ) (new : List ℕ) → r ≤ length slots → HasNew slots (insert slots r new) r new (before_insert r)
insert_new slots r new le = record {
  here = get_or-insert_at slots r new [] le;
  others = λ k long ne. (
    omega (arith, length-insert slots r new le),
    elim (cases_lt k r) [
      | inl lt ↦ get_or-insert_below slots r new [] k lt le ∙ ap (λ (j : ℕ). get_or slots j []) (omega arith)
      | inr ge ↦
          let down : k - 1 + 1 ≡ k = omega arith in
          let same : k - 1 ≡ before_insert r k = omega arith in
          sym (ap (λ (j : ℕ). get_or (insert slots r new) j []) down) ∙ get_or-insert_above slots r new [] (k - 1) (omega arith) le ∙ ap (λ (j : ℕ). get_or slots j []) same
    ],
  );
  order = λ j k less first second. omega arith;
}

pub push_new : (slots : List (List ℕ)) (new : List ℕ) → HasNew slots (slots ++ new ∷ []) (length slots) new (λ k. k)
push_new slots new = record {
  here = get_or_push slots new [] (length slots) refl;
  others = λ k long ne. let under : k < length slots = omega (arith, length_push slots new) in (under, get_or_append_left slots (new ∷ []) [] k under);
  order = λ j k less first second. less;
}

-- what holds of the new slot and of each old one holds of each
pub each_with_new : (P : List ℕ → Type 0) (slots later : List (List ℕ)) (i : ℕ) (new : List ℕ) (old : ℕ → ℕ) → HasNew slots later i new old → P new
    → ((k : ℕ) → k < length slots → P (get_or slots k [])) → (k : ℕ) → k < length later → P (get_or later k [])
each_with_new P slots later i new old has fresh each k lt = elim (cases_eq k i) [
  | inl e ↦ subst P (sym (ap (λ (j : ℕ). get_or later j []) e ∙ has.here)) fresh
  | inr ne ↦ let found = has.others k lt ne in subst P (sym found.1) (each (old k) found.0)
]

pub legal_with_new : (n : ℕ) (header : List ℕ) (slots later : List (List ℕ)) (i : ℕ) (new : List ℕ) (old : ℕ → ℕ) → IsLegal n header slots → HasNew slots later i new old
    → directory_end header ≤ start_of new → end_of new ≤ n
    → ((k : ℕ) → k < length later → k ≢ i → occupies (get_or later k []) ≡ true → (end_of (get_or later k []) ≤ start_of new) ⊎ (end_of new ≤ start_of (get_or later k [])))
    → ((k : ℕ) → k < length later → k ≢ i → is_live (get_or later k []) ≡ true → name_of (get_or later k []) ≢ name_of new)
    → IsLegal n header later
legal_with_new n header slots later i new old legal has above below free named = record {
  readable = legal.readable;
  within = λ k lt on. elim (cases_eq k i) [
    | inl e ↦ let is : get_or later k [] ≡ new = ap (λ (j : ℕ). get_or later j []) e ∙ has.here in (omega (arith, above, ap start_of is), omega (arith, below, ap end_of is))
    | inr ne ↦
        let found = has.others k lt ne in
        let both = legal.within (old k) found.0 (sym (ap occupies found.1) ∙ on) in
        (omega (arith, both.0, ap start_of found.1), omega (arith, both.1, ap end_of found.1))
  ];
  apart = λ j k less long first second. two_apart j k less long first second (cases_eq j i) (cases_eq k i);
  distinct = λ j k less long first second. two_names j k less long first second (cases_eq j i) (cases_eq k i);
}
  where
    two_apart : (j k : ℕ) → j < k → k < length later → occupies (get_or later j []) ≡ true → occupies (get_or later k []) ≡ true → (j ≡ i) ⊎ (j ≡ i → ⊥) → (k ≡ i) ⊎ (k ≡ i → ⊥)
        → (end_of (get_or later j []) ≤ start_of (get_or later k [])) ⊎ (end_of (get_or later k []) ≤ start_of (get_or later j []))
    two_apart j k less long first second (inl e) (inl f) = absurd (omega arith)
    two_apart j k less long first second (inl e) (inr f) =
        let is : get_or later j [] ≡ new = ap (λ (m : ℕ). get_or later m []) e ∙ has.here in
        elim (free k long f second) [ inl le ↦ inr (omega (arith, le, ap start_of is)) | inr le ↦ inl (omega (arith, le, ap end_of is)) ]
    two_apart j k less long first second (inr e) (inl f) =
        let is : get_or later k [] ≡ new = ap (λ (m : ℕ). get_or later m []) f ∙ has.here in
        elim (free j (omega (arith, less, long)) e first) [ inl le ↦ inl (omega (arith, le, ap start_of is)) | inr le ↦ inr (omega (arith, le, ap end_of is)) ]
    two_apart j k less long first second (inr e) (inr f) =
        let one = has.others j (omega (arith, less, long)) e in
        let two = has.others k long f in
        elim (legal.apart (old j) (old k) (has.order j k less e f) two.0 (sym (ap occupies one.1) ∙ first) (sym (ap occupies two.1) ∙ second)) [
          | inl le ↦ inl (omega (arith, le, ap end_of one.1, ap start_of two.1))
          | inr le ↦ inr (omega (arith, le, ap end_of two.1, ap start_of one.1))
        ]

    two_names : (j k : ℕ) → j < k → k < length later → is_live (get_or later j []) ≡ true → is_live (get_or later k []) ≡ true → (j ≡ i) ⊎ (j ≡ i → ⊥) → (k ≡ i) ⊎ (k ≡ i → ⊥)
        → name_of (get_or later j []) ≢ name_of (get_or later k [])
    two_names j k less long first second (inl e) (inl f) same = absurd (omega arith)
    two_names j k less long first second (inl e) (inr f) same = named k long f second (sym same ∙ ap name_of (ap (λ (m : ℕ). get_or later m []) e ∙ has.here))
    two_names j k less long first second (inr e) (inl f) same = named j (omega (arith, less, long)) e first (same ∙ ap name_of (ap (λ (m : ℕ). get_or later m []) f ∙ has.here))
    two_names j k less long first second (inr e) (inr f) same =
        let one = has.others j (omega (arith, less, long)) e in
        let two = has.others k long f in
        legal.distinct (old j) (old k) (has.order j k less e f) two.0 (sym (ap is_live one.1) ∙ first) (sym (ap is_live two.1) ∙ second)
        (sym (ap name_of one.1) ∙ same ∙ ap name_of two.1)

-- ---- each slot changed in place

-- what a change may do to a slot: it stays where it is, and no purged one becomes live
pub record StaysPut (before after : List ℕ) : Type 0 where
  pub live : is_live after ≡ true → is_live before ≡ true
  pub start : start_of after ≡ start_of before
  pub long : length_of after ≡ length_of before

pub legal_map : (n : ℕ) (header : List ℕ) (slots : List (List ℕ)) (change : List ℕ → List ℕ) → IsLegal n header slots
    → ((k : ℕ) → k < length slots → StaysPut (get_or slots k []) (change (get_or slots k [])))
    → ((j k : ℕ) → j < k → k < length slots → is_live (change (get_or slots j [])) ≡ true → is_live (change (get_or slots k [])) ≡ true
    → name_of (change (get_or slots j [])) ≢ name_of (change (get_or slots k [])))
    → IsLegal n header (map change slots)
legal_map n header slots change legal stays names = record {
  readable = legal.readable;
  within = λ k lt on.
      let under = short k lt in
      let now = at k lt in
      let put = stays k under in
      let both = legal.within k under (was k under (sym (ap occupies now) ∙ on)) in
      (omega (arith, both.0, ap start_of now, put.start), omega (arith, both.1, ap end_of now, put.start, put.long));
  apart = λ j k less lt first second.
      let under = short k lt in
      let before : j < length slots = omega (arith, less, under) in
      let one = at j (omega (arith, less, lt)) in
      let two = at k lt in
      let put_j = stays j before in
      let put_k = stays k under in
      elim (legal.apart j k less under (was j before (sym (ap occupies one) ∙ first)) (was k under (sym (ap occupies two) ∙ second))) [
        | inl le ↦ inl (omega (arith, le, ap end_of one, ap start_of two, put_j.start, put_j.long, put_k.start))
        | inr le ↦ inr (omega (arith, le, ap end_of two, ap start_of one, put_k.start, put_k.long, put_j.start))
      ];
  distinct = λ j k less lt first second same.
      let one = at j (omega (arith, less, lt)) in
      let two = at k lt in
      names j k less (short k lt) (sym (ap is_live one) ∙ first) (sym (ap is_live two) ∙ second) (sym (ap name_of one) ∙ same ∙ ap name_of two);
}
  where
    short : (k : ℕ) → k < length (map change slots) → k < length slots
    short k lt = omega (arith, length-map slots change)

    at : (k : ℕ) → k < length (map change slots) → get_or (map change slots) k [] ≡ change (get_or slots k [])
    at k lt = get_or-map change slots k [] [] (short k lt)

    was : (k : ℕ) → k < length slots → occupies (change (get_or slots k [])) ≡ true → occupies (get_or slots k []) ≡ true
    was k lt on =
        let both = occupies_tells (change (get_or slots k [])) on in
        and_from _ _ ((stays k lt).live both.0) (sym (ap (λ (m : ℕ). ltb 0 m) (stays k lt).long) ∙ both.1)

pub each_map : (P : List ℕ → Type 0) (slots : List (List ℕ)) (change : List ℕ → List ℕ) → ((k : ℕ) → k < length slots → P (change (get_or slots k []))) → (k : ℕ) → k < length (map change slots) → P (get_or (map change slots) k [])
each_map P slots change each k lt = let under : k < length slots = omega (arith, length-map slots change) in subst P (sym (get_or-map change slots k [] [] under)) (each k under)

-- the slot of that name is changed, and every other one stays
pub slot_cases : (name : List ℕ) (change : List ℕ → List ℕ) (slot : List ℕ)
    → ((is_live_named name slot ≡ true) × ((if is_live_named name slot then change slot else slot) ≡ change slot)) ⊎ ((is_live_named name slot ≡ false) × ((if is_live_named name slot then change slot else slot) ≡ slot))
slot_cases name change slot = elim (cases_Bool (is_live_named name slot)) [
  | inl e ↦ inl (e, ap (λ (b : Bool). if b then change slot else slot) e)
  | inr e ↦ inr (e, ap (λ (b : Bool). if b then change slot else slot) e)
]
