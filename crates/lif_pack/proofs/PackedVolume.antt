-- The volume that packing makes: a legal one of version 2, in order and packed, with the files of the one before.
use Rattle.std.proofs.Common.{map, ◌≡◌, ◌<◌, ◌≤◌, ◌+◌, ◌&&◌, ◌==◌, nat_lt, ℕ, zero, suc, List, [], ◌∷◌, Bool, true, false, if◌then◌else◌, length, get_or, refl, sym, ◌∙◌, ap, arith}
use Rattle.std.proofs.lemmas.Bool.{and_parts, and_from, eq-eqb}
use Rattle.lif_model.specs.Directory.{name_of, type_of, start_of, length_of}
use Rattle.lif_model.specs.Legal.{is_live, has_records, occupies, end_of}
use Rattle.lif_model.proofs.Slots.{occupies_tells}
use Rattle.lif_model.specs.Packing.{with_start, live_length, live_records, stands_at, are_packed, without_start, packed_from}
use Rattle.lif_pack.proofs.Entries.{started_size, started_name, started_type, started_start, started_length, started_bare, started_again}
use Rattle.lif_pack.proofs.Order.{packed_within, standing, live_whole}
use Rattle.lif_pack.proofs.Finishing.{live_alike}

-- two packed files: the first one ends before the other begins
pub packed_apart : (place : ℕ) (slots : List (List ℕ)) → are_packed place slots ≡ true → (i j : ℕ) → i < j → j < length slots
    → occupies (get_or slots i []) ≡ true → occupies (get_or slots j []) ≡ true → end_of (get_or slots i []) ≤ start_of (get_or slots j [])
packed_apart place [] are i j lt long first second = absurd (omega arith)
packed_apart place (slot ∷ slots) are i zero lt long first second = absurd (omega arith)
packed_apart place (slot ∷ slots) are zero (suc j) lt long first second =
    let both = and_parts (stands_at place slot) _ are in
    let here : start_of slot ≡ place = standing place slot both.0 first in
    let counted : live_length slot ≡ length_of slot = live_whole slot (occupies_tells slot first).0 in
    omega (arith, here, counted, (packed_within (place + live_length slot) slots both.1 j (omega arith) second).0)
packed_apart place (slot ∷ slots) are (suc i) (suc j) lt long first second =
    packed_apart (place + live_length slot) slots (and_parts (stands_at place slot) _ are).1 i j (omega arith) (omega arith) first second

-- ---- slots of files, packed from a place on

-- the slot at a place
abbrev pub put : ℕ → List ℕ → List ℕ
put place slot = if has_records slot then with_start place slot else slot

pub length_packed : (place : ℕ) (slots : List (List ℕ)) → length (packed_from place slots) ≡ length slots
length_packed place [] = refl
length_packed place (slot ∷ slots) = ap suc (length_packed (place + length_of slot) slots)

-- what is put there keeps its length, name, type and records
pub record IsPut (place : ℕ) (slot new : List ℕ) : Type 0 where
  pub size : length new ≡ 32
  pub name : name_of new ≡ name_of slot
  pub type : type_of new ≡ type_of slot
  pub long : length_of new ≡ length_of slot
  pub bare : without_start new ≡ without_start slot
  pub start : has_records slot ≡ true → start_of new ≡ place
  pub again : (later : ℕ) → with_start later new ≡ with_start later slot
  pub empty : has_records slot ≡ false → new ≡ slot

pub put_is : (place : ℕ) (slot : List ℕ) → length slot ≡ 32 → IsPut place slot (put place slot)
put_is place slot size = go (has_records slot) refl
  where
    go : (b : Bool) → has_records slot ≡ b → IsPut place slot (if b then with_start place slot else slot)
    go true e = record {
      size = started_size place slot size;
      name = started_name place slot size;
      type = started_type place slot size;
      long = started_length place slot size;
      bare = started_bare place slot size;
      start = λ some. started_start place slot size;
      again = started_again place slot size;
      empty = λ none. let no : true ≡ false = sym e ∙ none in cc;
    }
    go false e = record {
      size = size;
      name = refl;
      type = refl;
      long = refl;
      bare = refl;
      start = λ some. let no : true ≡ false = sym some ∙ e in cc;
      again = λ later. refl;
      empty = λ none. refl;
    }

-- each of them
pub packed_at : (place : ℕ) (slots : List (List ℕ)) → ((k : ℕ) → k < length slots → length (get_or slots k []) ≡ 32) → (k : ℕ) → k < length slots
    → (at : ℕ) × IsPut at (get_or slots k []) (get_or (packed_from place slots) k [])
packed_at place [] sizes k lt = absurd (omega arith)
packed_at place (slot ∷ slots) sizes zero lt = (place, put_is place slot (sizes 0 lt))
packed_at place (slot ∷ slots) sizes (suc k) lt =
    packed_at (place + length_of slot) slots (λ m less. sizes (suc m) (omega arith)) k (omega arith)

-- they are packed, and have as many records as before
pub packed_are : (place : ℕ) (slots : List (List ℕ)) → ((k : ℕ) → k < length slots → length (get_or slots k []) ≡ 32)
    → ((k : ℕ) → k < length slots → is_live (get_or slots k []) ≡ true)
    → (are_packed place (packed_from place slots) ≡ true) × (live_records (packed_from place slots) ≡ live_records slots)
packed_are place [] sizes live = (refl, refl)
packed_are place (slot ∷ slots) sizes live =
    let new : List ℕ = put place slot in
    let is : IsPut place slot new = put_is place slot (sizes 0 (omega arith)) in
    let live_new : is_live new ≡ true = live_alike new slot is.type ∙ live 0 (omega arith) in
    let rest = packed_are (place + length_of slot) slots (λ k lt. sizes (suc k) (omega arith)) (λ k lt. live (suc k) (omega arith)) in
    let more : List (List ℕ) = packed_from (place + length_of slot) slots in
    let counted : live_length new ≡ length_of slot = live_whole new live_new ∙ is.long in (
      and_from (stands_at place new) _ (here new is live_new) (ap (λ (m : ℕ). are_packed (place + m) more) counted ∙ rest.0),
      (λ i. counted i + rest.1 i) ∙ sym (ap (λ (m : ℕ). m + live_records slots) (live_whole slot (live 0 (omega arith)))),
    )
  where
    here : (new : List ℕ) → IsPut place slot new → is_live new ≡ true → stands_at place new ≡ true
    here new is live_new = go (has_records slot) refl
      where
        same : has_records new ≡ has_records slot
        same = ap (nat_lt 0) is.long

        occupied : occupies new ≡ has_records slot
        occupied = ap (λ (b : Bool). b && has_records new) live_new ∙ same

        go : (b : Bool) → has_records slot ≡ b → stands_at place new ≡ true
        go true e = ap (λ (b : Bool). if b then start_of new == place else true) (occupied ∙ e) ∙ eq-eqb (start_of new) place (is.start e)
        go false e = ap (λ (b : Bool). if b then start_of new == place else true) (occupied ∙ e)

-- without their starts they are the same
pub packed_bare : (place : ℕ) (slots : List (List ℕ)) → ((k : ℕ) → k < length slots → length (get_or slots k []) ≡ 32)
    → map without_start (packed_from place slots) ≡ map without_start slots
packed_bare place [] sizes = refl
packed_bare place (slot ∷ slots) sizes =
    let here : without_start (put place slot) ≡ without_start slot = (put_is place slot (sizes 0 (omega arith))).bare in
    let rest = packed_bare (place + length_of slot) slots (λ k lt. sizes (suc k) (omega arith)) in
    λ i. here i ∷ rest i
