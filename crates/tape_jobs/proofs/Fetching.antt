-- A file that the directory lists is never refused.
use Rattle.std.proofs.Common.{◌≡◌, ◌<◌, ◌||◌, ◌∷◌, ◌∙◌, ℕ, zero, suc, Bool, true, false, not, List, [], Option, Some, None, length, map, get_or, inl, inr, refl, sym, ap, subst, arith, if◌then◌else◌}
use Rattle.std.specs.Prelude.{All}
use Rattle.std.specs.List.{flat_map}
use Rattle.std.specs.Str.{bytes_eq}
use Rattle.std.proofs.lemmas.Bool.{and_from, and_parts, cases_order}
use Rattle.std.proofs.lemmas.List.{get_or-map, length-map}
use Rattle.std.proofs.lemmas.List.Concat.{flat_map-cons}
use Rattle.std.proofs.lemmas.List.Elements.{All-append, All-map}
use Rattle.std.proofs.lemmas.List.Folds.{flat_map-map}
use Rattle.std.proofs.lemmas.Slice.Eq.{bytes_eq-Decides}
use Rattle.lif_model.specs.Apply.{Fetch, first_met, is_protected, lacks_file, refusal_of}
use Rattle.lif_model.specs.Directory.{is_end, is_purged, name_of}
use Rattle.lif_model.specs.Legal.{IsLegal, is_legal, is_live, is_live_named}
use Rattle.lif_model.specs.Packing.{finished}
use Rattle.lif_model.specs.Tape.{Tape}
use Rattle.lif_model.specs.Volume.{Volume, is_adopted, is_redo_file, redo_name, volume_if}
use Rattle.lif_model.specs.declared.refusal.Refusal.TheVariants.{NoFile, Protected}
use Rattle.lif_model.proofs.Adopted.{redo_file_is_live, redo_file_tells}
use Rattle.lif_model.proofs.Legal.{legal_tells}
use Rattle.lif_model.proofs.Lists.{any_at, any_from}
use Rattle.lif_dir.specs.Entries.{entry_bytes, entry_from, name_bytes, slot_bytes, slot_from}
use Rattle.lif_dir.specs.declared.entries.FileEntry.{FileEntry}
use Rattle.lif_dir.specs.declared.entries.Slot.TheVariants.{End, Live, Purged}
use Rattle.tape_text.specs.Listing.{shown_files, shown_slot}
use Rattle.tape_volumes.specs.Volumes.{volume_shown}

-- ---- the volume that a tape shows is legal

legal_if : (y : Tape) (v : Volume) (b : Bool) → is_legal y ≡ b → ◌≡◌ {A = Option (Option Volume)} (Some (volume_if b y)) (Some (Some v)) → IsLegal (length y) v.header v.slots
legal_if y v false legal is = cc
legal_if y v true legal is = subst (λ (w : Volume). IsLegal (length y) w.header w.slots) (same is) (legal_tells _ _ _ legal)
  where
    same : {u w : Volume} → ◌≡◌ {A = Option (Option Volume)} (Some (Some u)) (Some (Some w)) → u ≡ w
    same e = cc

legal_of : (tape : Option Tape) (v : Volume) → volume_shown tape ≡ Some (Some v) → (m : ℕ) × IsLegal m v.header v.slots
legal_of None v is = cc
legal_of (Some x) v is = (length (finished x), legal_if (finished x) v (is_legal (finished x)) refl is)

-- ---- lists

all_flat : {X A : Type 0} (f : X → List A) (P : A → Type 0) (xs : List X) → ((i : ℕ) (d : X) → i < length xs → All P (f (get_or xs i d))) → All P (flat_map f xs)
all_flat f P [] each = λ k d lt. absurd (omega (arith, lt))
all_flat f P (x ∷ xs) each = subst (All P) (sym (flat_map-cons f x xs)) (All-append P (f x) (flat_map f xs) (each 0 x (omega arith)) (all_flat f P xs (λ i d lt. each (suc i) d (omega (arith, lt)))))

pub all_one : {A : Type 0} (P : A → Type 0) (x : A) → P x → All P (x ∷ [])
all_one P x is zero d lt = is
all_one P x is (suc k) d lt = absurd (omega (arith, lt))

module _ (n : ℕ) (v : Volume) (m : ℕ) (legal : IsLegal m v.header v.slots) (exact : map slot_bytes (map slot_from v.slots) ≡ v.slots) where
  abbrev slot_in : ℕ → List ℕ
  slot_in i = get_or v.slots i []

  same_slot : (i j : ℕ) → i < length v.slots → j < length v.slots → is_live (slot_in i) ≡ true → is_live (slot_in j) ≡ true → name_of (slot_in i) ≡ name_of (slot_in j) → i ≡ j
  same_slot i j here there one other same = elim (cases_order i j) [
    | inl is ↦ is
    | inr (inl lt) ↦ absurd (legal.distinct i j lt there one other same)
    | inr (inr gt) ↦ absurd (legal.distinct j i gt here other one (sym same))
  ]

  abbrev IsRead : FileEntry → Type 0
  IsRead e = refusal_of n (Fetch (name_bytes e.name)) (Some v) ≡ None

  -- a live slot that is no redo file
  unprotected : (i : ℕ) → i < length v.slots → is_live (slot_in i) ≡ true → is_redo_file n (slot_in i) ≡ false → (b : Bool) → is_protected n v (name_of (slot_in i)) ≡ b → b ≡ false
  unprotected i lt live off false is = refl
  unprotected i lt live off true is =
      let both = and_parts (is_adopted n v.slots) (bytes_eq (name_of (slot_in i)) redo_name) is in
      let found = any_at [] (is_redo_file n) v.slots both.0 in
      let same = same_slot i found.0 lt found.1 live (redo_file_is_live n (slot_in found.0) found.2) ((bytes_eq-Decides (name_of (slot_in i)) redo_name).0 both.1 ∙ sym (redo_file_tells n (slot_in found.0) found.2).0) in
      let no : true ≡ false = sym found.2 ∙ ap (λ (k : ℕ). is_redo_file n (slot_in k)) (sym same) ∙ off in cc

  here : (i : ℕ) → i < length v.slots → is_live (slot_in i) ≡ true → lacks_file v (name_of (slot_in i)) ≡ false
  here i lt live = ap not (any_from [] (is_live_named (name_of (slot_in i))) v.slots i lt (and_from _ _ live ((bytes_eq-Decides (name_of (slot_in i)) (name_of (slot_in i))).1 refl)))

  is_read : (i : ℕ) → i < length v.slots → is_live (slot_in i) ≡ true → is_redo_file n (slot_in i) ≡ false → IsRead (entry_from (slot_in i))
  is_read i lt live off = λ j. first_met ((unprotected i lt live off _ refl j, Protected) ∷ (here i lt live j, NoFile) ∷ [])

  exact_at : (i : ℕ) → i < length v.slots → slot_bytes (slot_from (slot_in i)) ≡ slot_in i
  exact_at i lt =
      ap slot_bytes (sym (get_or-map slot_from v.slots i [] End lt)) ∙ sym (get_or-map slot_bytes (map slot_from v.slots) i End [] (omega (arith, lt, length-map v.slots slot_from)))
      ∙ ap (λ (slots : List (List ℕ)). get_or slots i []) exact

  by_redo : (i : ℕ) → i < length v.slots → is_live (slot_in i) ≡ true → (b : Bool) → is_redo_file n (slot_in i) ≡ b → All IsRead (if false || not b then entry_from (slot_in i) ∷ [] else [])
  by_redo i lt live true is = λ k d none. absurd (omega (arith, none))
  by_redo i lt live false is = all_one IsRead (entry_from (slot_in i)) (is_read i lt live is)

  by_kind : (i : ℕ) → i < length v.slots → (b c : Bool) → is_purged (slot_in i) ≡ c → slot_bytes (if b then End else if c then Purged (entry_from (slot_in i)) else Live (entry_from (slot_in i))) ≡ slot_in i
      → All IsRead (shown_slot false n (if b then End else if c then Purged (entry_from (slot_in i)) else Live (entry_from (slot_in i))))
  by_kind i lt true c purged same = λ k d none. absurd (omega (arith, none))
  by_kind i lt false true purged same = λ k d none. absurd (omega (arith, none))
  by_kind i lt false false purged same =
      by_redo i lt (ap not purged) (is_redo_file n (entry_bytes (entry_from (slot_in i)))) (ap (is_redo_file n) (sym same))

  all_read : All IsRead (shown_files false n (map slot_from v.slots))
  all_read = subst (All IsRead) (sym (flat_map-map (shown_slot false n) slot_from v.slots))
      (all_flat (λ (slot : List ℕ). shown_slot false n (slot_from slot)) IsRead v.slots
      (λ i d lt. subst (λ (slot : List ℕ). All IsRead (shown_slot false n (slot_from slot))) (get_or_any v.slots i [] d lt) (by_kind i lt (is_end (slot_in i)) (is_purged (slot_in i)) refl (exact_at i lt))))
    where
      get_or_any : (xs : List (List ℕ)) (i : ℕ) (d e : List ℕ) → i < length xs → get_or xs i d ≡ get_or xs i e
      get_or_any [] i d e lt = absurd (omega (arith, lt))
      get_or_any (x ∷ xs) zero d e lt = refl
      get_or_any (x ∷ xs) (suc i) d e lt = get_or_any xs i d e (omega (arith, lt))

-- the command that reads a file of the directory is not refused
pub listed_is_read : (n : ℕ) (tape : Option Tape) (v : Volume) → volume_shown tape ≡ Some (Some v) → map slot_bytes (map slot_from v.slots) ≡ v.slots
    → All (λ name. refusal_of n (Fetch (name_bytes name)) (Some v) ≡ None) (map (λ e. e.name) (shown_files false n (map slot_from v.slots)))
listed_is_read n tape v shown exact =
    let legal = legal_of tape v shown in
    All-map (λ name. refusal_of n (Fetch (name_bytes name)) (Some v) ≡ None) (λ (e : FileEntry). e.name) _ (all_read n v legal.0 legal.1 exact)
