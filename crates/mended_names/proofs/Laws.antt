-- What holds of the names of a job.
use Rattle.std.proofs.Common.{◌≡◌, ◌≢◌, ◌⊎◌, ◌<◌, ◌∙◌, ◌++◌, ◌&&◌, ◌||◌, ℕ, zero, suc, Bool, true, false, cond, not, List, [], ◌∷◌, Option, Some, None, length, map, take, get_or, refl, sym, ap, arith, append_assoc, append-nil, length-take, inl, inr}
use Rattle.std.proofs.Math.Bool.{and-false, or-true}
use Rattle.std.proofs.lemmas.List.{get_or-take, get_or-map, length-map}
use Rattle.std.proofs.lemmas.List.Folds.{list_any_at, list_any-append}
use Rattle.std.proofs.lemmas.Slice.Eq.{bytes_eq-Decides}
use Rattle.std.specs.List.{list_any}
use Rattle.std.specs.Option.{option_or, option_and_then}
use Rattle.std.specs.Str.{bytes_eq}
use Rattle.lif_model.specs.Printed.{trimmed}
use Rattle.lif_model.specs.Volume.{redo_name}
use Rattle.lif_dir.specs.Entries.{name_bytes}
use Rattle.lif_dir.specs.Names.{is_made, new_name, made_name}
use Rattle.lif_dir.specs.declared.entries.Name.{Name}
use Rattle.lif_dir.specs.declared.names.NewName.{NewName}
use Rattle.mended_names.specs.Mending.{mended_base, given_text, has_text, is_free, first_free, new_name_of, mended, mended_name, mended_from, names_for}
use Rattle.mended_names.proofs.Made.{left, named_by}
use Rattle.mended_names.proofs.Found.{found_first, AreTaken, taken_all}

-- ---- one name

-- what a file is mended to
record IsMended (others : List (Option NewName)) (name : Name) (new : NewName) : Type 0 where
  pub own : new_name name ≡ None
  pub free : is_free others (given_text new) ≡ true
  pub made : is_made (given_text new) ≡ true

of-found : (others : List (Option NewName)) (name : Name) (new : NewName) (found : Option (List ℕ)) → first_free others (mended_base (name_bytes name)) ≡ found
    → new_name name ≡ None → option_and_then new_name_of found ≡ Some new → IsMended others name new
of-found others name new None is own by = cc
of-found others name new (Some text) is own by =
    let first = found_first others (name_bytes name) text is in
    let has = named_by text first.made first.short in
    let same : new ≡ has.new = cc (by, has.is) in
    let texts : given_text new ≡ text = ap given_text same ∙ has.same in
    record { own = own; free = ap (is_free others) texts ∙ first.free; made = ap is_made texts ∙ first.made }

-- a file has its own name, or it is mended
of-own : (others : List (Option NewName)) (name : Name) (new : NewName) (own : Option NewName) → new_name name ≡ own → option_or own (mended others name) ≡ Some new
    → (new_name name ≡ Some new) ⊎ IsMended others name new
of-own others name new None is by = inr (of-found others name new (first_free others (mended_base (name_bytes name))) refl is by)
of-own others name new (Some one) is by = inl (is ∙ by)

cases : (others : List (Option NewName)) (name : Name) (new : NewName) → mended_name others name ≡ Some new → (new_name name ≡ Some new) ⊎ IsMended others name new
cases others name new by = of-own others name new (new_name name) refl by

own-made : (name : Name) (new : NewName) (good : Bool) → is_made (trimmed (name_bytes name)) ≡ good → cond good (Some (record { name = name })) None ≡ Some new → is_made (given_text new) ≡ true
own-made name new true is by = let same : new ≡ record { name = name } = cc in ap (λ (n : NewName). is_made (given_text n)) same ∙ is
own-made name new false is by = cc

-- ---- places

pub length-mended : (others : List (Option NewName)) (names : List Name) → length (mended_from others names) ≡ length names
length-mended others [] = refl
length-mended others (name ∷ rest) = ap suc (length-mended (others ++ mended_name others name ∷ []) rest)

at-place : (others : List (Option NewName)) (names : List Name) (i : ℕ) (d : Name) → i < length names
    → get_or (mended_from others names) i None ≡ mended_name (others ++ take i (mended_from others names)) (get_or names i d)
at-place others [] i d lt = absurd (omega arith)
at-place others (name ∷ rest) zero d lt = ap (λ (l : List (Option NewName)). mended_name l name) (sym (append-nil others))
at-place others (name ∷ rest) (suc i) d lt =
    at-place (others ++ mended_name others name ∷ []) rest i d (omega arith)
    ∙ ap (λ (l : List (Option NewName)). mended_name l (get_or rest i d)) (append_assoc others (mended_name others name ∷ []) (take i (mended_from (others ++ mended_name others name ∷ []) rest)))

-- the other files of the file at a place: those whose names can be made, and those before it
abbrev pub others_of : List Name → ℕ → List (Option NewName)
others_of names i = map new_name names ++ take i (names_for true names)

-- ---- names that are not free

same-text : (text : List ℕ) (new : NewName) → given_text new ≡ text → has_text text (Some new) ≡ true
same-text text new same = (bytes_eq-Decides text (given_text new)).1 (sym same)

not-free : (others : List (Option NewName)) (text : List ℕ) → list_any (has_text text) others ≡ true → is_free others text ≡ false
not-free others text any = ap (λ (b : Bool). not (bytes_eq text (trimmed redo_name)) && not b) any ∙ and-false (not (bytes_eq text (trimmed redo_name)))

-- the name of a file that can be made is not free for any other
own-taken : (names : List Name) (text : List ℕ) (i j : ℕ) (d : Name) (new : NewName) → j < length names → new_name (get_or names j d) ≡ Some new → given_text new ≡ text
    → is_free (others_of names i) text ≡ false
own-taken names text i j d new lt is same =
    let within : j < length (map new_name names) = let size = length-map names new_name in omega (arith, size) in
    let here : list_any (has_text text) (map new_name names) ≡ true =
    list_any_at (has_text text) (map new_name names) j None within (ap (has_text text) (get_or-map new_name names j d None lt ∙ is) ∙ same-text text new same) in
    not-free (others_of names i) text (list_any-append (has_text text) (map new_name names) (take i (names_for true names))
    ∙ ap (λ (b : Bool). b || list_any (has_text text) (take i (names_for true names))) here)

-- nor is the name of a file before it
before-taken : (names : List Name) (text : List ℕ) (i j : ℕ) (new : NewName) → i < j → j < length names → get_or (names_for true names) i None ≡ Some new → given_text new ≡ text
    → is_free (others_of names j) text ≡ false
before-taken names text i j new less lt is same =
    let within : i < length (take j (names_for true names)) =
    let front = length-take j (names_for true names) in let size = length-mended (map new_name names) names in omega (arith, front, size, less, lt) in
    let here : list_any (has_text text) (take j (names_for true names)) ≡ true =
    list_any_at (has_text text) (take j (names_for true names)) i None within
    (ap (has_text text) (get_or-take j (names_for true names) i None less ∙ is) ∙ same-text text new same) in
    not-free (others_of names j) text (list_any-append (has_text text) (map new_name names) (take j (names_for true names))
    ∙ ap (λ (b : Bool). list_any (has_text text) (map new_name names) || b) here ∙ or-true (list_any (has_text text) (map new_name names)))

at-job : (names : List Name) (i : ℕ) (d : Name) (new : NewName) → i < length names → get_or (names_for true names) i None ≡ Some new
    → (new_name (get_or names i d) ≡ Some new) ⊎ IsMended (others_of names i) (get_or names i d) new
at-job names i d new lt is = cases (others_of names i) (get_or names i d) new (sym (at-place (map new_name names) names i d lt) ∙ is)

-- ---- the laws

-- Each name that a file gets can be made.
pub can_be_made : (mend : Bool) (names : List Name) (i : ℕ) (d : Name) (new : NewName) → i < length names → get_or (names_for mend names) i None ≡ Some new → is_made (given_text new) ≡ true
can_be_made false names i d new lt is =
    own-made (get_or names i d) new (is_made (trimmed (name_bytes (get_or names i d)))) refl (sym (get_or-map new_name names i d None lt) ∙ is)
can_be_made true names i d new lt is = elim (at-job names i d new lt is) [
  | inl own ↦ own-made (get_or names i d) new (is_made (trimmed (name_bytes (get_or names i d)))) refl own
  | inr is ↦ is.made
]

-- A file whose name can be made keeps it.
pub own_stays : (mend : Bool) (names : List Name) (i : ℕ) (d : Name) (new : NewName) → i < length names → new_name (get_or names i d) ≡ Some new → get_or (names_for mend names) i None ≡ Some new
own_stays false names i d new lt is = get_or-map new_name names i d None lt ∙ is
own_stays true names i d new lt is =
    at-place (map new_name names) names i d lt ∙ ap (λ (o : Option NewName). option_or o (mended (others_of names i) (get_or names i d))) is

distinct-own : (names : List Name) (i j : ℕ) (d : Name) (a b : NewName) → i < length names → j < length names → given_text a ≡ given_text b → new_name (get_or names j d) ≡ Some b
    → (new_name (get_or names i d) ≡ Some a) ⊎ IsMended (others_of names i) (get_or names i d) a → new_name (get_or names i d) ≡ Some a
distinct-own names i j d a b lt within same own (inl mine) = mine
distinct-own names i j d a b lt within same own (inr is) =
    let taken = own-taken names (given_text a) i j d b within own (sym same) in let free = is.free in cc (taken, free)

distinct-at : (names : List Name) (i j : ℕ) (d : Name) (a b : NewName) → i < j → j < length names → given_text a ≡ given_text b → get_or (names_for true names) i None ≡ Some a
    → (new_name (get_or names i d) ≡ Some a) ⊎ IsMended (others_of names i) (get_or names i d) a
    → (new_name (get_or names j d) ≡ Some b) ⊎ IsMended (others_of names j) (get_or names j d) b
    → (new_name (get_or names i d) ≡ Some a) × (new_name (get_or names j d) ≡ Some b)
distinct-at names i j d a b less lt same is here (inl own) = (distinct-own names i j d a b (omega arith) lt same own here, own)
distinct-at names i j d a b less lt same is here (inr there) =
    let taken = before-taken names (given_text b) i j a less lt is same in let free = there.free in cc (taken, free)

-- Two files get the same name only if both have it already.
pub distinct : (names : List Name) (i j : ℕ) (d : Name) (a b : NewName) → i < j → j < length names
    → get_or (names_for true names) i None ≡ Some a → get_or (names_for true names) j None ≡ Some b → made_name a ≡ made_name b
    → (new_name (get_or names i d) ≡ Some a) × (new_name (get_or names j d) ≡ Some b)
distinct names i j d a b less lt first second same =
    distinct-at names i j d a b less lt (ap (λ (name : Name). trimmed (name_bytes name)) same) first
    (at-job names i d a (omega arith) first) (at-job names j d b lt second)

-- A file that is mended does not get the name of the redo file.
pub no_redo : (names : List Name) (i : ℕ) (d : Name) (new : NewName) → i < length names → new_name (get_or names i d) ≡ None → get_or (names_for true names) i None ≡ Some new
    → name_bytes (made_name new) ≢ redo_name
no_redo names i d new lt none is redo = elim (at-job names i d new lt is) [
  | inl own ↦ cc (own, none)
  | inr is ↦
      let same : bytes_eq (given_text new) (trimmed redo_name) ≡ true = (bytes_eq-Decides (given_text new) (trimmed redo_name)).1 (ap trimmed redo) in
      let other : not (bytes_eq (given_text new) (trimmed redo_name)) ≡ true = left (not (bytes_eq (given_text new) (trimmed redo_name))) (not (list_any (has_text (given_text new)) (others_of names i))) is.free in
      cc (ap not same, other)
]

none-found : (others : List (Option NewName)) (name : List ℕ) (found : Option (List ℕ)) → first_free others (mended_base name) ≡ found → option_and_then new_name_of found ≡ None → first_free others (mended_base name) ≡ None
none-found others name None is none = is
none-found others name (Some text) is none =
    let first = found_first others name text is in
    let has = named_by text first.made first.short in
    cc (has.is, none)

none-own : (others : List (Option NewName)) (name : Name) (own : Option NewName) → option_or own (mended others name) ≡ None → mended others name ≡ None
none-own others name None none = none
none-own others name (Some new) none = cc

-- A file gets no name only if what it is mended to, and that with each number from 2 to 9999, is taken.
pub none_only_if_taken : (names : List Name) (i : ℕ) (d : Name) → i < length names → get_or (names_for true names) i None ≡ None → AreTaken (others_of names i) (mended_base (name_bytes (get_or names i d)))
none_only_if_taken names i d lt none =
    let name = get_or names i d in
    let mended : mended (others_of names i) (get_or names i d) ≡ None =
    none-own (others_of names i) (get_or names i d) (new_name (get_or names i d)) (sym (at-place (map new_name names) names i d lt) ∙ none) in
    taken_all (others_of names i) (mended_base (name_bytes (get_or names i d)))
    (none-found (others_of names i) (name_bytes (get_or names i d)) (first_free (others_of names i) (mended_base (name_bytes (get_or names i d)))) refl mended)
