-- Files by their names, where one is added or removed.
use Rattle.std.proofs.Common.{◌≡◌, ◌⊎◌, inl, inr, ⊎_elim, ℕ, List, [], ◌∷◌, ◌++◌, Bool, true, false, not, filter, refl, sym, ap, ◌∙◌, string_bytes, if◌then◌else◌}
use Rattle.std.specs.Prelude.{Option, Some, None, String, Vec}
use Rattle.std.specs.declared.alloc.Global.{Global}
use Rattle.std.specs.Str.{bytes_eq}
use Rattle.std.proofs.lemmas.Slice.Eq.{bytes_eq-Decides}
use Rattle.lif_model.specs.Shelf.{image_of}
use Rattle.il_ports.specs.Drive.{images_of}
use Rattle.tape_folder.specs.MemoryFolders.{OtherFilesStay}

abbrev pub File : Type 0
File = String Global × Vec ℕ Global

pub added_file : (files : List File) (file : File) (name : List ℕ) → string_bytes file.0 ≡ name → image_of name (images_of files) ≡ None → image_of name (images_of (files ++ file ∷ [])) ≡ Some file.1.items
added_file [] file name same free = ap (λ (b : Bool). if b then Some file.1.items else None) ((bytes_eq-Decides (string_bytes file.0) name).1 same)
added_file (f ∷ files) file name same free = here (bytes_eq (string_bytes f.0) name) free (added_file files file name same)
  where
    here : (first : Bool) → (if first then Some f.1.items else image_of name (images_of files)) ≡ None → (image_of name (images_of files) ≡ None → image_of name (images_of (files ++ file ∷ [])) ≡ Some file.1.items)
        → (if first then Some f.1.items else image_of name (images_of (files ++ file ∷ []))) ≡ Some file.1.items
    here true taken next = cc
    here false missing next = next missing

pub added_others : (files : List File) (file : File) (name : List ℕ) → string_bytes file.0 ≡ name → OtherFilesStay name (images_of files) (images_of (files ++ file ∷ []))
added_others [] file name same other = here (bytes_eq (string_bytes file.0) other) refl
  where
    here : (first : Bool) → bytes_eq (string_bytes file.0) other ≡ first → ((if first then Some file.1.items else None) ≡ None) ⊎ (other ≡ name)
    here true is = inr (sym ((bytes_eq-Decides (string_bytes file.0) other).0 is) ∙ same)
    here false is = inl refl
added_others (f ∷ files) file name same other =
    ⊎_elim (λ is. inl (ap (λ (o : Option (List ℕ)). if bytes_eq (string_bytes f.0) other then Some f.1.items else o) is)) inr (added_others files file name same other)

-- another name
abbrev pub has_other_name : List ℕ → File → Bool
has_other_name name file = not (bytes_eq (string_bytes file.0) name)

pub removed_gone : (files : List File) (name : List ℕ) → image_of name (images_of (filter (has_other_name name) files)) ≡ None
removed_gone [] name = refl
removed_gone (f ∷ files) name = here (bytes_eq (string_bytes f.0) name) refl (removed_gone files name)
  where
    here : (first : Bool) → bytes_eq (string_bytes f.0) name ≡ first → image_of name (images_of (filter (has_other_name name) files)) ≡ None
        → image_of name (images_of (if not first then f ∷ filter (has_other_name name) files else filter (has_other_name name) files)) ≡ None
    here true is next = next
    here false is next = ap (λ (b : Bool). if b then Some f.1.items else image_of name (images_of (filter (has_other_name name) files))) is ∙ next

pub removed_others : (files : List File) (name : List ℕ) → OtherFilesStay name (images_of files) (images_of (filter (has_other_name name) files))
removed_others [] name other = inl refl
removed_others (f ∷ files) name other = here (bytes_eq (string_bytes f.0) name) refl (removed_others files name other)
  where
    rest : List File
    rest = filter (has_other_name name) files

    there : (first : Bool) → bytes_eq (string_bytes f.0) other ≡ first → string_bytes f.0 ≡ name → (image_of other (images_of rest) ≡ image_of other (images_of files)) ⊎ (other ≡ name)
        → (image_of other (images_of rest) ≡ (if first then Some f.1.items else image_of other (images_of files))) ⊎ (other ≡ name)
    there true is same next = inr (sym ((bytes_eq-Decides (string_bytes f.0) other).0 is) ∙ same)
    there false is same next = next

    here : (first : Bool) → bytes_eq (string_bytes f.0) name ≡ first → (image_of other (images_of rest) ≡ image_of other (images_of files)) ⊎ (other ≡ name)
        → (image_of other (images_of (if not first then f ∷ rest else rest)) ≡ image_of other (images_of (f ∷ files))) ⊎ (other ≡ name)
    here true is next = there (bytes_eq (string_bytes f.0) other) refl ((bytes_eq-Decides (string_bytes f.0) name).0 is) next
    here false is next = ⊎_elim (λ same. inl (ap (λ (o : Option (List ℕ)). if bytes_eq (string_bytes f.0) other then Some f.1.items else o) same)) inr next
