-- A part file in memory, to which bytes were appended.
use Rattle.std.proofs.Common.{◌≡◌, ◌⊎◌, inl, inr, ⊎_elim, ◌≤◌, ℕ, List, Bool, refl, ap, ◌∙◌}
use Rattle.std.specs.Prelude.{Option, Some}
use Rattle.lif_model.specs.Shelf.{Shelf, image_of}
use Rattle.tape_folder.specs.Folders.{FolderGoesOn}
use Rattle.tape_folder.specs.HiddenFolders.{part_named}
use Rattle.tape_folder.specs.MemoryFolders.{OwnedText, memory_folder, FilesBut, MayLeave, is_one_of}

pub part_goes_on : (path path₂ : List ℕ) (others others₂ : List OwnedText) (files more on_disk on_disk₂ first first₂ : Shelf) (part part₂ : Option ℕ) (written written₂ : List ℕ) (synced synced₂ : Bool) (failures failures₂ unremoved unremoved₂ : ℕ)
    → path₂ ≡ path → others₂ ≡ others → FilesBut (part_named part) files more → on_disk₂ ≡ on_disk → first₂ ≡ first → failures ≤ failures₂ → unremoved ≤ unremoved₂
    → FolderGoesOn (λ name content. part_named part ≡ Some name) (memory_folder path others files on_disk first part written synced failures unremoved) (memory_folder path₂ others₂ more on_disk₂ first₂ part₂ written₂ synced₂ failures₂ unremoved₂)
part_goes_on path path₂ others others₂ files more on_disk on_disk₂ first first₂ part part₂ written written₂ synced synced₂ failures failures₂ unremoved unremoved₂ same_path same_others stay disk begun le less = record {
  folder = record { path = same_path; made = λ there. there; others = λ name. ap (λ names. is_one_of names name) same_others };
  known = refl;
  files = stay;
  leaves = λ name content. leaves name content;
  since = λ name content. ⊎_elim inr (λ was. inl (inr (was ∙ ap (image_of name) begun)));
  failures = le;
  unremoved = less;
}
  where
    leaves : (name : List ℕ) (content : Option (List ℕ)) → MayLeave more on_disk₂ name content → MayLeave files on_disk name content ⊎ (part_named part ≡ Some name)
    leaves name content (inl hidden) = inl (inl hidden)
    leaves name content (inr (inl now)) = ⊎_elim (λ same. inl (inr (inl (now ∙ same)))) inr (stay name)
    leaves name content (inr (inr was)) = inl (inr (inr (was ∙ ap (image_of name) disk)))
