-- The type of the file of a name, by a directory in memory.
use Rattle.std.proofs.Common.{◌≡◌, ◌<◌, ◌+◌, ◌∙◌, ℕ, true, List, [], Option, Some, sym, ap, drop, length, map, get_or, if◌then◌else◌}
use Rattle.std.specs.Prelude.{find, option_map}
use Rattle.std.proofs.lemmas.List.{drop_more}
use Rattle.lif_model.specs.Directory.{type_of}
use Rattle.lif_model.specs.Header.{HeaderParts}
use Rattle.lif_model.specs.Legal.{is_live_named, slot_named}
use Rattle.lif_model.specs.Volume.{Volume}
use Rattle.lif_dir.specs.Entries.{slot_bytes}
use Rattle.lif_dir.specs.declared.entries.Slot.{Slot}
use Rattle.tape_volumes.specs.Volumes.{IsDirectoryAt}
use Rattle.tape_changes.specs.Replacing.{IsKindAt}

-- the search from a slot on, by that slot
from_here : (slots : List (List ℕ)) (name : List ℕ) (i : ℕ) (here : List ℕ) → i < length slots → here ≡ get_or slots i []
    → slot_named (drop i slots) name ≡ (if is_live_named name here then Some here else slot_named (drop (i + 1) slots) name)
from_here slots name i here lt is =
    ap (find (is_live_named name)) (drop_more slots i [] lt)
    ∙ ap (λ (slot : List ℕ). if is_live_named name slot then Some slot else slot_named (drop (i + 1) slots) name) (sym is)

-- it is that of the name
pub kind_here : (slots : List (List ℕ)) (name : List ℕ) (i : ℕ) (here : List ℕ) (kind : ℕ) → i < length slots → here ≡ get_or slots i [] → slot_named slots name ≡ slot_named (drop i slots) name
    → is_live_named name here ≡ true → kind ≡ type_of here → Some kind ≡ option_map type_of (slot_named slots name)
kind_here slots name i here kind lt is so_far named kinds =
    ap Some kinds
    ∙ sym (ap (option_map type_of) (so_far ∙ from_here slots name i here lt is ∙ ap (λ b. if b then Some here else slot_named (drop (i + 1) slots) name) named))

-- the directory in memory is that of the volume
pub kind_at : (shown : Option (Option Volume)) (header : HeaderParts) (slots : List Slot) (name : List ℕ) (found : Option ℕ) → IsDirectoryAt shown header slots
    → found ≡ option_map type_of (slot_named (map slot_bytes slots) name) → IsKindAt shown name found
kind_at shown header slots name found at is v seen =
    let directory = at (Some v) seen in
    is ∙ ap (λ (l : List (List ℕ)). option_map type_of (slot_named l name)) (directory.2.bytes_are ∙ ap (λ (w : Volume). w.slots) (sym (same v directory.0 directory.1)))
  where
    same : (a b : Volume) → Some a ≡ Some b → a ≡ b
    same a b e = cc
