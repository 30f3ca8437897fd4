-- A folder of the system. Contracts can see which part file is open, and nothing else that is in the folder: a stop may
-- leave anything, and each count is at its largest value.
use Rattle.std.specs.Prelude.{◌≡◌, ◌-◌, ◌^◌, ℕ, Bool, true, false, List, Option, Some, None, unwrap_or}
use Rattle.std.proofs.Common.{sym, ap}
use Rattle.tape_folder.specs.Folders.{FolderView, IsFolder, is_hidden, part_name}

-- the name of the part file of that number, if there is one
abbrev pub part_named : Option ℕ → Option (List ℕ)
part_named None = None
part_named (Some number) = Some (part_name number)

abbrev pub hidden_folder : List ℕ → Bool → Option ℕ → Bool → FolderView
hidden_folder path made number on_disk = record {
  path = path;
  made = made;
  files = None;
  other = λ name. false;
  part = part_named number;
  written = None;
  on_disk = on_disk;
  leaves = λ name content. Unit {0};
  left = λ name content. Unit {0};
  failures = 2 ^ 64 - 1;
  unremoved = 2 ^ 64 - 1;
}

-- the name of a part file is hidden
pub part_is_hidden : (number : Option ℕ) (part : List ℕ) → part_named number ≡ Some part → is_hidden part ≡ true
part_is_hidden None part is = cc
part_is_hidden (Some number) part is = ap (λ (o : Option (List ℕ)). is_hidden (unwrap_or o (part_name number))) (sym is)

pub hidden_is_folder : (path : List ℕ) (made : Bool) (number : Option ℕ) (on_disk : Bool) → IsFolder (hidden_folder path made number on_disk)
hidden_is_folder path made number on_disk = record {
  now = λ name content is. tt;
  present = λ name known shown. tt;
  hidden = part_is_hidden number;
}
