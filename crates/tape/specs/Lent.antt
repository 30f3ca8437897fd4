-- The drives, the folders and the files of the host that a job uses.
use Rattle.std.specs.Prelude.{◌≡◌, ℕ, length, Option, Some, None, option_and_then, option_map}
use Rattle.tape_arguments.specs.Volumes.{label_spelt, slots_spelt}
use Rattle.tape_arguments.specs.Names.{name_spelt, names_spelt, new_name_spelt}
use Rattle.tape_words.specs.Asked.{Wanted, Dir, Out, Get, Raw, Free, Map, Why, Diff, Purge, Rename, Adopt, Upgrade, New, Put, Set, In}

-- one, if the names are spelt that a job needs before it opens an image
abbrev pub one_if : {X : Type 0} → Option X → ℕ
one_if None = 0
one_if (Some x) = 1

-- two arguments, if both are spelt
abbrev pub both_arguments : {X Y : Type 0} → Option X → Option Y → Option (X × Y)
both_arguments first second = option_and_then (λ x. option_map (λ y. (x, y)) second) first

-- how many drives are used at most if this is asked for
abbrev pub drives_for : Option Wanted → ℕ
drives_for (Some (Dir all csv images)) = length images
drives_for (Some (Out image folder names)) = one_if (names_spelt names)
drives_for (Some (Get image name)) = one_if (name_spelt name)
drives_for (Some (Raw image name)) = one_if (name_spelt name)
drives_for (Some (Free image)) = 1
drives_for (Some (Map svg image)) = 1
drives_for (Some (Purge image names)) = one_if (names_spelt names)
drives_for (Some (Rename image name name_now)) = one_if (both_arguments (name_spelt name) (new_name_spelt name_now))
drives_for (Some (Adopt image)) = 1
drives_for (Some (Upgrade image)) = 1
drives_for (Some (Put quiet image name)) = one_if (new_name_spelt name)
drives_for (Some (Set quiet image name)) = one_if (new_name_spelt name)
drives_for (Some (In over mend quiet image paths)) = 1
drives_for _ = 0

-- how many drives that only read
abbrev pub readers_for : Option Wanted → ℕ
readers_for (Some (Why image)) = 1
readers_for (Some (Diff image other)) = 2
readers_for _ = 0

-- how many drives with a new image
abbrev pub makers_for : Option Wanted → ℕ
makers_for (Some (New disc small image label slots)) = one_if (both_arguments (label_spelt label) (slots_spelt slots))
makers_for _ = 0

-- how many folders
abbrev pub folders_for : Option Wanted → ℕ
folders_for (Some (Out image folder names)) = one_if (names_spelt names)
folders_for _ = 0

-- files of the host are read only for the job `in`
abbrev pub HostFor : {I : Type 0} → Option Wanted → (before now : I) → Type 0
HostFor (Some (In over mend quiet image paths)) before now = Unit {0}
HostFor asked before now = now ≡ before
