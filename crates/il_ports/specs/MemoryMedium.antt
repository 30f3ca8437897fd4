-- What contracts see of a medium in memory.
use Rattle.std.specs.Prelude.{◌==◌, ◌++◌, ℕ, List, [], ◌∷◌, if◌then◌else◌, set, unwrap_or, Option, Some, None, Result, Ok, Err, string_bytes}
use Rattle.std.specs.Option.{option_map}
use Rattle.std.specs.Str.{bytes_eq}
use Rattle.lif_model.specs.Tape.{Tape}
use Rattle.lif_model.specs.Shelf.{Shelf, bytes_of}
use Rattle.lif_model.specs.Redo.{Changes}
use Rattle.lif_model.specs.History.{LeftBy}
use Rattle.il_ports.specs.Drive.{images_of, shelf_with, name_in, tape_in}
use Rattle.il_ports.specs.declared.medium.Inserted.{Inserted}
use Rattle.il_ports.specs.declared.medium.Inserted.TheVariants as inserted
use Rattle.il_ports.specs.declared.memory_medium.MemoryMedium.{MemoryMedium}

pub record MediumState : Type 0 where
  -- the images as they read
  pub shelf : Shelf
  -- the name of the image in the drive
  pub inside : Option (List ℕ)
  -- the tape in the drive, and as it was when it was inserted
  pub tape : Option Tape
  pub first : Option Tape
  -- the numbers of the calls that fail, counted from 1 for each kind of call, and what a failing write leaves
  pub reads : List ℕ
  pub writes : List (ℕ × List ℕ)
  pub inserts : List ℕ
  -- how many calls of each kind were made, and how many calls failed
  pub reads_made : ℕ
  pub writes_made : ℕ
  pub inserts_made : ℕ
  pub faults : ℕ
  -- the writes that reached the tape, with the bytes that they left, and how many of them there is room for
  pub history : Changes
  pub room : ℕ

-- the state that the parts of a medium stand for
abbrev pub state_of : MemoryMedium → MediumState
state_of m = record {
  shelf = shelf_with m.drive (string_bytes m.made) m.tape.items (images_of m.images.items);
  inside = name_in m.drive (string_bytes m.made) (images_of m.images.items);
  tape = tape_in m.drive m.tape.items;
  first = tape_in m.drive m.first.items;
  reads = m.reads.items;
  writes = m.writes.items;
  inserts = m.inserts.items;
  reads_made = m.reads_made;
  writes_made = m.writes_made;
  inserts_made = m.inserts_made;
  faults = m.faults;
  history = m.history.items;
  room = m.room;
}

-- what a power stop at some moment since m may have left
abbrev pub IsLeft : Option Tape → Changes → ℕ → Tape → Type 0
IsLeft None history m c = ⊥
IsLeft (Some first) history m c = LeftBy first history m c

-- the image in the drive after an insert of that name
abbrev pub inside_after : {E : Type 0} → List ℕ → Result Inserted E → Option (List ℕ)
inside_after name (Ok inserted.Tape) = Some name
inside_after name (Ok inserted.NoSuch) = None
inside_after name (Ok (inserted.BadSize size)) = None
inside_after name (Err _) = None

-- what the first entry of that number says that a failing write leaves
abbrev pub listed_bytes : ℕ → List (ℕ × List ℕ) → Option (List ℕ)
listed_bytes number [] = None
listed_bytes number (entry ∷ entries) = if entry.0 == number then Some entry.1 else listed_bytes number entries

-- the bytes that a write leaves: those that are listed under its number, or those that it was given
abbrev pub bytes_left : ℕ → List (ℕ × List ℕ) → List ℕ → List ℕ
bytes_left number writes given = unwrap_or (listed_bytes number writes) given

-- the shelf with other bytes in the first image of that name
abbrev pub with_image : List ℕ → List ℕ → Shelf → Shelf
with_image name bytes [] = []
with_image name bytes (image ∷ images) = if bytes_eq image.0 name then (image.0, bytes) ∷ images else image ∷ with_image name bytes images

-- the shelf where the image in the drive has the tape's bytes
abbrev pub shelf_holding : Option (List ℕ) → Option Tape → Shelf → Shelf
shelf_holding None tape shelf = shelf
shelf_holding (Some name) None shelf = shelf
shelf_holding (Some name) (Some tape) shelf = with_image name (bytes_of tape) shelf

-- the tape with other bytes in record n
abbrev pub tape_holding : ℕ → List ℕ → Option Tape → Option Tape
tape_holding n bytes tape = option_map (λ t. set t n bytes) tape

-- the state in which record n holds these bytes, and the write is kept
abbrev pub holding : ℕ → List ℕ → MediumState → MediumState
holding n bytes state = record state {
  shelf = shelf_holding state.inside (tape_holding n bytes state.tape) state.shelf;
  tape = tape_holding n bytes state.tape;
  history = state.history ++ (n, bytes) ∷ [];
}
