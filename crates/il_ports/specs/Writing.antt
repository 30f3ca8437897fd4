-- A write that may have stopped in between.
use Rattle.std.specs.Prelude.{ℕ, ◌≤◌, List, length, take, Option, Result, Ok, Err}
use Rattle.std.specs.Io.KnownBytes.{Appends}

-- a front of the text was written
abbrev pub WritesFront : Option (List ℕ) → Option (List ℕ) → List ℕ → Type 0
WritesFront before now text = (size : ℕ) × (size ≤ length text) × Appends before now (take size text)

-- all of the text, or after an error a front of it
abbrev pub WritesAll : {E : Type 0} → Option (List ℕ) → Option (List ℕ) → List ℕ → Result (Unit {0}) E → Type 0
WritesAll before now text (Ok u) = Appends before now text
WritesAll before now text (Err e) = WritesFront before now text
