-- What is read from a source of bytes.
use Rattle.std.specs.Prelude.{◌≡◌, ◌⊎◌, ◌<◌, ◌≤◌, ◌+◌, ℕ, List, length, Option, Some, None, IfSome, Result, Ok, Err, Vec}
use Rattle.std.specs.Io.KnownBytes.{Consumes, IsAtEnd}
use Rattle.std.specs.declared.alloc.Global.{Global}
use Rattle.lif_model.specs.Causes.{Rose}
use Rattle.lif_model.specs.Shelf.{largest_image}
use Rattle.lif_text.specs.Buffer.{BufferView}
use Rattle.lif_text.specs.Cutting.{cut_lines, long_line}
use Rattle.lif_text.specs.Format.{encode}
use Rattle.tape_input.specs.declared.input.NoText.{NoText}
use Rattle.tape_input.specs.declared.input.NoText.TheVariants as no_text

-- these are all bytes that the source had, if contracts can see them; it has no more
pub record IsAll (bytes : List ℕ) (left left_now : Option (List ℕ)) : Type 0 where
  pub taken : Consumes left left_now bytes
  pub rest : IsAtEnd left_now

-- at most so many bytes were taken of the source
abbrev pub TakesUpTo : (most : ℕ) → (left left_now : Option (List ℕ)) → Type 0
TakesUpTo most left left_now = (taken : List ℕ) × Consumes left left_now taken × (length taken ≤ most)

-- All bytes of the source were read; or it has more than `most`, of which one more was read; or it failed; or there was no
-- memory, and it was not asked.
abbrev pub ReadsAll : (most : ℕ) → (left left_now : Option (List ℕ)) → (faults faults_now : ℕ) → Result (Vec ℕ Global) NoText → Type 0
ReadsAll most left left_now faults faults_now (Ok bytes) = IsAll bytes.items left left_now × (length bytes.items ≤ most) × (faults_now ≡ faults)
ReadsAll most left left_now faults faults_now (Err no_text.Unread) = TakesUpTo (most + 1) left left_now × Rose faults faults_now
ReadsAll most left left_now faults faults_now (Err no_text.TooLarge) = IfSome left (λ whole. most < length whole) × TakesUpTo (most + 1) left left_now × (faults_now ≡ faults)
ReadsAll most left left_now faults faults_now (Err no_text.OutOfMemory) = (left_now ≡ left) × (faults_now ≡ faults)
ReadsAll most left left_now faults faults_now (Err (no_text.LongLine number)) = ⊥

-- the text file of these lines has no more bytes than a disc, and each line fits
pub record IsTextFileOf (whole text : List ℕ) : Type 0 where
  pub encoded : text ≡ encode (cut_lines whole)
  pub short : long_line (cut_lines whole) ≡ None
  pub fits : length text ≤ largest_image

-- the text, or its file, has more bytes than a disc
abbrev pub IsTooLarge : List ℕ → Type 0
IsTooLarge whole = (largest_image < length whole) ⊎ (largest_image < length (encode (cut_lines whole)))

-- The text of all bytes of the source was made; or they are no text of a file, for that reason; or the source failed; or
-- there was no memory.
abbrev pub ReadsText : (left left_now : Option (List ℕ)) → (faults faults_now : ℕ) → Result BufferView NoText → Type 0
ReadsText left left_now faults faults_now (Ok text) = (whole : List ℕ) × IsAll whole left left_now × IsTextFileOf whole text.bytes × (faults_now ≡ faults)
ReadsText left left_now faults faults_now (Err no_text.Unread) = TakesUpTo (largest_image + 1) left left_now × Rose faults faults_now
ReadsText left left_now faults faults_now (Err no_text.TooLarge) = IfSome left IsTooLarge × TakesUpTo (largest_image + 1) left left_now × (faults_now ≡ faults)
ReadsText left left_now faults faults_now (Err (no_text.LongLine number)) = IfSome left (λ whole. long_line (cut_lines whole) ≡ Some number) × (faults_now ≡ faults)
ReadsText left left_now faults faults_now (Err no_text.OutOfMemory) = faults_now ≡ faults
