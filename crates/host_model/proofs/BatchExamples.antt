-- Worked examples of batches, computed by the checker: the items of scripts, and what the transfers of a batch carry.
use Rattle.std.proofs.Common.{◌≡◌, ◌++◌, ◌∙◌, ℕ, List, [], ◌∷◌, Some, true, refl, sym, subst, arith, codes, replicate}
use Rattle.std.specs.FinMap.{empty}
use Rattle.std.proofs.lemmas.List.Elements.{All-nil, All-cons}
use Rattle.hex.proofs.OnLiterals.{hex_on_literals}
use Rattle.lif_model.specs.Numbers.{two_at, four_at}
use Rattle.lif_model.specs.Directory.{name_of}
use Rattle.lif_model.specs.Made.{filled, new_entry, with_type}
use Rattle.lif_model.specs.declared.version.Version.TheVariants.{Two}
use Rattle.lif_model.specs.Volume.{Volume, redo_entry}
use Rattle.lif_model.specs.Parts.{Part}
use Rattle.lif_model.specs.Parts as part
use Rattle.lif_model.specs.Apply as volume
use Rattle.lif_model.specs.Writing.{NewFile, files_left}
use Rattle.lif_model.proofs.Examples as base
use Rattle.lif_model.proofs.VolumeExamples.{a_name, b_name}
use Rattle.loop_model.specs.Units.{RecordUnit}
use Rattle.il_script.specs.declared.reply.Code.{Code}
use Rattle.il_script.specs.declared.reply.Code.TheVariants as code
use Rattle.il_script.specs.declared.reply.Reply.TheVariants as reply
use Rattle.host_model.specs.Requests.{Asks, Item, NoCommand, OfVolume, items_of}
use Rattle.host_model.specs.Steps.{AreStored, IsCarried, WentOut}
use Rattle.host_model.proofs.Small.{false_is_not_true}
use Rattle.host_model.proofs.StepExamples.{lines}

-- ---- items

abbrev items : List (List ℕ) → List Item
items texts = items_of (lines texts)

-- the only item is that batch, or is refused so
abbrev batch : List Part → List Item
batch parts = Asks (OfVolume (volume.Batch parts)) ∷ []

abbrev refused : Code → List Item
refused why = NoCommand why ∷ []

-- from `begin` to `commit`, with these lines between
abbrev within : List (List ℕ) → List Item
within texts = items (codes "begin" ∷ (texts ++ codes "commit" ∷ []))

abbrev store_a : Part
store_a = part.Store a_name 1 (replicate 4 0) (codes "AB")

-- a store and a purge are one item
store_and_purge : within (codes "store A 0001 00000000 4142" ∷ codes "purge B" ∷ []) ≡ batch (store_a ∷ part.Purge b_name ∷ [])
unfolding hex_on_literals
store_and_purge = refl

-- and not an item each, nor without a part of them
never_two : within (codes "store A 0001 00000000 4142" ∷ codes "purge B" ∷ [])
    ≡ Asks (OfVolume (volume.Store a_name 1 (replicate 4 0) (codes "AB"))) ∷ Asks (OfVolume (volume.Purge b_name)) ∷ [] → ⊥
never_two h = let both = sym store_and_purge ∙ h in cc

never_less : within (codes "store A 0001 00000000 4142" ∷ codes "purge B" ∷ []) ≡ batch (store_a ∷ []) → ⊥
never_less h = let both = sym store_and_purge ∙ h in cc

-- a line that is skipped is no part of it
skipped : within (codes "# all" ∷ [] ∷ codes "purge B" ∷ []) ≡ batch (part.Purge b_name ∷ [])
skipped = refl

skipped_spoils : within (codes "# all" ∷ [] ∷ codes "purge B" ∷ []) ≡ refused code.BadLine → ⊥
skipped_spoils h = let both = sym skipped ∙ h in cc

-- another command spoils it, and so do `begin` and a line that is none; the first of them decides
spoilt : (within (codes "purge B" ∷ codes "dir" ∷ []) ≡ refused code.BadLine) × (within (codes "begin" ∷ []) ≡ refused code.BadLine)
    × (within (codes "store a 0001 00000000 41" ∷ codes "dir" ∷ []) ≡ refused code.BadName)
unfolding hex_on_literals
spoilt = (refl, refl, refl)

dir_by_itself : within (codes "purge B" ∷ codes "dir" ∷ []) ≡ Asks (OfVolume volume.Dir) ∷ batch (part.Purge b_name ∷ []) → ⊥
dir_by_itself h = let both = sym spoilt.0 ∙ h in cc

begun_anew : within (codes "begin" ∷ []) ≡ batch [] → ⊥
begun_anew h = let both = sym spoilt.1 ∙ h in cc

name_passed_over : within (codes "store a 0001 00000000 41" ∷ codes "dir" ∷ []) ≡ refused code.BadLine → ⊥
name_passed_over h = let both = sym spoilt.2 ∙ h in cc

-- `commit` alone commits nothing, and a batch that the end leaves open is never committed
alone : (items (codes "commit" ∷ []) ≡ refused code.BadLine) × (items (codes "begin" ∷ []) ≡ refused code.BadLine)
    × (items (codes "begin" ∷ codes "purge B" ∷ []) ≡ refused code.BadLine)
alone = (refl, refl, refl)

commits_nothing : items (codes "commit" ∷ []) ≡ batch [] → ⊥
commits_nothing h = let both = sym alone.0 ∙ h in cc

begins_nothing : items (codes "begin" ∷ []) ≡ [] → ⊥
begins_nothing h = let both = sym alone.1 ∙ h in cc

left_as_done : items (codes "begin" ∷ codes "purge B" ∷ []) ≡ batch (part.Purge b_name ∷ []) → ⊥
left_as_done h = let both = sym alone.2 ∙ h in cc

-- 31 parts fill it
full : within (replicate 31 (codes "purge B")) ≡ batch (replicate 31 (part.Purge b_name))
full = refl

too_large : within (replicate 32 (codes "purge B")) ≡ refused code.BatchTooLarge
too_large = refl

cut_off : within (replicate 32 (codes "purge B")) ≡ batch (replicate 31 (part.Purge b_name)) → ⊥
cut_off h = let both = sym too_large ∙ h in cc

-- after it each line is an item again
behind : items (codes "begin" ∷ codes "purge B" ∷ codes "commit" ∷ codes "dir" ∷ []) ≡ Asks (OfVolume (volume.Batch (part.Purge b_name ∷ []))) ∷ Asks (OfVolume volume.Dir) ∷ []
behind = refl

-- ---- what it carries

-- on a tape of sixty records, whose files begin at record 4: A and B are stored, and C, which is purged again
abbrev store : List ℕ → ℕ → Part
store name byte = part.Store name 1 (replicate 4 0) (byte ∷ [])

abbrev c_name : List ℕ
c_name = codes "C         "

abbrev three : List Part
three = store a_name 65 ∷ store c_name 67 ∷ store b_name 66 ∷ part.Purge c_name ∷ []

abbrev empty_volume : Volume
empty_volume = record { header = base.header; slots = redo_entry Two 60 ∷ []; files = empty }

abbrev a_file : NewFile
a_file = record { slot = 0; start = 4; bytes = 65 ∷ [] }

abbrev b_file : NewFile
b_file = record { slot = 2; start = 6; bytes = 66 ∷ [] }

abbrev two_files : List NewFile
two_files = a_file ∷ b_file ∷ []

-- one byte, as a record that is written
abbrev written : ℕ → ℕ → RecordUnit
written first byte = record { writes = true; first = first; bytes = byte ∷ replicate 255 0; status = Some 0 }

abbrev Carries : List RecordUnit → Type 0
Carries units = IsCarried (Asks (OfVolume (volume.Batch three))) reply.Ok 60 (Some empty_volume) units

-- A is in the first slot, C in the second, which is purged, and B in the third, at the third record
left : files_left 60 three empty_volume ≡ two_files
unfolding two_at four_at name_of new_entry filled with_type
left = refl

abbrev GoesOut : List RecordUnit → NewFile → Type 0
GoesOut units f = WentOut units f.start (filled f.bytes)

-- each file that is left went out
all_out : Carries (written 4 65 ∷ written 6 66 ∷ [])
unfolding filled
all_out =
    let units : List RecordUnit = written 4 65 ∷ written 6 66 ∷ [] in
    subst (λ (files : List NewFile). AreStored files units) (sym left) (All-cons (GoesOut units) a_file (b_file ∷ []) (refl, refl) (All-cons (GoesOut units) b_file [] (refl, refl) (All-nil (GoesOut units))))

-- B did not, or something was written over it
b_left_out : Carries (written 4 65 ∷ written 5 67 ∷ []) → ⊥
unfolding filled
b_left_out h = false_is_not_true (subst (λ (files : List NewFile). AreStored files (written 4 65 ∷ written 5 67 ∷ [])) left h 1 b_file (omega arith)).0

b_written_over : Carries (written 4 65 ∷ written 6 66 ∷ written 6 67 ∷ []) → ⊥
unfolding filled
b_written_over h = false_is_not_true (subst (λ (files : List NewFile). AreStored files (written 4 65 ∷ written 6 66 ∷ written 6 67 ∷ [])) left h 1 b_file (omega arith)).0
