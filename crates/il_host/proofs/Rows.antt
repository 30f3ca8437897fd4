-- Lines that follow one another, and the line of an entry.
use Rattle.std.proofs.Common.{◌≡◌, ◌+◌, ℕ, Bool, true, false, not, cond, List, [], ◌∷◌, ◌++◌, Option, length, codes, decimal, refl, sym, ap, ◌∙◌, append_assoc, append-nil, arith}
use Rattle.std.specs.Int.{bytes_high_first}
use Rattle.hex.specs.Hex.{encode_upper}
use Rattle.lif_model.specs.Directory.{is_purged}
use Rattle.lif_model.specs.Legal.{is_live}
use Rattle.lif_model.specs.Printed.{printed}
use Rattle.lif_dir.specs.Entries.{entry_bytes}
use Rattle.lif_dir.specs.declared.entries.FileEntry.{FileEntry}
use Rattle.lif_dir.proofs.Bytes.{HasWidths, name_back, kind_back, start_back, length_back, implementation_back}
use Rattle.il_script.specs.Replies.{text_line, next}
use Rattle.host_model.specs.Listing.{file_line, slot_lines}
use Rattle.host_model.specs.Replies.{device_lines}
use Rattle.il_host.specs.Texts.{entry_line, device_line}

-- ---- devices

-- one more device after the others
pub one_device_more : (address : ℕ) (ids : List (Option ℕ)) (id : Option ℕ) → device_lines address (ids ++ id ∷ []) ≡ device_lines address ids ++ device_line (address + length ids) id
one_device_more address [] id = append-nil (device_line address id) ∙ ap (λ (n : ℕ). device_line n id) (omega arith)
one_device_more address (first ∷ ids) id =
    ap (λ l. device_line address first ++ l) (one_device_more (address + 1) ids id)
    ∙ ap (λ (n : ℕ). device_line address first ++ (device_lines (address + 1) ids ++ device_line n id)) (omega arith)
    ∙ sym (append_assoc (device_line address first) (device_lines (address + 1) ids) (device_line (address + length (first ∷ ids)) id))

-- ---- slots

-- the line of an entry is that of its bytes
line_of_bytes : (e : FileEntry) → HasWidths e → entry_line e ≡ file_line (entry_bytes e)
unfolding entry_line file_line
line_of_bytes e w = λ i.
    text_line (codes "file" ++ next (printed (sym (name_back e w) i)) ++ next (encode_upper (bytes_high_first 2 (sym (kind_back e w) i)))
    ++ next (decimal (sym (start_back e w) i)) ++ next (decimal (sym (length_back e w) i)) ++ next (encode_upper (sym (implementation_back e w) i)))

shown_if : (purged : Bool) (line : List ℕ) → not purged ≡ true → cond purged [] line ≡ line
shown_if true line h = cc
shown_if false line h = refl

-- a live slot has the line of its entry
pub live_slot : (e : FileEntry) → HasWidths e → is_live (entry_bytes e) ≡ true → entry_line e ≡ slot_lines (entry_bytes e)
live_slot e w live = line_of_bytes e w ∙ sym (shown_if (is_purged (entry_bytes e)) (file_line (entry_bytes e)) live)
