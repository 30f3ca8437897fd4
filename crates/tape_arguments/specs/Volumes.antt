-- The label and the number of slots that arguments spell.
use Rattle.std.specs.Prelude.{ℕ, List, [], Option, codes, option_and_then}
use Rattle.il_script.specs.Digits.{number_up_to}
use Rattle.il_script.specs.declared.limits.TheConstants.{MOST_SLOTS}
use Rattle.lif_dir.specs.Entries.{name_bytes}
use Rattle.lif_dir.specs.Names.{new_label}
use Rattle.lif_dir.specs.declared.names.NewLabel.{NewLabel}
use Rattle.lif_model.specs.Printed.{trimmed}
use Rattle.tape_volumes.specs.Endings.{told_line}
use Rattle.tape_arguments.specs.Names.{name_spelt}

-- the label that a text spells, if a volume can be given it; spaces at its end are no part of it
abbrev pub label_spelt : List ℕ → Option NewLabel
label_spelt text = option_and_then (λ name. new_label (trimmed (name_bytes name))) (name_spelt text)

-- the number of slots that a text spells
abbrev pub slots_spelt : List ℕ → Option ℕ
slots_spelt text = number_up_to MOST_SLOTS text

-- a volume can be given no label that this text spells
abbrev pub no_label_line : List ℕ → List ℕ
no_label_line text = told_line text (codes "a volume has a label of a capital letter, and then capital letters, digits and _, six at most") []

-- no directory has a number of slots that this text spells
abbrev pub no_slots_line : List ℕ → List ℕ
no_slots_line text = told_line text (codes "a directory has 1 to 19664 slots") []
