-- What a check writes.
use Rattle.std.specs.Prelude.{ℕ, List, ◌++◌, codes, decimal, Option, Some, None, option_map}
use Rattle.lif_model.specs.Header.{label_of}
use Rattle.lif_model.specs.Printed.{printed}
use Rattle.lif_model.specs.Tape.{Tape}
use Rattle.lif_model.specs.Volume.{volume_of}
use Rattle.il_script.specs.Replies.{text_line, next}
use Rattle.il_check.specs.declared.verdict.TraceFault.{TraceFault}
use Rattle.il_check.specs.Faults.{fault_name, fault_number}

-- the label of a tape's volume, with its spaces; none where the settled tape is not legal
abbrev pub label_on : Tape → Option (List ℕ)
label_on tape = option_map (λ v. label_of v.header) (volume_of tape)

-- the label as names are printed
abbrev pub shown_label : Option (List ℕ) → List ℕ
shown_label (Some label) = printed label
shown_label None = codes "notlif"

abbrev pub tape_line : List ℕ → Option (List ℕ) → List ℕ
tape_line word label = text_line (word ++ next (shown_label label))

-- of a trace and tapes that go together, with the labels of the tapes; or the place of the fault, its number and its name
abbrev pub verdict_text : Option (ℕ × TraceFault) → (before after : Option (List ℕ)) → List ℕ
verdict_text None before after =
    text_line (codes "check ok") ++ tape_line (codes "before") before ++ tape_line (codes "after") after
verdict_text (Some (x, f)) before after =
    text_line (codes "check no" ++ next (decimal x) ++ next (decimal (fault_number f)) ++ next (fault_name f))
