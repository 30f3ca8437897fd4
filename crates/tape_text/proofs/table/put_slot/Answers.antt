use Rattle.std.proofs.Common.{◌≡◌, ◌∙◌, List, map, ap}
use Rattle.std.proofs.lemmas.List.{append-nil}
use Rattle.lif_dir.specs.declared.entries.FileEntry.{FileEntry}
use Rattle.tape_text.specs.Listing.{shown_slot}
use Rattle.tape_text.specs.Rows.{file_row, row_line, rows_text}
use Rattle.tape_text.proofs.table.put_slot.Goals as goal

pub returns-in-Some-clause-text : goal.returns-in-Some-clause-text
returns-in-Some-clause-text c =
    let row = file_row c.args.image.now c.args.header.now in
    let one : rows_text (map row (shown_slot c.args.all c.args.size c.args.slot.now)) ≡ row_line (row c.in-Some.entry.now) =
    ap (λ (files : List FileEntry). rows_text (map row files)) c.in-Some.ensures ∙ append-nil (row_line (row c.in-Some.entry.now)) in
    rw one c.put_file.ensures.text
