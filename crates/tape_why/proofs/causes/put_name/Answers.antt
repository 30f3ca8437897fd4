use Rattle.std.proofs.Common.{◌≡◌, ◌++◌, ◌∙◌, List, ℕ, ap, sym, rules}
use Rattle.lif_model.specs.Directory.{name_of}
use Rattle.lif_model.specs.Printed.{printed}
use Rattle.lif_dir.specs.Entries.{entry_bytes}
use Rattle.lif_dir.proofs.Bytes.{HasWidths, name_back}
use Rattle.tape_why.proofs.causes.put_name.Goals as goal

pub returns-clause-text : goal.returns-clause-text
returns-clause-text c =
    let widths : HasWidths c.args.entry = search rules in
    let name : c.bytes.result ≡ name_of (entry_bytes c.args.entry) = c.bytes.ensures ∙ sym (name_back c.args.entry widths) in
    c.put_name.ensures.text ∙ ap (λ (l : List ℕ). record c.args.page.now { text = c.args.page.now.text ++ printed l }) name
