use Rattle.std.proofs.Common.{◌≡◌, ◌∙◌, List, ℕ, ap, sym, rules}
use Rattle.lif_model.specs.Directory.{name_of}
use Rattle.lif_model.specs.Legal.{is_live_named}
use Rattle.lif_dir.specs.Entries.{entry_bytes}
use Rattle.lif_dir.proofs.Bytes.{HasWidths, name_back}
use Rattle.tape_why.proofs.Places.{same_names}
use Rattle.tape_why.proofs.defects.share_name.Goals as goal

pub returns-then-is_live : goal.returns-then-is_live
returns-then-is_live c =
    let widths : HasWidths c.args.b = search rules in
    let name : c.bytes.result ≡ name_of (entry_bytes c.args.b) = c.bytes.ensures ∙ sym (name_back c.args.b widths) in
    c.is_live_named.ensures ∙ ap (λ (l : List ℕ). is_live_named l (entry_bytes c.args.a)) name
    ∙ same_names (entry_bytes c.args.a) (entry_bytes c.args.b) (sym c.is_live.ensures ∙ c.if-is_live.true)
