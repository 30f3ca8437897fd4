use Rattle.std.proofs.Common.{◌++◌, ◌∙◌, List, ℕ, ap, sym, rules}
use Rattle.il_script.specs.Sheet.{Sheet}
use Rattle.il_host.proofs.Rows.{live_slot}
use Rattle.il_host.proofs.listing.put_slot.Goals as goal

pub returns-then-is_live-clause-text : goal.returns-then-is_live-clause-text
returns-then-is_live-clause-text c =
    c.put_file_line.ensures.text ∙ ap (λ (l : List ℕ). let s : Sheet = record { text = c.args.page.now.text ++ l; room = c.args.page.now.room } in s)
    (live_slot c.args.entry (search rules) (sym c.is_live.ensures ∙ c.if-is_live.true))
