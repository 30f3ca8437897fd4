use Rattle.std.proofs.Common.{get_or, sym, ◌∙◌, refl}
use Rattle.il_script.proofs.Spellings.{first-plain, first-hex}
use Rattle.il_script.proofs.spelling.first_spelt.Goals as goal

pub returns-then-is_plain : goal.returns-then-is_plain
returns-then-is_plain c = first-plain c.args.text.now (get_or c.args.text.now 0 0) c.requires refl (sym c.is_plain.ensures ∙ c.if-is_plain.true)

pub returns : goal.returns
returns c = first-hex c.args.text.now (get_or c.args.text.now 0 0) c.in_ok-byte.byte c.requires refl c.if-first-ne37.false c.if-text-lt3.false (sym c.in_ok-byte.ensures)
