use Rattle.std.proofs.Common.{◌≡◌, true, false, ap, ◌∙◌, rules}
use Rattle.lif_model.specs.Header.{is_readable}
use Rattle.lif_model.specs.Made.{fresh_header}
use Rattle.lif_plan.proofs.Formats.{fresh_is_readable}
use Rattle.lif_plan.proofs.fresh.FreshVolume.new.Goals as goal

pub unreachable-requires : goal.unreachable-requires
unreachable-requires c =
    let off : false ≡ is_readable c.args.size c.fresh-front.result = c.in_default.ensures.readable in
    let both : false ≡ true = off ∙ ap (is_readable c.args.size) (c.fresh-front.ensures ∙ ap (fresh_header c.args.size c.bytes.result) c.records_for_slots.ensures)
    ∙ fresh_is_readable c.args.size c.bytes.result c.args.slots (search rules) c.requires.some c.requires.fits in
    cc
